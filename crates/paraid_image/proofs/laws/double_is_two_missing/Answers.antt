use Rattle.paraid_image.proofs.SpotLemmas.{not_double_single, single_not_double}
use Rattle.paraid_image.proofs.laws.double_is_two_missing.Goals as goal

pub returns : goal.returns
returns c = record { single = single_not_double; double = not_double_single }
