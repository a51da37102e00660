use Rattle.paraid_image.proofs.UnseenLemmas.{witness_holds}
use Rattle.paraid_image.proofs.laws.a_witness_can_be_borne.Goals as goal

pub returns : goal.returns
returns c = witness_holds
