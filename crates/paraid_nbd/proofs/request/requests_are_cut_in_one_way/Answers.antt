use Rattle.paraid_nbd.proofs.UniqueLemmas.{requests_same}
use Rattle.paraid_nbd.proofs.request.requests_are_cut_in_one_way.Goals as goal

pub returns : goal.returns
returns c = requests_same
