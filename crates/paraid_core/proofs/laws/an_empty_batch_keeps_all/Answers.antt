use Rattle.paraid_core.proofs.WriteLemmas.{all_kept}
use Rattle.paraid_core.proofs.laws.an_empty_batch_keeps_all.Goals as goal

pub returns : goal.returns
returns c = all_kept
