use Rattle.paraid_base.proofs.SoftLemmas.{soft_stripe_at}
use Rattle.paraid_layout.proofs.CopyLemmas.{soft_index_at}
use Rattle.paraid_layout.proofs.laws.cells_match_copies.Goals as goal

pub returns-clause-index_back : goal.returns-clause-index_back
returns-clause-index_back c = λ n a s i l k. (soft_stripe_at n a s i l k, soft_index_at n a s i l k)
