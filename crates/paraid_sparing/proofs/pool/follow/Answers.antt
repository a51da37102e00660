use Rattle.std.proofs.Common.{◌∙◌}
use Rattle.paraid_sparing.proofs.StockLemmas.{spins_alike, waits_same}
use Rattle.paraid_sparing.proofs.pool.follow.Goals as goal

pub returns-clause-keeps : goal.returns-clause-keeps
returns-clause-keeps g c p wait k beside stands keeps =
    let s = c.count_spins.ensures in
    let w = c.count_wait.ensures in
    record {
      left = w.left ∙ s.left ∙ keeps.left;
      wait_is = w.wait ∙ s.wait ∙ keeps.wait_is;
      waits = λ d. w.waits p beside stands d ∙ waits_same _ _ _ _ k.waits d (s.waits d ∙ keeps.waits d);
      spins = λ d low. w.spins d ∙ s.spins beside d low ∙ spins_alike _ _ k.spins d (keeps.spins d low);
    }

pub returns-clause-stock : goal.returns-clause-stock
returns-clause-stock g c wait k beside keeps =
    let s = c.count_spins.ensures in
    let w = c.count_wait.ensures in
    record {
      left = w.left ∙ s.left ∙ keeps.left;
      wait_is = w.wait ∙ s.wait ∙ keeps.wait_is;
      waits = λ d. w.shown beside d ∙ waits_same _ _ _ _ k.waits d (s.waits d ∙ keeps.waits d);
      spins = λ d low. w.spins d ∙ s.spins beside d low ∙ spins_alike _ _ k.spins d (keeps.spins d low);
    }
