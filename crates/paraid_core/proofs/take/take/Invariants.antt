use Rattle.std.specs.Prelude.{◌≡◌, ℕ, take, true}
use Rattle.paraid_core.specs.Taken.{IsTakenIn}
use Rattle.paraid_image.specs.Neutral.{names_place}
use Rattle.paraid_core.proofs.take.take.Given as goal

abbrev pub invariant-loop-at : goal.invariant-loop-at
invariant-loop-at l = record {
  taken : IsTakenIn l.fn.m l.fn.batch (take l.at l.fn.draft) l.batch;
  names : (d p : ℕ) → names_place l.fn.batch d p ≡ true → names_place l.batch d p ≡ true;
}
