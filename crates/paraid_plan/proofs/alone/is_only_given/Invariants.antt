use Rattle.std.proofs.Common.{◌≡◌, ◌≢◌, ℕ, ◌<◌, get_or, None}
use Rattle.paraid_plan.proofs.alone.is_only_given.Given as goal

-- no cell before this one is given new bytes, but for the one
abbrev pub invariant-loop-e : goal.invariant-loop-e
invariant-loop-e l = (x : ℕ) → x < l.e → x ≢ l.d → get_or l.given x None ≡ None
