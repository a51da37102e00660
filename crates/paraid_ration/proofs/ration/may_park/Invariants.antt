use Rattle.std.proofs.Common.{ℕ, ◌<◌, ◌≤◌, get_or}
use Rattle.paraid_ration.proofs.ration.may_park.Given as goal

abbrev pub invariant-loop-disk : goal.invariant-loop-disk
invariant-loop-disk l = (d : ℕ) → l.lo ≤ d → d < l.disk → get_or l.spins d 0 < l.allowed
