use Rattle.std.proofs.Common.{◌≡◌, ℕ, ◌<◌, false}
use Rattle.paraid_recover.specs.Refusals.{is_asleep}
use Rattle.paraid_recover.proofs.asleep.first_asleep.Given as goal

abbrev pub invariant-loop-disk : goal.invariant-loop-disk
invariant-loop-disk g l = (e : ℕ) → e < l.disk → is_asleep (g.R.Rack.slot l.fn.rack) l.fn.meta l.fn.batch e ≡ false
