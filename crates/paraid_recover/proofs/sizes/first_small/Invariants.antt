use Rattle.std.proofs.Common.{◌≡◌, ℕ, ◌<◌, false}
use Rattle.paraid_recover.specs.Refusals.{is_small}
use Rattle.paraid_recover.proofs.sizes.first_small.Given as goal

abbrev pub invariant-loop-disk : goal.invariant-loop-disk
invariant-loop-disk g l = (e : ℕ) → e < l.disk → is_small (g.R.Rack.slot_count l.fn.rack) (g.R.Rack.slot l.fn.rack) l.fn.meta e ≡ false
