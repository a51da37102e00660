use Rattle.std.proofs.Common.{◌≡◌, ℕ, ◌<◌, ◌≤◌, false}
use Rattle.paraid_recover.specs.Refusals.{is_lacking}
use Rattle.paraid_recover.proofs.lacking.lacking_from.Given as goal

abbrev pub invariant-loop-disk : goal.invariant-loop-disk
invariant-loop-disk g l = (e : ℕ) → l.fn.from ≤ e → e < l.disk → is_lacking (g.R.Rack.slot l.fn.rack) l.fn.meta e ≡ false
