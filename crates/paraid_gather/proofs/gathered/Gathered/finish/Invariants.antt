use Rattle.std.proofs.Common.{◌≡◌, ℕ, false}
use Rattle.paraid_rack.specs.declared.call.Power.TheVariants.{Spinning}
use Rattle.paraid_gather.specs.Gathers.{log_of, rack_below, waiting_in}
use Rattle.paraid_gather.specs.Waiting.{waits}
use Rattle.paraid_gather.proofs.FinishLemmas.{IsOutBelow}
use Rattle.paraid_gather.proofs.gathered.Gathered.finish.Given as goal

abbrev pub invariant-loop-disk : goal.invariant-loop-disk
invariant-loop-disk g l =
    (g.R.Rack.slot_count (rack_below l.gathered) ≡ g.R.Rack.slot_count (rack_below l.fn.self))
    × IsOutBelow l.disk (g.R.Rack.slot (rack_below l.fn.self)) (g.R.Rack.slot (rack_below l.gathered)) (waiting_in l.fn.self) (waiting_in l.gathered) (g.R.Rack.told (rack_below l.fn.self)) (g.R.Rack.told (rack_below l.gathered)) (g.L.Noted.noted (log_of l.fn.self)) (g.L.Noted.noted (log_of l.gathered))
    × (((d : ℕ) → (g.R.Rack.slot (rack_below l.fn.self) d).power ≡ Spinning → waits (waiting_in l.fn.self d) ≡ false) → (rack_below l.gathered ≡ rack_below l.fn.self) × (log_of l.gathered ≡ log_of l.fn.self))
