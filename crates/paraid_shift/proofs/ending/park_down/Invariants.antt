use Rattle.std.specs.Prelude.{◌≡◌, ◌≢◌, ℕ, ◌<◌, ◌≤◌, ◌⊎◌, [], Some}
use Rattle.paraid_image.specs.Out.{named_out}
use Rattle.paraid_rack.specs.declared.call.Power.TheVariants.{Parked}
use Rattle.paraid_txn.specs.Stores.{IsSameStore, store_rack}
use Rattle.paraid_shift.specs.Outcomes.{PowersDisks}
use Rattle.paraid_event.specs.CoreServing.{IsCoreServing}
use Rattle.paraid_shift.specs.Steps.{MakesPowerCalls}
use Rattle.paraid_shift.proofs.ending.park_down.Given as goal

-- the disks before this one are parked
abbrev pub invariant-loop-disk : goal.invariant-loop-disk
invariant-loop-disk g l = record {
  serving : IsCoreServing g.R.Rack.slot_count g.R.Rack.slot l.core;
  nothing : l.core.batch ≡ [];
  powers : PowersDisks g.R.Rack.slot_count g.R.Rack.slot g.R.Rack.told l.fn.core l.core;
  store : IsSameStore l.fn.core.store l.core.store;
  table : l.core.dirty ≡ l.fn.core.dirty;
  calls : MakesPowerCalls g.R.Rack.told l.fn.core l.core;
  from : l.fn.core.meta.gear ≤ l.disk;
  until : (d : ℕ) → l.fn.core.meta.gear ≤ d → l.fn.hi ≤ d → l.disk ≤ d;
  parked : (d : ℕ) → l.fn.core.meta.gear ≤ d → d < l.disk → named_out l.core.meta.out ≢ Some d → (g.R.Rack.slot (store_rack l.core.store) d).power ≡ Parked;
  others : (d : ℕ) → (d < l.fn.core.meta.gear) ⊎ (l.disk ≤ d) → g.R.Rack.slot (store_rack l.core.store) d ≡ g.R.Rack.slot (store_rack l.fn.core.store) d;
}
