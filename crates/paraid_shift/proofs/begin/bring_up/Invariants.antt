use Rattle.std.specs.Prelude.{◌≡◌, ℕ, ◌<◌, ◌≤◌, ◌⊎◌}
use Rattle.paraid_base.specs.States.{rising_to}
use Rattle.paraid_txn.specs.Stores.{IsSameStore, store_rack}
use Rattle.paraid_shift.specs.Outcomes.{PowersDisks}
use Rattle.paraid_shift.specs.Rising.{IsComingUp}
use Rattle.paraid_shift.specs.Steps.{MakesPowerCalls}
use Rattle.paraid_shift.proofs.begin.bring_up.Given as goal

-- the disks before this one have come up
abbrev pub invariant-loop-disk : goal.invariant-loop-disk
invariant-loop-disk g l = record {
  rising : IsComingUp g.R.Rack.slot_count g.R.Rack.slot l.core l.disk;
  powers : PowersDisks g.R.Rack.slot_count g.R.Rack.slot g.R.Rack.told l.fn.core l.core;
  store : IsSameStore l.fn.core.store l.core.store;
  table : l.core.dirty ≡ l.fn.core.dirty;
  calls : MakesPowerCalls g.R.Rack.told l.fn.core l.core;
  from : l.fn.core.meta.gear ≤ l.disk;
  until : (d : ℕ) → l.fn.core.meta.gear ≤ d → rising_to l.fn.core.meta.phase ≤ d → l.disk ≤ d;
  others : (d : ℕ) → (d < l.fn.core.meta.gear) ⊎ (l.disk ≤ d) → g.R.Rack.slot (store_rack l.core.store) d ≡ g.R.Rack.slot (store_rack l.fn.core.store) d;
}
