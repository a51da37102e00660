-- What a call of a core in a shift asks for, and what it leaves whatever becomes of it, over the
-- members of its rack.
use Rattle.std.specs.Prelude.{◌≡◌, ℕ, ◌<◌, ◌≤◌, false, [], Result, OnOk, IfErr}
use Rattle.paraid_base.specs.declared.fault.Two.{Two}
use Rattle.paraid_base.specs.declared.state.Out.TheVariants.{No}
use Rattle.paraid_base.specs.declared.state.Phase.TheVariants.{Steady}
use Rattle.paraid_base.specs.Soft.{stripe_count}
use Rattle.paraid_base.specs.States.{phase_to}
use Rattle.paraid_dirty.specs.Table.{is_dirty}
use Rattle.paraid_rack.specs.declared.rack.Rack.{Ghosts}
use Rattle.paraid_record.specs.declared.meta.Meta.{Meta}
use Rattle.paraid_txn.specs.Losses.{AreTwoDown, OnlyLosesSlots}
use Rattle.paraid_txn.specs.Stores.{store_rack}
use Rattle.paraid_core.specs.declared.staged.Core.{Core}
use Rattle.paraid_core.specs.Calls.{MakesDataCalls}
use Rattle.paraid_core.specs.Cores.{core_down}
use Rattle.paraid_core.specs.Lost.{CoreMarksLost}
use Rattle.paraid_core.specs.Steps.{IsHeldStill, IsNamedOrAbsent, LeavesCore}
use Rattle.paraid_shift.specs.Outcomes.{PowersDisks}
use Rattle.paraid_event.specs.CoreServing.{IsCoreServing, IsHeldFromRest, KeepsFit, LeavesArray, StandsFromRest}
use Rattle.paraid_shift.specs.Steps.{MakesPowerCalls}
use Rattle.paraid_base.specs.Log.{epoch_limit}

-- Units can be moved: the core serves, no disk is out, and nothing is staged.
pub record CanMoveUnits {R : Type 0} {g : Ghosts R} (core : Core R g) : Type 0 where
  pub serving : IsCoreServing g.slot_count g.slot core
  pub whole : core.meta.out ≡ No
  pub nothing : core.batch ≡ []

-- A shift can begin: the core serves, no disk is out, no shift is under way, and its commit can
-- have the next epoch.
pub record CanBeginShift {R : Type 0} {g : Ghosts R} (core : Core R g) : Type 0 where
  pub serving : IsCoreServing g.slot_count g.slot core
  pub epoch : core.meta.epoch < epoch_limit
  pub whole : core.meta.out ≡ No
  pub steady : core.meta.phase ≡ Steady

-- A shift can end: the core serves, no disk is out, no unit is left, and its commit can have the
-- next epoch.
pub record CanEndShift {R : Type 0} {g : Ghosts R} (core : Core R g) : Type 0 where
  pub serving : IsCoreServing g.slot_count g.slot core
  pub epoch : core.meta.epoch < epoch_limit
  pub whole : core.meta.out ≡ No
  pub shifts : 0 < phase_to core.meta.phase
  pub filled : core.meta.fill ≡ stripe_count
      core.meta.setup.geometry.disks core.meta.setup.geometry.rows (phase_to core.meta.phase)
  pub clean : (r d : ℕ) → r < core.meta.setup.geometry.rows
      → core.meta.gear ≤ d → d < phase_to core.meta.phase → is_dirty core.dirty r d ≡ false

-- The stripes from the fill mark to `end - 1` are of the region of the new gear, which has not all
-- disks.
pub record AreStripesToFill (m : Meta) (end : ℕ) : Type 0 where
  pub shifts : 0 < phase_to m.phase
  pub region : phase_to m.phase < m.setup.geometry.disks
  pub from : m.fill ≤ end
  pub stripe : end ≤ stripe_count m.setup.geometry.disks m.setup.geometry.rows (phase_to m.phase)

-- The rack has as many slots as before, and no count of faults falls. The call gives up only where
-- two disks are down, of which the second has failed in it; `Told` holds of these two.
pub record KeepsRack {R A : Type 0}
    {g : Ghosts R} (old new : Core R g) (Told : Two → Type 0) (result : Result A Two) : Type 0 where
  pub slots : g.slot_count (store_rack new.store) ≡ g.slot_count (store_rack old.store)
  pub no_fall : (d : ℕ)
      → (g.slot (store_rack old.store) d).faults ≤ (g.slot (store_rack new.store) d).faults
  pub two : IfErr result
      (AreTwoDown (core_down old) (g.slot (store_rack old.store)) (g.slot (store_rack new.store)))
  pub loses : IfErr result Told

-- The same of a call that neither parks a disk nor spins one up: only the slots of disks that are
-- lost change their power or size.
pub record SparesRack {R A : Type 0}
    {g : Ghosts R} (old new : Core R g) (Told : Two → Type 0) (result : Result A Two) : Type 0 where
  pub slots : g.slot_count (store_rack new.store) ≡ g.slot_count (store_rack old.store)
  pub spared : OnlyLosesSlots (g.slot (store_rack old.store)) (g.slot (store_rack new.store))
  pub two : IfErr result
      (AreTwoDown (core_down old) (g.slot (store_rack old.store)) (g.slot (store_rack new.store)))
  pub loses : IfErr result Told

-- Units are copied past the log from a rest on. Where that ends well, a disk that was lost in it is
-- marked, the rest of the core is as it was, and it stands for the same writes.
pub record CopiesUnits
    {R A : Type 0} {g : Ghosts R} (old new : Core R g) (result : Result A Two) : Type 0 where
  pub leaves : OnOk result (LeavesCore g.slot_count g.slot old new)
  pub marks : OnOk result (CoreMarksLost g.slot old new)
  pub stands : OnOk result (StandsFromRest g.slot_count g.told old new)
  pub calls : MakesDataCalls g.told old new
  pub moments : IsHeldFromRest g.slot_count g.told old new

-- Disks are powered from a rest on, one after the other, by calls that the meta has made. No cell
-- becomes dirty or clean.
pub record PowersFromRest
    {R A : Type 0} {g : Ghosts R} (old new : Core R g) (result : Result A Two) : Type 0 where
  pub powers : OnOk result (PowersDisks g.slot_count g.slot g.told old new)
  pub table : new.dirty ≡ old.dirty
  pub calls : MakesPowerCalls g.told old new
  pub moments : IsHeldFromRest g.slot_count g.told old new

-- Each stop leaves what it left before, and no cell becomes dirty or clean.
pub record KeepsContents {R : Type 0} {g : Ghosts R} (old new : Core R g) : Type 0 where
  pub table : new.dirty ≡ old.dirty
  pub moments : IsHeldStill g.slot_count g.told old new

-- The core serves after a commit with which a shift begins or ends, with nothing staged. The array
-- is as it was, and the disk that is out is the one that the commit names, or absent; and the slots
-- fit the meta still.
pub record ServesShifted {R : Type 0} {g : Ghosts R} (old new : Core R g) : Type 0 where
  pub serving : IsCoreServing g.slot_count g.slot new
  pub leaves : LeavesArray g.slot_count g.slot old new
  pub absent : IsNamedOrAbsent g.slot new
  pub fits : KeepsFit g.slot old new
  pub nothing : new.batch ≡ []
