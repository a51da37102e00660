-- What a check sees of a core, and what its reads leave of it.
use Rattle.std.specs.Prelude.{◌≡◌, ℕ, ◌<◌, [], true, Option, Some, Result, IfErr}
use Rattle.paraid_base.specs.declared.fault.Two.{Two}
use Rattle.paraid_base.specs.History.{History}
use Rattle.paraid_dirty.specs.Table.{is_dirty}
use Rattle.paraid_rack.specs.declared.call.Power.TheVariants.{Spinning}
use Rattle.paraid_rack.specs.Disks.{Disks, is_present}
use Rattle.paraid_rack.specs.declared.rack.Rack.{Ghosts}
use Rattle.paraid_rack.specs.Slots.{Slot}
use Rattle.paraid_rack.specs.Told.{CrashTriple, Ran}
use Rattle.paraid_rack.specs.Trail.{Trail, now}
use Rattle.paraid_image.specs.Content.{view_by}
use Rattle.paraid_image.specs.Out.{named_out}
use Rattle.paraid_image.specs.Spot.{View}
use Rattle.paraid_image.specs.Standing.{contents}
use Rattle.paraid_txn.specs.Losses.{AreTwoDown, OnlyLosesSlots, StaySynced}
use Rattle.paraid_txn.specs.Stores.{named_of, store_rack}
use Rattle.paraid_core.specs.declared.staged.Core.{Core}
use Rattle.paraid_core.specs.Calls.{MakesDataCalls}
use Rattle.paraid_core.specs.Cores.{CanCoreServe, CoreStandsFor, IsCoreHeld, IsCoreReady, core_down}
use Rattle.paraid_core.specs.Down.{IsDownAfter}
use Rattle.paraid_core.specs.Lost.{CoreLosesDisk, CoreMarksLost, CoreTellsLosses, MakesReads}
use Rattle.paraid_core.specs.Steps.{AreUnsyncedCopied, IsHeldStill, LeavesCore, StandsStill}
use Rattle.paraid_core.specs.Units.{IsRebuilding}
use Rattle.paraid_scrub.specs.declared.ending.Ending.{Ending}
use Rattle.paraid_scrub.specs.declared.ending.Ending.TheVariants.{Lost, Two as LostTwo}

-- the view of what a core stands for, by its meta
abbrev pub core_view : {R : Type 0} {g : _} → Core R g → Disks → View
core_view core s = view_by core.meta s.power (contents s core.batch)

-- the view of what a core stands for, by its meta, with the dirty cells of the table that it serves
-- in place of those of the map
abbrev pub table_view : {R : Type 0} {g : _} → Core R g → Disks → View
table_view core s = record (core_view core s) { dirty = is_dirty core.dirty }

-- the core's table of dirty cells has the bits of the map
abbrev pub HasMapBits : {R : Type 0} {g : _} → Core R g → View → Type 0
HasMapBits core v = (r d : ℕ)
    → r < core.meta.setup.geometry.rows → is_dirty core.dirty r d ≡ v.dirty r d

-- A core can be checked: it can be read, nothing is staged, and a disk that is being rebuilt spins.
pub record CanBeChecked
    {R : Type 0} {g : _} (count : R → ℕ) (slot : R → ℕ → Slot) (core : Core R g) : Type 0 where
  pub ready : IsCoreReady count slot core
  pub serves : CanCoreServe slot core
  pub draft : core.draft ≡ []
  pub nothing : core.batch ≡ []
  pub fresh : (d : ℕ) → IsRebuilding core.meta d → (slot (store_rack core.store) d).power ≡ Spinning

-- the rack tells blocks of this view, under the core's meta
pub record ShowsView
    {R : Type 0} {g : _} (told : R → Option Trail) (core : Core R g) (v : View) : Type 0 where
  pub trail : Trail
  pub tells : told (store_rack core.store) ≡ Some trail
  pub meta : v.meta ≡ core.meta
  pub out : v.out ≡ named_out core.meta.out
  pub block : v.block ≡ contents (now trail) []
  pub bits : (r d : ℕ) → r < core.meta.setup.geometry.rows → is_dirty core.dirty r d ≡ v.dirty r d

-- Some reads were made, in which at most one disk was lost.
pub record HasLooked {R : Type 0} {g : _} (count : R → ℕ)
    (slot : R → ℕ → Slot) (told : R → Option Trail) (old new : Core R g) : Type 0 where
  pub leaves : LeavesCore count slot old new
  pub copied : new.copied ≡ old.copied
  pub synced : StaySynced (slot (store_rack old.store)) (slot (store_rack new.store))
  pub calls : MakesDataCalls told old new
  pub reads : MakesReads told old new
  pub marks : CoreMarksLost slot old new
  pub stands : StandsStill count told old new

-- No disk was lost in them, and the core can be read on.
pub record LooksOn {R : Type 0} {g : _} (count : R → ℕ)
    (slot : R → ℕ → Slot) (told : R → Option Trail) (old new : Core R g) : Type 0 where
  pub began : IsCoreReady count slot old
  pub looked : HasLooked count slot told old new
  pub same : new.meta ≡ old.meta

-- One disk was lost in them, which was there before.
pub record LooksTillLost {R : Type 0} {g : _} (count : R → ℕ)
    (slot : R → ℕ → Slot) (told : R → Option Trail) (old new : Core R g) : Type 0 where
  pub looked : HasLooked count slot told old new
  pub loses : CoreLosesDisk slot old new
  pub there : is_present (slot (store_rack old.store) loses.disk).power ≡ true

-- Two disks were found down in them.
pub record LooksTillTwo {R : Type 0} {g : _} (count : R → ℕ)
    (slot : R → ℕ → Slot) (told : R → Option Trail) (old new : Core R g) (two : Two) : Type 0 where
  pub slots : count (store_rack new.store) ≡ count (store_rack old.store)
  pub copied : new.copied ≡ old.copied
  pub spared : OnlyLosesSlots (slot (store_rack old.store)) (slot (store_rack new.store))
  pub synced : StaySynced (slot (store_rack old.store)) (slot (store_rack new.store))
  pub down
      : AreTwoDown (core_down old) (slot (store_rack old.store)) (slot (store_rack new.store)) two
  pub tells : CoreTellsLosses told (named_out old.meta.out) old new two
  pub calls : MakesDataCalls told old new
  pub reads : MakesReads told old new
  pub held : IsHeldStill count told old new

-- how such reads end
abbrev pub LooksTill : {R : Type 0} {g : _}
    → (R → ℕ) → (R → ℕ → Slot) → (R → Option Trail) → Core R g → Core R g → Ending → Type 0
LooksTill count slot told old new Lost = LooksTillLost count slot told old new
LooksTill count slot told old new (LostTwo two) = LooksTillTwo count slot told old new two

-- Whatever becomes of a check: it makes reads alone, and each stop leaves what it left before. The
-- rack has as many slots, a slot changes only as it becomes absent, and nothing becomes unsynced.
-- Where two disks are down, it is told which was lost first.
pub record LeavesChecked
    {R A : Type 0} {g : Ghosts R} (old new : Core R g) (result : Result A Two) : Type 0 where
  pub slots : g.slot_count (store_rack new.store) ≡ g.slot_count (store_rack old.store)
  pub spared : OnlyLosesSlots (g.slot (store_rack old.store)) (g.slot (store_rack new.store))
  pub still_synced : StaySynced (g.slot (store_rack old.store)) (g.slot (store_rack new.store))
  pub copied : new.copied ≡ old.copied
  pub two : IfErr result
      (AreTwoDown (core_down old) (g.slot (store_rack old.store)) (g.slot (store_rack new.store)))
  pub tells : IfErr result (CoreTellsLosses g.told (named_out old.meta.out) old new)
  pub calls : MakesDataCalls g.told old new
  pub reads : MakesReads g.told old new
  pub moments : (h : History) (lo : ℕ) → Ran (g.told (store_rack old.store))
      (g.told (store_rack new.store)) (CrashTriple (IsCoreHeld g.slot_count old h lo)
      (CoreStandsFor g.slot_count old h lo) (IsCoreHeld g.slot_count old h lo))
  pub moments_since : IsHeldStill g.slot_count g.told old new

-- A check that made its counts, all or a first part of them: the core serves on as it was, but for
-- the mark of a disk that was lost, and the writes are as they were.
pub record ServesChecked {R : Type 0} {g : Ghosts R} (old new : Core R g) : Type 0 where
  pub draft : new.draft ≡ old.draft
  pub batch : new.batch ≡ old.batch
  pub table : new.dirty ≡ old.dirty
  pub named : named_of new.store ≡ named_of old.store
  pub ready : IsCoreReady g.slot_count g.slot new
  pub serves : CanCoreServe g.slot new
  pub setup : new.meta.setup ≡ old.meta.setup
  pub writes : new.meta.writes ≡ old.meta.writes
  pub epoch : new.meta.epoch ≡ old.meta.epoch
  pub down : IsDownAfter (core_down old)
      (core_down new) (g.slot (store_rack old.store)) (g.slot (store_rack new.store))
  pub marks : CoreMarksLost g.slot old new
  pub unsynced : AreUnsyncedCopied g.slot old → AreUnsyncedCopied g.slot new
  pub stands : (h : History) (lo : ℕ) → Ran (g.told (store_rack old.store))
      (g.told (store_rack new.store)) (CrashTriple (IsCoreHeld g.slot_count old h lo)
      (CoreStandsFor g.slot_count old h lo) (CoreStandsFor g.slot_count new h lo))
  pub since : StandsStill g.slot_count g.told old new
