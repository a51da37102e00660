-- What contracts see of a core.
use Rattle.std.specs.Prelude.{ℕ, ◌-◌, ◌*◌, List, Bool, length, Option}
use Rattle.paraid_base.specs.History.{History}
use Rattle.paraid_rack.specs.Disks.{Disks}
use Rattle.paraid_rack.specs.Slots.{Slot}
use Rattle.paraid_record.specs.declared.meta.Meta.{Meta}
use Rattle.paraid_txn.specs.declared.store.Store.{Store}
use Rattle.paraid_image.specs.Out.{named_out, or_else}
use Rattle.paraid_image.specs.Sides.{Batch}
use Rattle.paraid_txn.specs.Stores.{disks_of, epoch_of, named_of, store_rack}
use Rattle.paraid_core.specs.declared.changes.Change.{Change}
use Rattle.paraid_core.specs.declared.staged.Core.{Core}
use Rattle.paraid_core.specs.CoreInvariant.{CanServe, IsHeldWithOneMissing, AreSlotsReady, HoldsBetweenCalls}
use Rattle.paraid_base.specs.Regions.{array_blocks}

-- the rack that it owns
abbrev pub core_rack : {R : Type 0} {g : _} → Core R g → R
core_rack core = store_rack core.store

-- its store
abbrev pub store_of : {R : Type 0} {g : _} → Core R g → Store R g
store_of core = core.store

-- its meta
abbrev pub meta_of : {R : Type 0} {g : _} → Core R g → Meta
meta_of core = core.meta

-- what is staged
abbrev pub batch_of : {R : Type 0} {g : _} → Core R g → Batch
batch_of core = core.batch

-- what is drafted of a plan that is not yet taken
abbrev pub draft_of : {R : Type 0} {g : _} → Core R g → Batch
draft_of core = core.draft

-- the dirty bits that such a plan has set
abbrev pub changes_of : {R : Type 0} {g : _} → Core R g → List Change
changes_of core = core.changes

-- the disk of which a read of that plan has failed
abbrev pub failed_of : {R : Type 0} {g : _} → Core R g → Option ℕ
failed_of core = core.failed

-- its dirty table
abbrev pub core_table : {R : Type 0} {g : _} → Core R g → List (List Bool)
core_table core = core.dirty

-- the disks to which copies went since they were last synced
abbrev pub copied_of : {R : Type 0} {g : _} → Core R g → List Bool
copied_of core = core.copied

-- the number of its blocks
abbrev pub core_block_count : {R : Type 0} {g : _} → Core R g → ℕ
core_block_count core = array_blocks core.meta.setup.geometry

-- the disk that is down: by the last commit, or by the meta
abbrev pub core_down : {R : Type 0} {g : _} → Core R g → Option ℕ
core_down core = or_else (named_of core.store) (named_out core.meta.out)

-- it can be used
abbrev pub IsCoreReady : {R : Type 0} {g : _} → (R → ℕ) → (R → ℕ → Slot) → Core R g → Type 0
IsCoreReady count slot core =
    AreSlotsReady
    (count (store_rack core.store)) (slot (store_rack core.store)) (epoch_of core.store)
    (disks_of core.store) (named_of core.store) core.meta (length core.dirty) core.batch

-- its slots can serve: in a shift up the disks of the new gear spin and are large enough, and a
-- disk that the last commit named out still is out
abbrev pub CanCoreServe : {R : Type 0} {g : _} → (R → ℕ → Slot) → Core R g → Type 0
CanCoreServe slot core = CanServe (slot (store_rack core.store)) (named_of core.store) core.meta

-- it stands for these writes, of which no stop takes away the first `lo`
abbrev pub CoreStandsFor : {R : Type 0} {g : _} → (R → ℕ) → Core R g → History → ℕ → Disks → Type 0
CoreStandsFor count core h lo = HoldsBetweenCalls (count (store_rack core.store))
    (named_of core.store) core.meta core.dirty core.batch core.copied h lo

-- what holds at each moment of a call
abbrev pub IsCoreHeld : {R : Type 0} {g : _} → (R → ℕ) → Core R g → History → ℕ → Disks → Type 0
IsCoreHeld count core h lo = IsHeldWithOneMissing
    (count (store_rack core.store)) core.meta.setup.geometry.disks (core_down core) h lo

-- what holds at each moment of reads: a disk that has failed since the last commit takes nothing
-- away
abbrev pub IsCoreHeldSinceCommit : {R : Type 0} {g : _}
    → (R → ℕ) → Core R g → History → ℕ → Disks → Type 0
IsCoreHeldSinceCommit count core h lo = IsHeldWithOneMissing
    (count (store_rack core.store)) core.meta.setup.geometry.disks (named_of core.store) h lo
