-- What a step of a mount asks for, and what it leaves of the store and of what was recovered.
use Rattle.std.specs.Prelude.{◌≡◌, ℕ, ◌+◌, ◌<◌, ◌≤◌, ◌⊎◌, Bool, List, length, Option, Some, None, Result, OnOk, IfErr, ◌*◌}
use Rattle.paraid_base.specs.declared.fault.Two.{Two}
use Rattle.paraid_base.specs.Log.{batch_room, worn_at}
use Rattle.paraid_base.specs.Told.{HasRisen}
use Rattle.paraid_dirty.specs.Table.{is_dirty}
use Rattle.paraid_rack.specs.declared.call.Power.TheVariants.{Absent}
use Rattle.paraid_rack.specs.declared.rack.Rack.{Ghosts}
use Rattle.paraid_rack.specs.Told.{Ran}
use Rattle.paraid_rack.specs.Trail.{Trail, now}
use Rattle.paraid_record.specs.declared.meta.Meta.{Meta}
use Rattle.paraid_record.specs.Range.{IsInRange}
use Rattle.paraid_image.specs.Out.{named_out}
use Rattle.paraid_image.specs.Sides.{Batch, LogState}
use Rattle.paraid_session.specs.Powers.{AreSlotsSynced}
use Rattle.paraid_txn.specs.declared.store.Store.{Store}
use Rattle.paraid_txn.specs.Losses.{AreFailedOrWell, AreGoneSince, AreTwoDownBeside, IsOneOut, OnlyLosesSlots, StaySynced, TellsSecondLoss}
use Rattle.paraid_txn.specs.Ready.{IsLogReady}
use Rattle.paraid_txn.specs.Stores.{disks_of, epoch_of, named_of, store_rack}
use Rattle.paraid_txn.specs.Uses.{EachCall, UsesLog}
use Rattle.paraid_recover.specs.declared.hearing.Heard.{Heard}
use Rattle.paraid_recover.specs.Bearing.{BearsOnce}
use Rattle.paraid_recover.specs.HeardSides.{AtMost, IsHeardAt, IsHeardBy, IsInForm, ReadsLogs}
use Rattle.paraid_recover.specs.HeldMoments.{Recovers, RecoversHeld}
use Rattle.paraid_recover.specs.Map.{ChangesByBatch, IsNarrow, KeepsFar}
use Rattle.paraid_recover.specs.MountCalls.{OnlyMountCalls}
use Rattle.paraid_recover.specs.Mounted.{IsFit}
use Rattle.paraid_recover.specs.StandingMetas.{StandsInMoments, StandsThroughMount}
use Rattle.paraid_recover.specs.Still.{IsLeftWhole, IsUpToDate, StaysUnwritten}

-- The store stands by this meta, so a disk can be marked by a commit: an epoch is left, each disk
-- has a slot, and the log can be written.
pub record CanMarkOut {R : Type 0} {g : Ghosts R} (store : Store R g) (m : Meta) : Type 0 where
  pub fresh : m.epoch < worn_at
  pub in_range : IsInRange m
  pub exists : m.setup.geometry.disks ≤ g.slot_count (store_rack store)
  pub disks : disks_of store ≡ m.setup.geometry.disks
  pub named : named_of store ≡ named_out m.out
  pub epoch : epoch_of store ≡ m.epoch
  pub log : IsLogReady (named_out m.out) (g.slot (store_rack store))

-- The store stands by this meta, which fits its slots, and the table is one of its rows.
pub record CanSettle {R : Type 0}
    {g : Ghosts R} (store : Store R g) (m : Meta) (table : List (List Bool)) : Type 0 where
  pub fit : IsFit (g.slot_count (store_rack store)) (g.slot (store_rack store)) m
  pub few : m.epoch < worn_at
  pub disks : disks_of store ≡ m.setup.geometry.disks
  pub named : named_of store ≡ named_out m.out
  pub epoch : epoch_of store ≡ m.epoch
  pub rows : length table ≡ m.setup.geometry.rows
  pub narrow : IsNarrow (is_dirty table)

-- A step that also powers disks keeps the slots: no count of faults falls, and only a disk that has
-- failed is absent then and was not before. No block past the log changes. It gives up only where
-- two disks are down, of which the first may be one of which `out` holds; where at most one such
-- disk was there, it makes no call after the second has failed.
pub record KeepsPowered {R A : Type 0}
    {g : Ghosts R} (out : ℕ → Type 0) (old new : Store R g) (result : Result A Two) : Type 0 where
  pub slots : g.slot_count (store_rack new) ≡ g.slot_count (store_rack old)
  pub two : IfErr result (AreTwoDownBeside out (g.slot (store_rack old)) (g.slot (store_rack new)))
  pub gone : IfErr result (AreGoneSince out (g.slot (store_rack old)) (g.slot (store_rack new)))
  pub order : IfErr result (TellsSecondLoss out (g.told (store_rack old)) (g.told (store_rack new)))
  pub later : (d : ℕ) → (g.slot (store_rack old) d).faults ≤ (g.slot (store_rack new) d).faults
  pub failed : (d : ℕ)
      → (g.slot (store_rack new) d).power ≡ Absent → ((g.slot (store_rack old) d).power ≡ Absent)
      ⊎ HasRisen (g.slot (store_rack old) d).faults (g.slot (store_rack new) d).faults
  pub absent : (d : ℕ)
      → (g.slot (store_rack old) d).power ≡ Absent → (g.slot (store_rack new) d).power ≡ Absent
  pub far : KeepsFar (g.told (store_rack old)) (g.told (store_rack new))

-- Each call is one that a mount may make. What was recovered is held at each moment, and its meta
-- stands, or one that a mount makes of it. A witness that is borne is not borne again. Where nothing
-- is to be brought up to date and no call fails, nothing is written.
pub record RecoversOn {R : Type 0} {g : Ghosts R} (m : Meta) (old new : Store R g) : Type 0 where
  pub allowed : OnlyMountCalls m (g.told (store_rack old)) (g.told (store_rack new))
  pub holds : (slots x : ℕ) (said : LogState) (first : Option Trail)
      → said.meta ≡ m → Recovers slots x said first (g.told (store_rack old))
      → RecoversHeld slots x said first (g.told (store_rack new))
  pub metas : (slots x : ℕ) (said : LogState) (first : Option Trail)
      → said.meta ≡ m → Recovers slots x said first (g.told (store_rack old))
      → StandsInMoments slots x said first (g.told (store_rack old))
      → StandsInMoments slots x said first (g.told (store_rack new))
  pub once : BearsOnce m (g.told (store_rack old)) (g.told (store_rack new))
  pub unwritten : StaysUnwritten (IsUpToDate m) (g.told (store_rack old)) (g.told (store_rack new))

-- Where a disk was marked by a commit, the store names it alone, in the next epoch, and nothing
-- became unsynced.
pub record HasMarked {R A : Type 0}
    {g : Ghosts R} (disk : ℕ) (old new : Store R g) (result : Result A Two) : Type 0 where
  pub synced : OnOk result (StaySynced (g.slot (store_rack old)) (g.slot (store_rack new)))
  pub epoch : OnOk result (epoch_of new ≡ epoch_of old + 1)
  pub named : OnOk result (named_of new ≡ Some disk)
  pub one : OnOk result (IsOneOut (disks_of old) (named_of old) (g.slot (store_rack old))
      → IsOneOut (disks_of old) (Some disk) (g.slot (store_rack new)))

-- The store stands by this meta of version 2, which fits its slots, and all is synced.
pub record HasStood {R : Type 0} {g : Ghosts R} (store : Store R g) (m : Meta) : Type 0 where
  pub epoch : m.epoch ≡ epoch_of store
  pub named : named_out m.out ≡ named_of store
  pub version : m.version ≡ 2
  pub fit : IsFit (g.slot_count (store_rack store)) (g.slot (store_rack store)) m
  pub synced : AreSlotsSynced m (g.slot (store_rack store))

-- The same from the rack whose log disk `x` stood and said this: it has as many slots as before,
-- and no count of faults falls. Past the log each block is as it was, or is of the batch. A witness
-- that is borne is not borne again. Where the array was left whole and no call fails, nothing is
-- written.
pub record MountsOn
    {R : Type 0} (g : Ghosts R) (x : ℕ) (said : LogState) (old new : R) : Type 0 where
  pub slots : g.slot_count new ≡ g.slot_count old
  pub later : (d : ℕ) → (g.slot old d).faults ≤ (g.slot new d).faults
  pub allowed : OnlyMountCalls said.meta (g.told old) (g.told new)
  pub metas : StandsThroughMount x said (g.told old) (g.told new)
  pub holds : (slots : ℕ) → RecoversHeld slots x said (g.told old) (g.told new)
  pub far : ChangesByBatch said.batch (g.told old) (g.told new)
  pub once : BearsOnce said.meta (g.told old) (g.told new)
  pub unwritten : StaysUnwritten (IsLeftWhole said) (g.told old) (g.told new)

-- This was heard of the log disk, or nothing where it is absent; it is in form.
pub record HasHeard {R : Type 0}
    (g : Ghosts R) (rack : R) (disk : ℕ) (heard : Option Heard) (batch : Batch) : Type 0 where
  pub told : (t : Trail) → g.told rack ≡ Some t → IsHeardAt (now t) disk heard batch
  pub form : IsInForm heard batch
  pub power : IsHeardBy heard (g.slot rack disk).power

-- Both log disks were read, by at most 198 reads of their logs. A slot changes only as it becomes
-- absent; its disk has failed, or is well.
pub record HasReadLogs {R : Type 0} (g : Ghosts R) (old new : R) : Type 0 where
  pub slots : g.slot_count new ≡ g.slot_count old
  pub powers : OnlyLosesSlots (g.slot old) (g.slot new)
  pub each : AreFailedOrWell (g.slot old) (g.slot new)
  pub reads : Ran (g.told old) (g.told new) (EachCall ReadsLogs)
  pub few : Ran (g.told old) (g.told new) (AtMost (2 * (batch_room + 3)))
  pub calls : Ran (g.told old) (g.told new) (EachCall (UsesLog None))
