-- Reads of the disks of an array, and what they show.
use Rattle.std.specs.Prelude.{◌≡◌, ◌≢◌, ℕ, ◌<◌, ◌≤◌, ◌⊎◌, Bool, true, List, [], ◌∷◌, Option, Some, None, Result, Ok, Err}
use Rattle.paraid_base.specs.Log.{log_least}
use Rattle.paraid_base.specs.Regions.{disk_size}
use Rattle.paraid_dirty.specs.Table.{is_dirty}
use Rattle.paraid_rack.specs.declared.call.Call.{Call}
use Rattle.paraid_rack.specs.declared.call.Call.TheVariants.{Read, Write, Sync, Park, SpinUp, Attach}
use Rattle.paraid_rack.specs.declared.call.Power.TheVariants.{Spinning}
use Rattle.paraid_rack.specs.Calls.{disk_of}
use Rattle.paraid_rack.specs.Disks.{Disks, step}
use Rattle.paraid_rack.specs.Slots.{Slot}
use Rattle.paraid_rack.specs.Told.{Ran}
use Rattle.paraid_rack.specs.Trail.{Trail, now}
use Rattle.paraid_record.specs.declared.meta.Meta.{Meta}
use Rattle.paraid_txn.specs.declared.store.Store.{Store}
use Rattle.paraid_base.specs.declared.fault.Two.{Two}
use Rattle.paraid_txn.specs.Losses.{StaySynced, IsLostNow, OnlyLosesSlots, AreTwoDown}
use Rattle.paraid_image.specs.Lost.{BearsLoss, EndsByLoss, TellsLosses}
use Rattle.paraid_image.specs.Sides.{Batch, has_place}
use Rattle.paraid_image.specs.Spot.{View, rising_to}
use Rattle.paraid_image.specs.Standing.{Contents, overlaid_block}
use Rattle.paraid_txn.specs.Stores.{IsSameStore, store_rack}

-- Each disk that is powered by this meta spins and is large enough, but for the one that is out.
pub record CanRead (count : ℕ) (slot : ℕ → Slot) (m : Meta) (out : Option ℕ) : Type 0 where
  pub enough : m.setup.geometry.disks ≤ count
  pub spins : (d : ℕ)
      → (d < m.gear) ⊎ (d < rising_to m.phase) → out ≢ Some d → (slot d).power ≡ Spinning
  pub large : (d : ℕ) → (d < m.gear) ⊎ (d < rising_to m.phase) → out ≢ Some d
      → disk_size m.setup.geometry ≤ (slot d).size

-- Only this disk, or none, has changed: it has failed and is absent.
pub record AreLeft (lost : Option ℕ) (old new : ℕ → Slot) : Type 0 where
  pub others : (d : ℕ) → lost ≢ Some d → new d ≡ old d
  pub failed : (d : ℕ) → lost ≡ Some d → IsLostNow old new d
  pub later : (d : ℕ) → lost ≡ Some d → (old d).faults ≤ (new d).faults

-- the call reads a disk of the array that spins
abbrev pub IsArrayRead : ℕ → Disks → Call → Type 0
IsArrayRead n s (Read d p done) = (d < n) × (s.power d ≡ Spinning)
IsArrayRead n s (Write d p b done) = ⊥
IsArrayRead n s (Sync d done) = ⊥
IsArrayRead n s (Park d done) = ⊥
IsArrayRead n s (SpinUp d done) = ⊥
IsArrayRead n s (Attach d size done) = ⊥

-- each of these calls does
abbrev pub AreArrayReads : ℕ → Disks → List Call → Type 0
AreArrayReads n s [] = Unit {0}
AreArrayReads n s (c ∷ cs) = IsArrayRead n s c × AreArrayReads n (step c s) cs

-- none of these calls is on this disk
abbrev pub AreOffDisk : Option ℕ → Disks → List Call → Type 0
AreOffDisk out s [] = Unit {0}
AreOffDisk out s (c ∷ cs) = (out ≢ Some (disk_of c)) × AreOffDisk out (step c s) cs

-- the disk that failed, if one did
abbrev pub lost_by : Result (Unit {0}) ℕ → Option ℕ
lost_by (Ok it) = None
lost_by (Err disk) = Some disk

-- Some reads were made, in which this disk, or none, has failed. No call follows the one that
-- failed.
pub record HaveRead {R : Type 0} {g : _} (count : R → ℕ) (slot : R → ℕ → Slot)
    (told : R → Option Trail) (n : ℕ) (lost : Option ℕ) (old new : Store R g) : Type 0 where
  pub slots : count (store_rack new) ≡ count (store_rack old)
  pub same : IsSameStore old new
  pub left : AreLeft lost (slot (store_rack old)) (slot (store_rack new))
  pub calls : Ran (told (store_rack old)) (told (store_rack new)) (AreArrayReads n)
  pub ends : Ran (told (store_rack old)) (told (store_rack new)) (λ s cs. EndsByLoss lost cs)

-- The same where the reads went on without the disk that failed.
pub record HaveReadOn {R : Type 0} {g : _} (count : R → ℕ) (slot : R → ℕ → Slot)
    (told : R → Option Trail) (n : ℕ) (lost : Option ℕ) (old new : Store R g) : Type 0 where
  pub slots : count (store_rack new) ≡ count (store_rack old)
  pub same : IsSameStore old new
  pub left : AreLeft lost (slot (store_rack old)) (slot (store_rack new))
  pub calls : Ran (told (store_rack old)) (told (store_rack new)) (AreArrayReads n)
  pub borne : Ran (told (store_rack old)) (told (store_rack new)) (λ s cs. BearsLoss None lost cs)

-- with the batch laid over, the disks hold these blocks past the log
abbrev pub ShowsContents : Option Trail → Batch → Contents → Type 0
ShowsContents told batch f = (t : Trail) → told ≡ Some t → (d p : ℕ) → has_place (now t) d p ≡ true
    → log_least ≤ p → overlaid_block batch d p ((now t).block d p) ≡ f d p

-- what is seen of these blocks
abbrev pub seen_by : Meta → List (List Bool) → Option ℕ → Contents → View
seen_by m table out f = record { meta = m; dirty = is_dirty table; out = out; block = f }

-- Reads in which two disks were found down: the first was out, or has failed in the reads before.
-- Their record tells which.
pub record HaveLostTwo
    {R : Type 0} {g : _} (count : R → ℕ) (slot : R → ℕ → Slot) (told : R → Option Trail)
    (n : ℕ) (out : Option ℕ) (two : Two) (old new : Store R g) : Type 0 where
  pub slots : count (store_rack new) ≡ count (store_rack old)
  pub same : IsSameStore old new
  pub down : AreTwoDown out (slot (store_rack old)) (slot (store_rack new)) two
  pub spared : OnlyLosesSlots (slot (store_rack old)) (slot (store_rack new))
  pub synced : StaySynced (slot (store_rack old)) (slot (store_rack new))
  pub calls : Ran (told (store_rack old)) (told (store_rack new)) (AreArrayReads n)
  pub tells : Ran (told (store_rack old)) (told (store_rack new)) (λ s cs. TellsLosses out two cs)
