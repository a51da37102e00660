-- What a mount reads of the dirty map, and what it changes past the log.
use Rattle.std.specs.Prelude.{◌≡◌, ◌≢◌, ℕ, ◌+◌, ◌<◌, ◌≤◌, ◌⊎◌, false, Bool, [], Option, Some, None, Contains}
use Rattle.paraid_base.specs.declared.block.Block.{Block}
use Rattle.paraid_base.specs.declared.geometry.Geometry.{Geometry}
use Rattle.paraid_base.specs.Log.{log_least, map_start}
use Rattle.paraid_base.specs.Regions.{map_count}
use Rattle.paraid_base.specs.Told.{HasRisen}
use Rattle.paraid_rack.specs.declared.call.Call.{Call}
use Rattle.paraid_rack.specs.declared.call.Call.TheVariants.{Read, Write, Sync, Park, SpinUp, Attach}
use Rattle.paraid_rack.specs.declared.call.Power.TheVariants.{Absent, Spinning}
use Rattle.paraid_rack.specs.Disks.{Disks}
use Rattle.paraid_rack.specs.Slots.{Slot}
use Rattle.paraid_rack.specs.Told.{Ran}
use Rattle.paraid_rack.specs.Trail.{Trail, now, run}
use Rattle.paraid_record.specs.declared.meta.Meta.{Meta}
use Rattle.paraid_image.specs.Content.{view_by}
use Rattle.paraid_image.specs.Sides.{Batch}
use Rattle.paraid_image.specs.Spot.{map_bit, map_disk}
use Rattle.paraid_image.specs.Standing.{contents}
use Rattle.paraid_txn.specs.Losses.{IsGoneSince}

-- no cell past the eighth disk is dirty
abbrev pub IsNarrow : (ℕ → ℕ → Bool) → Type 0
IsNarrow dirty = (r d : ℕ) → 8 ≤ d → dirty r d ≡ false

-- the dirty cells of each row are those of the map in these blocks of a disk
abbrev pub ShowsMap : Geometry → (ℕ → Block) → (ℕ → ℕ → Bool) → Type 0
ShowsMap g blocks dirty = (r d : ℕ) → r < g.rows → dirty r d ≡ map_bit g blocks r d

-- each log disk that is not out spins and has all blocks of the map
abbrev pub IsMapReady : Geometry → (ℕ → Slot) → Option ℕ → Type 0
IsMapReady g slot out = (x : ℕ)
    → x < 2 → out ≢ Some x → ((slot x).power ≡ Spinning)
    × (map_start g + map_count g ≤ (slot x).size)

-- a read of the map of disk `x`
abbrev pub ReadsMapOf : Geometry → ℕ → Call → Type 0
ReadsMapOf g x (Read d p done) = (d ≡ x) × (map_start g ≤ p) × (p < map_start g + map_count g)
ReadsMapOf g x (Write d p b done) = ⊥
ReadsMapOf g x (Sync d done) = ⊥
ReadsMapOf g x (Park d done) = ⊥
ReadsMapOf g x (SpinUp d done) = ⊥
ReadsMapOf g x (Attach d size done) = ⊥

-- a read of the map of a log disk that is not out
abbrev pub ReadsMap : Geometry → Option ℕ → Call → Type 0
ReadsMap g out (Read d p done) =
    (d < 2) × (out ≢ Some d) × (map_start g ≤ p) × (p < map_start g + map_count g)
ReadsMap g out (Write d p b done) = ⊥
ReadsMap g out (Sync d done) = ⊥
ReadsMap g out (Park d done) = ⊥
ReadsMap g out (SpinUp d done) = ⊥
ReadsMap g out (Attach d size done) = ⊥

-- No block past the log has changed.
abbrev pub KeepsFar : Option Trail → Option Trail → Type 0
KeepsFar old new = Ran old new (λ start calls. (d p : ℕ)
    → log_least ≤ p → (run start calls).block d p ≡ start.block d p)

-- Past the log each block is as it was, or is the one that the batch has for its place.
abbrev pub ChangesByBatch : Batch → Option Trail → Option Trail → Type 0
ChangesByBatch batch old new = Ran old new (λ start calls. (d p : ℕ)
    → log_least ≤ p → ((run start calls).block d p ≡ start.block d p)
    ⊎ Contains batch (record { disk = d; place = p }, (run start calls).block d p))

-- The table shows the map of this log disk, which was the lower one that was not out as the map was
-- read; or it is the second one, where none was out and the first one failed in the reads.
pub record HasMap (g : Geometry) (out : Option ℕ)
    (slot : ℕ → Slot) (dirty : ℕ → ℕ → Bool) (old new : Option Trail) : Type 0 where
  pub far : KeepsFar old new
  pub disk : ℕ
  pub which : (disk ≡ map_disk out) ⊎ ((out ≡ None) × (disk ≡ 1) × ((slot 0).power ≡ Absent))
  pub shows : (t : Trail) → new ≡ Some t → ShowsMap g ((now t).block disk) dirty

-- the dirty cells of each row of the array are those that these disks show under this meta
abbrev pub HasBitsOf : Meta → (ℕ → ℕ → Bool) → Disks → Type 0
HasBitsOf m dirty s = (r d : ℕ)
    → r < m.setup.geometry.rows → dirty r d ≡ (view_by m s.power (contents s [])).dirty r d

-- At the end of a mount the table has the bits of the map: those that the disks show then; or log
-- disk 0 was lost after its map had been read, and they are those of that one.
pub data HasMapAtEnd
    (old new : ℕ → Slot) (m : Meta) (dirty : ℕ → ℕ → Bool) (told : Option Trail) : Type 0 where
  shown : ((t : Trail) → told ≡ Some t → HasBitsOf m dirty (now t))
      → HasMapAtEnd old new m dirty told
  lost : IsGoneSince old new 0 → HasRisen (old 0).faults (new 0).faults
      → ((t : Trail) → told ≡ Some t → ShowsMap m.setup.geometry ((now t).block 0) dirty)
      → HasMapAtEnd old new m dirty told
