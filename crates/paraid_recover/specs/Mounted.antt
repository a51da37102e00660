-- What a mount gives: disks that fit the meta, and the meta with which the array is served.
use Rattle.std.specs.Prelude.{◌≡◌, ◌≢◌, ℕ, ◌<◌, ◌≤◌, true, false, Option, Some, None}
use Rattle.paraid_base.specs.declared.state.Out.TheVariants.{Fresh}
use Rattle.paraid_base.specs.Regions.{disk_size}
use Rattle.paraid_base.specs.States.{gone_out}
use Rattle.paraid_rack.specs.declared.call.Power.TheVariants.{Parked, Spinning}
use Rattle.paraid_rack.specs.Disks.{is_present}
use Rattle.paraid_rack.specs.Slots.{Slot}
use Rattle.paraid_record.specs.declared.meta.Meta.{Meta}
use Rattle.paraid_record.specs.Range.{IsInRange}
use Rattle.paraid_image.specs.Mark.{marked_gone}
use Rattle.paraid_image.specs.Out.{named_out}
use Rattle.paraid_image.specs.Power.{power_by_gear}
use Rattle.paraid_session.specs.Powers.{AreSlotsSynced}
use Rattle.paraid_txn.specs.Losses.{IsOneOut}
use Rattle.paraid_recover.specs.RecoveryMark.{to_mark}

-- The slots fit the meta: each disk of the array has its slot, and each that is there and not gone
-- its size; no disk is parked that is to spin, no log disk is parked, and one disk at most is out.
pub record IsFit (count : ℕ) (slot : ℕ → Slot) (m : Meta) : Type 0 where
  pub in_range : IsInRange m
  pub enough : m.setup.geometry.disks ≤ count
  pub log_disks : (x : ℕ) → x < 2 → (slot x).power ≢ Parked
  pub large : (d : ℕ) → d < m.setup.geometry.disks → is_present (slot d).power ≡ true
      → gone_out m.out ≢ Some d → disk_size m.setup.geometry ≤ (slot d).size
  pub awake : (d : ℕ) → d < m.gear → named_out m.out ≢ Some d → (slot d).power ≢ Parked
  pub fresh : (d rebuilt : ℕ) → m.out ≡ Fresh d rebuilt → (slot d).power ≢ Parked
  pub one : IsOneOut m.setup.geometry.disks (named_out m.out) slot

-- the meta in memory where this disk, or none, has been lost since the last commit
abbrev pub with_loss : Meta → Option ℕ → Meta
with_loss m None = m
with_loss m (Some d) = marked_gone m d m.epoch

-- The array is served with the meta that stands, and with the mark of a disk that is absent by the
-- slots, or of none. The disk that the last commit named out is the one that the meta that stands
-- names.
pub record IsStandingWithLoss
    (slot : ℕ → Slot) (named : Option ℕ) (standing m : Meta) : Type 0 where
  pub named_by : named ≡ named_out standing.out
  pub is : m ≡ with_loss standing (to_mark (λ d. (slot d).power) standing)

-- With this meta the array is served; it has version 2. The last commit had this epoch, on an array
-- of so many disks, and named this disk out; the table has a row for each of the array.
pub record IsServable (count : ℕ)
    (slot : ℕ → Slot) (last array : ℕ) (named : Option ℕ) (m : Meta) (rows : ℕ) : Type 0 where
  pub fit : IsFit count slot m
  pub array_is : m.setup.geometry.disks ≡ array
  pub epoch_is : m.epoch ≡ last
  pub version_is : m.version ≡ 2
  pub rows_are : rows ≡ m.setup.geometry.rows
  -- a disk that is absent is named out, and so is one that was
  pub absent : (d : ℕ)
      → d < m.setup.geometry.disks → is_present (slot d).power ≡ false → named_out m.out ≡ Some d
  pub stays : (d : ℕ) → named ≡ Some d → named_out m.out ≡ Some d
  pub powers : (d : ℕ) → d < m.setup.geometry.disks
      → named_out m.out ≢ Some d → (slot d).power ≡ power_by_gear m.gear m.phase d
  pub fresh_spins : (d rebuilt : ℕ)
      → m.out ≡ Fresh d rebuilt → is_present (slot d).power ≡ true → (slot d).power ≡ Spinning
  pub synced : AreSlotsSynced m slot
