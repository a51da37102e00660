-- What a core stands for: the meta of the last commit, and all that is staged over it.
use Rattle.std.specs.Prelude.{◌≡◌, ◌≢◌, ℕ, ◌+◌, ◌*◌, ◌<◌, ◌≤◌, true, false, List, Bool, length, Option, Some, None, All, nat_lt, slice_index_or, if◌then◌else◌}
use Rattle.paraid_base.specs.declared.state.Out.TheVariants.{Fresh}
use Rattle.paraid_base.specs.History.{History}
use Rattle.paraid_base.specs.Regions.{disk_size, map_count}
use Rattle.paraid_dirty.specs.Table.{is_dirty}
use Rattle.paraid_moves.specs.Copying.{HoldsWithCopies}
use Rattle.paraid_rack.specs.declared.call.Power.TheVariants.{Spinning}
use Rattle.paraid_rack.specs.Disks.{Disks, IsPresent, is_present}
use Rattle.paraid_rack.specs.Slots.{Slot}
use Rattle.paraid_record.specs.declared.meta.Meta.{Meta}
use Rattle.paraid_record.specs.Range.{IsInRange}
use Rattle.paraid_record.specs.Targets.{IsTargetInRange}
pub use Rattle.paraid_txn.specs.Borne.{IsWitnessBorne}
use Rattle.paraid_txn.specs.Commit.{IsNext, gone_out}
use Rattle.paraid_image.specs.Content.{view_by}
use Rattle.paraid_image.specs.HeldAt.{IsHeld}
use Rattle.paraid_image.specs.Out.{named_out}
use Rattle.paraid_txn.specs.Ready.{AreTargetsReady}
use Rattle.paraid_image.specs.Sides.{Batch, targets}
use Rattle.paraid_image.specs.Sound.{ContentOk}
use Rattle.paraid_image.specs.Spot.{rising_to}
use Rattle.paraid_image.specs.Standing.{Contents, contents}
use Rattle.paraid_core.specs.Taken.{AreApart}

-- While no disk is missing but this one, by what is named or absent, each stop leaves a first part
-- of `h` that has at least `lo` writes.
pub record IsHeldWithOneMissing
    (slots n : ℕ) (named : Option ℕ) (h : History) (lo : ℕ) (s : Disks) : Type 0 where
  pub held : (down : Option ℕ) → ((d : ℕ) → d < n → is_present (s.power d) ≡ false → down ≡ Some d)
      → ((d : ℕ) → named ≡ Some d → down ≡ Some d) → IsHeld slots s h lo down

-- copies went to this disk since it was last synced
abbrev pub is_copied : List Bool → ℕ → Bool
is_copied copied d = slice_index_or copied d false

-- no copy on one of the first `n` disks is unsynced
abbrev pub AreCopiesSynced : ℕ → List Bool → Type 0
AreCopiesSynced n copied = (d : ℕ) → d < n → is_copied copied d ≡ false

-- What the disks hold between two calls, where `named` is the disk that the meta of the last commit
-- names out: the contents of that commit, `base` and `held`, which hold a first part of the writes;
-- and with all that is staged laid over, contents that hold all of them under the core's meta.
-- Where nothing is staged, that commit has brought all of them. A block is loose only on a disk to
-- which copies went: a copy is in a free place, where a stop may leave anything.
pub record HoldsBetweenCalls (slots : ℕ) (named : Option ℕ) (m : Meta) (table : List (List Bool))
    (batch : Batch) (copied : List Bool) (h : History) (lo : ℕ) (s : Disks) : Type 0 where
  pub base : Meta
  pub held : Contents
  pub copies : HoldsWithCopies slots base held h lo s
  pub synced : (x p : ℕ) → IsPresent s x
      → (x < m.setup.geometry.disks → is_copied copied x ≡ false) → s.loose x p ≡ false
  pub named_by : named_out base.out ≡ named
  pub borne : IsWitnessBorne named s
  pub epoch : m.epoch ≡ base.epoch
  pub next : IsNext s base (record m { epoch = m.epoch + 1 })
  pub writes : m.writes ≡ length h
  pub brought : length batch ≡ 0 → base.writes ≡ m.writes
  pub staged : ContentOk slots s.power s.size (view_by m s.power (contents s batch)) h (length h)
  pub dirty : (r d : ℕ) → r < 512 * map_count m.setup.geometry
      → is_dirty table r d ≡ (view_by m s.power (contents s batch)).dirty r d

-- What holds of the slots between two calls, over every rack: `last`, `array` and `named` are what
-- the store knows of the last commit.
pub record AreSlotsReady (count : ℕ) (slot : ℕ → Slot)
    (last array : ℕ) (named : Option ℕ) (m : Meta) (rows : ℕ) (batch : Batch) : Type 0 where
  pub in_range : IsInRange m
  pub array_is : m.setup.geometry.disks ≡ array
  pub epoch_is : m.epoch ≡ last
  pub enough : m.setup.geometry.disks ≤ count
  pub rows_are : rows ≡ m.setup.geometry.rows
  -- the meta names each disk that is absent, and no other one than the last commit named
  pub absent : (d : ℕ)
      → d < m.setup.geometry.disks → is_present (slot d).power ≡ false → named_out m.out ≡ Some d
  pub one : (d e : ℕ) → named ≡ Some d → named_out m.out ≡ Some e → d ≡ e
  pub spins : (d : ℕ) → d < m.gear → named_out m.out ≢ Some d → (slot d).power ≡ Spinning
  pub large : (d : ℕ)
      → d < m.gear → named_out m.out ≢ Some d → disk_size m.setup.geometry ≤ (slot d).size
  pub fresh_spins : (d u : ℕ)
      → m.out ≡ Fresh d u → is_present (slot d).power ≡ true → (slot d).power ≡ Spinning
  pub fresh_large : (d u : ℕ) → m.out ≡ Fresh d u
      → is_present (slot d).power ≡ true → disk_size m.setup.geometry ≤ (slot d).size
  -- what is staged can be committed
  pub each : All (IsTargetInRange m.setup.geometry) (targets batch)
  pub can : AreTargetsReady (gone_out m.out) count slot (targets batch)
  pub apart : AreApart batch

-- Cells can be read and written: in a shift up the disks of the new gear have come up, and a disk
-- that was named out by the last commit still is.
pub record CanServe (slot : ℕ → Slot) (named : Option ℕ) (m : Meta) : Type 0 where
  pub spins : (d : ℕ) → d < rising_to m.phase → named_out m.out ≢ Some d → (slot d).power ≡ Spinning
  pub large : (d : ℕ) → d < rising_to m.phase
      → named_out m.out ≢ Some d → disk_size m.setup.geometry ≤ (slot d).size
  pub stays : (d : ℕ) → named ≡ Some d → named_out m.out ≡ Some d

-- the disk that was lost, if it is one of the array
abbrev pub lost_in : Meta → Option ℕ → Option ℕ
lost_in m None = None
lost_in m (Some d) = if nat_lt d m.setup.geometry.disks then Some d else None
