-- What refuses a mount, by the meta that stands and by the slots.
use Rattle.std.specs.Prelude.{◌≡◌, ℕ, ◌<◌, ◌⊎◌, ◌&&◌, ◌||◌, nat_lt, not, Bool, true, false, Some, None}
use Rattle.paraid_base.specs.declared.fault.Two.{Two}
use Rattle.paraid_base.specs.Regions.{disk_size}
use Rattle.paraid_rack.specs.Disks.{is_present}
pub use Rattle.paraid_rack.specs.Disks.{is_parked}
pub use Rattle.paraid_base.specs.States.{is_fresh, is_gone}
use Rattle.paraid_rack.specs.Slots.{Slot}
use Rattle.paraid_record.specs.declared.meta.Meta.{Meta}
use Rattle.paraid_image.specs.Out.{is_out, named_out}
use Rattle.paraid_image.specs.Sides.{Batch}
use Rattle.paraid_image.specs.Batches.{names_disk}

-- the least disk of the first `n` of which this holds
pub record IsLeastDisk (is : ℕ → Bool) (n d : ℕ) : Type 0 where
  pub below : d < n
  pub holds : is d ≡ true
  pub least : (e : ℕ) → e < d → is e ≡ false

-- none of the first so many disks is so
abbrev pub IsNone : (ℕ → Bool) → ℕ → Type 0
IsNone is n = (d : ℕ) → d < n → is d ≡ false

-- whether there is no such slot, or a disk is there that is not gone and has fewer blocks than
-- needed
unfoldable pub is_small : ℕ → (ℕ → Slot) → Meta → ℕ → Bool
is_small slots slot m d = not (nat_lt d slots)
    || (is_present (slot d).power &&
    (not (is_gone m.out d) && nat_lt (slot d).size (disk_size m.setup.geometry)))

-- whether the meta or its batch asks a disk to spin: it is not out, and is below the gear or has a
-- target; or it is being rebuilt
unfoldable pub must_spin : Meta → Batch → ℕ → Bool
must_spin m batch d =
    is_fresh m.out d ||
    (not (is_out (named_out m.out) d) && (nat_lt d m.gear || names_disk batch d))

-- whether a disk is parked that is to spin
unfoldable pub is_asleep : (ℕ → Slot) → Meta → Batch → ℕ → Bool
is_asleep slot m batch d = is_parked (slot d).power && must_spin m batch d

-- whether a slot is absent and not named out
unfoldable pub is_lacking : (ℕ → Slot) → Meta → ℕ → Bool
is_lacking slot m d = not (is_present (slot d).power) && not (is_out (named_out m.out) d)

-- Two disks are missing: the first is the one that is named out, or else the least that is lacking,
-- and the second is the least other one that is lacking.
pub record AreMissing (slot : ℕ → Slot) (m : Meta) (two : Two) : Type 0 where
  pub first : (named_out m.out ≡ Some two.first) ⊎ ((named_out m.out ≡ None)
      × IsLeastDisk (is_lacking slot m) m.setup.geometry.disks two.first)
  pub second : two.second < m.setup.geometry.disks
  pub lacking : is_lacking slot m two.second ≡ true
  pub apart : two.first < two.second ⊎ (named_out m.out ≡ Some two.first)
  pub least : (e : ℕ) → e < two.second → is_lacking slot m e ≡ true → e ≡ two.first
