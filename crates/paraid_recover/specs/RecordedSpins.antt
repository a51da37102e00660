-- The spin-ups that a meta has recorded, while the disks are powered by it.
use Rattle.std.specs.Prelude.{◌≡◌, ◌≢◌, ℕ, ◌<◌, ◌≤◌, slice_index, Bool, Some}
use Rattle.paraid_rack.specs.declared.call.Call.{Call}
use Rattle.paraid_rack.specs.declared.call.Call.TheVariants.{SpinUp}
use Rattle.paraid_rack.specs.Disks.{Disks, IsPresent}
use Rattle.paraid_record.specs.declared.meta.Meta.{Meta}
use Rattle.paraid_image.specs.Looked.{IsLooked}
use Rattle.paraid_image.specs.Out.{named_out}
use Rattle.paraid_image.specs.Sides.{LogState}
use Rattle.paraid_image.specs.Spins.{made_spin_ups}
use Rattle.paraid_image.specs.Standing.{Stands}
use Rattle.paraid_session.specs.Watch.{Bounds, IsServing, IsWithinBounds, Watch}

-- while one disk at most is down, this meta stands in each image that is looked at
abbrev pub OnlyStands : Meta → Watch → Type 0
OnlyStands m w = IsServing w.down
    → (x : ℕ) (i : Disks) (said : LogState) → IsLooked w.disks i → Stands i x said → said.meta ≡ m

-- while one disk at most is down, a disk that is spun up has a spin-up recorded
abbrev pub HasRecord : Meta → Watch → Call → Type 0
HasRecord m w c = IsServing w.down
    → (d : ℕ) (done : Bool) → c ≡ SpinUp d done → 1 ≤ slice_index m.spins d

-- so the spin-ups of each disk that is there and not named out are recorded
abbrev pub AreSpinUpsRecorded : Meta → Watch → Type 0
AreSpinUpsRecorded m w = IsServing w.down → (d : ℕ) → d < m.setup.geometry.disks
    → IsPresent w.disks d → named_out m.out ≢ Some d → w.spun d ≤ made_spin_ups m w.disks.power d

-- while one disk at most is down, what stands in each image that is looked at is within the bounds
abbrev pub StaysWithin : Bounds → Watch → Type 0
StaysWithin b w = IsServing w.down → (x : ℕ) (i : Disks) (said : LogState)
    → IsLooked w.disks i → Stands i x said → IsWithinBounds b w.spun i said.meta

-- The meta `m` that stands in image `i` is within the bounds, where these spin-ups were made, and
-- the disks that are there have the power that they have in `s`.
pub record IsWithinBoundsAt (b : Bounds) (spun : ℕ → ℕ) (s i : Disks) (m : Meta) : Type 0 where
  pub same_setup : m.setup ≡ b.setup
  pub in_time : m.epoch ≤ b.epoch
  pub counted_ticks : m.ticks ≤ b.ticks
  pub recorded : (d : ℕ) → d < b.setup.geometry.disks
      → IsPresent i d → named_out m.out ≢ Some d → spun d ≤ made_spin_ups m s.power d

-- while one disk at most is down, each meta that stands in what a stop may leave is within the
-- bounds, where these spin-ups were made
abbrev pub StaysWithinAt : Bounds → (ℕ → ℕ) → Disks → Watch → Type 0
StaysWithinAt b spun s w = IsServing w.down → (x : ℕ) (i : Disks) (said : LogState)
    → IsLooked w.disks i → Stands i x said → IsWithinBoundsAt b spun s i said.meta
