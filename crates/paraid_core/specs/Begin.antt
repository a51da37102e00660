-- With what disks a core can begin.
use Rattle.std.specs.Prelude.{◌≡◌, ◌≢◌, ℕ, ◌<◌, ◌≤◌, ◌⊎◌, Option, true, false, [], Some}
use Rattle.paraid_base.specs.declared.state.Out.TheVariants.{Fresh}
use Rattle.paraid_base.specs.Regions.{disk_size}
use Rattle.paraid_base.specs.States.{gone_out}
use Rattle.paraid_image.specs.Out.{named_out}
use Rattle.paraid_image.specs.Power.{power_by_gear}
use Rattle.paraid_image.specs.Spot.{rising_to}
use Rattle.paraid_rack.specs.declared.call.Power.TheVariants.{Spinning}
use Rattle.paraid_rack.specs.Disks.{is_present}
use Rattle.paraid_rack.specs.Slots.{Slot}
use Rattle.paraid_record.specs.declared.meta.Meta.{Meta}
use Rattle.paraid_record.specs.Range.{IsInRange}
use Rattle.paraid_core.specs.CoreInvariant.{CanServe, AreSlotsReady}

-- Disk `d` is powered and large as this meta says, or out; a fresh one too, where it is there.
pub record IsDiskReady (s : Slot) (m : Meta) (d : ℕ) : Type 0 where
  pub there : named_out m.out ≢ Some d → is_present s.power ≡ true
  pub spins : (d < m.gear) ⊎ (d < rising_to m.phase) → named_out m.out ≢ Some d → s.power ≡ Spinning
  pub large : (d < m.gear) ⊎ (d < rising_to m.phase)
      → named_out m.out ≢ Some d → disk_size m.setup.geometry ≤ s.size
  pub fresh_spins : (u : ℕ) → m.out ≡ Fresh d u → is_present s.power ≡ true → s.power ≡ Spinning
  pub fresh_large : (u : ℕ)
      → m.out ≡ Fresh d u → is_present s.power ≡ true → disk_size m.setup.geometry ≤ s.size

-- A core over these slots, whose last commit gave this meta and with nothing staged, can be used.
pub record CanBegin (count : ℕ) (slot : ℕ → Slot) (m : Meta) : Type 0 where
  pub ready : AreSlotsReady count slot m.epoch m.setup.geometry.disks
      (named_out m.out) m m.setup.geometry.rows []
  pub serves : CanServe slot (named_out m.out) m

-- Each disk of the array is there and powered by the gear, and by a shift up under way, or it is
-- the one that is out; it is large enough; and the one that the last commit named out is out. A
-- fresh disk that is there spins.
pub record IsPoweredBy (count : ℕ) (slot : ℕ → Slot) (named : Option ℕ) (m : Meta) : Type 0 where
  pub in_range : IsInRange m
  pub enough : m.setup.geometry.disks ≤ count
  pub large : (d : ℕ) → d < m.setup.geometry.disks → is_present (slot d).power ≡ true
      → gone_out m.out ≢ Some d → disk_size m.setup.geometry ≤ (slot d).size
  pub absent : (d : ℕ)
      → d < m.setup.geometry.disks → is_present (slot d).power ≡ false → named_out m.out ≡ Some d
  pub stays : (d : ℕ) → named ≡ Some d → named_out m.out ≡ Some d
  pub powers : (d : ℕ) → d < m.setup.geometry.disks
      → named_out m.out ≢ Some d → (slot d).power ≡ power_by_gear m.gear m.phase d
  pub fresh_spins : (d u : ℕ)
      → m.out ≡ Fresh d u → is_present (slot d).power ≡ true → (slot d).power ≡ Spinning
