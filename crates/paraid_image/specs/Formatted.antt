-- The disks of an array that has held no write.
use Rattle.std.specs.Prelude.{◌≡◌, ℕ, ◌<◌, ◌≤◌, false}
use Rattle.paraid_base.specs.declared.state.Out.TheVariants.{No}
use Rattle.paraid_base.specs.declared.state.Phase.TheVariants.{Steady}
use Rattle.paraid_base.specs.Log.{log_least}
use Rattle.paraid_base.specs.Regions.{disk_size}
use Rattle.paraid_base.specs.Xor.{zero_block}
use Rattle.paraid_rack.specs.declared.call.Power.TheVariants.{Spinning}
use Rattle.paraid_rack.specs.Disks.{Disks}
use Rattle.paraid_record.specs.declared.meta.Meta.{Meta}
use Rattle.paraid_record.specs.Meta.{meta_bytes}
use Rattle.paraid_record.specs.Range.{IsInRange}
use Rattle.paraid_image.specs.Sides.{is_open}

-- Every disk spins and is large enough. Both log disks say, by a closed gate, that the array is in
-- its highest gear and holds no write. No witness is open, all blocks past the log are zeros, and
-- nothing is loose.
pub record IsFormatted (slots : ℕ) (s : Disks) (m : Meta) : Type 0 where
  pub in_range : IsInRange m
  pub writes : m.writes ≡ 0
  pub gear : m.gear ≡ m.setup.geometry.disks
  pub phase : m.phase ≡ Steady
  pub out : m.out ≡ No
  pub enough : m.setup.geometry.disks ≤ slots
  pub spinning : (d : ℕ) → d < m.setup.geometry.disks → s.power d ≡ Spinning
  pub large : (d : ℕ) → d < m.setup.geometry.disks → disk_size m.setup.geometry ≤ s.size d
  pub closed : (x : ℕ) → x < 2 → is_open (s.block x 0) ≡ false
  pub meta : (x : ℕ) → x < 2 → (s.block x 1).bytes ≡ meta_bytes m
  pub no_witness : (x : ℕ) → x < 2 → is_open (s.block 2 x) ≡ false
  pub zeros : (d p : ℕ) → d < m.setup.geometry.disks
      → log_least ≤ p → p < disk_size m.setup.geometry → s.block d p ≡ zero_block
  pub synced : (d p : ℕ) → s.loose d p ≡ false
