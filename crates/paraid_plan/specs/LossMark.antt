-- What the mark of a lost disk asks of the disks.
use Rattle.std.specs.Prelude.{◌≡◌, ◌≢◌, ℕ, ◌*◌, ◌-◌, ◌<◌, Some}
use Rattle.paraid_image.specs.Sound.{IsWellKept}
use Rattle.paraid_rack.specs.declared.call.Power.{Power}
use Rattle.paraid_rack.specs.declared.call.Power.TheVariants.{Parked}
use Rattle.paraid_record.specs.declared.meta.Meta.{Meta}
use Rattle.paraid_record.specs.Range.{IsInRange}
use Rattle.paraid_image.specs.Content.{blocks_of, view_by}
use Rattle.paraid_image.specs.Out.{named_out, out_disk}
use Rattle.paraid_image.specs.Standing.{Contents}
use Rattle.paraid_image.specs.Mark.{meta_after_loss}
use Rattle.paraid_base.specs.Regions.{array_blocks}

-- Disk `d` is lost, whatever is left of it, and no other disk was out.
pub record IsLostDisk (m : Meta) (power power_now : ℕ → Power)
    (size size_now : ℕ → ℕ) (block block_now : Contents) (d : ℕ) : Type 0 where
  pub alone : (e : ℕ) → named_out m.out ≡ Some e → e ≡ d
  pub powers : (e : ℕ) → e ≢ d → power_now e ≡ power e
  pub sizes : (e : ℕ) → e ≢ d → size_now e ≡ size e
  pub blocks : (e p : ℕ) → e ≢ d → block_now e p ≡ block e p
  pub log_disk : d < 2 → power_now d ≢ Parked

-- the law that the mark of a lost disk keeps the disks well
abbrev pub LostKeeps : Type 0
LostKeeps = (slots : ℕ)
    (power power_now : ℕ → Power) (size size_now : ℕ → ℕ) (m : Meta) (block block_now : Contents)
    (d : ℕ) → IsInRange m → IsInRange (meta_after_loss m d)
    → out_disk power m ≡ named_out m.out → IsWellKept slots power size (view_by m power block)
    → IsLostDisk m power power_now size size_now block block_now d
    → IsWellKept slots power_now size_now (view_by (meta_after_loss m d) power_now block_now)
    × ((b : ℕ) → b < array_blocks m.setup.geometry → blocks_of
    (view_by (meta_after_loss m d) power_now block_now) b ≡ blocks_of (view_by m power block) b)
