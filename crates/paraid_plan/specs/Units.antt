-- What a cell stages that goes back to its hard place.
use Rattle.std.specs.Prelude.{◌≡◌, ◌≢◌, ℕ, ◌-◌, ◌*◌, ◌/◌, ◌<◌, false, Some, ◌++◌}
use Rattle.paraid_base.specs.declared.block.Block.{Block}
use Rattle.paraid_dirty.specs.Table.{table_with_bit, ShowsBits}
use Rattle.paraid_image.specs.Sound.{IsWellKept}
use Rattle.paraid_plan.specs.WriteTargets.{hard_targets, overlaid_blocks, map_targets}
use Rattle.paraid_rack.specs.declared.call.Power.{Power}
use Rattle.paraid_record.specs.declared.meta.Meta.{Meta}
use Rattle.paraid_record.specs.Range.{IsInRange}
use Rattle.paraid_image.specs.Content.{blocks_of, view_by}
use Rattle.paraid_image.specs.Out.{named_out, out_disk}
use Rattle.paraid_image.specs.Sides.{Batch}
use Rattle.paraid_image.specs.Spot.{View, rising_to}
use Rattle.paraid_image.specs.Standing.{Contents}
use Rattle.paraid_image.specs.Value.{value}
use Rattle.paraid_base.specs.Regions.{array_blocks}

-- The disks are kept well, and hold the blocks that they held.
pub record IsSameHeld (slots : ℕ) (power : ℕ → Power) (size : ℕ → ℕ) (v w : View) : Type 0 where
  pub kept : IsWellKept slots power size w
  pub blocks : (b : ℕ) → b < array_blocks v.meta.setup.geometry
      → blocks_of w b ≡ blocks_of v b

-- a dirty cell goes back to its hard place, and its bit is cleared
abbrev pub clean_targets : View → ℕ → ℕ → Block → Batch
clean_targets v r d map = hard_targets v r d (value v r d) ++ map_targets v.meta (r / 512) map

-- the law that a cell brought up to date keeps the disks well
abbrev pub CleanKeeps : Type 0
CleanKeeps = (slots : ℕ)
    (power : ℕ → Power) (size : ℕ → ℕ) (m : Meta) (block : Contents) (r d : ℕ) (map : Block)
    → IsInRange m → out_disk power m ≡ named_out m.out
    → IsWellKept slots power size (view_by m power block) → r < m.setup.geometry.rows
    → d < m.setup.geometry.disks → d < rising_to m.phase → named_out m.out ≢ Some d
    → ShowsBits map (r / 512) (table_with_bit (view_by m power block).dirty r d false)
    → IsSameHeld slots power size (view_by m power block)
    (view_by m power (overlaid_blocks (clean_targets (view_by m power block) r d map) block))
