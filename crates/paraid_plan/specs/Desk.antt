-- What a plan has in view, and what it has staged.
use Rattle.std.specs.Prelude.{◌≡◌, ℕ, ◌+◌, ◌*◌, ◌<◌, Bool, true, not, [], ◌++◌, if◌then◌else◌}
use Rattle.paraid_base.specs.declared.block.Block.{Block}
use Rattle.paraid_base.specs.Regions.{hard_place_of, map_count, soft_place_of}
use Rattle.paraid_base.specs.Soft.{soft_disk, soft_parity_disk, soft_stripe}
use Rattle.paraid_dirty.specs.Table.{table_with_bit, ShowsBits}
use Rattle.paraid_plan.specs.WriteTargets.{cell_targets, goes_hard, is_written, overlaid_blocks, map_targets, target_if}
use Rattle.paraid_image.specs.Sound.{IsWellKept}
use Rattle.paraid_rack.specs.declared.call.Power.{Power}
use Rattle.paraid_record.specs.declared.meta.Meta.{Meta}
use Rattle.paraid_record.specs.Codes.{phase_to}
use Rattle.paraid_image.specs.Out.{named_out}
use Rattle.paraid_image.specs.Sides.{Batch}
use Rattle.paraid_image.specs.Spot.{View, map_bit, map_disk}
use Rattle.paraid_image.specs.Standing.{Contents}

-- the blocks with all that is staged, the dirty bits, and the targets of this plan in their order
pub record Desk : Type 0 where
  pub block : Contents
  pub dirty : ℕ → ℕ → Bool
  pub staged : Batch

-- a desk with these blocks staged
unfoldable pub with_targets : Desk → Batch → Desk
with_targets s batch =
    record { block = overlaid_blocks batch s.block; dirty = s.dirty; staged = s.staged ++ batch }

-- a desk with this dirty bit
unfoldable pub desk_with_bit : Desk → ℕ → ℕ → Bool → Desk
desk_with_bit s r d bit =
    record { block = s.block; dirty = table_with_bit s.dirty r d bit; staged = s.staged }

-- the view of a desk under a meta
abbrev pub sees : Meta → Desk → View
sees m s = record { meta = m; dirty = s.dirty; out = named_out m.out; block = s.block }

-- the targets of a cell in its place, where the block of the stripe's parity is this one
unfoldable pub place_targets : Meta → Bool → ℕ → ℕ → Block → Block → Batch
place_targets m hard r d new parity_block =
    let g = m.setup.geometry in
    let s = soft_stripe g.disks m.gear r d in
    let copy = soft_disk g.disks m.gear r d in
    let parity = soft_parity_disk m.gear s in
    let place = soft_place_of g m.gear s in
    if hard then target_if (is_written m.out d r) d (hard_place_of g r) new
    else target_if (is_written m.out copy (g.rows + s)) copy place new
    ++ target_if (is_written m.out parity (g.rows + s)) parity place parity_block

-- those of its copy in the region that is being filled
unfoldable pub copy_targets : Meta → Bool → ℕ → ℕ → Block → Block → Batch
copy_targets m filled r d new parity_block =
    let g = m.setup.geometry in
    let to = phase_to m.phase in
    let s = soft_stripe g.disks to r d in
    let place = soft_place_of g to s in
    target_if filled (soft_disk g.disks to r d) place new
    ++ target_if filled (soft_parity_disk to s) place parity_block

-- the desk after the write of a cell
unfoldable pub cell_desk : Meta → Desk → ℕ → ℕ → Block → Block → Desk
cell_desk m s r d old new = desk_with_bit
    (with_targets s (cell_targets (sees m s) r d old new)) r d (not (goes_hard (sees m s) r d))

-- what is staged for the map
pub record StagesMap (m : Meta) (before after : Desk) (j : ℕ) (staged : Bool) : Type 0 where
  pub map : Block
  pub shows : staged ≡ true → ShowsBits map j before.dirty
  pub is : after ≡ with_targets before (if staged then map_targets m j map else [])

-- What is in view is kept well, and the dirty bits are those of the map.
pub record IsKeptDesk
    (slots : ℕ) (power : ℕ → Power) (size : ℕ → ℕ) (m : Meta) (s : Desk) : Type 0 where
  pub shown : (q e : ℕ) → q < 512 * map_count m.setup.geometry
      → s.dirty q e ≡ map_bit m.setup.geometry (s.block (map_disk (named_out m.out))) q e
  pub kept : IsWellKept slots power size (sees m s)
