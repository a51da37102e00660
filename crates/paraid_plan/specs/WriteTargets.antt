-- What the write of a cell stages, as a function of what is seen of the disks.
use Rattle.std.specs.Prelude.{ℕ, ◌+◌, ◌==◌, ◌&&◌, ◌||◌, nat_lt, nat_le, Bool, true, not, [], ◌∷◌, ◌++◌, if◌then◌else◌}
use Rattle.paraid_base.specs.declared.block.Block.{Block}
use Rattle.paraid_base.specs.declared.state.Out.{Out}
use Rattle.paraid_base.specs.declared.state.Out.TheVariants.{No, Gone, Fresh}
use Rattle.paraid_base.specs.Log.{map_block_place}
use Rattle.paraid_base.specs.Regions.{hard_place_of, soft_place_of}
use Rattle.paraid_base.specs.Soft.{soft_disk, soft_parity_disk, soft_stripe, stripe_count}
use Rattle.paraid_base.specs.Xor.{xor}
use Rattle.paraid_dirty.specs.Table.{table_with_bit}
use Rattle.paraid_record.specs.declared.meta.Meta.{Meta}
use Rattle.paraid_record.specs.Codes.{phase_to}
use Rattle.paraid_image.specs.Out.{is_out}
use Rattle.paraid_image.specs.Sides.{Batch}
use Rattle.paraid_image.specs.Spot.{View, is_hard, rising_to}
use Rattle.paraid_image.specs.Standing.{Contents, overlaid_block}
use Rattle.paraid_image.specs.Value.{stripe_rest}

-- whether the place of unit `u` of disk `d` is written: the disk is not out, or that unit of it is
-- rebuilt
abbrev pub is_written : Out → ℕ → ℕ → Bool
is_written No d u = true
is_written (Gone out) d u = not (d == out)
is_written (Fresh out rebuilt) d u = not (d == out) || nat_lt u rebuilt

-- the number of stripes of the current region
abbrev pub soft_count : Meta → ℕ
soft_count m = stripe_count m.setup.geometry.disks m.setup.geometry.rows m.gear

-- one target, or none
abbrev pub target_if : Bool → ℕ → ℕ → Block → Batch
target_if written d p b = if written then (record { disk = d; place = p }, b) ∷ [] else []

-- blocks with a batch laid over them
unfoldable pub overlaid_blocks : Batch → Contents → Contents
overlaid_blocks batch block d p = overlaid_block batch d p (block d p)

-- whether a write of the cell goes to its hard place, and the cell is clean then
unfoldable pub goes_hard : View → ℕ → ℕ → Bool
goes_hard v r d = is_hard v r d || (nat_lt d (rising_to v.meta.phase) && not (is_out v.out d))

-- the block of a stripe of the current region, or where its disk is out the XOR of the others
unfoldable pub stripe_block_now : View → ℕ → ℕ → Block
stripe_block_now v s e =
    if is_out v.out e then stripe_rest v.meta.setup.geometry v.block v.meta.gear s e
    else v.block e (soft_place_of v.meta.setup.geometry v.meta.gear s)

-- the block of a cell for its hard place, unless its unit is not rebuilt
abbrev pub hard_targets : View → ℕ → ℕ → Block → Batch
hard_targets v r d new =
    target_if (is_written v.meta.out d r) d (hard_place_of v.meta.setup.geometry r) new

-- the copy in the current region, and its stripe's parity
abbrev pub soft_targets : View → ℕ → ℕ → Block → Block → Batch
soft_targets v r d old new =
    let g = v.meta.setup.geometry in
    let s = soft_stripe g.disks v.meta.gear r d in
    let copy = soft_disk g.disks v.meta.gear r d in
    let parity = soft_parity_disk v.meta.gear s in
    let place = soft_place_of g v.meta.gear s in
    target_if (is_written v.meta.out copy (g.rows + s)) copy place new
    ++ target_if (is_written v.meta.out parity (g.rows + s)) parity place
    (xor (stripe_block_now v s parity) (xor old new))

-- whether a cell has its copy in a stripe that a shift has filled already
abbrev pub is_filled : Meta → ℕ → ℕ → Bool
is_filled m r d = nat_le (phase_to m.phase) d && nat_lt
    (soft_stripe m.setup.geometry.disks (phase_to m.phase) r d) m.fill

-- the copy in the region that is being filled, and its stripe's parity
abbrev pub fill_targets : View → ℕ → ℕ → Block → Block → Batch
fill_targets v r d old new =
    let g = v.meta.setup.geometry in
    let to = phase_to v.meta.phase in
    let s = soft_stripe g.disks to r d in
    let copy = soft_disk g.disks to r d in
    let parity = soft_parity_disk to s in
    let place = soft_place_of g to s in
    target_if (is_filled v.meta r d) copy place new
    ++ target_if (is_filled v.meta r d) parity place (xor (v.block parity place) (xor old new))

-- what the write of one cell stages, whose value was `old`
abbrev pub cell_targets : View → ℕ → ℕ → Block → Block → Batch
cell_targets v r d old new =
    (if goes_hard v r d then hard_targets v r d new else soft_targets v r d old new)
    ++ fill_targets v r d old new

-- whether what the write of a cell stages shows its new value: not where that goes to a hard place
-- which is not written
unfoldable pub needs_new : View → ℕ → ℕ → Bool
needs_new v r d = not (goes_hard v r d) || is_written v.meta.out d r || is_filled v.meta r d

-- whether it depends on the old value: where the parity of a copy's stripe is written
unfoldable pub needs_old : View → ℕ → ℕ → Bool
needs_old v r d =
    let g = v.meta.setup.geometry in
    let s = soft_stripe g.disks v.meta.gear r d in
    (not (goes_hard v r d) && is_written v.meta.out (soft_parity_disk v.meta.gear s) (g.rows + s))
    || is_filled v.meta r d

-- what is seen after it, but for the map of dirty cells
abbrev pub view_with_cell : View → ℕ → ℕ → Block → Block → View
view_with_cell v r d old new = record v {
  dirty = table_with_bit v.dirty r d (not (goes_hard v r d));
  block = overlaid_blocks (cell_targets v r d old new) v.block;
}

-- block `j` of the map of dirty cells, on each disk on which it is written
abbrev pub map_targets : Meta → ℕ → Block → Batch
map_targets m j b =
    target_if (is_written m.out 0 (m.setup.geometry.rows + soft_count m + j)) 0
    (map_block_place m.setup.geometry j) b
    ++ target_if (is_written m.out 1 (m.setup.geometry.rows + soft_count m + j)) 1
    (map_block_place m.setup.geometry j) b
