-- The value of a cell, wherever it lives, where at most one disk is out.
use Rattle.std.specs.Prelude.{ℕ, ◌&&◌, if◌then◌else◌}
use Rattle.paraid_base.specs.declared.block.Block.{Block}
use Rattle.paraid_base.specs.declared.geometry.Geometry.{Geometry}
use Rattle.paraid_base.specs.Regions.{hard_place_of, soft_place_of}
use Rattle.paraid_base.specs.Soft.{soft_disk, soft_stripe}
use Rattle.paraid_base.specs.Sums.{without, xor_upto}
use Rattle.paraid_image.specs.Out.{is_out}
use Rattle.paraid_image.specs.Spot.{View, is_hard}
use Rattle.paraid_image.specs.Standing.{Contents}

-- the blocks of a stripe of the region of gear `a`, by disk
abbrev pub stripe : Geometry → Contents → ℕ → ℕ → ℕ → Block
stripe g block a s = λ e. block e (soft_place_of g a s)

-- the XOR of the blocks of a stripe but that of disk `d`
abbrev pub stripe_rest : Geometry → Contents → ℕ → ℕ → ℕ → Block
stripe_rest g block a s d = xor_upto (without (stripe g block a s) d) a

-- the copy of a cell, or where it is on the out disk the XOR of the rest of its stripe
unfoldable pub soft_value : View → ℕ → ℕ → Block
soft_value v r d =
    let g = v.meta.setup.geometry in
    let s = soft_stripe g.disks v.meta.gear r d in
    let copy = soft_disk g.disks v.meta.gear r d in
    if is_out v.out copy
    then stripe_rest g v.block v.meta.gear s copy else stripe g v.block v.meta.gear s copy

-- the value of a cell that is not the hard place of the out disk
unfoldable pub stored_value : View → ℕ → ℕ → Block
stored_value v r d =
    if is_hard v r d then v.block d (hard_place_of v.meta.setup.geometry r) else soft_value v r d

-- the XOR of the values of the row's other cells
unfoldable pub reconstructed_value : View → ℕ → ℕ → Block
reconstructed_value v r d = xor_upto (without (stored_value v r) d) v.meta.setup.geometry.disks

-- the value of the cell of row `r` and disk `d`
unfoldable pub value : View → ℕ → ℕ → Block
value v r d =
    if is_hard v r d && is_out v.out d then reconstructed_value v r d else stored_value v r d
