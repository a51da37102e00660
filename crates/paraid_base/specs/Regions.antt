-- Where the parts of a disk of one geometry begin
use Rattle.std.specs.Prelude.{◌≡◌, ℕ, ◌+◌, ◌-◌, ◌*◌, ◌/◌, if◌then◌else◌, slice_index_or, true, false}
use Rattle.paraid_base.specs.declared.geometry.Geometry.{Geometry}
use Rattle.paraid_base.specs.Log.{map_block_place, map_start}
use Rattle.paraid_base.specs.Soft.{stripe_count}
use Rattle.paraid_base.specs.Sums.{sum_before}

-- a number is one of the gears
abbrev pub IsGear : Geometry → ℕ → Type 0
IsGear g a = slice_index_or g.gears a false ≡ true

-- how many stripes the region of `a` has; a number that is no gear has no region
abbrev pub region_size : Geometry → ℕ → ℕ
region_size g a = if slice_index_or g.gears a false then stripe_count g.disks g.rows a else 0

-- how many blocks the dirty map has: one byte for each row
abbrev pub map_count : Geometry → ℕ
map_count g = (g.rows + 511) / 512

-- how many blocks the array has: each row has one for each disk but that of its parity
abbrev pub array_blocks : Geometry → ℕ
array_blocks g = g.rows * (g.disks - 1)

-- the place of the map block of a row
abbrev pub map_place_of : Geometry → ℕ → ℕ
map_place_of g r = map_block_place g (r / 512)

-- the hard place of a row, the same on each disk
abbrev pub hard_place_of : Geometry → ℕ → ℕ
hard_place_of g r = map_start g + map_count g + r

-- where the region of a gear begins, after those of lower gears
abbrev pub soft_start : Geometry → ℕ → ℕ
soft_start g a = map_start g + map_count g + g.rows + sum_before (region_size g) a

-- the place of a stripe
abbrev pub soft_place_of : Geometry → ℕ → ℕ → ℕ
soft_place_of g a s = soft_start g a + s

-- how many blocks a disk needs
abbrev pub disk_size : Geometry → ℕ
disk_size g = soft_start g (g.disks + 1)
