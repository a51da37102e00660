-- Where the copies of parked disks' cells lie: `n` is the number of disks, `a` the gear, `r` a row,
-- `d` the disk of the cell, `c` a cell's number, `s` a stripe of the gear, `i` an index in it.
use Rattle.std.specs.Prelude.{ℕ, ◌+◌, ◌-◌, ◌*◌, ◌/◌, ◌%◌}
use Rattle.paraid_base.specs.Cells.{parity_disk}
use Rattle.paraid_base.specs.Skips.{skip}

-- the number of cell `(r, d)` among the cells of disks `a` to `n - 1`
abbrev pub cell_number : ℕ → ℕ → ℕ → ℕ → ℕ
cell_number n a r d = r * (n - a) + (d - a)

-- the row of a cell number
abbrev pub row_of_number : ℕ → ℕ → ℕ → ℕ
row_of_number n a c = c / (n - a)

-- the disk of a cell number
abbrev pub disk_of_number : ℕ → ℕ → ℕ → ℕ
disk_of_number n a c = a + c % (n - a)

-- the stripe with the copy of a cell
abbrev pub soft_stripe : ℕ → ℕ → ℕ → ℕ → ℕ
soft_stripe n a r d = cell_number n a r d / (a - 1)

-- the index of the copy in its stripe
abbrev pub soft_index : ℕ → ℕ → ℕ → ℕ → ℕ
soft_index n a r d = cell_number n a r d % (a - 1)

-- the parity disk of a stripe, which goes down by one from stripe to stripe
abbrev pub soft_parity_disk : ℕ → ℕ → ℕ
soft_parity_disk a s = parity_disk a s

-- the disk with the copy of a cell
abbrev pub soft_disk : ℕ → ℕ → ℕ → ℕ → ℕ
soft_disk n a r d = skip (soft_parity_disk a (soft_stripe n a r d)) (soft_index n a r d)

-- the cell number at an index of a stripe
abbrev pub number_at : ℕ → ℕ → ℕ → ℕ
number_at a s i = s * (a - 1) + i

-- how many stripes region `a` has
abbrev pub stripe_count : ℕ → ℕ → ℕ → ℕ
stripe_count n rows a = (rows * (n - a) + (a - 2)) / (a - 1)
