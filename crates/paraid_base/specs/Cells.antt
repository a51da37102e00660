-- Where blocks and cells lie: `n` is the number of disks, `r` a row, `d` a disk, `b` a block of the
-- array. The parity's disk goes down by one from row to row.
use Rattle.std.specs.Prelude.{ℕ, ◌+◌, ◌-◌, ◌*◌, ◌/◌, ◌%◌}
use Rattle.paraid_base.specs.Skips.{index_among, skip}

-- the parity disk of a row, of `n` disks
abbrev pub parity_disk : ℕ → ℕ → ℕ
parity_disk n r = n - 1 - r % n

-- the row of block `b`
abbrev pub home_row : ℕ → ℕ → ℕ
home_row n b = b / (n - 1)

-- the disk of block `b`: that of its index in its row, counted past the parity disk
abbrev pub home_disk : ℕ → ℕ → ℕ
home_disk n b = skip (parity_disk n (home_row n b)) (b % (n - 1))

-- the block of a cell that holds no parity
abbrev pub cell_block : ℕ → ℕ → ℕ → ℕ
cell_block n r d = r * (n - 1) + index_among (parity_disk n r) d
