-- Where blocks and cells lie
use Rattle.std.specs.Prelude.{◌≡◌, ◌≢◌, ℕ, ◌<◌, ◌≤◌, ◌-◌, ◌*◌, ◌%◌}
use Rattle.std.proofs.Common.{arith}
use Rattle.std.proofs.lemmas.Nat.{div-mul-add, mod-mul-add, div-add-mod', div_below, mod_below, mul-add-lt}
use Rattle.paraid_base.proofs.SkipsLemmas.{index_among-skip, index_among_below, skip-index_among, skip_below, skip_other}
use Rattle.paraid_base.specs.Cells.{cell_block, home_disk, home_row, parity_disk}
use Rattle.paraid_base.specs.Skips.{index_among}

pub parity_disk_below : (n r : ℕ) → 0 < n → parity_disk n r < n
parity_disk_below n r l = omega arith

pub home_disk_below : (n b : ℕ) → 2 ≤ n → home_disk n b < n
home_disk_below n b l =
    let small = mod_below b (n - 1) (omega arith) in
    omega (arith, skip_below (parity_disk n (home_row n b)) (b % (n - 1)) (n - 1) small)

pub home_disk_other : (n b : ℕ) → home_disk n b ≢ parity_disk n (home_row n b)
home_disk_other n b = skip_other _ _

pub home_row_below : (n b rows : ℕ) → 2 ≤ n → b < rows * (n - 1) → home_row n b < rows
home_row_below n b rows l h = div_below b (n - 1) rows (omega arith) h

pub cell_block-home : (n b : ℕ) → cell_block n (home_row n b) (home_disk n b) ≡ b
cell_block-home n b = rw index_among-skip (div-add-mod' b (n - 1))

pub block_of_below : (n r d rows : ℕ) → 2 ≤ n → r < rows → d < n → d ≢ parity_disk n r → cell_block n r d < rows * (n - 1)
block_of_below n r d rows l h k ne =
    omega (arith, mul-add-lt r (n - 1) (index_among (parity_disk n r) d) rows h (index_among_below (parity_disk n r) d n ne (parity_disk_below n r (omega arith)) k))

pub home_row-block_of : (n r d : ℕ) → 2 ≤ n → d < n → d ≢ parity_disk n r → home_row n (cell_block n r d) ≡ r
home_row-block_of n r d l k ne =
    div-mul-add r (n - 1) (index_among (parity_disk n r) d) (index_among_below _ d n ne (parity_disk_below n r (omega arith)) k)

pub home_disk-block_of : (n r d : ℕ) → 2 ≤ n → d < n → d ≢ parity_disk n r → home_disk n (cell_block n r d) ≡ d
home_disk-block_of n r d l k ne =
    let row = home_row-block_of n r d l k ne in
    let index = mod-mul-add r (n - 1) (index_among (parity_disk n r) d) (index_among_below _ d n ne (parity_disk_below n r (omega arith)) k) in
    rw (row, index) (skip-index_among (parity_disk n r) d ne)
