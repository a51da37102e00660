-- The way from a cell to its copy and back
use Rattle.std.proofs.Common.{◌≡◌, ℕ, ◌<◌, ◌≤◌, ◌-◌, ap, ◌∙◌}
use Rattle.paraid_base.specs.Soft.{cell_number, number_at, row_of_number, disk_of_number, soft_stripe, soft_index, soft_disk, soft_parity_disk}
use Rattle.paraid_base.specs.Skips.{index_among}
use Rattle.paraid_base.proofs.SkipsLemmas.{index_among-skip}
use Rattle.paraid_base.proofs.SoftLemmas.{cell_number_of, number_at_cell, row_of_cell_number, disk_of_cell_number, index_of_number_at}

-- the index of a cell's copy is found again from its disk
pub index_among-soft_disk : (n a r d : ℕ) → index_among (soft_parity_disk a (soft_stripe n a r d)) (soft_disk n a r d) ≡ soft_index n a r d
index_among-soft_disk n a r d = index_among-skip (soft_parity_disk a (soft_stripe n a r d)) (soft_index n a r d)

-- the number of a cell is found again from its stripe and the disk of its copy
pub number_at-copy : (n a r d : ℕ) → number_at a (soft_stripe n a r d) (index_among (soft_parity_disk a (soft_stripe n a r d)) (soft_disk n a r d)) ≡ cell_number n a r d
number_at-copy n a r d = ap (number_at a (soft_stripe n a r d)) (index_among-soft_disk n a r d) ∙ number_at_cell n a r d

pub row_of_number-copy : (n a r d : ℕ) → a ≤ d → d < n
    → row_of_number n a (number_at a (soft_stripe n a r d) (index_among (soft_parity_disk a (soft_stripe n a r d)) (soft_disk n a r d))) ≡ r
row_of_number-copy n a r d l k = ap (row_of_number n a) (number_at-copy n a r d) ∙ row_of_cell_number n a r d l k

pub disk_of_number-copy : (n a r d : ℕ) → a ≤ d → d < n
    → disk_of_number n a (number_at a (soft_stripe n a r d) (index_among (soft_parity_disk a (soft_stripe n a r d)) (soft_disk n a r d))) ≡ d
disk_of_number-copy n a r d l k = ap (disk_of_number n a) (number_at-copy n a r d) ∙ disk_of_cell_number n a r d l k

pub soft_index_at : (n a s i : ℕ) → a < n → i < a - 1 → soft_index n a (row_of_number n a (number_at a s i)) (disk_of_number n a (number_at a s i)) ≡ i
soft_index_at n a s i l k = rw (cell_number_of n a (number_at a s i) l) (index_of_number_at a s i k)
