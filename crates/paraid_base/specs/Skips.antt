-- Numbering the disks other than one
use Rattle.std.specs.Prelude.{ℕ, ◌+◌, ◌-◌, if◌then◌else◌, nat_lt}

-- the disk of index `i` among the disks other than `p`
abbrev pub skip : ℕ → ℕ → ℕ
skip p i = if nat_lt i p then i else i + 1

-- the index of disk `d` among the disks other than `p`
abbrev pub index_among : ℕ → ℕ → ℕ
index_among p d = if nat_lt d p then d else d - 1
