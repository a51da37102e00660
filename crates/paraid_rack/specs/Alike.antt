-- Disks that agree in all that exists. A slot with no disk has no blocks, and a disk has none past
-- its size, so what is said of such a block means nothing.
use Rattle.std.specs.Prelude.{◌≡◌, ℕ, ◌<◌}
use Rattle.paraid_rack.specs.Disks.{Disks, IsPresent}

-- disk d is there and has place p
pub record HasPlace (s : Disks) (d p : ℕ) : Type 0 where
  pub present : IsPresent s d
  pub within : p < s.size d

-- the same power and size of each disk, and the same block and looseness at each place that exists
pub record IsAlike (i j : Disks) : Type 0 where
  pub power : (d : ℕ) → j.power d ≡ i.power d
  pub size : (d : ℕ) → j.size d ≡ i.size d
  pub block : (d p : ℕ) → HasPlace i d p → j.block d p ≡ i.block d p
  pub loose : (d p : ℕ) → HasPlace i d p → j.loose d p ≡ i.loose d p
