-- That the number of a pad fits, as that of a cell does.
use Rattle.std.proofs.Common.{ℕ, Fits, arith, w8, w32, ◌+◌, ◌-◌, ◌*◌, ◌<◌, ◌≤◌}
use Rattle.std.proofs.lemmas.Nat.{mul-le}
use Rattle.paraid_base.specs.declared.geometry.Geometry.{Geometry}
use Rattle.paraid_base.specs.Regions.{IsGear}
use Rattle.paraid_base.specs.Soft.{stripe_count}
use Rattle.paraid_base.proofs.RegionsLemmas.{stripe_count_small}

cells_small : (n rows a : ℕ) → 3 ≤ a → n ≤ 8 → rows ≤ 65536 → rows * (n - a) ≤ 327680
cells_small n rows a low high many = let below : n - a ≤ 5 = omega arith in mul-le rows (n - a) 65536 5 many below

numbers_small : (n rows a s : ℕ) → 3 ≤ a → a ≤ n → n ≤ 8 → rows ≤ 65536 → s < stripe_count n rows a → s * (a - 1) ≤ 2800000
numbers_small n rows a s low high few many here =
    let count = stripe_count_small n rows a low high few many in
    let below : a - 1 ≤ 7 = omega arith in
    let stripe : s ≤ 400000 = omega (arith, here, count) in
    mul-le s (a - 1) 400000 7 stripe below

module _ (g : Geometry) (a : ℕ) (gear : IsGear g a) where
  pub cells_fit : Fits w32 (g.rows * (g.disks - a))
  cells_fit = let small = cells_small g.disks g.rows a (g.gears_low a gear) g.disks_high g.rows_high in omega (arith, small)

  module _ (s i : ℕ) (here : s < stripe_count g.disks g.rows a) (below : i < a - 1) where
    small : s * (a - 1) ≤ 2800000
    small = numbers_small g.disks g.rows a s (g.gears_low a gear) (g.gears_high a gear) g.disks_high g.rows_high here

    bound : a ≤ 8
    bound = let high = g.gears_high a gear in let few = g.disks_high in omega (arith, high, few)

    pub stripe_number_fits : Fits w32 (s * (a - 1))
    stripe_number_fits = let few = small in omega (arith, few)

    pub pad_number_fits : Fits w32 (s * (a - 1) + i)
    pad_number_fits = let few = small in let high = bound in omega (arith, few, high, below)

    pub pad_disk_fits : Fits w8 (i + 1)
    pad_disk_fits = let high = bound in omega (arith, high, below)
