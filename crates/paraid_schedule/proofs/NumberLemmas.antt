-- That the numbers of rows and places fit, and what they are
use Rattle.std.proofs.Common.{◌≡◌, ℕ, ◌+◌, ◌*◌, ◌^◌, ◌<◌, ◌≤◌, ◌∙◌, ap, arith, Fits, w64}
use Rattle.std.proofs.lemmas.Nat.{mul-le}
use Rattle.paraid_base.specs.declared.geometry.Geometry.{Geometry}
use Rattle.paraid_schedule.specs.Bounds.{rank, gear_count, row_start, bound_count}

pub top_low : (d : ℕ) → d ≤ 8 → d + 1 ≤ 9
top_low d high = omega arith

-- how many gears there are, where there are `d` disks
module _ (d n t : ℕ) (high : d ≤ 8) (few : n ≤ d + 1) (low : t ≤ 1024) where
  periods_low : t * n ≤ 9216
  periods_low = mul-le t n 1024 9 low (omega arith)

  pub periods_fit : Fits w64 (t * n)
  periods_fit = let top = periods_low in omega (arith, top)

  module _ (k a : ℕ) (below : k ≤ a) (gear : a ≤ 9) where
    number_low : t * n + k ≤ 9225
    number_low = let top = periods_low in omega (arith, top, below, gear)

    pub number_fits : Fits w64 (t * n + k)
    number_fits = let top = number_low in omega (arith, top)

    module _ (ups : ℕ) (most : ups ≤ 256) where
      row_low : (t * n + k) * (ups + 1) ≤ 2370825
      row_low = mul-le (t * n + k) (ups + 1) 9225 257 number_low (omega arith)

      pub row_fits : Fits w64 ((t * n + k) * (ups + 1))
      row_fits = let top = row_low in omega (arith, top)

      pub row_small : (t * n + k) * (ups + 1) < 2 ^ 32
      row_small = let top = row_low in omega (arith, top)

-- how many bounds there are
module _ (d n periods : ℕ) (high : d ≤ 8) (few : n ≤ d + 1) (low : periods ≤ 1024) where
  counts_low : (periods + 1) * n ≤ 9225
  counts_low = mul-le (periods + 1) n 1025 9 (omega arith) (omega arith)

  pub counts_fit : Fits w64 ((periods + 1) * n)
  counts_fit = let top = counts_low in omega (arith, top)

  pub count_fits : (ups : ℕ) → ups ≤ 256 → Fits w64 ((periods + 1) * n * (ups + 1))
  count_fits ups most =
      let top = mul-le ((periods + 1) * n) (ups + 1) 9225 257 counts_low (omega arith) in
      omega (arith, top)

pub row_start-is : (g : Geometry) (ups t a gears below : ℕ) → gears ≡ rank g (g.disks + 1) → below ≡ rank g a → (t * gears + below) * (ups + 1) ≡ row_start g ups t a
unfolding row_start gear_count
row_start-is g ups t a gears below all some =
    ap (λ n. (t * n + below) * (ups + 1)) all ∙ ap (λ n. (t * rank g (g.disks + 1) + n) * (ups + 1)) some

pub bound_count-is : (g : Geometry) (ups periods gears : ℕ) → gears ≡ rank g (g.disks + 1) → (periods + 1) * gears * (ups + 1) ≡ bound_count g ups periods
unfolding bound_count gear_count
bound_count-is g ups periods gears all = ap (λ n. (periods + 1) * n * (ups + 1)) all
