-- Where the copies of parked disks' cells lie
use Rattle.std.specs.Prelude.{◌≡◌, ◌≢◌, ℕ, ◌<◌, ◌≤◌, ◌+◌, ◌-◌, ◌*◌, ◌/◌, ◌%◌}
use Rattle.std.proofs.Common.{arith, ap, ◌∙◌, sym, refl}
use Rattle.std.proofs.lemmas.Nat.{div-mul-add, mod-mul-add, div-add-mod', div_below, mod_below, mul-add-lt, le-div}
use Rattle.paraid_base.proofs.SkipsLemmas.{skip_apart, skip_below, skip_other}
use Rattle.paraid_base.specs.Skips.{skip}
use Rattle.paraid_base.specs.Soft.{cell_number, disk_of_number, number_at, row_of_number, soft_disk, soft_index, soft_parity_disk, soft_stripe, stripe_count}

pub row_of_cell_number : (n a r d : ℕ) → a ≤ d → d < n → row_of_number n a (cell_number n a r d) ≡ r
row_of_cell_number n a r d l k = div-mul-add r (n - a) (d - a) (omega arith)

pub disk_of_cell_number : (n a r d : ℕ) → a ≤ d → d < n → disk_of_number n a (cell_number n a r d) ≡ d
disk_of_cell_number n a r d l k = let e = mod-mul-add r (n - a) (d - a) (omega arith) in rw e (omega arith)

pub cell_number_of : (n a c : ℕ) → a < n → cell_number n a (row_of_number n a c) (disk_of_number n a c) ≡ c
cell_number_of n a c l =
    let e : a + c % (n - a) - a ≡ c % (n - a) = omega arith in
    rw e (div-add-mod' c (n - a))

pub disk_of_number_below : (n a c : ℕ) → a < n → disk_of_number n a c < n
disk_of_number_below n a c l = let small = mod_below c (n - a) (omega arith) in omega arith

pub row_of_number_below : (n a c rows : ℕ) → a < n → c < rows * (n - a) → row_of_number n a c < rows
row_of_number_below n a c rows l h = div_below c (n - a) rows (omega arith) h

pub cell_number_below : (n a r d rows : ℕ) → a ≤ d → d < n → r < rows → cell_number n a r d < rows * (n - a)
cell_number_below n a r d rows l k h = omega (arith, mul-add-lt r (n - a) (d - a) rows h (omega arith))

-- a cell's number is found again at its stripe and index
pub number_at_cell : (n a r d : ℕ) → number_at a (soft_stripe n a r d) (soft_index n a r d) ≡ cell_number n a r d
number_at_cell n a r d = div-add-mod' (cell_number n a r d) (a - 1)

pub stripe_of_number_at : (a s i : ℕ) → i < a - 1 → number_at a s i / (a - 1) ≡ s
stripe_of_number_at a s i l = div-mul-add s (a - 1) i l

pub index_of_number_at : (a s i : ℕ) → i < a - 1 → number_at a s i % (a - 1) ≡ i
index_of_number_at a s i l = mod-mul-add s (a - 1) i l

-- `soft_of` undoes `cell_at`
pub soft_stripe_at : (n a s i : ℕ) → a < n → i < a - 1 → soft_stripe n a (row_of_number n a (number_at a s i)) (disk_of_number n a (number_at a s i)) ≡ s
soft_stripe_at n a s i l k = rw (cell_number_of n a (number_at a s i) l) (stripe_of_number_at a s i k)

pub soft_disk_at : (n a s i : ℕ) → a < n → i < a - 1 → soft_disk n a (row_of_number n a (number_at a s i)) (disk_of_number n a (number_at a s i)) ≡ skip (soft_parity_disk a s) i
soft_disk_at n a s i l k = rw (cell_number_of n a (number_at a s i) l, stripe_of_number_at a s i k, index_of_number_at a s i k) refl

-- a quotient of a smaller number is below the quotient that is rounded up
pub div_below_ceiling : (c t w : ℕ) → 0 < w → c < t → c / w < (t + (w - 1)) / w
div_below_ceiling c t w l h =
    let m = div-add-mod' c w in
    let b = le-div (c / w + 1) (t + (w - 1)) w l (omega arith) in
    omega arith

-- the stripe is below the count of stripes
pub soft_stripe_below : (n a r d rows : ℕ) → 2 ≤ a → a ≤ d → d < n → r < rows → soft_stripe n a r d < stripe_count n rows a
soft_stripe_below n a r d rows two l k h =
    let e : a - 1 - 1 ≡ a - 2 = omega arith in
    rw e at (div_below_ceiling (cell_number n a r d) (rows * (n - a)) (a - 1) (omega arith) (cell_number_below n a r d rows l k h))

pub soft_disk_below : (n a r d : ℕ) → 3 ≤ a → soft_disk n a r d < a
soft_disk_below n a r d l =
    let small = mod_below (cell_number n a r d) (a - 1) (omega arith) in
    omega (arith, skip_below (soft_parity_disk a (soft_stripe n a r d)) (soft_index n a r d) (a - 1) small)

-- two cells with one copy are one cell
pub soft_places_differ : (n a r d q e : ℕ) → a ≤ d → d < n → a ≤ e → e < n → soft_stripe n a r d ≡ soft_stripe n a q e → soft_disk n a r d ≡ soft_disk n a q e → (r ≡ q) × (d ≡ e)
soft_places_differ n a r d q e ld hd le he same_stripe same_disk =
    let parity : soft_parity_disk a (soft_stripe n a r d) ≡ soft_parity_disk a (soft_stripe n a q e) = ap (soft_parity_disk a) same_stripe in
    let same_index = skip_apart (soft_parity_disk a (soft_stripe n a q e)) (soft_index n a r d) (soft_index n a q e) (rw parity at same_disk) in
    let number : cell_number n a r d ≡ cell_number n a q e =
    sym (number_at_cell n a r d) ∙ ap (λ z. z * (a - 1) + soft_index n a r d) same_stripe ∙ ap (λ z. soft_stripe n a q e * (a - 1) + z) same_index ∙ number_at_cell n a q e in (
      sym (row_of_cell_number n a r d ld hd) ∙ ap (row_of_number n a) number ∙ row_of_cell_number n a q e le he,
      sym (disk_of_cell_number n a r d ld hd) ∙ ap (disk_of_number n a) number ∙ disk_of_cell_number n a q e le he,
    )

pub soft_disk_other : (n a r d : ℕ) → soft_disk n a r d ≢ soft_parity_disk a (soft_stripe n a r d)
soft_disk_other n a r d = skip_other _ _

pub soft_parity_disk_below : (a s : ℕ) → 1 ≤ a → soft_parity_disk a s < a
soft_parity_disk_below a s l = omega arith
