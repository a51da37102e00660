-- Bounds on sums
use Rattle.std.proofs.Common.{◌≡◌, ℕ, ◌<◌, ◌≤◌, ◌+◌, ◌-◌, ◌*◌, ◌++◌, refl, suc, List, [], ◌∷◌, length, sum, sum_by, All, get_or, drop, slice_get, Some, Option, unwrap_or, arith, sym, ◌∙◌, ap, inl, inr}
use Rattle.std.proofs.lemmas.Bool.{cases_lt}
use Rattle.std.proofs.lemmas.List.{map-id, length-append, length-drop}
use Rattle.std.proofs.lemmas.List.Sums.{sum_by-le, sum_by-cons, sum-map, sum_by-append}
use Rattle.std.proofs.lemmas.Nat.{mul-le}
use Rattle.std.proofs.lemmas.List.Elements.{All-append}
use Rattle.circular_buffer.specs.Buffer.{keep_last}
use Rattle.paraid_gear.specs.Window.{sum_squares, AreSums, sample_most}

-- no sum of 1,024 numbers is above 1,024 times their bound
pub sum_by_small : (f : ℕ → ℕ) (top : ℕ) (xs : List ℕ) → length xs ≤ 1024 → All (λ x. f x ≤ top) xs → sum_by f xs ≤ 1024 * top
sum_by_small f top xs short each =
    omega (arith, sum_by-le f top xs each, mul-le (length xs) top 1024 top short (omega arith))

pub sum-sum_by : (xs : List ℕ) → sum xs ≡ sum_by (λ x. x) xs
sum-sum_by xs = sym (ap sum (map-id xs)) ∙ sum-map (λ x. x) xs

pub gap_products : (x d : ℕ) → 2 * (x * (x + d)) ≤ x * x + (x + d) * (x + d)
gap_products x d = omega arith

-- twice a product is at most the sum of the squares
pub two_products : (x y : ℕ) → 2 * (x * y) ≤ x * x + y * y
two_products x y =
    elim (cases_lt x y) [
      | inl low ↦ (let e : x + (y - x) ≡ y = omega arith in rw e at (gap_products x (y - x)))
      | inr high ↦
          let e : y + (x - y) ≡ x = omega arith in
          let turned : 2 * (y * x) ≤ y * y + x * x = rw e at (gap_products y (x - y)) in
          omega arith
    ]

pub times_sum_step : (x y n s q : ℕ) → 2 * (x * s) ≤ n * (x * x) + q → 2 * (x * (y + s)) ≤ suc n * (x * x) + (y * y + q)
times_sum_step x y n s q before = omega (arith, before, two_products x y)

pub times_sum : (x : ℕ) (ys : List ℕ) → 2 * (x * sum_by (λ y. y) ys) ≤ length ys * (x * x) + sum_squares ys
times_sum x [] = omega arith
times_sum x (y ∷ ys) =
    rw (sum_by-cons (λ z. z) y ys, sum_by-cons (λ z. z * z) y ys)
    (times_sum_step x y (length ys) (sum_by (λ z. z) ys) (sum_squares ys) (times_sum x ys))

pub square_step : (x n s q : ℕ) → s * s ≤ n * q → 2 * (x * s) ≤ n * (x * x) + q → (x + s) * (x + s) ≤ suc n * (x * x + q)
square_step x n s q before twice = omega (arith, before, twice)

-- the square of a sum is at most as many times the sum of the squares (Cauchy and Schwarz)
pub square_of_sum : (xs : List ℕ) → sum_by (λ x. x) xs * sum_by (λ x. x) xs ≤ length xs * sum_squares xs
square_of_sum [] = omega arith
square_of_sum (x ∷ xs) =
    rw (sum_by-cons (λ z. z) x xs, sum_by-cons (λ z. z * z) x xs)
    (square_step x (length xs) (sum_by (λ z. z) xs) (sum_squares xs) (square_of_sum xs) (times_sum x xs))

pub square_of_sum-le : (xs : List ℕ) (span : ℕ) → length xs ≤ span → sum xs * sum xs ≤ span * sum_squares xs
square_of_sum-le xs span short =
    let whole : sum xs * sum xs ≤ length xs * sum_squares xs = rw (sum-sum_by xs) (square_of_sum xs) in
    let more = mul-le (length xs) (sum_squares xs) span (sum_squares xs) short (omega arith) in
    omega arith

pub sums-none : AreSums [] 0 0
sums-none = record { small = λ k d inside. absurd (omega arith); total_is = refl; squares_is = refl }

-- the sums of at most 1,024 samples are small
pub sums-small : (xs : List ℕ) (total squares : ℕ) → AreSums xs total squares → length xs ≤ 1024 → (total ≤ 1024 * sample_most) × (squares ≤ 1024 * 1099511627776)
sums-small xs total squares sums short = (
  omega (arith, sums.total_is, sum-sum_by xs, sum_by_small (λ x. x) sample_most xs short sums.small),
  omega (
    arith,
    sums.squares_is,
    sum_by_small (λ x. x * x) 1099511627776 xs short
        (λ k d inside. let x = get_or xs k d in let low : x ≤ sample_most = sums.small k d inside in mul-le x x sample_most sample_most low low),
  ),
)

-- one more sample
pub sums-more : (xs : List ℕ) (x total squares : ℕ) → AreSums xs total squares → x ≤ sample_most → AreSums (xs ++ x ∷ []) (total + x) (squares + x * x)
sums-more xs x total squares sums low = record {
  small = All-append (λ y. y ≤ sample_most) xs (x ∷ []) sums.small (λ k d inside. elim (cases_lt k 1) [
    | inl first ↦ (let zero_k : k ≡ 0 = omega arith in rw zero_k low)
    | inr past ↦ absurd (omega arith)
  ]);
  total_is = omega (arith, sums.total_is, sum-sum_by xs, sum-sum_by (xs ++ x ∷ []), sum_by-append (λ y. y) xs (x ∷ []), sum_by-cons (λ y. y) x []);
  squares_is = omega (arith, sums.squares_is, sum_by-append (λ y. y * y) xs (x ∷ []), sum_by-cons (λ y. y * y) x []);
}

-- the oldest sample taken out
pub sums-fewer : (xs : List ℕ) (x total squares : ℕ) → AreSums xs total squares → slice_get xs 0 ≡ Some x
    → (x ≤ total) × (x * x ≤ squares) × AreSums (drop 1 xs) (total - x) (squares - x * x)
sums-fewer [] x total squares sums is = cc
sums-fewer (y ∷ ys) x total squares sums is =
    let same : y ≡ x = ap (λ (o : Option ℕ). unwrap_or o 0) is in
    let t = sum-sum_by (y ∷ ys) in
    let u = sum_by-cons (λ z. z) y ys in
    let v = sum_by-cons (λ z. z * z) y ys in
    let square : y * y ≡ x * x = ap (λ (n : ℕ). n * n) same in (
      omega (arith, sums.total_is, t, u, same),
      omega (arith, sums.squares_is, v, square),
      record {
        small = λ k d inside. sums.small (suc k) d (omega arith);
        total_is = omega (arith, sums.total_is, t, u, same, sum-sum_by ys);
        squares_is = omega (arith, sums.squares_is, v, square);
      },
    )

-- a ring with room keeps all
pub all_kept : (xs : List ℕ) (x capacity : ℕ) → length xs < 1024 → capacity ≡ 1024 → keep_last capacity (xs ++ x ∷ []) ≡ xs ++ x ∷ []
all_kept xs x capacity short is =
    let none : length (xs ++ x ∷ []) - capacity ≡ 0 = omega (arith, length-append xs (x ∷ [])) in
    ap (λ (n : ℕ). drop n (xs ++ x ∷ [])) none

pub few_kept : (n : ℕ) (xs : List ℕ) → length (keep_last n xs) ≤ n
few_kept n xs = omega (arith, length-drop (length xs - n) xs)
