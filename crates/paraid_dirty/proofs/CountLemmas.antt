-- The dirty cells of some disks are counted word by word
use Rattle.std.specs.Prelude.{◌≡◌, ℕ, ◌+◌, ◌-◌, ◌*◌, ◌/◌, ◌%◌, ◌^◌, ◌<◌, ◌≤◌, ◌==◌, ◌&&◌, nat_le, nat_lt, Bool, List, length, get_or, if◌then◌else◌, refl}
use Rattle.std.proofs.Common.{arith, ap, sym, ◌∙◌, zero, suc, lit≤}
use Rattle.std.specs.Int.{bit_at}
use Rattle.std.specs.Int.Count.{ones}
use Rattle.std.proofs.lemmas.Bool.Decides.{nat_tests}
use Rattle.std.proofs.Math.Nat.{pow-le-pow_right}
use Rattle.std.proofs.lemmas.Nat.{and_le_r, ones-le, pow_pos}
use Rattle.std.proofs.lemmas.Nat.Bits.{bit_at-lt}
use Rattle.paraid_base.specs.Sums.{sum_before}
use Rattle.paraid_dirty.specs.Bits.{bit_in, on_disks}
use Rattle.paraid_dirty.specs.Table.{cell_count, dirty_count, is_dirty, row_count, rows_of, IsDirtyTable}
use Rattle.paraid_dirty.proofs.MaskLemmas.{ones_bits, sum_before_same}
use Rattle.paraid_dirty.proofs.SearchLemmas.{masked, on_clear, on_masked}
use Rattle.paraid_dirty.proofs.TableLemmas.{is_dirty-bit}

-- 1 where the bit at `p` is set and of one of the disks
abbrev pub flat : List ℕ → ℕ → ℕ → ℕ → ℕ
flat words lo hi p = if on_disks lo hi (bit_in words) p then 1 else 0

sum_split : (f : ℕ → ℕ) (a b : ℕ) → sum_before f (a + b) ≡ sum_before f a + sum_before (λ d. f (a + d)) b
unfolding sum_before
sum_split f a zero =
    let e : a + 0 ≡ a = omega arith in
    let s = ap (sum_before f) e in
    omega (arith, s)
sum_split f a (suc b) =
    let e : a + suc b ≡ suc (a + b) = omega arith in
    let s = ap (sum_before f) e in
    let r = sum_split f a b in
    omega (arith, s, r)

sum_zero : (f : ℕ → ℕ) (n : ℕ) → ((d : ℕ) → d < n → f d ≡ 0) → sum_before f n ≡ 0
unfolding sum_before
sum_zero f zero none = refl
sum_zero f (suc n) none =
    let before = sum_zero f n (λ d low. none d (omega arith)) in
    let here = none n (omega arith) in
    omega arith

same_cell : (lo hi m d : ℕ) (b c : Bool) → m ≡ d → d < hi → b ≡ c → ◌≡◌ {A = ℕ} (if (nat_le lo m && nat_lt m hi) && b then 1 else 0) (if nat_le lo d && c then 1 else 0)
same_cell lo hi m d b c same low is = grind (arith, nat_tests)

past_disks : (lo hi m : ℕ) (b : Bool) → hi ≤ m → ◌≡◌ {A = ℕ} (if (nat_le lo m && nat_lt m hi) && b then 1 else 0) 0
past_disks lo hi m b past = grind (arith, nat_tests)

one_bit : (b : ℕ) (c : Bool) → b < 2 → (b == 1) ≡ c → b ≡ (if c then 1 else 0)
one_bit b c small is = grind (arith, nat_tests)

row_flat : (words marks : List ℕ) (rows lo hi r : ℕ) → IsDirtyTable words marks rows → hi ≤ 8
    → sum_before (λ d. flat words lo hi (8 * r + d)) 8 ≡ row_count (is_dirty (rows_of words rows)) lo hi r
row_flat words marks rows lo hi r table high =
    let g : ℕ → ℕ = λ d. flat words lo hi (8 * r + d) in
    let cells = cell_count (is_dirty (rows_of words rows)) lo r in
    let width : 8 ≡ hi + (8 - hi) = omega arith in
    let split = ap (sum_before g) width ∙ sum_split g hi (8 - hi) in
    let low = sum_before_same g cells hi (λ d under.
    let place : (8 * r + d) % 8 ≡ d = omega arith in
    same_cell lo hi ((8 * r + d) % 8) d (bit_in words (8 * r + d)) (is_dirty (rows_of words rows) r d) place under
    (sym (is_dirty-bit words marks rows r d table (omega arith)))) in
    let rest = sum_zero (λ d. g (hi + d)) (8 - hi) (λ d under.
    let place : (8 * r + (hi + d)) % 8 ≡ hi + d = omega arith in
    past_disks lo hi ((8 * r + (hi + d)) % 8) (bit_in words (8 * r + (hi + d))) (omega arith)) in
    omega (arith, split, low, rest)

rows_flat : (words marks : List ℕ) (rows lo hi n : ℕ) → IsDirtyTable words marks rows → hi ≤ 8
    → sum_before (flat words lo hi) (8 * n) ≡ dirty_count (is_dirty (rows_of words rows)) n lo hi
unfolding sum_before
rows_flat words marks rows lo hi zero table high = refl
rows_flat words marks rows lo hi (suc n) table high =
    let e : 8 * suc n ≡ 8 * n + 8 = omega arith in
    let s = ap (sum_before (flat words lo hi)) e ∙ sum_split (flat words lo hi) (8 * n) 8 in
    let before = rows_flat words marks rows lo hi n table high in
    let here = row_flat words marks rows lo hi n table high in
    omega (arith, s, before, here)

-- all bits counted are the dirty cells
pub all_counted : (words marks : List ℕ) (rows lo hi : ℕ) → IsDirtyTable words marks rows → hi ≤ 8
    → sum_before (flat words lo hi) (64 * length words) ≡ dirty_count (is_dirty (rows_of words rows)) rows lo hi
all_counted words marks rows lo hi table high =
    let room = table.room in
    let width : 64 * length words ≡ 8 * rows + (64 * length words - 8 * rows) = omega arith in
    let split = ap (sum_before (flat words lo hi)) width ∙ sum_split (flat words lo hi) (8 * rows) (64 * length words - 8 * rows) in
    let rest = sum_zero (λ d. flat words lo hi (8 * rows + d)) (64 * length words - 8 * rows)
    (λ d under. ap (λ (b : Bool). if b then 1 else 0) (on_clear words lo hi (8 * rows + d) (table.unused (8 * rows + d) (omega arith)))) in
    omega (arith, split, rest, rows_flat words marks rows lo hi rows table high)

masked_fits : (words : List ℕ) (at lo hi : ℕ) → hi ≤ 8 → masked words at lo hi < 2 ^ 64
masked_fits words at lo hi high =
    let top = pow-le-pow_right {n = 2} (lit≤ tt) high in
    let small : 2 ^ hi - 2 ^ lo < 2 ^ 8 = omega (arith, top, pow_pos lo, pow_pos hi) in
    let under = and_le_r (get_or words at 0) ((2 ^ hi - 2 ^ lo) * 72340172838076673) in
    omega (arith, under, small)

-- one more word is counted
pub word_counted : (words : List ℕ) (at lo hi : ℕ) → hi ≤ 8
    → sum_before (flat words lo hi) (64 * (at + 1)) ≡ sum_before (flat words lo hi) (64 * at) + ones (masked words at lo hi)
word_counted words at lo hi high =
    let m = masked words at lo hi in
    let e : 64 * (at + 1) ≡ 64 * at + 64 = omega arith in
    let s = ap (sum_before (flat words lo hi)) e ∙ sum_split (flat words lo hi) (64 * at) 64 in
    let bits = ones_bits 64 m (masked_fits words at lo hi high)
    ∙ sum_before_same (bit_at m) (λ d. flat words lo hi (64 * at + d)) 64 (λ d low.
    let word : (64 * at + d) / 64 ≡ at = omega arith in
    let place : (64 * at + d) % 64 ≡ d = omega arith in
    one_bit (bit_at m d) (on_disks lo hi (bit_in words) (64 * at + d)) (bit_at-lt m d)
    (ap (λ (n : ℕ). bit_at m n == 1) (sym place) ∙ on_masked words at lo hi (64 * at + d) high word)) in
    omega (arith, s, bits)

pub few_ones : (words : List ℕ) (at lo hi : ℕ) → hi ≤ 8 → ones (masked words at lo hi) ≤ 64
few_ones words at lo hi high = ones-le 64 (masked words at lo hi) (masked_fits words at lo hi high)
