-- How the XOR of a row changes with one member
use Rattle.std.specs.Prelude.{◌≡◌, ℕ, refl, ◌<◌, ◌≢◌, ◌+◌, ◌==◌, ◌⊎◌, if◌then◌else◌}
use Rattle.paraid_base.specs.declared.block.Block.{Block}
use Rattle.std.proofs.Common.{arith, ap, ◌∙◌, sym, zero, suc, inl, inr}
use Rattle.std.proofs.lemmas.Bool.{cases_eq}
use Rattle.std.proofs.lemmas.Bool.Decides.{nat_tests}
use Rattle.paraid_base.proofs.XorLemmas.{xor_cancel, xor_middle, xor_self, xor_turn, xor_upto_more, xor_upto_none, xor_zero, xor_zero_right}
use Rattle.paraid_base.specs.Sums.{without, xor_upto}
use Rattle.paraid_base.specs.Xor.{xor, zero_block}

-- rows that agree have one XOR
pub xor_upto_same : (f g : ℕ → Block) (n : ℕ) → ((d : ℕ) → d < n → f d ≡ g d) → xor_upto f n ≡ xor_upto g n
unfolding xor_upto
xor_upto_same f g zero h = refl
xor_upto_same f g (suc n) h = let e = xor_upto_same f g n (λ d l. h d (omega arith)) in let k = h n (omega arith) in cc

-- one member changes: the XOR changes by the old and the new
pub xor_upto_change : (f g : ℕ → Block) (i n : ℕ) → i < n → ((d : ℕ) → d < n → d ≢ i → g d ≡ f d) → xor_upto g n ≡ xor (xor_upto f n) (xor (f i) (g i))
unfolding xor_upto
xor_upto_change f g i zero l h = absurd (omega arith)
xor_upto_change f g i (suc n) l h =
    elim (cases_eq i n) [
      | inl e ↦
          let same = xor_upto_same g f n (λ d k. h d (omega arith) (omega arith)) in
          rw (e, same) (sym (xor_middle (xor_upto f n) (f n) (g n)))
      | inr ne ↦
          let before = xor_upto_change f g i n (omega arith) (λ d k. h d (omega arith)) in
          let last = h n (omega arith) (omega arith) in
          rw (before, last) (xor_turn (xor_upto f n) (xor (f i) (g i)) (f n))
    ]

pub without_other : (f : ℕ → Block) (i d : ℕ) → d ≢ i → without f i d ≡ f d
without_other f i d ne = grind (arith, nat_tests)

pub without_same : (f : ℕ → Block) (i : ℕ) → without f i i ≡ zero_block
without_same f i = grind (arith, nat_tests)

-- a lost member is the XOR of the others
pub lost_member : (f : ℕ → Block) (i n : ℕ) → i < n → xor_upto f n ≡ zero_block → f i ≡ xor_upto (without f i) n
lost_member f i n l e =
    let c = xor_upto_change f (without f i) i n l (λ d k ne. without_other f i d ne) in
    sym (c ∙ ap (λ z. xor z (xor (f i) (without f i i))) e ∙ ap (λ z. xor zero_block (xor (f i) z)) (without_same f i) ∙ xor_zero _ ∙ xor_zero_right (f i))

-- with two members left out, the others of such a row sum up to the two
pub lost_members : (f : ℕ → Block) (i j n : ℕ) → i < n → j < n → i ≢ j → xor_upto f n ≡ zero_block → xor_upto (without (without f i) j) n ≡ xor (f i) (f j)
lost_members f i j n li lj ne e =
    let c = xor_upto_change (without f i) (without (without f i) j) j n lj (λ d k m. without_other (without f i) j d m) in
    c ∙ ap (λ z. xor z (xor (without f i j) (without (without f i) j j))) (sym (lost_member f i n li e))
    ∙ ap (λ z. xor (f i) (xor (without f i j) z)) (without_same (without f i) j)
    ∙ ap (xor (f i)) (xor_zero_right (without f i j) ∙ without_other f i j (λ q. ne (sym q)))

-- the same, from what the loop over the others reads
pub whole_from_others : (f : ℕ → Block) (i n : ℕ) → i < n → xor_upto f n ≡ xor (xor_upto (without f i) n) (f i)
whole_from_others f i n l =
    let c = xor_upto_change (without f i) f i n l (λ d k ne. sym (without_other f i d ne)) in
    c ∙ ap (λ z. xor (xor_upto (without f i) n) (xor z (f i))) (without_same f i) ∙ ap (xor (xor_upto (without f i) n)) (xor_zero (f i))

-- replacing a cell and correcting the parity keeps the sum
pub parity_kept : (f g : ℕ → Block) (i p n : ℕ) → i < n → p < n → i ≢ p
    → ((d : ℕ) → d < n → d ≢ i → d ≢ p → g d ≡ f d)
    → g p ≡ xor (f p) (xor (f i) (g i))
    → xor_upto f n ≡ zero_block → xor_upto g n ≡ zero_block
parity_kept f g i p n li lp ne others par e =
    let h : ℕ → Block = λ d. if d == p then f p else g d in
    let hp : h p ≡ f p = grind (arith, nat_tests) in
    let hi : h i ≡ g i = grind (arith, nat_tests) in
    let first = xor_upto_change f h i n li (λ d k m. elim (cases_eq d p) [ inl q ↦ rw q hp | inr q ↦ (let t : h d ≡ g d = grind (arith, nat_tests) in t ∙ others d k m q) ]) in
    let second = xor_upto_change h g p n lp (λ d k m. let t : h d ≡ g d = grind (arith, nat_tests) in sym t) in
    let change : Block = xor (f i) (g i) in
    second ∙ rw (first, hi, hp, par, e) (ap (λ z. xor z (xor (f p) (xor (f p) change))) (xor_zero change) ∙ ap (xor change) (xor_cancel (f p) change) ∙ xor_self change)

-- the steps of a loop over the others
pub others_none : (f : ℕ → Block) (i : ℕ) → zero_block ≡ xor_upto (without f i) 0
others_none f i = sym (xor_upto_none (without f i))

pub others_more : (f : ℕ → Block) (i d : ℕ) → d ≢ i → xor (xor_upto (without f i) d) (f d) ≡ xor_upto (without f i) (d + 1)
others_more f i d ne = sym (xor_upto_more (without f i) d ∙ ap (xor (xor_upto (without f i) d)) (without_other f i d ne))

pub others_skip : (f : ℕ → Block) (i d : ℕ) → d ≡ i → xor_upto (without f i) d ≡ xor_upto (without f i) (d + 1)
others_skip f i d e = sym (xor_upto_more (without f i) d ∙ ap (xor (xor_upto (without f i) d)) (rw e (without_same f i)) ∙ xor_zero_right _)

-- one more of the others is read and added
pub others_read : (f : ℕ → Block) (i d : ℕ) (sum part after : Block) → d ≢ i → sum ≡ xor_upto (without f i) d → part ≡ f d → after ≡ xor sum part → after ≡ xor_upto (without f i) (d + 1)
others_read f i d sum part after ne s p a = a ∙ rw (s, p) (others_more f i d ne)

-- the same where two are left out
pub two_skip : (f : ℕ → Block) (i j d : ℕ) → (d ≡ i) ⊎ (d ≡ j) → xor_upto (without (without f i) j) d ≡ xor_upto (without (without f i) j) (d + 1)
two_skip f i j d which =
    let none : without (without f i) j d ≡ zero_block = elim which [ inl e ↦ grind (arith, nat_tests) | inr e ↦ grind (arith, nat_tests) ] in
    sym (xor_upto_more (without (without f i) j) d ∙ ap (xor (xor_upto (without (without f i) j) d)) none ∙ xor_zero_right _)

pub two_read : (f : ℕ → Block) (i j d : ℕ) (sum part after : Block) → d ≢ i → d ≢ j → sum ≡ xor_upto (without (without f i) j) d → part ≡ f d → after ≡ xor sum part
    → after ≡ xor_upto (without (without f i) j) (d + 1)
two_read f i j d sum part after ni nj s p a = others_read (without f i) j d sum part after nj s (p ∙ sym (without_other f i d ni)) a

-- the others are the same: their XOR is the same
pub others_same : (f g : ℕ → Block) (i n : ℕ) → ((d : ℕ) → d < n → d ≢ i → f d ≡ g d) → xor_upto (without f i) n ≡ xor_upto (without g i) n
others_same f g i n h = xor_upto_same (without f i) (without g i) n (λ d l.
    elim (cases_eq d i) [
      | inl e ↦ rw e (without_same f i ∙ sym (without_same g i))
      | inr ne ↦ without_other f i d ne ∙ h d l ne ∙ sym (without_other g i d ne)
    ])
