-- Which label decides which array the images are of.
use Rattle.std.proofs.Common.{◌≡◌, ℕ, ◌<◌, ◌≤◌, ◌+◌, ◌⊎◌, Bool, true, false, ◌&&◌, bytes_eq, nat_lt, min, Option, None, Some, IfSome, refl, sym, ◌∙◌, ap, subst, arith, inl, inr, zero, suc}
use Rattle.std.proofs.lemmas.Bool.{cases_lt}
use Rattle.std.proofs.lemmas.Bool.Decides.{nat_tests}
use Rattle.std.proofs.lemmas.Slice.Eq.{bytes_eq-Decides}
use Rattle.paraid_base.proofs.PlacesLemmas.{sum_before_more, sum_before_none}
use Rattle.paraid_base.specs.Sums.{sum_before}
use Rattle.paraid_imgrack.specs.declared.label.Label.{Label}
use Rattle.paraid_imgrack.specs.Labels.{IsCommoner, IsDeciding, IsFirst, IsOfMost, IsOver, IsUndisputed, of_array, one_of_array}

sum_same : (f g : ℕ → ℕ) (n : ℕ) → ((d : ℕ) → d < n → f d ≡ g d) → sum_before f n ≡ sum_before g n
unfolding sum_before
sum_same f g zero h = refl
sum_same f g (suc n) h = let e = sum_same f g n (λ d l. h d (omega arith)) in let k = h n (omega arith) in cc

of_array_by : (labels at : ℕ → Option Label) → ((d : ℕ) → d < 8 → labels d ≡ at d) → (l : Label) → of_array labels l ≡ of_array at l
unfolding of_array
of_array_by labels at is l = sum_same (λ d. one_of_array l d (labels d)) (λ d. one_of_array l d (at d)) 8 (λ d below. ap (one_of_array l d) (is d below))

-- the images in the first slots that are of the array of a label
abbrev pub of_array_below : (ℕ → Option Label) → Label → ℕ → ℕ
of_array_below labels l n = sum_before (λ d. one_of_array l d (labels d)) n

pub of_array_none : (labels : ℕ → Option Label) (l : Label) → of_array_below labels l 0 ≡ 0
of_array_none labels l = sum_before_none (λ d. one_of_array l d (labels d))

pub of_array_more : (labels : ℕ → Option Label) (l : Label) (n : ℕ) → of_array_below labels l (n + 1) ≡ of_array_below labels l n + one_of_array l n (labels n)
of_array_more labels l n = sum_before_more (λ d. one_of_array l d (labels d)) n

pub of_array_whole : (labels : ℕ → Option Label) (l : Label) → of_array_below labels l 8 ≡ of_array labels l
unfolding of_array
of_array_whole labels l = refl

untrue : (b : Bool) → (b ≡ true → ⊥) → b ≡ false
untrue true not = absurd (not refl)
untrue false not = refl

neither : (b : Bool) → (b && false) ≡ false
neither true = refl
neither false = refl

pub one_of_array-yes : (l m : Label) (d : ℕ) (o : Option Label) → o ≡ Some m → d < l.disks → m.array ≡ l.array → 1 ≡ one_of_array l d o
one_of_array-yes l m d o is within same =
    let low : nat_lt d l.disks ≡ true = grind (arith, nat_tests) in
    rw (is, low, (bytes_eq-Decides m.array l.array).1 same) refl

pub one_of_array-other : (l m : Label) (d : ℕ) (o : Option Label) → o ≡ Some m → (m.array ≡ l.array → ⊥) → 0 ≡ one_of_array l d o
one_of_array-other l m d o is not =
    rw (is, untrue (bytes_eq m.array l.array) (λ same. not ((bytes_eq-Decides m.array l.array).0 same)), neither (nat_lt d l.disks)) refl

pub one_of_array-past : (l m : Label) (d : ℕ) (o : Option Label) → o ≡ Some m → (d < l.disks → ⊥) → 0 ≡ one_of_array l d o
one_of_array-past l m d o is past =
    let high : nat_lt d l.disks ≡ false = grind (arith, nat_tests) in
    rw (is, high) refl

pub one_of_array-most : (l : Label) (d : ℕ) (o : Option Label) → one_of_array l d o ≤ 1
one_of_array-most l d None = omega arith
one_of_array-most l d (Some m) = grind arith

-- one image more, counted in a byte
pub counted_next : (labels : ℕ → Option Label) (l : Label) (n count one result : ℕ) → result ≡ min (count + one) 255 → one ≡ one_of_array l n (labels n) → n < 8
    → count ≤ n → count ≡ of_array_below labels l n → (result ≤ n + 1) × (result ≡ of_array_below labels l (n + 1))
counted_next labels l n count one result is here below few so =
    let more : of_array_below labels l (n + 1) ≡ of_array_below labels l n + one_of_array l n (labels n) = of_array_more labels l n in
    let most : one ≤ 1 = rw here (one_of_array-most l n (labels n)) in
    let exact : result ≡ count + one = omega (arith, is, most, below, few) in
    (omega (arith, exact, most, few), exact ∙ ap (λ (k : ℕ). k + one) so ∙ ap (λ (k : ℕ). of_array_below labels l n + k) here ∙ sym more)

if_kept : {P Q : Label → Type 0} → (o : Option Label) → ((m : Label) → P m → Q m) → IfSome o P → IfSome o Q
if_kept None f so = tt
if_kept (Some m) f so = f m so

-- the most of the first slots, after a walk over them
pub record MostBelow (labels : ℕ → Option Label) (first l : Label) (n : ℕ) : Type 0 where
  pub low : of_array labels first ≤ of_array labels l
  pub most : (d : ℕ) → d < n → IfSome (labels d) (λ m. of_array labels m ≤ of_array labels l)
  pub place : (l ≡ first) ⊎ IsOver labels first l

pub MostBelow-none : (labels : ℕ → Option Label) (first : Label) → MostBelow labels first first 0
MostBelow-none labels first = record { low = omega arith; most = λ d below. absurd (omega (arith, below)); place = inl refl }

kept_next : (labels : ℕ → Option Label) (first most : Label) (n : ℕ) → IfSome (labels n) (λ l. of_array labels l ≤ of_array labels most) → MostBelow labels first most n → MostBelow labels first most (n + 1)
kept_next labels first most n at so = record {
  low = so.low;
  most = λ d below. elim (cases_lt d n) [
    | inl before ↦ so.most d before
    | inr past ↦ let is : d ≡ n = omega (arith, below, past) in subst (λ (k : ℕ). IfSome (labels k) (λ m. of_array labels m ≤ of_array labels most)) (sym is) at
  ];
  place = so.place;
}

over_next : (labels : ℕ → Option Label) (first most new : Label) (n : ℕ) → n < 8 → labels n ≡ Some new → of_array labels most < of_array labels new → MostBelow labels first most n → MostBelow labels first new (n + 1)
over_next labels first most new n low here more so = record {
  low = omega (arith, so.low, more);
  most = λ d below. elim (cases_lt d n) [
    | inl before ↦ if_kept (labels d) (λ m less. omega (arith, less, more)) (so.most d before)
    | inr past ↦ let is : d ≡ n = omega (arith, below, past) in
        subst (λ (o : Option Label). IfSome o (λ m. of_array labels m ≤ of_array labels new)) (sym here ∙ ap labels (sym is)) (omega arith)
  ];
  place = inr (record {
    slot = n;
    low = low;
    here = here;
    more = omega (arith, so.low, more);
    before = λ e before. if_kept (labels e) (λ m less. omega (arith, less, more)) (so.most e before);
  });
}

pub MostBelow-next : (labels : ℕ → Option Label) (first most new : Label) (n : ℕ) → n < 8 → IsCommoner labels most (labels n) new → MostBelow labels first most n → MostBelow labels first new (n + 1)
MostBelow-next labels first most new n low commoner so = elim commoner [
  | inl kept ↦ subst (λ (l : Label). MostBelow labels first l (n + 1)) (sym kept.0) (kept_next labels first most n kept.1 so)
  | inr over ↦ over_next labels first most new n low over.0 over.1 so
]

pub decided : (labels : ℕ → Option Label) (first : Label) → IsFirst labels first → IsUndisputed labels first → IsDeciding labels first
decided labels first is alone = record { first = first; is_first = is; rule = inl (alone, refl) }

pub decided_most : (labels : ℕ → Option Label) (first most : Label) (n : ℕ) → IsFirst labels first → (IsUndisputed labels first → ⊥) → 8 ≤ n → MostBelow labels first most n → IsDeciding labels most
decided_most labels first most n is not all so = record {
  first = first;
  is_first = is;
  rule = inr (not, record { most = λ d below. so.most d (omega (arith, below, all)); place = so.place });
}

-- beside equal labels the same one decides
module _ (labels at : ℕ → Option Label) (is : (d : ℕ) → d < 8 → labels d ≡ at d) where
  first_by : (l : Label) → IsFirst labels l → IsFirst at l
  first_by l so = record {
    slot = so.slot;
    low = so.low;
    here = sym (is so.slot so.low) ∙ so.here;
    within = so.within;
    before = λ e below. subst (λ (o : Option Label). IfSome o (λ m. m.disks ≤ e)) (is e (omega (arith, below, so.low))) (so.before e below);
  }

  undisputed_by : (l : Label) → IsUndisputed labels l → IsUndisputed at l
  undisputed_by l so d below within = subst (λ (o : Option Label). IfSome o (λ m. m.array ≡ l.array)) (is d below) (so d below within)

  undisputed_back : (l : Label) → IsUndisputed at l → IsUndisputed labels l
  undisputed_back l so d below within = subst (λ (o : Option Label). IfSome o (λ m. m.array ≡ l.array)) (sym (is d below)) (so d below within)

  over_by : (first l : Label) → IsOver labels first l → IsOver at first l
  over_by first l so = record {
    slot = so.slot;
    low = so.low;
    here = sym (is so.slot so.low) ∙ so.here;
    more = omega (arith, so.more, of_array_by labels at is first, of_array_by labels at is l);
    before = λ e below. subst (λ (o : Option Label). IfSome o (λ m. of_array at m < of_array at l)) (is e (omega (arith, below, so.low)))
        (if_kept (labels e) (λ m less. omega (arith, less, of_array_by labels at is m, of_array_by labels at is l)) (so.before e below));
  }

  most_by : (first l : Label) → IsOfMost labels first l → IsOfMost at first l
  most_by first l so = record {
    most = λ d below. subst (λ (o : Option Label). IfSome o (λ m. of_array at m ≤ of_array at l)) (is d below)
        (if_kept (labels d) (λ m less. omega (arith, less, of_array_by labels at is m, of_array_by labels at is l)) (so.most d below));
    place = elim so.place [
      | inl same ↦ inl same
      | inr over ↦ inr (over_by first l over)
    ];
  }

  pub deciding_by : (l : Label) → IsDeciding labels l → IsDeciding at l
  deciding_by l so = record {
    first = so.first;
    is_first = first_by so.first so.is_first;
    rule = elim so.rule [
      | inl alone ↦ inl (undisputed_by so.first alone.0, alone.1)
      | inr most ↦ inr ((λ back. most.0 (undisputed_back so.first back)), most_by so.first l most.1)
    ];
  }
