-- Reads, one after the other.
use Rattle.std.proofs.Common.{◌≡◌, ◌≢◌, ℕ, ◌+◌, ◌≤◌, ◌⊎◌, Bool, true, false, IsTrue, refl, sym, ap, ◌∙◌, subst, arith, inl, inr}
use Rattle.std.specs.Prelude.{not, if◌then◌else◌}
use Rattle.std.proofs.lemmas.Bool.{false≢true}
use Rattle.paraid_base.specs.declared.block.Block.{Block}
use Rattle.paraid_base.specs.Sums.{xor_upto}
use Rattle.paraid_base.specs.Xor.{xor, zero_block}
use Rattle.paraid_base.proofs.XorLemmas.{equal_from_zero, xor_self, xor_upto_more, xor_upto_none}
use Rattle.paraid_record.specs.declared.meta.Meta.{Meta}
use Rattle.paraid_image.specs.Spot.{View}
use Rattle.paraid_scrub.specs.Counts.{CountBelow}
use Rattle.paraid_scrub.specs.Counts.CountBelow.{none, one, other}
use Rattle.paraid_scrub.specs.Looks.{KeepsView}

module _ {C : Type 0} {meta : C → Meta} {usable tells : C → Type 0} {shows : C → View → Type 0} {leads : C → C → Type 0} where
  pub keeps_none : {fact : View → Type 0} (a : C) → leads a a → usable a → ((v : View) → shows a v → fact v) → KeepsView meta usable tells shows leads a a fact
  keeps_none a goes still f = record { goes = goes; same = refl; still = still; shown = λ v s told. (s, f v s) }

  -- one read after the other
  pub keeps_then : {a b c : C} {fact read : View → Type 0} (next : View → Type 0) → ((a b c : C) → leads a b → leads b c → leads a c) → ((a b : C) → leads a b → tells b → tells a)
      → KeepsView meta usable tells shows leads a b fact → KeepsView meta usable tells shows leads b c read → ((v : View) → shows a v → fact v → read v → next v) → KeepsView meta usable tells shows leads a c next
  keeps_then {a} {b} {c} next chain told p q f = record {
    goes = chain a b c p.goes q.goes;
    same = q.same ∙ p.same;
    still = q.still;
    shown = λ v s tells.
        let x = p.shown v s (told b c q.goes tells) in
        let y = q.shown v x.0 tells in
        (y.0, f v s x.1 y.1);
  }

  -- the same, of a smaller fact
  pub keeps_so : {a b : C} {fact : View → Type 0} (next : View → Type 0) → KeepsView meta usable tells shows leads a b fact → ((v : View) → shows a v → fact v → next v) → KeepsView meta usable tells shows leads a b next
  keeps_so next p f = record {
    goes = p.goes;
    same = p.same;
    still = p.still;
    shown = λ v s tells. let x = p.shown v s tells in (x.0, f v s x.1);
  }

  -- what is shown at the end
  pub keeps_shows : {a b : C} {fact : View → Type 0} → KeepsView meta usable tells shows leads a b fact → KeepsView meta usable tells shows leads a b (λ v. shows b v)
  keeps_shows p = record {
    goes = p.goes;
    same = p.same;
    still = p.still;
    shown = λ v s tells. let x = p.shown v s tells in (x.0, x.0);
  }

  pub keeps_chain : {a b c : C} {fact : View → Type 0} → ((a b c : C) → leads a b → leads b c → leads a c) → ((a b : C) → leads a b → tells b → tells a) → KeepsView meta usable tells shows leads a b fact
      → KeepsView meta usable tells shows leads b c (λ v. shows c v) → KeepsView meta usable tells shows leads a c (λ v. shows c v)
  keeps_chain {a} {b} {c} chain told p q = keeps_then (λ v. shows c v) chain told p q (λ v s x y. y)

pub sum_none : (f : ℕ → Block) (zero : Block) → zero ≡ zero_block → zero ≡ xor_upto f 0
sum_none f zero is = is ∙ sym (xor_upto_none f)

-- one member more
pub sum_more : (f : ℕ → Block) (d : ℕ) (sum after : Block) → sum ≡ xor_upto f d → after ≡ xor sum (f d) → after ≡ xor_upto f (d + 1)
sum_more f d sum after before becomes = becomes ∙ ap (λ (b : Block). xor b (f d)) before ∙ sym (xor_upto_more f d)

-- a sum of zeros is zero, and no other
pub is_not_zero : (r : Bool) (sum x : Block) → (IsTrue r → sum ≡ zero_block) × (sum ≡ zero_block → IsTrue r) → sum ≡ x → (IsTrue (not r) → x ≢ zero_block) × (x ≢ zero_block → IsTrue (not r))
is_not_zero true sum x z e = (λ t. absurd (false≢true t), λ ne. absurd (ne (sym e ∙ z.0 refl)))
is_not_zero false sum x z e = (λ t same. absurd (false≢true (z.1 (e ∙ same))), λ ne. refl)

-- two blocks differ where their sum is not zero
pub differs : (r : Bool) (a b sum : Block) → sum ≡ xor a b → (IsTrue r → sum ≡ zero_block) × (sum ≡ zero_block → IsTrue r)
    → (IsTrue (not r) → a ≢ b) × (a ≢ b → IsTrue (not r))
differs true a b sum s z = (λ t. absurd (false≢true t), λ ne. absurd (ne (equal_from_zero a b (sym s ∙ z.0 refl))))
differs false a b sum s z = (λ t same. absurd (false≢true (z.1 (s ∙ rw same (xor_self b)))), λ ne. refl)

-- the same of equal blocks
pub differ_as : (off : Bool) (a b x y : Block) → (IsTrue off → a ≢ b) × (a ≢ b → IsTrue off) → a ≡ x → b ≡ y → (IsTrue off → x ≢ y) × (x ≢ y → IsTrue off)
differ_as off a b x y is ea eb = (λ t same. is.0 t (ea ∙ same ∙ sym eb), λ ne. is.1 (λ same. ne (sym ea ∙ same ∙ eb)))

-- one of two things is false
pub either_off : {P Q R : Type 0} (a b c : Bool) → (IsTrue a → P → ⊥) × ((P → ⊥) → IsTrue a) → (IsTrue b → Q → ⊥) × ((Q → ⊥) → IsTrue b) → (IsTrue c → IsTrue a ⊎ IsTrue b) × (IsTrue a ⊎ IsTrue b → IsTrue c)
    → (R → P × Q) → (P → Q → R) → (IsTrue c → R → ⊥) × ((R → ⊥) → IsTrue c)
either_off true b c p q e forth back = (λ t r. elim (e.0 t) [ inl x ↦ p.0 x (forth r).0 | inr y ↦ q.0 y (forth r).1 ], λ no. e.1 (inl refl))
either_off false b c p q e forth back = (
  λ t r. elim (e.0 t) [ inl x ↦ absurd (false≢true x) | inr y ↦ q.0 y (forth r).1 ],
  λ no. e.1 (inr (q.1 (λ y. absurd (false≢true (p.1 (λ x. no (back x y))))))),
)

pub count_more : (P : ℕ → Type 0) (n k add : ℕ) (off : Bool) → (IsTrue off → P n) × (P n → IsTrue off) → CountBelow P n k → add ≡ (if off then 1 else 0) → CountBelow P (n + 1) (k + add)
count_more P n k add true is c e = rw e (one n k (is.0 refl) c)
count_more P n k add false is c e = subst (λ (j : ℕ). CountBelow P (n + 1) j) (omega (arith, e)) (other n k (λ p. absurd (false≢true (is.1 p))) c)

pub count_none : (P : ℕ → Type 0) → CountBelow P 0 0
count_none P = none

pub add_small : (add : ℕ) (off : Bool) → add ≡ (if off then 1 else 0) → add ≤ 1
add_small add true e = omega (arith, e)
add_small add false e = omega (arith, e)
