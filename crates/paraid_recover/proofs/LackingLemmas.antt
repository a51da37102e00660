-- Where at most one disk is lacking, no two are missing.
use Rattle.std.specs.Prelude.{◌≡◌, ◌≢◌, ◌⊎◌, ℕ, ◌<◌, ◌&&◌, not, Bool, false, Option, Some, None}
use Rattle.std.proofs.Common.{sym, ◌∙◌, ap, inl, inr, arith}
use Rattle.std.proofs.lemmas.Bool.{cases_eq, cases_lt}
use Rattle.paraid_rack.specs.Disks.{is_present}
use Rattle.paraid_rack.specs.Slots.{Slot}
use Rattle.paraid_record.specs.declared.meta.Meta.{Meta}
use Rattle.paraid_image.specs.Out.{IsDouble, IsMissing, is_out, named_out}
use Rattle.paraid_recover.specs.Refusals.{is_lacking}

sided : (d x : ℕ) → d ≢ x → (d < x) ⊎ (x < d)
sided d x apart = elim (cases_lt d x) [
  | inl is ↦ inl is
  | inr is ↦ inr (omega arith)
]

named_by : (o : Option ℕ) (d : ℕ) (p : Bool) → not p && not (is_out o d) ≡ false → p ≡ false → o ≡ Some d
named_by None d p is gone = cc
named_by (Some e) d p is gone = elim (cases_eq d e) [
  | inl same ↦ ap Some (sym same)
  | inr apart ↦ grind arith
]

-- a missing disk that is not lacking is named out
pub missing_named : (slot : ℕ → Slot) (m : Meta) (d : ℕ) → IsMissing (λ e. (slot e).power) m d → is_lacking slot m d ≡ false → named_out m.out ≡ Some d
unfolding is_lacking
missing_named slot m d missing not_lacking = elim missing.is [
  | inl gone ↦ named_by (named_out m.out) d (is_present (slot d).power) not_lacking gone
  | inr named ↦ named
]

pub none_lacking : (slot : ℕ → Slot) (m : Meta) → ((d : ℕ) → d < m.setup.geometry.disks → is_lacking slot m d ≡ false)
    → IsDouble (λ e. (slot e).power) m → ⊥
none_lacking slot m none two = two.apart (same (named two.first two.missing_first) (named two.second two.missing_second))
  where
    named : (d : ℕ) → IsMissing (λ e. (slot e).power) m d → named_out m.out ≡ Some d
    named d missing = missing_named slot m d missing (none d missing.disk)

    same : {d e : ℕ} → named_out m.out ≡ Some d → named_out m.out ≡ Some e → d ≡ e
    same first second = cc

pub one_lacking : (slot : ℕ → Slot) (m : Meta) (x : ℕ) → named_out m.out ≡ None
    → ((d : ℕ) → d < x → is_lacking slot m d ≡ false) → ((d : ℕ) → x < d → d < m.setup.geometry.disks → is_lacking slot m d ≡ false)
    → IsDouble (λ e. (slot e).power) m → ⊥
one_lacking slot m x nothing below above two = two.apart (only two.first two.missing_first ∙ sym (only two.second two.missing_second))
  where
    other : (d : ℕ) → IsMissing (λ e. (slot e).power) m d → is_lacking slot m d ≡ false → ⊥
    other d missing not_lacking = let is : named_out m.out ≡ Some d = missing_named slot m d missing not_lacking in cc

    apart_of : (d : ℕ) → d < m.setup.geometry.disks → d ≢ x → (d < x) ⊎ (x < d) → is_lacking slot m d ≡ false
    apart_of d low apart (inl is) = below d is
    apart_of d low apart (inr is) = above d is low

    only : (d : ℕ) → IsMissing (λ e. (slot e).power) m d → d ≡ x
    only d missing = elim (cases_eq d x) [
      | inl is ↦ is
      | inr apart ↦ absurd (other d missing (apart_of d missing.disk apart (sided d x apart)))
    ]
