-- Where values live, and when two disks are missing.
use Rattle.std.specs.Prelude.{◌≡◌, ℕ, Bool, true, false}
use Rattle.std.proofs.Common.{refl, inl, inr}
use Rattle.std.proofs.lemmas.Bool.{cases_eq}
use Rattle.paraid_rack.specs.declared.call.Power.{Power}
use Rattle.paraid_record.specs.declared.meta.Meta.{Meta}
use Rattle.paraid_image.specs.Out.{IsDouble, IsMissing, is_out}
use Rattle.paraid_image.specs.Spot.{View, is_hard, spot_of}
use Rattle.paraid_image.specs.Value.{soft_value, stored_value, value}

spot_value : (v : View) (r d : ℕ) (hard : Bool) → is_hard v r d ≡ hard → is_out v.out (spot_of v r d).disk ≡ false
    → value v r d ≡ v.block (spot_of v r d).disk (spot_of v r d).place
unfolding spot_of value stored_value soft_value
spot_value v r d true h o = let there : is_out v.out d ≡ false = rw h at o in rw (h, there) refl
spot_value v r d false h o = let there = rw h at o in rw (h, there) refl

-- a value is the block at its spot, where this is not on the out disk
pub value_at_spot : (v : View) (r d : ℕ) → is_out v.out (spot_of v r d).disk ≡ false → value v r d ≡ v.block (spot_of v r d).disk (spot_of v r d).place
value_at_spot v r d o = spot_value v r d (is_hard v r d) refl o

pub single_not_double : (power : ℕ → Power) (m : Meta) → ((d e : ℕ) → IsMissing power m d → IsMissing power m e → d ≡ e) → IsDouble power m → ⊥
single_not_double power m single two = two.apart (single two.first two.second two.missing_first two.missing_second)

pub not_double_single : (power : ℕ → Power) (m : Meta) → (IsDouble power m → ⊥) → (d e : ℕ) → IsMissing power m d → IsMissing power m e → d ≡ e
not_double_single power m not d e p q = elim (cases_eq d e) [
  | inl is ↦ is
  | inr apart ↦ absurd (not (record { first = d; second = e; apart = apart; missing_first = p; missing_second = q }))
]
