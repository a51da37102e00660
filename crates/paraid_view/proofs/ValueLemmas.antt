-- Where a value lives, case by case.
use Rattle.std.specs.Prelude.{◌≡◌, ◌≢◌, ℕ, ◌<◌, ◌⊎◌, nat_lt, true, false, Option, Some, None, Result, Ok, Err, OnOk, IfErr, IsErrAnd}
use Rattle.std.proofs.Common.{refl, sym, ◌∙◌, ap, subst, arith, inl, inr}
use Rattle.std.proofs.lemmas.Bool.{cases_Bool, cases_eq}
use Rattle.std.proofs.lemmas.Bool.Decides.{nat_tests}
use Rattle.paraid_base.specs.Regions.{hard_place_of, soft_place_of}
use Rattle.paraid_base.specs.Soft.{soft_disk, soft_stripe}
use Rattle.paraid_base.specs.Sums.{without, xor_upto}
use Rattle.paraid_base.proofs.SumsLemmas.{without_other, without_same, xor_upto_same}
use Rattle.paraid_image.specs.Out.{is_out}
use Rattle.paraid_image.specs.Spot.{View, is_hard, rising_to}
use Rattle.paraid_image.specs.Value.{reconstructed_value, soft_value, stored_value, stripe_rest, value}

pub ok_map : {A E X Y : Type 0} (r : Result A E) → (X → Y) → OnOk r X → OnOk r Y
ok_map (Ok a) go x = go x
ok_map (Err e) go x = tt

pub err_map : {A E : Type 0} {P Q : E → Type 0} (r : Result A E) → ((e : E) → P e → Q e) → IfErr r P → IfErr r Q
err_map (Ok a) go x = tt
err_map (Err e) go x = go e x

-- what holds of an error holds where a `?` hands it on
pub err_again : {A E : Type 0} (P : E → Type 0) (r : Result A E) (e : E) → IsErrAnd r (λ x. x ≡ e) → P e → IfErr r P
err_again P (Ok a) e is holds = tt
err_again P (Err x) e is holds = subst P (sym is) holds

-- and nothing is owed at Ok
pub ok_never : {A E : Type 0} (Q : E → Type 0) (P : Type 0) (r : Result A E) → IsErrAnd r Q → OnOk r P
ok_never Q P (Ok a) is = absurd is
ok_never Q P (Err e) is = tt

pub no_disk : {d : ℕ} → None ≡ Some d → ⊥
no_disk e = cc

pub same_disk : {d e : ℕ} → Some d ≡ Some e → d ≡ e
same_disk e = cc

pub is_out_not : (o : Option ℕ) (d : ℕ) → o ≢ Some d → is_out o d ≡ false
is_out_not None d not = refl
is_out_not (Some x) d not = let apart : d ≢ x = (λ e. not (ap Some (sym e))) in grind (arith, nat_tests)

pub is_out_here : (o : Option ℕ) (d : ℕ) → o ≡ Some d → is_out o d ≡ true
is_out_here o d is = rw is (grind (arith, nat_tests))

pub near_hard : (v : View) (r d : ℕ) → is_hard v r d ≡ true → stored_value v r d ≡ v.block d (hard_place_of v.meta.setup.geometry r)
unfolding stored_value
near_hard v r d h = rw h refl

pub near_soft : (v : View) (r d : ℕ) → is_hard v r d ≡ false → stored_value v r d ≡ soft_value v r d
unfolding stored_value
near_soft v r d h = rw h refl

pub value_far : (v : View) (r d : ℕ) → is_hard v r d ≡ true → v.out ≡ Some d → value v r d ≡ reconstructed_value v r d
unfolding value
value_far v r d h out = rw (h, is_out_here v.out d out) refl

-- the others of a cell, which is left out twice
pub far_is : (v : View) (r d : ℕ) → xor_upto (without (without (stored_value v r) d) d) v.meta.setup.geometry.disks ≡ reconstructed_value v r d
unfolding reconstructed_value
far_is v r d = xor_upto_same (without (without (stored_value v r) d) d) (without (stored_value v r) d) v.meta.setup.geometry.disks (λ e l. elim (cases_eq e d) [
  | inl is ↦ rw is (without_same (without (stored_value v r) d) d ∙ sym (without_same (stored_value v r) d))
  | inr apart ↦ without_other (without (stored_value v r) d) d e apart
])

pub value_near : (v : View) (r d : ℕ) → (is_hard v r d ≡ true → v.out ≢ Some d) → value v r d ≡ stored_value v r d
unfolding value
value_near v r d not = elim (cases_Bool (is_hard v r d)) [
  | inl hard ↦ rw (hard, is_out_not v.out d (not hard)) refl
  | inr soft ↦ rw soft refl
]

pub soft_there : (v : View) (r d : ℕ) → v.out ≢ Some (soft_disk v.meta.setup.geometry.disks v.meta.gear r d)
    → soft_value v r d ≡ v.block (soft_disk v.meta.setup.geometry.disks v.meta.gear r d) (soft_place_of v.meta.setup.geometry v.meta.gear (soft_stripe v.meta.setup.geometry.disks v.meta.gear r d))
unfolding soft_value
soft_there v r d not = rw (is_out_not v.out (soft_disk v.meta.setup.geometry.disks v.meta.gear r d) not) refl

pub soft_out : (v : View) (r d : ℕ) → v.out ≡ Some (soft_disk v.meta.setup.geometry.disks v.meta.gear r d)
    → soft_value v r d ≡ stripe_rest v.meta.setup.geometry v.block v.meta.gear (soft_stripe v.meta.setup.geometry.disks v.meta.gear r d) (soft_disk v.meta.setup.geometry.disks v.meta.gear r d)
unfolding soft_value
soft_out v r d is = rw (is_out_here v.out (soft_disk v.meta.setup.geometry.disks v.meta.gear r d) is) refl

-- a hard cell is on a disk that is powered
pub hard_powered : (v : View) (r d : ℕ) → is_hard v r d ≡ true → (d < v.meta.gear) ⊎ (d < rising_to v.meta.phase)
unfolding is_hard
hard_powered v r d h = elim (cases_Bool (nat_lt d v.meta.gear)) [
  | inl low ↦ inl (grind (arith, nat_tests))
  | inr high ↦ inr (grind (arith, nat_tests))
]
