-- What an answer says of the result in it.
use Rattle.std.proofs.Common.{arith, refl, subst}
use Rattle.std.specs.Prelude.{◌≡◌, ℕ, ◌+◌, ◌≤◌, Bool, true, false, not, Result, Ok, Err, IfErr, OnOk}
use Rattle.paraid_base.specs.declared.fault.Two.{Two}

-- of whether the disk is still there
pub back_is : (gone : Bool) → ◌≡◌ {A = Result Bool Two} (Ok (not gone)) (Ok true) → gone ≡ false
back_is true is = let z : ◌≡◌ {A = Result Bool Two} (Ok false) (Ok true) = is in cc
back_is false is = refl

pub gone_is : (gone : Bool) → ◌≡◌ {A = Result Bool Two} (Ok (not gone)) (Ok false) → gone ≡ true
gone_is true is = refl
gone_is false is = let z : ◌≡◌ {A = Result Bool Two} (Ok true) (Ok false) = is in cc

-- and what holds of a call leads on
pub on_map : {A E X Y : Type 0} (r : Result A E) → OnOk r X → (X → Y) → OnOk r Y
on_map (Ok a) x go = go x
on_map (Err e) x go = tt

pub on_both : {A E X Y Z : Type 0} (r : Result A E) → OnOk r X → OnOk r Y → (X → Y → Z) → OnOk r Z
on_both (Ok a) x y go = go x y
on_both (Err e) x y go = tt

pub err_map : {A E : Type 0} {P Q : E → Type 0} (r : Result A E) → IfErr r P → ((e : E) → P e → Q e) → IfErr r Q
err_map (Ok a) p go = tt
err_map (Err e) p go = go e p

pub on_at : {A E X : Type 0} (r : Result A E) (a : A) → r ≡ Ok a → OnOk r X → X
on_at {X = X} r a is x = subst (λ z. OnOk z X) is x

pub on_all : {A E X : Type 0} (r : Result A E) → X → OnOk r X
on_all (Ok a) x = x
on_all (Err e) x = tt

-- so many commits later
pub one_later : (a b new : ℕ) → b ≡ a → new ≡ b + 1 → new ≤ a + 1
one_later a b new same next = omega arith

pub no_earlier : (a b new : ℕ) → b ≡ a → new ≡ b + 1 → a ≤ new
no_earlier a b new same next = omega arith

pub two_later : (a b new : ℕ) → b ≤ a + 1 → new ≤ b + 1 → new ≤ a + 2
two_later a b new first second = omega arith
