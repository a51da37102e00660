-- What a call gave, where it is given on.
use Rattle.std.specs.Prelude.{◌≡◌, Bool, true, false, Result, Ok, Err, OnOk, IfOk, IfErr, IsErrAnd}
use Rattle.std.proofs.Common.{refl, subst, sym, ◌∙◌}

module _ {A E : Type 0} where
  pub on_ok : (P Q : Type 0) (r : Result A E) → (P → Q) → OnOk r P → OnOk r Q
  on_ok P Q (Ok a) f p = f p
  on_ok P Q (Err e) f p = tt

  -- what holds however it ended
  pub always_ok : (P : Type 0) (r : Result A E) → P → OnOk r P
  always_ok P (Ok a) p = p
  always_ok P (Err e) p = tt

  pub if_ok : (P Q : A → Type 0) (r : Result A E) → ((a : A) → P a → Q a) → IfOk r P → IfOk r Q
  if_ok P Q (Ok a) f p = f a p
  if_ok P Q (Err e) f p = tt

  pub if_both : (P Q S : A → Type 0) (r : Result A E) → ((a : A) → P a → Q a → S a) → IfOk r P → IfOk r Q → IfOk r S
  if_both P Q S (Ok a) f p q = f a p q
  if_both P Q S (Err e) f p q = tt

  -- what is known of each answer, and three facts of it
  pub if_known : (F : Type 0) (P Q S T : A → Type 0) (r : Result A E) → ((a : A) → F → P a → Q a → S a → T a) → OnOk r F → IfOk r P → IfOk r Q → IfOk r S → IfOk r T
  if_known F P Q S T (Ok a) f known p q s = f a known p q s
  if_known F P Q S T (Err e) f known p q s = tt

  -- what is known of each answer
  pub if_done : (P : Type 0) (Q : A → Type 0) (r : Result A E) → ((a : A) → P → Q a) → OnOk r P → IfOk r Q
  if_done P Q (Ok a) f p = f a p
  if_done P Q (Err e) f p = tt

  pub if_err : (P Q : E → Type 0) (r : Result A E) → ((e : E) → P e → Q e) → IfErr r P → IfErr r Q
  if_err P Q (Ok a) f p = tt
  if_err P Q (Err e) f p = f e p

  -- where the answer is known
  pub of_done : (P : Type 0) (r : Result A E) (a : A) → OnOk r P → r ≡ Ok a → P
  of_done P (Ok b) a p is = p
  of_done P (Err e) a p is = let z : Err e ≡ Ok a = is in cc

  pub of_ok : (P : A → Type 0) (r : Result A E) (a : A) → IfOk r P → r ≡ Ok a → P a
  of_ok P (Ok b) a p is = let z : Ok b ≡ Ok a = is in let same : b ≡ a = cc in subst P same p
  of_ok P (Err e) a p is = let z : Err e ≡ Ok a = is in cc

-- a call that failed has nothing to say of a success
module _ {A E : Type 0} where
  pub none_done : (P : Type 0) (r : Result A E) (e : E) → IsErrAnd r (λ x. x ≡ e) → OnOk r P
  none_done P (Ok a) e is = absurd is
  none_done P (Err x) e is = tt

  pub none_done_if : (P : A → Type 0) (r : Result A E) (e : E) → IsErrAnd r (λ x. x ≡ e) → IfOk r P
  none_done_if P (Ok a) e is = absurd is
  none_done_if P (Err x) e is = tt

  pub none_done_as : (P : Type 0) (r : Result A E) (e : E) (a : A) → IsErrAnd r (λ x. x ≡ e) → r ≡ Ok a → P
  none_done_as P (Ok b) e a is ok = absurd is
  none_done_as P (Err x) e a is ok = let z : Err x ≡ Ok a = ok in cc

-- it was done, or it was not
pub done_not_dropped : {E : Type 0} (P : Type 0) (r : Result Bool E) → r ≡ Ok true → r ≡ Ok false → P
done_not_dropped P r done is = let z : Ok true ≡ Ok false = sym done ∙ is in cc

-- by the two answers
module _ {E : Type 0} where
  pub either_way : (P : Type 0) (r : Result Bool E) → (r ≡ Ok true → P) → (r ≡ Ok false → P) → OnOk r P
  either_way P (Ok true) t f = t refl
  either_way P (Ok false) t f = f refl
  either_way P (Err e) t f = tt

  pub either_if : (P : Bool → Type 0) (r : Result Bool E) → (r ≡ Ok true → P true) → (r ≡ Ok false → P false) → IfOk r P
  either_if P (Ok true) t f = t refl
  either_if P (Ok false) t f = f refl
  either_if P (Err e) t f = tt
