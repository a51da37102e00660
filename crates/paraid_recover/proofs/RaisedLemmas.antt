-- What a `?` hands on of a call that failed.
use Rattle.std.proofs.Common.{sym, subst}
use Rattle.std.specs.Prelude.{◌≡◌, Option, Some, None, Result, Ok, Err, OnOk, IfOk, IfErr, IsErrAnd}

pub none_done : {A E : Type 0} (P : Type 0) (r : Result A E) (e : E) → IsErrAnd r (λ x. x ≡ e) → OnOk r P
none_done P (Ok a) e is = absurd is
none_done P (Err x) e is = tt

pub none_done_if : {A E : Type 0} (P : A → Type 0) (r : Result A E) (e : E) → IsErrAnd r (λ x. x ≡ e) → IfOk r P
none_done_if P (Ok a) e is = absurd is
none_done_if P (Err x) e is = tt

pub none_done_as : {A E : Type 0} (P : Type 0) (r : Result A E) (e : E) (a : A) → IsErrAnd r (λ x. x ≡ e) → r ≡ Ok a → P
none_done_as P (Ok b) e a is ok = absurd is
none_done_as P (Err x) e a is ok = let z : Err x ≡ Ok a = ok in cc

pub handed : {A E : Type 0} (P : E → Type 0) (r : Result A E) (e : E) → IsErrAnd r (λ x. x ≡ e) → P e → IfErr r P
handed P (Ok a) e is p = tt
handed P (Err x) e is p = subst P (sym is) p

-- what holds whatever is answered
pub on_ok_any : {A E P : Type 0} (r : Result A E) → P → OnOk r P
on_ok_any (Ok a) p = p
on_ok_any (Err e) p = tt

pub some_not_none : {A E : Type 0} {a : A} → ◌≡◌ {A = Result (Option A) E} (Ok (Some a)) (Ok None) → ⊥
some_not_none is = cc
