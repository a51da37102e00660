-- What a `?` hands on
use Rattle.std.proofs.Common.{◌≡◌, sym, subst}
use Rattle.std.specs.Prelude.{Result, Ok, Err, OnOk, IfOk, IfErr, IsErrAnd}

pub none_done : {A E : Type 0} (P : Type 0) (r : Result A E) (e : E) → IsErrAnd r (λ x. x ≡ e) → OnOk r P
none_done P (Ok a) e is = absurd is
none_done P (Err x) e is = tt

pub none_done_if : {A E : Type 0} (P : A → Type 0) (r : Result A E) (e : E) → IsErrAnd r (λ x. x ≡ e) → IfOk r P
none_done_if P (Ok a) e is = absurd is
none_done_if P (Err x) e is = tt

pub handed : {A E : Type 0} (P : E → Type 0) (r : Result A E) (e : E) → IsErrAnd r (λ x. x ≡ e) → P e → IfErr r P
handed P (Ok a) e is p = tt
handed P (Err x) e is p = subst P (sym is) p
