-- What holds of an answer leads on to what is owed of it.
use Rattle.std.proofs.Common.{subst}
use Rattle.std.specs.Prelude.{◌≡◌, Option, Some, None, Result, Ok, Err, IfOk, IfNone}

pub if_map : {A E : Type 0} {P Q : A → Type 0} (r : Result A E) → ((x : A) → P x → Q x) → IfOk r P → IfOk r Q
if_map (Ok x) more is = more x is
if_map (Err e) more is = tt

pub none_more : {A : Type 0} (o : Option A) (P Q : Type 0) → (P → Q) → IfNone o P → IfNone o Q
none_more None P Q more is = more is
none_more (Some x) P Q more is = tt

pub none_at : {A : Type 0} (o : Option A) (P : Type 0) → o ≡ None → IfNone o P → P
none_at o P is holds = subst (λ (z : Option _). IfNone z P) is holds
