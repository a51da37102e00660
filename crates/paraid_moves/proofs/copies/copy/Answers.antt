use Rattle.std.specs.Prelude.{◌≡◌, true, false, OnErr, OnOk, Result, Ok, Err, is_ok}
use Rattle.std.proofs.Common.{refl}
use Rattle.paraid_moves.proofs.RunLemmas.{copy_failed, copy_made}
use Rattle.paraid_moves.proofs.copies.copy.Goals as goal

on_ok : {A E X : Type 0} (r : Result A E) → (is_ok r ≡ true → X) → OnOk r X
on_ok (Ok a) h = h refl
on_ok (Err e) h = tt

on_err : {A E X : Type 0} (r : Result A E) → (is_ok r ≡ false → X) → OnErr r X
on_err (Ok a) h = tt
on_err (Err e) h = h refl

pub returns-clause-done : goal.returns-clause-done
returns-clause-done g c = on_ok c.write_free.result (λ is. λ slots m f h lo. copy_made slots m f h lo is c.write_free.ensures.told)

pub returns-clause-lost : goal.returns-clause-lost
returns-clause-lost g c = on_err c.write_free.result (λ is. λ slots m f h lo range. copy_failed slots m f h lo is range c.write_free.ensures.told)
