-- From the record of a rack to the calls of a mount.
use Rattle.std.proofs.Common.{◌≡◌, ℕ, List, [], ◌∷◌, ◌++◌, Option, Some, refl, sym, ap, ◌∙◌, subst, arith, suc, drop, length}
use Rattle.paraid_rack.specs.declared.call.Call.{Call}
use Rattle.paraid_rack.specs.Disks.{Disks}
use Rattle.paraid_rack.specs.Told.{Ran}
use Rattle.paraid_rack.specs.Trail.{Trail, disks, extend, moments, now}
use Rattle.paraid_recover.proofs.RecoverLemmas.{disks_before, disks_last}

pub drop_past : {A : Type 0} (xs ys : List A) → drop (length xs) (xs ++ ys) ≡ ys
drop_past [] ys = refl
drop_past (x ∷ xs) ys = let e : length (x ∷ xs) ≡ suc (length xs) = refl in ap (λ (k : ℕ). drop k (x ∷ xs ++ ys)) e ∙ drop_past xs ys

-- what holds of the calls of a part holds of those from the moment on at which it began
pub ran_began : (Q : Disks → List Call → Type 0) (began : ℕ) (old new : Option Trail) → ((u : Trail) → old ≡ Some u → began ≡ moments u) → Ran old new Q
    → (t : Trail) → new ≡ Some t → Q (disks t began) (drop began t.calls)
ran_began Q began old new at ran t tells =
    let r = ran t tells in
    let is : began ≡ moments r.from = at r.from r.was in
    let first : disks t began ≡ now r.from =
    ap (λ (u : Trail). disks u began) r.is ∙ ap (disks (extend r.from r.calls)) is ∙ disks_before r.from r.calls (moments r.from) (omega arith) ∙ disks_last r.from in
    let rest : drop began t.calls ≡ r.calls = ap (λ (u : Trail). drop began u.calls) r.is ∙ ap (λ (k : ℕ). drop k (r.from.calls ++ r.calls)) is ∙ drop_past r.from.calls r.calls in
    subst (λ (s : Disks). Q s (drop began t.calls)) (sym first) (subst (Q (now r.from)) (sym rest) r.holds)
