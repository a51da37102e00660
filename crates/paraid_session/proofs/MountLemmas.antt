-- More may follow from the first point of a session.
use Rattle.std.proofs.Common.{◌≡◌, ℕ, List, [], ◌∷◌, ◌++◌, take, drop, Option, Some, refl, sym, ap, ◌∙◌, inl, inr, subst, take-append-drop}
use Rattle.paraid_rack.specs.declared.call.Call.{Call}
use Rattle.paraid_rack.specs.Disks.{Disks, step}
use Rattle.paraid_rack.specs.Trail.{Trail, disks, initial, now, run}
use Rattle.paraid_record.specs.declared.meta.Setup.{Setup}
use Rattle.paraid_session.specs.Mount.{IsMountedFromEach}
use Rattle.paraid_session.specs.Turn.{IsMark, Point}

pub run-append : (s : Disks) (cs ds : List Call) → run s (cs ++ ds) ≡ run (run s cs) ds
run-append s [] ds = refl
run-append s (c ∷ cs) ds = run-append (step c s) cs ds

same_trail : (o : Option Trail) (a b : Trail) → o ≡ Some a → o ≡ Some b → a ≡ b
same_trail o a b e f = some_same a b (sym e ∙ f)
  where
    some_same : (a b : Trail) → Some a ≡ Some b → a ≡ b
    some_same a b e = cc

-- the disks as the mount ended
mounted_disks : (t : Trail) (began : ℕ) → run (disks t began) (drop began t.calls) ≡ now t
mounted_disks t began = sym (run-append (initial t.start) (take began t.calls) (drop began t.calls)) ∙ ap (run (initial t.start)) (take-append-drop began t.calls)

pub IsMountedFromEach-follows : (slots : ℕ) (setup : Setup) (began : ℕ) (start : Option Trail) (P Q : Point → Type 0)
    → ((p : Point) → IsMark slots setup p → ((t : Trail) → start ≡ Some t → p.disks ≡ now t) → P p → Q p) → IsMountedFromEach slots setup began start P → IsMountedFromEach slots setup began start Q
IsMountedFromEach-follows slots setup began start P Q more mounted t tells h lo down x said entry stands =
    let m = mounted t tells h lo down x said entry stands in
    record {
      mounting = m.mounting;
      ends = elim m.ends [
        | inl both ↦ inl both
        | inr begun ↦
            let b = begun.1 in
            let here : begun.0.disks ≡ now t = b.disks ∙ mounted_disks t began in
            let same = begun.2.0 in
            inr (begun.0, b, (same, more begun.0 (subst (λ (u : Setup). IsMark slots u begun.0) same b.mark) (λ u is. here ∙ ap now (same_trail start t u tells is)) begun.2.1))
      ];
    }
