-- Reads leave the disks as they are.
use Rattle.paraid_rack.specs.Calls.{AreReads}
use Rattle.std.specs.Prelude.{◌≡◌, List, [], ◌∷◌, ◌++◌, Option, Some}
use Rattle.std.proofs.Common.{refl, ◌∙◌, ap}
use Rattle.paraid_rack.specs.declared.call.Call.{Call}
use Rattle.paraid_rack.specs.Disks.{Disks, step}
use Rattle.paraid_rack.specs.Trail.{Trail, now, run}
use Rattle.paraid_rack.proofs.TrailsLemmas.{Ran-none, Ran-then, now-extend}
use Rattle.paraid_recover.specs.Calls.{OnlyReadsAndKeeps}

pub AreReads-append : (cs ds : List Call) → AreReads cs → AreReads ds → AreReads (cs ++ ds)
AreReads-append [] ds first second = second
AreReads-append (c ∷ cs) ds first second = (first.0, AreReads-append cs ds first.1 second)

run_append : (s : Disks) (cs ds : List Call) → run s (cs ++ ds) ≡ run (run s cs) ds
run_append s [] ds = refl
run_append s (c ∷ cs) ds = run_append (step c s) cs ds

-- and the disks stay
pub quiet_none : (told : Option Trail) → OnlyReadsAndKeeps told told
quiet_none told = Ran-none (λ s cs. AreReads cs × (run s cs ≡ s)) (λ s. (tt, refl)) told

pub quiet_then : {old mid new : Option Trail} → OnlyReadsAndKeeps old mid → OnlyReadsAndKeeps mid new → OnlyReadsAndKeeps old new
quiet_then {old} {mid} {new} first second = Ran-then (λ s cs. AreReads cs × (run s cs ≡ s))
    (λ s cs ds a b. (AreReads-append cs ds a.0 b.0, run_append s cs ds ∙ b.1 ∙ a.1)) old mid new first second

-- so what was read is there still
pub quiet_now : {old new : Option Trail} → OnlyReadsAndKeeps old new → (t : Trail) → new ≡ Some t → (s : Trail) × (old ≡ Some s) × (now t ≡ now s)
quiet_now quiet t tells =
    let r = quiet t tells in
    (r.from, r.was, ap now r.is ∙ now-extend r.from r.calls ∙ r.holds.1)
