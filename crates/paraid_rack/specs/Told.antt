-- What is told of the calls of a part of the program.
use Rattle.std.specs.Prelude.{◌≡◌, List, [], ◌∷◌, Option, Some}
use Rattle.paraid_rack.specs.declared.call.Call.{Call}
use Rattle.paraid_rack.specs.Disks.{Disks, step}
use Rattle.paraid_rack.specs.Trail.{Trail, run, now, extend}

-- Where the record is told after a call, it was told before, the start is the same and the list is
-- longer by this one call.
abbrev pub GrowsByCall : Option Trail → Option Trail → Call → Type 0
GrowsByCall old new c = (t : Trail)
    → new ≡ Some t → (s : Trail) × (old ≡ Some s) × (t ≡ extend s (c ∷ []))

-- P at each moment of these calls, the first and the last too
abbrev pub Through : (Disks → Type 0) → Disks → List Call → Type 0
Through P s [] = P s
Through P s (c ∷ cs) = P s × Through P (step c s) cs

-- the calls of a part of the program, seen from where it began
pub record Came (old : Option Trail) (t : Trail) (Q : Disks → List Call → Type 0) : Type 0 where
  pub from : Trail
  pub was : old ≡ Some from
  pub calls : List Call
  pub is : t ≡ extend from calls
  pub holds : Q (now from) calls

-- Where the record is told after this part, it was told before, and its calls have Q.
abbrev pub Ran : Option Trail → Option Trail → (Disks → List Call → Type 0) → Type 0
Ran old new Q = (t : Trail) → new ≡ Some t → Came old t Q

-- Where the record is told after this part, it was told before, and is longer by some calls.
abbrev pub Extends : Option Trail → Option Trail → Type 0
Extends old new = Ran old new (λ start calls. Unit {0})

-- from A, with P at each moment, to B
pub record CrashTriple (P A B : Disks → Type 0) (s : Disks) (cs : List Call) : Type 0 where
  pub goes : A s → Through P s cs × B (run s cs)
