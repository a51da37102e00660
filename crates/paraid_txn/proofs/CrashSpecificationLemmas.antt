-- One part of a commit after another, by what is kept in them whatever stops them.
use Rattle.std.proofs.Common.{Option, Result, Ok, Err, refl}
use Rattle.std.specs.Prelude.{◌≡◌, IsErrAnd, OnOk}
use Rattle.paraid_rack.specs.Disks.{Disks}
use Rattle.paraid_rack.specs.Told.{Ran, CrashTriple}
use Rattle.paraid_rack.specs.Trail.{Trail}
use Rattle.paraid_txn.specs.CrashSpecification.{CrashSpecification}
use Rattle.paraid_txn.proofs.ResumeStagesLemmas.{never}
use Rattle.paraid_txn.proofs.StageCallsLemmas.{andthen, ends, from, milder, upto}

-- what holds anyhow holds where it ends well
pub on_ok : {T E X : Type 0} (result : Result T E) → X → OnOk result X
on_ok (Ok it) x = x
on_ok (Err e) x = tt

-- what holds where it ends well, of another
pub on_ok_then : {T E X Y : Type 0} (result : Result T E) → (X → Y) → OnOk result X → OnOk result Y
on_ok_then (Ok it) is x = is x
on_ok_then (Err e) is x = tt

-- what follows where it ends well
pub on_ok_as : {T E Y : Type 0} (result : Result T E) → ((it : T) → result ≡ Ok it → Y) → OnOk result Y
on_ok_as (Ok it) is = is it refl
on_ok_as (Err e) is = tt

pub ok_at : {T E X : Type 0} {it : T} (result : Result T E) → result ≡ Ok it → OnOk result X → X
ok_at (Ok other) is x = x
ok_at {it = it} (Err e) is x = let z : Err e ≡ Ok it = is in cc

-- a part that comes to its end whatever it answers
pub crash_ran : {T E : Type 0} {P A B : Disks → Type 0} {old new : Option Trail} {result : Result T E} → ((s : Disks) → B s → P s) → Ran old new (CrashTriple P A B)
    → CrashSpecification P A B old new result
crash_ran {result = result} is ran = record { moments = ends is ran; done = on_ok result ran }

-- a part that gives up
pub crash_failed : {T E : Type 0} (Q : E → Type 0) {P A B : Disks → Type 0} {old new : Option Trail} (result : Result T E) → IsErrAnd result Q
    → Ran old new (CrashTriple P A P) → CrashSpecification P A B old new result
crash_failed Q (Ok it) is ran = absurd is
crash_failed Q (Err e) is ran = record { moments = ran; done = tt }

-- the same where a `?` hands on the error
pub crash_raised : {T U E : Type 0} {e : E} {P A B C : Disks → Type 0} {old new : Option Trail} (result : Result U E) → IsErrAnd result (λ other. other ≡ e)
    → CrashSpecification {T = T} P A B old new (Err e) → CrashSpecification P A C old new result
crash_raised {e = e} result is part = crash_failed (λ other. other ≡ e) result is part.moments

-- a part that was run to its end, and then another
pub crash_after : {U E : Type 0} {P A B C : Disks → Type 0} {old mid new : Option Trail} {result : Result U E} → Ran old mid (CrashTriple P A B)
    → CrashSpecification P B C mid new result → CrashSpecification P A C old new result
crash_after {result = result} ran second = record { moments = andthen ran second.moments; done = on_ok_then result (λ then. andthen ran then) second.done }

-- a part that ended well, and then another
pub crash_then : {T U E F : Type 0} {P A B C : Disks → Type 0} {old mid new : Option Trail} {it : T} {result : Result U F}
    → CrashSpecification {E = E} P A B old mid (Ok it) → CrashSpecification P B C mid new result → CrashSpecification P A C old new result
crash_then first second = crash_after first.done second

-- a part that begins at a stage that follows from another
pub crash_from : {T E : Type 0} {P A A' B : Disks → Type 0} {old new : Option Trail} {result : Result T E} → ((s : Disks) → A' s → A s)
    → CrashSpecification P A B old new result → CrashSpecification P A' B old new result
crash_from {result = result} is part = record { moments = from is part.moments; done = on_ok_then result (λ ran. from is ran) part.done }

-- and one from which another stage follows at its end
pub crash_upto : {T E : Type 0} {P A B B' : Disks → Type 0} {old new : Option Trail} {result : Result T E} → ((s : Disks) → B s → B' s)
    → CrashSpecification P A B old new result → CrashSpecification P A B' old new result
crash_upto {result = result} is part = record { moments = part.moments; done = on_ok_then result (λ ran. upto is ran) part.done }

-- one of which less is said at each moment
pub crash_milder : {T E : Type 0} {P Q A B : Disks → Type 0} {old new : Option Trail} {result : Result T E} → ((s : Disks) → P s → Q s)
    → CrashSpecification P A B old new result → CrashSpecification Q A B old new result
crash_milder {result = result} is part = record { moments = ends is (milder is part.moments); done = on_ok_then result (λ ran. milder is ran) part.done }

-- and one from where nothing can be
pub crash_never : {T U E F : Type 0} {P Q A B C : Disks → Type 0} {old new : Option Trail} {any : Result T E} {result : Result U F}
    → CrashSpecification P A B old new any → CrashSpecification Q (λ s. ⊥) C old new result
crash_never {result = result} part = record { moments = never part.moments; done = on_ok result (never part.moments) }
