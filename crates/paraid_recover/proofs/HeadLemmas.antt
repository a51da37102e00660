-- Reads of the heads of the logs, one after the other.
use Rattle.std.specs.Prelude.{◌≡◌, ℕ, ◌+◌, ◌<◌, ◌≤◌, Bool, List, [], ◌∷◌, ◌++◌, Option, Some}
use Rattle.std.proofs.Common.{refl, sym, ◌∙◌, ap, subst, arith}
use Rattle.std.proofs.lemmas.List.{append-nil, length-append}
use Rattle.paraid_rack.specs.declared.call.Call.{Call}
use Rattle.paraid_rack.specs.declared.call.Call.TheVariants.{Read}
use Rattle.paraid_rack.specs.Disks.{Disks}
use Rattle.paraid_rack.specs.Told.{GrowsByCall, Ran}
use Rattle.paraid_rack.specs.Trail.{Trail, now}
use Rattle.paraid_rack.proofs.TrailsLemmas.{Ran-call, Ran-none}
use Rattle.paraid_recover.specs.Calls.{AreHeadReads, AreHeadReadsOf, OnlyHeadReads, OnlyReadsAndKeeps, ReadsHead}
use Rattle.paraid_recover.specs.Found.{IsGreatest}
use Rattle.paraid_recover.proofs.AttachLemmas.{ran_then, ran_weaker}
use Rattle.paraid_recover.proofs.ReadsLemmas.{quiet_now}
use Rattle.paraid_recover.proofs.ToldLemmas.{same_trail}

heads_append : (x : ℕ) (cs ds : List Call) → ReadsHead x cs → ReadsHead x ds → ReadsHead x (cs ++ ds)
heads_append x [] ds first second = second
heads_append x (c ∷ cs) ds first second = (first.0, heads_append x cs ds first.1 second)

-- of one log disk: none, one, and two parts
pub head_none : (x n : ℕ) (told : Option Trail) → Ran told told (AreHeadReadsOf x n)
head_none x n told = Ran-none (AreHeadReadsOf x n) (λ s. (omega arith, tt)) told

pub head_read : {old new : Option Trail} {x p : ℕ} {done : Bool} → p < 4 → GrowsByCall old new (Read x p done) → Ran old new (AreHeadReadsOf x 1)
head_read {old} {new} {x} {p} {done} low grows = Ran-call (AreHeadReadsOf x 1) old new (Read x p done) grows (λ s is. (omega arith, ((refl, low), tt)))

pub head_then : {old mid new : Option Trail} (x n m k : ℕ) → n + m ≤ k → Ran old mid (AreHeadReadsOf x n) → Ran mid new (AreHeadReadsOf x m) → Ran old new (AreHeadReadsOf x k)
head_then {old} {mid} {new} x n m k fits =
    ran_then (AreHeadReadsOf x n) (AreHeadReadsOf x m) (AreHeadReadsOf x k)
    (λ s cs ds a b. ((let size = length-append cs ds in let first = a.0 in let second = b.0 in omega arith), heads_append x cs ds a.1 b.1)) old mid new

pub head_fits : {old new : Option Trail} (x n k : ℕ) → n ≤ k → Ran old new (AreHeadReadsOf x n) → Ran old new (AreHeadReadsOf x k)
head_fits {old} {new} x n k fits = ran_weaker (AreHeadReadsOf x n) (AreHeadReadsOf x k) (λ s cs a. ((let few = a.0 in omega arith), a.1)) old new

-- of the first log disk, and of both
pub no_heads : AreHeadReads []
no_heads = record { first = []; second = []; is = refl; few = (omega arith, omega arith); of_first = tt; of_second = tt }

pub head_first : {old new : Option Trail} → Ran old new (AreHeadReadsOf 0 3) → OnlyHeadReads old new
head_first {old} {new} =
    ran_weaker (AreHeadReadsOf 0 3) (λ start calls. AreHeadReads calls)
    (λ s cs a. record { first = cs; second = []; is = sym (append-nil cs); few = (a.0, omega arith); of_first = a.1; of_second = tt }) old new

pub head_both : {old mid new : Option Trail} → Ran old mid (AreHeadReadsOf 0 3) → Ran mid new (AreHeadReadsOf 1 3) → OnlyHeadReads old new
head_both {old} {mid} {new} =
    ran_then (AreHeadReadsOf 0 3) (AreHeadReadsOf 1 3) (λ start calls. AreHeadReads calls)
    (λ s cs ds a b. record { first = cs; second = ds; is = refl; few = (a.0, b.0); of_first = a.1; of_second = b.1 }) old mid new

-- what was heard is so of the disks before the reads
pub greatest_before : {old new : Option Trail} (e : ℕ) → OnlyHeadReads old new → OnlyReadsAndKeeps old new → ((t : Trail) → new ≡ Some t → IsGreatest (now t) e)
    → Ran old new (λ start calls. AreHeadReads calls × IsGreatest start e)
greatest_before {old} e heads quiet heard t tells =
    let r = heads t tells in
    let u = quiet_now quiet t tells in
    let same : u.0 ≡ r.from = same_trail old u.0 r.from u.1 r.was in
    record { from = r.from; was = r.was; calls = r.calls; is = r.is; holds = (r.holds, subst (λ (s : Disks). IsGreatest s e) (u.2 ∙ ap now same) (heard t tells)) }
