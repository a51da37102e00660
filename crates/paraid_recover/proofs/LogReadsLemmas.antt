-- Reads of the log of a log disk, one after the other.
use Rattle.std.specs.Prelude.{◌≡◌, ◌≢◌, ℕ, ◌+◌, ◌<◌, ◌≤◌, Bool, true, false, List, [], ◌∷◌, Option, Some, Result, Ok, Err, IsErrAnd, is_ok}
use Rattle.std.proofs.Common.{refl, sym, ◌∙◌, ap, subst, arith, inl, inr}
use Rattle.std.proofs.lemmas.Bool.{cases_eq, true≢false}
use Rattle.paraid_base.specs.declared.geometry.Geometry.{Geometry}
use Rattle.paraid_base.specs.Log.{log_least}
use Rattle.paraid_rack.specs.Calls.{AreReads}
use Rattle.paraid_rack.specs.declared.call.Call.{Call}
use Rattle.paraid_rack.specs.declared.call.Call.TheVariants.{Read, Write, Sync, Park, SpinUp, Attach}
use Rattle.paraid_rack.specs.declared.call.Power.{Power}
use Rattle.paraid_rack.specs.declared.call.Power.TheVariants.{Absent, Parked, Spinning}
use Rattle.paraid_rack.specs.declared.rack.Rack.{Ghosts}
use Rattle.paraid_rack.specs.Disks.{Disks, step}
use Rattle.paraid_rack.specs.Slots.{ChangesOneSlot}
use Rattle.paraid_rack.specs.Told.{GrowsByCall, Ran}
use Rattle.paraid_rack.specs.Trail.{Trail, now, run}
use Rattle.paraid_rack.proofs.TrailsLemmas.{Ran-call, Ran-none, now-extend}
use Rattle.paraid_record.specs.Targets.{AreTargets}
use Rattle.paraid_txn.specs.Uses.{EachCall}
use Rattle.paraid_recover.specs.Calls.{OnlyReadsAndKeeps}
use Rattle.paraid_recover.specs.HeardSides.{HasReadLog, IsUnchanged, ReadsLog}
use Rattle.paraid_recover.proofs.FailedLemmas.{calls_then, failed_after, most_fits, most_none, most_read, most_then}
use Rattle.paraid_recover.proofs.UnchangedLemmas.{losing_read, losing_then, unchanged_none, unchanged_now, unchanged_read, unchanged_then}

module _ {R : Type 0} (g : Ghosts R) (x : ℕ) where
  -- none, and one
  pub log_none : (n : ℕ) (rack : R) → HasReadLog g x n rack rack true
  log_none n rack = record {
    slots = refl;
    others = λ d apart. refl;
    same = λ ok d. refl;
    unchanged = λ ok. unchanged_none (g.told rack);
    failed = λ no. absurd (true≢false no);
    lost = λ no. absurd (true≢false no);
    calls = Ran-none (EachCall (ReadsLog x)) (λ s. tt) (g.told rack);
    few = most_none n (g.told rack);
  }

  pub log_read : (p : ℕ) (old new : R) (ok : Bool) → p < log_least → g.slot_count new ≡ g.slot_count old
      → ChangesOneSlot (g.slot old) (g.slot new) x (g.slot old x) (g.slot old x).unsynced ok → GrowsByCall (g.told old) (g.told new) (Read x p ok)
      → ((s : Trail) → g.told old ≡ Some s → (now s).power x ≡ Spinning) → HasReadLog g x 1 old new ok
  log_read p old new ok low slots slot grows spins = record {
    slots = slots;
    others = slot.others;
    same = λ yes d. elim (cases_eq d x) [
      | inl is ↦ ap (g.slot new) is ∙ slot.done yes ∙ ap (g.slot old) (sym is)
      | inr apart ↦ slot.others d apart
    ];
    unchanged = λ yes. unchanged_read {old = g.told old} {new = g.told new} {d = x} {p = p} (subst (λ (b : Bool). GrowsByCall (g.told old) (g.told new) (Read x p b)) yes grows);
    failed = λ no. record { risen = slot.risen no; later = slot.later no; gone = slot.absent no };
    lost = λ no. losing_read {old = g.told old} {new = g.told new} {d = x} {p = p} (subst (λ (b : Bool). GrowsByCall (g.told old) (g.told new) (Read x p b)) no grows);
    calls = Ran-call (EachCall (ReadsLog x)) (g.told old) (g.told new) (Read x p ok) grows (λ s is. (spins s is, (refl, low), tt));
    few = most_read {old = g.told old} {new = g.told new} {c = Read x p ok} grows;
  }

  -- one part after the other
  pub log_then : (n m k : ℕ) → n + m ≤ k → (old mid new : R) (ok : Bool) → HasReadLog g x n old mid true → HasReadLog g x m mid new ok → HasReadLog g x k old new ok
  log_then n m k fits old mid new ok a b = record {
    slots = b.slots ∙ a.slots;
    others = λ d apart. b.others d apart ∙ a.others d apart;
    same = λ yes d. b.same yes d ∙ a.same refl d;
    unchanged = λ yes. unchanged_then (a.unchanged refl) (b.unchanged yes);
    failed = λ no. failed_after (a.same refl) (b.failed no);
    lost = λ no. losing_then x (a.unchanged refl) (b.lost no);
    calls = calls_then (ReadsLog x) a.calls b.calls;
    few = most_then n m k fits a.few b.few;
  }

  pub log_fits : (n k : ℕ) → n ≤ k → (old new : R) (ok : Bool) → HasReadLog g x n old new ok → HasReadLog g x k old new ok
  log_fits n k fits old new ok a = record {
    slots = a.slots;
    others = a.others;
    same = a.same;
    unchanged = a.unchanged;
    failed = a.failed;
    lost = a.lost;
    calls = a.calls;
    few = most_fits n k fits a.few;
  }

  -- what a `?` hands on
  pub log_raised : {A E : Type 0} (n : ℕ) (old new : R) (r : Result A E) (e : E) → IsErrAnd r (λ y. y ≡ e) → HasReadLog g x n old new false → HasReadLog g x n old new (is_ok r)
  log_raised n old new (Ok a) e is reads = absurd is
  log_raised n old new (Err z) e is reads = reads

-- they are reads alone
are_reads : (x : ℕ) (s : Disks) (cs : List Call) → EachCall (ReadsLog x) s cs → AreReads cs
are_reads x s [] each = tt
are_reads x s (Read d p ok ∷ cs) each = (tt, are_reads x (step (Read d p ok) s) cs each.2)
are_reads x s (Write d p b ok ∷ cs) each = absurd each.1
are_reads x s (Sync d ok ∷ cs) each = absurd each.1
are_reads x s (Park d ok ∷ cs) each = absurd each.1
are_reads x s (SpinUp d ok ∷ cs) each = absurd each.1
are_reads x s (Attach d size ok ∷ cs) each = absurd each.1

-- and leave the disks as they are
pub quiet_of : {old new : Option Trail} (x : ℕ) → Ran old new (EachCall (ReadsLog x)) → IsUnchanged old new → OnlyReadsAndKeeps old new
quiet_of {old} {new} x calls same t tells =
    let r = calls t tells in
    let u = unchanged_now same t tells in
    let one : u.0 ≡ r.from = (let z : Some u.0 ≡ Some r.from = sym u.1 ∙ r.was in cc) in
    let stays : run (now r.from) r.calls ≡ now r.from = sym (ap now r.is ∙ now-extend r.from r.calls) ∙ u.2 ∙ ap now one in
    record { from = r.from; was = r.was; calls = r.calls; is = r.is; holds = (are_reads x (now r.from) r.calls r.holds, stays) }

pub empty_targets : (g : Geometry) → AreTargets g []
empty_targets g = record { few = omega arith; each = λ k t lt. absurd (omega arith); distinct = λ i j t lt within. absurd (omega arith) }

-- a disk that is there and not parked spins
pub spins_by : (p : Power) → p ≢ Absent → p ≢ Parked → p ≡ Spinning
spins_by Absent here awake = absurd (here refl)
spins_by Parked here awake = absurd (awake refl)
spins_by Spinning here awake = refl
