-- From the clauses of a core to what is told of its calls in an event.
use Rattle.std.proofs.Common.{◌≡◌, ℕ, ◌⊎◌, List, Option, Some, ap, ◌∙◌, subst}
use Rattle.paraid_base.specs.History.{History}
use Rattle.paraid_base.specs.States.{gone_out, named_out}
use Rattle.paraid_rack.specs.declared.call.Call.{Call}
use Rattle.paraid_rack.specs.Disks.{Disks}
use Rattle.paraid_rack.specs.Told.{CrashTriple, Ran, Through}
use Rattle.paraid_rack.specs.Trail.{Trail, now, run}
use Rattle.paraid_rack.proofs.TrailsLemmas.{now-extend}
use Rattle.paraid_core.specs.Calls.{IsDataCall, IsTransferCall}
use Rattle.paraid_core.specs.CoreInvariant.{IsHeldWithOneMissing}
use Rattle.paraid_core.proofs.CommitLemmas.{both_of}
use Rattle.paraid_txn.specs.Commit.{IsOldOrNew}
use Rattle.paraid_txn.specs.Uses.{EachCall}
use Rattle.paraid_event.specs.Marks.{IsMarkedBy}
use Rattle.paraid_event.specs.Parts.{LosesInEvent, ServesEvent, committed_meta}
use Rattle.paraid_event.specs.Parts.BringsMeta.{commit, nothing}
use Rattle.paraid_event.specs.Service.{Service}
use Rattle.paraid_event.specs.Stands.{ServiceStandsFor}

module _ (told told_then : Option Trail) (k k_then : Service) (h : History) (lo : ℕ) (h_then : History) (lo_then : ℕ) (out : Option ℕ) (is_out : (d : ℕ) → out ≡ Some d → (k.named ≡ Some d) ⊎ (named_out k.meta.out ≡ Some d)) where
  abbrev n : ℕ
  n = k.meta.setup.geometry.disks

  abbrev P : Disks → Type 0
  P = IsHeldWithOneMissing k.slots n out h lo

  abbrev Marked : Type 0
  Marked = (t : Trail) → told_then ≡ Some t → IsMarkedBy (now t).power k.meta k_then.meta

  -- the mark, by the disks at the end of the calls
  marked_end : (t from : Trail) (cs : List Call) → told_then ≡ Some t → Marked → now t ≡ run (now from) cs → IsMarkedBy (run (now from) cs).power k.meta k_then.meta
  marked_end t from cs tells marked is = subst (λ (s : Disks). IsMarkedBy s.power k.meta k_then.meta) is (marked t tells)

  -- between two commits
  pub between_serves : Ran told told_then (EachCall (IsDataCall n (gone_out k.meta.out))) → Ran told told_then (CrashTriple P (ServiceStandsFor k h lo) (ServiceStandsFor k_then h_then lo_then)) → Marked
      → Ran told told_then (ServesEvent k k_then h lo h_then lo_then)
  between_serves calls stands marked t tells =
      let r = both_of (EachCall (IsDataCall n (gone_out k.meta.out))) (CrashTriple P (ServiceStandsFor k h lo) (ServiceStandsFor k_then h_then lo_then)) told told_then calls stands t tells in
      record {
        from = r.from;
        was = r.was;
        calls = r.calls;
        is = r.is;
        holds = λ z. let both = r.holds.1.goes z in (
          record { out = out; is_out = is_out; held = both.0; brings = nothing r.holds.0 },
          record {
            keeps = both.1;
            marks = marked_end t r.from r.calls tells marked (ap now r.is ∙ now-extend r.from r.calls);
          },
        );
      }

  -- in a commit, or in calls with one
  pub commit_serves : Ran told told_then (EachCall (IsTransferCall n (gone_out k.meta.out))) → Ran told told_then (CrashTriple P (ServiceStandsFor k h lo) (ServiceStandsFor k_then h_then lo_then))
      → Ran told told_then (λ s cs. (z : ServiceStandsFor k h lo s) → Through (IsOldOrNew s z.base (committed_meta k) k.batch) s cs)
      → Marked → Ran told told_then (ServesEvent k k_then h lo h_then lo_then)
  commit_serves calls stands whole marked t tells =
      let first = both_of (EachCall (IsTransferCall n (gone_out k.meta.out))) (CrashTriple P (ServiceStandsFor k h lo) (ServiceStandsFor k_then h_then lo_then)) told told_then calls stands in
      let r = both_of _ (λ s cs. (z : ServiceStandsFor k h lo s) → Through (IsOldOrNew s z.base (committed_meta k) k.batch) s cs) told told_then first whole t tells in
      record {
        from = r.from;
        was = r.was;
        calls = r.calls;
        is = r.is;
        holds = λ z. let both = r.holds.0.1.goes z in (
          record { out = out; is_out = is_out; held = both.0; brings = commit r.holds.0.0 (r.holds.1 z) },
          record {
            keeps = both.1;
            marks = marked_end t r.from r.calls tells marked (ap now r.is ∙ now-extend r.from r.calls);
          },
        );
      }

  -- two disks are lost between two commits, or in a commit
  pub between_loses : (Q : Disks → List Call → Type 0) → Ran told told_then (EachCall (IsDataCall n (gone_out k.meta.out))) → Ran told told_then (CrashTriple P (ServiceStandsFor k h lo) P) → Ran told told_then Q
      → Ran told told_then (λ s cs. LosesInEvent k h lo s cs × Q s cs)
  between_loses Q calls stands more t tells =
      let one = both_of (EachCall (IsDataCall n (gone_out k.meta.out))) (CrashTriple P (ServiceStandsFor k h lo) P) told told_then calls stands in
      let r = both_of _ Q told told_then one more t tells in
      record {
        from = r.from;
        was = r.was;
        calls = r.calls;
        is = r.is;
        holds = ((λ z. record { out = out; is_out = is_out; held = (r.holds.0.1.goes z).0; brings = nothing r.holds.0.0 }), r.holds.1);
      }

  pub commit_loses : (Q : Disks → List Call → Type 0) → Ran told told_then (EachCall (IsTransferCall n (gone_out k.meta.out))) → Ran told told_then (CrashTriple P (ServiceStandsFor k h lo) P)
      → Ran told told_then (λ s cs. (z : ServiceStandsFor k h lo s) → Through (IsOldOrNew s z.base (committed_meta k) k.batch) s cs) → Ran told told_then Q
      → Ran told told_then (λ s cs. LosesInEvent k h lo s cs × Q s cs)
  commit_loses Q calls stands whole more t tells =
      let one = both_of (EachCall (IsTransferCall n (gone_out k.meta.out))) (CrashTriple P (ServiceStandsFor k h lo) P) told told_then calls stands in
      let two = both_of (λ s cs. (z : ServiceStandsFor k h lo s) → Through (IsOldOrNew s z.base (committed_meta k) k.batch) s cs) Q told told_then whole more in
      let r = both_of _ _ told told_then one two t tells in
      record {
        from = r.from;
        was = r.was;
        calls = r.calls;
        is = r.is;
        holds = ((λ z. record { out = out; is_out = is_out; held = (r.holds.0.1.goes z).0; brings = commit r.holds.0.0 (r.holds.1.0 z) }), r.holds.1.1);
      }
