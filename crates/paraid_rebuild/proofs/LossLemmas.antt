-- A second disk that is lost in a rebuild or in a replacement, in an event of a session.
use Rattle.std.proofs.Common.{true, ◌≡◌, ℕ, ◌+◌, ◌<◌, ◌≤◌, List, Option, Some, None, sym, ◌∙◌, inl, inr, subst, arith}
use Rattle.paraid_base.specs.declared.fault.Two.{Two}
use Rattle.paraid_base.specs.History.{History}
use Rattle.paraid_base.specs.States.{gone_out, named_out}
use Rattle.paraid_rack.specs.declared.call.Call.{Call}
use Rattle.paraid_rack.specs.Disks.{Disks}
use Rattle.paraid_rack.specs.Told.{CrashTriple, Ran, Through}
use Rattle.paraid_rack.specs.Trail.{Trail}
use Rattle.paraid_image.specs.Lost.{BearsLoss, TellsLosses, fails_on}
use Rattle.paraid_image.proofs.LostLemmas.{ran_says, ran_tells}
use Rattle.paraid_txn.specs.Commit.{IsOldOrNew}
use Rattle.paraid_txn.specs.Stores.{store_rack}
use Rattle.paraid_txn.specs.Uses.{EachCall}
use Rattle.paraid_core.specs.Calls.{IsDataCall, IsTransferCall}
use Rattle.paraid_core.specs.declared.staged.Core.{Core}
use Rattle.paraid_core.specs.CoreInvariant.{IsHeldWithOneMissing}
use Rattle.paraid_core.specs.Units.{UnitsRebuilt}
use Rattle.paraid_core.proofs.CommitLemmas.{both_of}
use Rattle.paraid_record.specs.declared.meta.Meta.{Meta}
use Rattle.paraid_record.specs.Range.{rebuild_units}
use Rattle.paraid_session.specs.Watch.{IsAmongDown, Watch}
use Rattle.paraid_event.specs.Lost.{TellsTwo}
use Rattle.paraid_event.specs.Marks.{ShowsMeta}
use Rattle.paraid_event.specs.Parts.{AreEventCalls, LosesInEvent, committed_meta}
use Rattle.paraid_event.specs.RebuildEnds.{LosesFinishing}
use Rattle.paraid_event.specs.Replacements.{LosesReplaced}
use Rattle.paraid_event.specs.Service.{Service, service_of}
use Rattle.paraid_event.specs.Stands.{IsMidway, ServiceStandsFor}
use Rattle.paraid_event.specs.Steps.{AreStepCalls, LosesInSteps, LosesShown, StepsInEvent}
use Rattle.paraid_event.proofs.ChainLemmas.{data_within, transfer_each}
use Rattle.paraid_event.proofs.GivenLemmas.{commit_loses}
use Rattle.paraid_event.proofs.GivenStepLemmas.{between_lost}
use Rattle.paraid_event.proofs.PartLemmas.{part_attaches, part_calls}
use Rattle.paraid_event.proofs.StepLemmas.{lose_then, loses_bound, part_loses, ran_both, ran_then}
use Rattle.paraid_rebuild.specs.Replacing.{LosesCopies, LosesFresh, LosesJoining}

-- what a function says of it, by its core before and after
abbrev pub LosesSteps : {R : Type 0} {g : _} → (R → ℕ) → (R → Option Trail) → Core R g → Core R g → ℕ → Two → Type 0
LosesSteps count told old new most = λ two. (samples : List ℕ) (served energy : ℕ) (h : History) (lo : ℕ) → Ran (told (store_rack old.store)) (told (store_rack new.store))
    (LosesInSteps (service_of count old samples served energy) h lo most two)

-- in the commit of a mark of units,
abbrev pub LosesMark : {R : Type 0} {g : _} → (R → ℕ) → (R → Option Trail) → Core R g → Core R g → ℕ → Two → Type 0
LosesMark count told old new end = λ two. (samples : List ℕ) (served energy : ℕ) (h : History) (lo : ℕ) → (marked : Service) × LosesCopies (told (store_rack old.store)) (told (store_rack new.store))
    (service_of count old samples served energy) marked h lo two (UnitsRebuilt count old h lo end)

-- in the commit that a fresh disk is there,
abbrev pub LosesBrought : {R : Type 0} {g : _} → (R → ℕ) → (R → Option Trail) → Core R g → Core R g → ℕ → Two → Type 0
LosesBrought count told old new disk = λ two. (samples : List ℕ) (served energy : ℕ) (h : History) (lo : ℕ) → LosesFresh (told (store_rack old.store)) (told (store_rack new.store)) (service_of count old samples served energy) h lo disk two

-- in a replacement,
abbrev pub LosesBegun : {R : Type 0} {g : _} → (R → ℕ) → (R → Option Trail) → Core R g → Core R g → ℕ → Two → Type 0
LosesBegun count told old new disk = λ two. (samples : List ℕ) (served energy : ℕ) (h : History) (lo : ℕ) → LosesReplaced (told (store_rack old.store)) (told (store_rack new.store)) (service_of count old samples served energy) h lo disk two

-- in the commit with which a disk comes back,
abbrev pub LosesBack : {R : Type 0} {g : _} → (R → ℕ) → (R → Option Trail) → Core R g → Core R g → ℕ → Two → Type 0
LosesBack count told old new disk = λ two. (samples : List ℕ) (served energy : ℕ) (h : History) (lo : ℕ) → (joined : Service) × LosesJoining (told (store_rack old.store)) (told (store_rack new.store))
    (service_of count old samples served energy) joined h lo disk two (UnitsRebuilt count old h lo (rebuild_units old.meta.setup.geometry old.meta.gear disk))

-- and in the end of a rebuild
abbrev pub LosesEnding : {R : Type 0} {g : _} → (R → ℕ) → (R → Option Trail) → Core R g → Core R g → ℕ → Two → Type 0
LosesEnding count told old new disk = λ two. (samples : List ℕ) (served energy : ℕ) (h : History) (lo : ℕ) → LosesFinishing (told (store_rack old.store)) (told (store_rack new.store)) (service_of count old samples served energy) h lo disk two

-- beside the disk that is out, by the last commit or by the meta
pub tells_by : (told told_then : Option Trail) (o p : Option ℕ) (two : Two) → o ≡ p → Ran told told_then (λ s cs. TellsLosses o two cs) → Ran told told_then (λ s cs. TellsLosses p two cs)
tells_by told told_then o p two is tells = subst (λ (q : Option ℕ). Ran told told_then (λ s cs. TellsLosses q two cs)) is tells

-- beside a disk that is out no other one fails
beside : (o p : Option ℕ) (d : ℕ) → o ≡ Some d → p ≡ Some d → (cs : List Call) → ((e : ℕ) → fails_on e cs ≡ true → p ≡ Some e) → BearsLoss o p cs
beside o p d was still cs only = record {
  first = λ none. let z : None ≡ Some d = sym none ∙ was in cc;
  stays = λ x is. still ∙ sym was ∙ is;
  only = only;
}

-- what is told of two losses beside a disk that is out is so after other calls, in which no other one failed
pub tells_later : (told mid told_then : Option Trail) (o p : Option ℕ) (d : ℕ) (two : Two) → o ≡ Some d → p ≡ Some d → Ran told mid (λ s cs. (e : ℕ) → fails_on e cs ≡ true → p ≡ Some e) → Ran mid told_then (λ s cs. TellsLosses p two cs) → Ran told told_then (λ s cs. TellsLosses o two cs)
tells_later told mid told_then o p d two was still first second =
    ran_tells o p two told mid told_then (ran_says (λ cs. (e : ℕ) → fails_on e cs ≡ true → p ≡ Some e) (BearsLoss o p) (λ cs x. beside o p d was still cs x) told mid first) second

-- Calls between two commits in which a second disk is lost are parts of an event with no commit.
module _ (k : Service) (h : History) (lo : ℕ) (base : Meta) (w : Watch) (at : IsMidway k h lo base w) (cs : List Call) (part : AreEventCalls k h lo base w.disks cs) (past : EachCall (IsDataCall k.meta.setup.geometry.disks (gone_out k.meta.out)) w.disks cs) where
  outs : (d : ℕ) → part.out ≡ Some d → (d < k.meta.setup.geometry.disks) × IsAmongDown w.down d
  outs d is =
      let named : named_out k.meta.out ≡ Some d = elim (part.is_out d is) [ inl was ↦ at.stands.stays d was | inr now_named ↦ now_named ] in
      (at.low d named, at.stands.named_down d named)

  data_calls : AreStepCalls k h lo 0 base w cs
  data_calls = record {
    moments = λ b asked setup ticks room. transfer_each k h lo base w at.stands b setup ticks asked cs part.out h lo outs (part_calls k h lo base w at cs part) part.held
        (data_within k h lo base w at.stands b setup ticks cs (omega (arith, room)) past);
    attaches = part_attaches k h lo base w at cs part;
  }

data_loses : (k : Service) (h : History) (lo : ℕ) (two : Two) (s : Disks) (cs : List Call) → (LosesShown k h lo s cs × TellsTwo k two s cs) × EachCall (IsDataCall k.meta.setup.geometry.disks (gone_out k.meta.out)) s cs → LosesInSteps k h lo 0 two s cs
data_loses k h lo two s cs loses base w same at =
    let part = subst (λ (m : Meta). AreEventCalls k h lo m w.disks cs) at.midway.stands.is_base
    (subst (λ (u : Disks). LosesShown k h lo u cs) (sym same) loses.0.0 at.midway.stands.keeps (subst (λ (m : Meta). ShowsMeta w.disks.power m k.meta) (sym at.midway.stands.is_base) at.shown)) in
    (data_calls k h lo base w at.midway cs part (subst (λ (u : Disks). EachCall (IsDataCall k.meta.setup.geometry.disks (gone_out k.meta.out)) u cs) (sym same) loses.1), loses.0.1)

module _ (told told_then : Option Trail) (k : Service) (h : History) (lo : ℕ) (two : Two) where
  abbrev P : Disks → Type 0
  P = IsHeldWithOneMissing k.slots k.meta.setup.geometry.disks k.named h lo

  -- A second disk is lost in a commit, which may follow marks;
  pub commit_lost : (before : Option Trail) → told ≡ before → Ran told told_then (EachCall (IsTransferCall k.meta.setup.geometry.disks (gone_out k.meta.out))) → Ran told told_then (CrashTriple P (ServiceStandsFor k h lo) P)
      → Ran told told_then (λ s cs. (z : ServiceStandsFor k h lo s) → Through (IsOldOrNew s z.base (committed_meta k) k.batch) s cs) → Ran told told_then (TellsTwo k two) → Ran before told_then (λ s cs. LosesInEvent k h lo s cs × TellsTwo k two s cs)
  commit_lost before same calls held whole tells = subst (λ (x : Option Trail). Ran x told_then (λ s cs. LosesInEvent k h lo s cs × TellsTwo k two s cs)) same
      (commit_loses told told_then k k h lo h lo k.named (λ d is. inl is) (TellsTwo k two) calls held whole tells)

  -- in a commit with which a disk comes back, beside that one
  pub join_lost : (before : Option Trail) (d : ℕ) → told ≡ before → Ran told told_then (EachCall (IsTransferCall k.meta.setup.geometry.disks (gone_out k.meta.out))) → Ran told told_then (CrashTriple P (ServiceStandsFor k h lo) P)
      → Ran told told_then (λ s cs. (z : ServiceStandsFor k h lo s) → Through (IsOldOrNew s z.base (committed_meta k) k.batch) s cs) → Ran told told_then (λ s cs. TellsLosses (Some d) two cs)
      → Ran before told_then (λ s cs. LosesInEvent k h lo s cs × TellsLosses (Some d) two cs)
  join_lost before d same calls held whole tells = subst (λ (x : Option Trail). Ran x told_then (λ s cs. LosesInEvent k h lo s cs × TellsLosses (Some d) two cs)) same
      (commit_loses told told_then k k h lo h lo k.named (λ d is. inl is) (λ s cs. TellsLosses (Some d) two cs) calls held whole tells)

  pub commit_lost_fresh : (j : Service) → k ≡ j → Ran told told_then (EachCall (IsTransferCall k.meta.setup.geometry.disks (gone_out k.meta.out))) → Ran told told_then (CrashTriple P (ServiceStandsFor k h lo) P)
      → Ran told told_then (λ s cs. (z : ServiceStandsFor k h lo s) → Through (IsOldOrNew s z.base (committed_meta k) k.batch) s cs) → Ran told told_then (TellsTwo k two) → Ran told told_then (λ s cs. LosesInEvent j h lo s cs × TellsTwo j two s cs)
  commit_lost_fresh j is calls held whole tells = subst (λ (y : Service). Ran told told_then (λ s cs. LosesInEvent y h lo s cs × TellsTwo y two s cs)) is (commit_loses told told_then k k h lo h lo k.named (λ d is. inl is) (TellsTwo k two) calls held whole tells)

  pub commit_lost_steps : (before : Option Trail) → told ≡ before → Ran told told_then (EachCall (IsTransferCall k.meta.setup.geometry.disks (gone_out k.meta.out))) → Ran told told_then (CrashTriple P (ServiceStandsFor k h lo) P)
      → Ran told told_then (λ s cs. (z : ServiceStandsFor k h lo s) → Through (IsOldOrNew s z.base (committed_meta k) k.batch) s cs) → Ran told told_then (TellsTwo k two) → Ran before told_then (LosesInSteps k h lo 1 two)
  commit_lost_steps before same calls held whole tells = ran_then (λ s cs. LosesInEvent k h lo s cs × TellsTwo k two s cs) (LosesInSteps k h lo 1 two) (λ s cs x. part_loses k h lo two s cs x) before told_then (commit_lost before same calls held whole tells)

  -- or in copies, which are parts with no commit.
  pub copies_lost_steps : (A : Disks → Type 0) → ((s : Disks) (z : ServiceStandsFor k h lo s) → ShowsMeta s.power z.base k.meta → A s) → Ran told told_then (EachCall (IsDataCall k.meta.setup.geometry.disks (gone_out k.meta.out))) → Ran told told_then (CrashTriple P A P)
      → Ran told told_then (TellsTwo k two) → Ran told told_then (LosesInSteps k h lo 0 two)
  copies_lost_steps A starts calls held tells = ran_then (λ s cs. (LosesShown k h lo s cs × TellsTwo k two s cs) × EachCall (IsDataCall k.meta.setup.geometry.disks (gone_out k.meta.out)) s cs) (LosesInSteps k h lo 0 two) (λ s cs x. data_loses k h lo two s cs x) told told_then
      (both_of (λ s cs. LosesShown k h lo s cs × TellsTwo k two s cs) (EachCall (IsDataCall k.meta.setup.geometry.disks (gone_out k.meta.out))) told told_then (between_lost told told_then k h lo k.named (λ d is. inl is) (TellsTwo k two) A starts calls held tells) calls)

  -- with room for more commits
  pub lost_within : (most bound : ℕ) → most ≤ bound → Ran told told_then (LosesInSteps k h lo most two) → Ran told told_then (LosesInSteps k h lo bound two)
  lost_within most bound le ran = ran_then (LosesInSteps k h lo most two) (LosesInSteps k h lo bound two) (λ s cs x. loses_bound k h lo most bound le two s cs x) told told_then ran

  -- of the same service
  pub lost_same : (j : Service) (most : ℕ) → k ≡ j → Ran told told_then (LosesInSteps k h lo most two) → Ran told told_then (LosesInSteps j h lo most two)
  lost_same j most is ran = subst (λ (y : Service). Ran told told_then (LosesInSteps y h lo most two)) is ran

-- after other parts of the event
pub lost_then : (told mid told_then : Option Trail) (k j : Service) (h : History) (lo most more : ℕ) (two : Two) → Ran told mid (StepsInEvent k j h lo most) → Ran mid told_then (LosesInSteps j h lo more two) → Ran told told_then (LosesInSteps k h lo (most + more) two)
lost_then told mid told_then k j h lo most more two one next = ran_both (StepsInEvent k j h lo most) (LosesInSteps j h lo more two) (LosesInSteps k h lo (most + more) two) (λ s cs ds x y. lose_then k j h lo most more two s cs ds x y) told mid told_then one next
