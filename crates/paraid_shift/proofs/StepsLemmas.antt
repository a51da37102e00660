-- Calls of a core in a shift, as parts of an event.
use Rattle.std.specs.Prelude.{◌≡◌, ℕ, ◌+◌, ◌<◌, ◌≤◌, false, List, [], length, Option, Some}
use Rattle.std.proofs.Common.{sym, ◌∙◌, ap, subst, arith, inl, inr}
use Rattle.paraid_base.specs.declared.state.Out.TheVariants.{No}
use Rattle.paraid_base.specs.History.{History}
use Rattle.paraid_base.specs.States.{gone_out, named_out}
use Rattle.paraid_rack.specs.declared.call.Call.{Call}
use Rattle.paraid_rack.specs.Disks.{Disks, is_present}
use Rattle.paraid_rack.specs.Slots.{Agrees, Slot}
use Rattle.paraid_rack.specs.Told.{CrashTriple, Ran}
use Rattle.paraid_rack.specs.Trail.{Trail, now, run}
use Rattle.paraid_rack.proofs.TrailsLemmas.{Ran-none, now-extend, weaker}
use Rattle.paraid_record.specs.declared.meta.Meta.{Meta}
use Rattle.paraid_record.specs.declared.meta.Setup.{Setup}
use Rattle.paraid_txn.specs.Stores.{named_of, store_rack}
use Rattle.paraid_txn.specs.Uses.{EachCall}
use Rattle.paraid_core.specs.declared.staged.Core.{Core}
use Rattle.paraid_core.specs.Calls.{CommitsWhole, IsDataCall, MakesDataCalls, MakesTransferCalls}
use Rattle.paraid_core.specs.CoreInvariant.{HoldsBetweenCalls}
use Rattle.paraid_image.specs.Sides.{Batch}
use Rattle.paraid_moves.specs.MoveMetas.{filled_to}
use Rattle.paraid_core.specs.Cores.{CoreStandsFor, IsCoreHeldSinceCommit, IsCoreReady}
use Rattle.paraid_core.specs.Lost.{CoreMarksLost}
use Rattle.paraid_core.proofs.CommitLemmas.{both_of}
use Rattle.paraid_event.specs.Powering.{ServiceRests}
use Rattle.paraid_event.specs.Service.{Service, service_of}
use Rattle.paraid_event.specs.Steps.{AwaitsCommit, MarksInMemory, ServesAndMarks, ServesMarked, ServesShown, StepsInEvent, StepsToMark}
use Rattle.paraid_event.proofs.GivenStepLemmas.{between_shown, commit_marked, commit_shown}
use Rattle.paraid_event.proofs.ShownLemmas.{shown_rests}
use Rattle.paraid_event.proofs.StepLemmas.{data_steps, follow, goes_bound, goes_within, no_steps, part_steps, ran_both, ran_end, ran_then}
use Rattle.paraid_event.proofs.StepMarkLemmas.{commit_steps, copied_steps, follow_mark, mark_steps}
use Rattle.paraid_event.proofs.ShiftMarkLemmas.{filled_mark}
use Rattle.paraid_image.specs.Power.{power_by_gear}
use Rattle.paraid_event.specs.CoreServing.{RestsInShift, StandsFromRest}
use Rattle.paraid_shift.specs.Steps.{CoreServesMarked, CoreStepsInEvent, CoreStepsToMark, StepsOrWaits}
use Rattle.paraid_event.proofs.CoreServingLemmas.{lowered}

-- what a mark makes of what stands, with no call
pub mark_stands : (P A B : Disks → Type 0) (old new : Option Trail) → new ≡ old → Ran old new (CrashTriple P A B) → (t : Trail) → new ≡ Some t → A (now t) → B (now t)
mark_stands P A B old new same ran t tells holds =
    let r = ran t tells in
    let both : Some r.from ≡ Some t = sym r.was ∙ sym same ∙ tells in
    let start : r.from ≡ t = cc in
    let end : now t ≡ run (now r.from) r.calls = ap now r.is ∙ now-extend r.from r.calls in
    subst B (sym end) (r.holds.goes (subst (λ (u : Trail). A (now u)) (sym start) holds)).1

-- marks of stripes wait as they do by the meta before them
waits_filled : (k k_then : Service) (m : Meta) (fill : ℕ) (h : History) (lo most : ℕ) (s : Disks) (cs : List Call) → StepsToMark k k_then m h lo most s cs → StepsToMark k k_then (filled_to m fill) h lo most s cs
waits_filled k k_then m fill h lo most s cs steps base w same at =
    let y = steps base w same at in
    record {
      calls = y.calls;
      leaves = y.leaves;
      base_then = y.base_then;
      room = y.room;
      carried = y.carried;
      ends = record { midway = y.ends.midway; only = y.ends.only; settled = y.ends.settled; powered = y.ends.powered };
    }

module _ {R : Type 0} {g : _} (count : R → ℕ) (slot : R → ℕ → Slot) (told : R → Option Trail) where
  pub core_steps_none : (a : Core R g) → CoreStepsInEvent count told a a 0
  core_steps_none a h lo samples served energy =
      Ran-none (StepsInEvent (service_of count a samples served energy) (service_of count a samples served energy) h lo 0) (λ s. no_steps (service_of count a samples served energy) h lo s) (told (store_rack a.store))

  pub core_steps_then : (a b c : Core R g) (most more : ℕ) → CoreStepsInEvent count told a b most → CoreStepsInEvent count told b c more → CoreStepsInEvent count told a c (most + more)
  core_steps_then a b c most more first second h lo samples served energy =
      let k = service_of count a samples served energy in
      let j = service_of count b samples served energy in
      let k_then = service_of count c samples served energy in
      ran_both (StepsInEvent k j h lo most) (StepsInEvent j k_then h lo more) (StepsInEvent k k_then h lo (most + more)) (λ s cs ds x y. follow k j k_then h lo most more s cs ds x y)
      (told (store_rack a.store)) (told (store_rack b.store)) (told (store_rack c.store)) (first h lo samples served energy) (second h lo samples served energy)

  pub core_steps_within : (a b : Core R g) (most bound : ℕ) → most ≤ bound → CoreStepsInEvent count told a b most → CoreStepsInEvent count told a b bound
  core_steps_within a b most bound le steps h lo samples served energy =
      let k = service_of count a samples served energy in
      let k_then = service_of count b samples served energy in
      ran_then (StepsInEvent k k_then h lo most) (StepsInEvent k k_then h lo bound) (λ s cs x. goes_bound k k_then h lo most bound le s cs x)
      (told (store_rack a.store)) (told (store_rack b.store)) (steps h lo samples served energy)

  module _ (a b : Core R g) (agrees : (t : Trail) → told (store_rack a.store) ≡ Some t → Agrees (now t) (slot (store_rack a.store)))
      (agrees_then : (t : Trail) → told (store_rack b.store) ≡ Some t → Agrees (now t) (slot (store_rack b.store)))
      (slots : count (store_rack b.store) ≡ count (store_rack a.store)) (setup : b.meta.setup ≡ a.meta.setup) (ready : IsCoreReady count slot b) (marks : CoreMarksLost slot a b) where
    absent_named : (d : ℕ) → d < a.meta.setup.geometry.disks → is_present (slot (store_rack b.store) d).power ≡ false → named_out b.meta.out ≡ Some d
    absent_named d low gone = ready.absent d (subst (λ (z : Setup). d < z.geometry.disks) (sym setup) low) gone

    -- copies between two commits, with marks in the table and the batch
    pub copies_are_steps : a.batch ≡ [] → MakesDataCalls told a b → StandsFromRest count told a b → CoreStepsInEvent count told a b 0
    copies_are_steps nothing calls stands h lo samples served energy =
        let k = service_of count a samples served energy in
        let k_then = service_of count b samples served energy in
        ran_then _ (StepsInEvent k k_then h lo 0) (λ s cs x. data_steps k k_then h lo lo (omega arith) slots s cs x) (told (store_rack a.store)) (told (store_rack b.store))
        (both_of (ServesShown k k_then h lo lo) (EachCall (IsDataCall a.meta.setup.geometry.disks (gone_out a.meta.out))) (told (store_rack a.store)) (told (store_rack b.store))
        (between_shown (told (store_rack a.store)) (told (store_rack b.store)) k k_then h lo lo (named_of a.store) (λ d is. inl is) (slot (store_rack a.store)) (slot (store_rack b.store)) agrees agrees_then marks absent_named
        (ServiceRests k h lo) (λ s z shows. shown_rests k h lo s z shows nothing) calls (stands h lo)) calls)

    -- a commit
    pub commit_is_step : MakesTransferCalls told a b → CommitsWhole count told a b
        → ((h : History) (lo : ℕ) → Ran (told (store_rack a.store)) (told (store_rack b.store)) (CrashTriple (IsCoreHeldSinceCommit count a h lo) (CoreStandsFor count a h lo) (CoreStandsFor count b h lo))) → CoreStepsInEvent count told a b 1
    commit_is_step calls whole stands h lo samples served energy =
        let k = service_of count a samples served energy in
        let k_then = service_of count b samples served energy in
        ran_then (ServesShown k k_then h lo lo) (StepsInEvent k k_then h lo 1) (λ s cs x. part_steps k k_then h lo lo (omega arith) slots s cs x) (told (store_rack a.store)) (told (store_rack b.store))
        (commit_shown (told (store_rack a.store)) (told (store_rack b.store)) k k_then h lo lo (named_of a.store) (λ d is. inl is) (slot (store_rack a.store)) (slot (store_rack b.store)) agrees agrees_then marks absent_named calls (stands h lo) (whole h lo))

    -- a commit that brings marks
    pub commit_is_marked : MakesTransferCalls told a b → CommitsWhole count told a b
        → ((h : History) (lo : ℕ) → Ran (told (store_rack a.store)) (told (store_rack b.store)) (CrashTriple (IsCoreHeldSinceCommit count a h lo) (CoreStandsFor count a h lo) (CoreStandsFor count b h lo)))
        → CoreServesMarked count told a b
    commit_is_marked calls whole stands h lo samples served energy =
        let k = service_of count a samples served energy in
        let k_then = service_of count b samples served energy in
        commit_marked (told (store_rack a.store)) (told (store_rack b.store)) k k_then h lo lo (named_of a.store) (λ d is. inl is) (slot (store_rack a.store)) (slot (store_rack b.store)) agrees agrees_then marks absent_named calls (stands h lo) (whole h lo)

  -- marks in memory are committed, where the disks are powered by them already
  pub marks_committed : (a b c : Core R g) (powers : Meta) (most : ℕ) → CoreStepsToMark count told a b powers most → count (store_rack c.store) ≡ count (store_rack b.store) → c.meta.epoch ≡ b.meta.epoch + 1
      → ((d : ℕ) → power_by_gear powers.gear powers.phase d ≡ power_by_gear b.meta.gear b.meta.phase d)
      → CoreServesMarked count told b c
      → CoreStepsInEvent count told a c (most + 1)
  marks_committed a b c powers most first slots more powered second h lo samples served energy =
      let k = service_of count a samples served energy in
      let j = service_of count b samples served energy in
      let k_then = service_of count c samples served energy in
      ran_both (StepsToMark k j powers h lo most) (ServesMarked j k_then h lo lo) (StepsInEvent k k_then h lo (most + 1))
      (λ s cs ds x y. commit_steps k j powers h lo most s cs ds x k_then lo (omega arith) slots more powered y) (told (store_rack a.store)) (told (store_rack b.store)) (told (store_rack c.store))
      (first h lo samples served energy) (second h lo samples served energy)

  -- a mark of the shift waits in memory
  pub marks_wait : (a b c : Core R g) (most : ℕ) → CoreStepsInEvent count told a b most → c.store ≡ b.store
      → ((samples : List ℕ) (served energy : ℕ) → MarksInMemory (service_of count b samples served energy) (service_of count c samples served energy))
      → ((h : History) (lo : ℕ) → Ran (told (store_rack b.store)) (told (store_rack c.store)) (CrashTriple (IsCoreHeldSinceCommit count b h lo) (CoreStandsFor count b h lo) (CoreStandsFor count c h lo)))
      → CoreStepsToMark count told a c b.meta most
  marks_wait a b c most steps store marks stands h lo samples served energy =
      let i = service_of count a samples served energy in
      let k = service_of count b samples served energy in
      let j = service_of count c samples served energy in
      let same : told (store_rack c.store) ≡ told (store_rack b.store) = ap (λ (z : _). told (store_rack z)) store in
      subst (λ (z : Option Trail). Ran (told (store_rack a.store)) z (StepsToMark i j b.meta h lo most)) (sym same)
      (ran_end k j h lo (StepsInEvent i k h lo most) (StepsToMark i j b.meta h lo most) (λ s cs to x. mark_steps i k j (marks samples served energy) h lo most s cs to x) (told (store_rack a.store)) (told (store_rack b.store))
      (λ t tells holds. mark_stands (IsCoreHeldSinceCommit count b h lo) (CoreStandsFor count b h lo) (CoreStandsFor count c h lo) (told (store_rack b.store)) (told (store_rack c.store)) same (stands h lo) t (same ∙ tells) holds)
      (steps h lo samples served energy))

  -- a commit keeps what stands, with the same bound
  pub commit_stands : (a b : Core R g) → b.batch ≡ []
      → ((h : History) (lo : ℕ) → Ran (told (store_rack a.store)) (told (store_rack b.store)) (CrashTriple (IsCoreHeldSinceCommit count a h lo) (CoreStandsFor count a h lo) (RestsInShift count b h (length h))))
      → (h : History) (lo : ℕ) → Ran (told (store_rack a.store)) (told (store_rack b.store)) (CrashTriple (IsCoreHeldSinceCommit count a h lo) (CoreStandsFor count a h lo) (CoreStandsFor count b h lo))
  commit_stands a b nothing filled h lo =
      weaker (IsCoreHeldSinceCommit count a h lo) (CoreStandsFor count a h lo) (CoreStandsFor count a h lo) (RestsInShift count b h lo) (CoreStandsFor count b h lo) (told (store_rack a.store)) (told (store_rack b.store)) (λ s k. k)
      (λ s kf. subst (λ (z : Batch). HoldsBetweenCalls (count (store_rack b.store)) (named_of b.store) b.meta b.dirty z b.copied h lo s) (sym nothing) kf.keeps)
      (lowered count a b (IsCoreHeldSinceCommit count a h lo) h lo (told (store_rack a.store)) (told (store_rack b.store)) (filled h lo))

  pub core_waits_within : (a b : Core R g) (powers : Meta) (most bound : ℕ) → most ≤ bound → CoreStepsToMark count told a b powers most → CoreStepsToMark count told a b powers bound
  core_waits_within a b powers most bound le steps h lo samples served energy =
      let k = service_of count a samples served energy in
      let k_then = service_of count b samples served energy in
      ran_then (StepsToMark k k_then powers h lo most) (StepsToMark k k_then powers h lo bound) (λ s cs x base w same at. goes_within k k_then h lo most bound le (AwaitsCommit k_then powers h lo) base w cs (x base w same at))
      (told (store_rack a.store)) (told (store_rack b.store)) (steps h lo samples served energy)

  pub core_waits_then : (a b c : Core R g) (powers : Meta) (most more : ℕ) → CoreStepsInEvent count told a b most → CoreStepsToMark count told b c powers more → CoreStepsToMark count told a c powers (most + more)
  core_waits_then a b c powers most more first second h lo samples served energy =
      let k = service_of count a samples served energy in
      let j = service_of count b samples served energy in
      let k_then = service_of count c samples served energy in
      ran_both (StepsInEvent k j h lo most) (StepsToMark j k_then powers h lo more) (StepsToMark k k_then powers h lo (most + more)) (λ s cs ds x y. follow_mark k j k_then powers h lo most more s cs ds x y)
      (told (store_rack a.store)) (told (store_rack b.store)) (told (store_rack c.store)) (first h lo samples served energy) (second h lo samples served energy)

  pub steps_or_waits_then : (a b c : Core R g) (most more bound : ℕ) → most + more ≤ bound → CoreStepsInEvent count told a b most → StepsOrWaits count told b c more → StepsOrWaits count told a c bound
  steps_or_waits_then a b c most more bound le first second = elim second [
    | inl steps ↦ inl (core_steps_within a c (most + more) bound le (core_steps_then a b c most more first steps))
    | inr waits ↦ inr (waits.0, core_waits_within a c c.meta (most + more) bound le (core_waits_then a b c c.meta most more first waits.1))
  ]

  -- copies of stripes, and their mark in memory
  module _ (a d b : Core R g) (agrees : (t : Trail) → told (store_rack a.store) ≡ Some t → Agrees (now t) (slot (store_rack a.store)))
      (agrees_then : (t : Trail) → told (store_rack d.store) ≡ Some t → Agrees (now t) (slot (store_rack d.store)))
      (slots : count (store_rack d.store) ≡ count (store_rack a.store)) (setup : d.meta.setup ≡ a.meta.setup) (ready : IsCoreReady count slot d) (marks : CoreMarksLost slot a d)
      (fill : ℕ) (store : b.store ≡ d.store) (whole : d.meta.out ≡ No) (meta : b.meta ≡ filled_to d.meta fill) where
    pub stripes_wait : a.batch ≡ [] → MakesDataCalls told a d → StandsFromRest count told a d → StandsFromRest count told a b → CoreStepsToMark count told a b b.meta 0
    stripes_wait nothing calls unmarked stands h lo samples served energy =
        let k = service_of count a samples served energy in
        let u = service_of count d samples served energy in
        let j = service_of count b samples served energy in
        let same : told (store_rack b.store) ≡ told (store_rack d.store) = ap (λ (z : _). told (store_rack z)) store in
        let first : Ran (told (store_rack a.store)) (told (store_rack d.store)) (ServesShown k u h lo lo) =
        between_shown (told (store_rack a.store)) (told (store_rack d.store)) k u h lo lo (named_of a.store) (λ x is. inl is) (slot (store_rack a.store)) (slot (store_rack d.store)) agrees agrees_then marks
        (absent_named a d agrees agrees_then slots setup ready marks) (ServiceRests k h lo) (λ s z shows. shown_rests k h lo s z shows nothing) calls (unmarked h lo) in
        let second = subst (λ (z : Option Trail). Ran (told (store_rack a.store)) z (CrashTriple (IsCoreHeldSinceCommit count a h lo) (RestsInShift count a h lo) (CoreStandsFor count b h lo))) same (stands h lo) in
        let serves : Ran (told (store_rack a.store)) (told (store_rack d.store)) (ServesAndMarks k u j h lo) =
        ran_then (λ s cs. ServesShown k u h lo lo s cs × CrashTriple (IsCoreHeldSinceCommit count a h lo) (RestsInShift count a h lo) (CoreStandsFor count b h lo) s cs) (ServesAndMarks k u j h lo)
        (λ s cs x z shows. let y = x.0 z shows in (y.0, y.1, (x.1.goes (shown_rests k h lo s z shows nothing)).1)) (told (store_rack a.store)) (told (store_rack d.store))
        (both_of (ServesShown k u h lo lo) (CrashTriple (IsCoreHeldSinceCommit count a h lo) (RestsInShift count a h lo) (CoreStandsFor count b h lo)) (told (store_rack a.store)) (told (store_rack d.store)) first second) in
        let mark : MarksInMemory u j = filled_mark u j (ap (λ (z : _). count (store_rack z)) store) (ap named_of store) fill whole meta in
        let waits : Ran (told (store_rack a.store)) (told (store_rack d.store)) (StepsToMark k j (filled_to d.meta fill) h lo 0) =
        ran_then (λ s cs. ServesAndMarks k u j h lo s cs × EachCall (IsDataCall a.meta.setup.geometry.disks (gone_out a.meta.out)) s cs) (StepsToMark k j (filled_to d.meta fill) h lo 0) (λ s cs x. waits_filled k j d.meta fill h lo 0 s cs (copied_steps k u j slots mark h lo s cs x)) (told (store_rack a.store)) (told (store_rack d.store))
        (both_of (ServesAndMarks k u j h lo) (EachCall (IsDataCall a.meta.setup.geometry.disks (gone_out a.meta.out))) (told (store_rack a.store)) (told (store_rack d.store)) serves calls) in
        subst (λ (m : Meta). Ran (told (store_rack a.store)) (told (store_rack b.store)) (StepsToMark k j m h lo 0)) (sym meta)
        (subst (λ (z : Option Trail). Ran (told (store_rack a.store)) z (StepsToMark k j (filled_to d.meta fill) h lo 0)) (sym same) waits)
