-- Calls of a core in a shift in which a second disk is lost, as parts of an event.
use Rattle.std.specs.Prelude.{◌≡◌, ℕ, ◌+◌, ◌≤◌, [], Option, Some}
use Rattle.std.proofs.Common.{subst, inl}
use Rattle.paraid_base.specs.declared.fault.Two.{Two}
use Rattle.paraid_base.specs.History.{History}
use Rattle.paraid_rack.specs.Slots.{Agrees, Slot}
use Rattle.paraid_rack.specs.Told.{CrashTriple, Ran}
use Rattle.paraid_rack.specs.Trail.{Trail, now}
use Rattle.paraid_record.specs.declared.meta.Meta.{Meta}
use Rattle.paraid_image.specs.Lost.{TellsLosses}
use Rattle.paraid_image.specs.Out.{named_out}
use Rattle.paraid_txn.specs.Stores.{named_of, store_rack}
use Rattle.paraid_core.specs.declared.staged.Core.{Core}
use Rattle.paraid_core.specs.Calls.{CommitsWhole, MakesDataCalls, MakesTransferCalls}
use Rattle.paraid_core.specs.Cores.{CoreStandsFor, IsCoreHeldSinceCommit, IsCoreReady, core_down}
use Rattle.paraid_core.specs.Lost.{CoreMarksLost, CoreTellsLosses}
use Rattle.paraid_core.specs.Steps.{IsStillOut}
use Rattle.paraid_core.proofs.OrderLemmas.{core_tells_then, data_bears, down_is_named}
use Rattle.paraid_event.specs.Lost.{TellsTwo}
use Rattle.paraid_event.specs.Parts.{LosesInEvent}
use Rattle.paraid_event.specs.Powering.{ServiceRests}
use Rattle.paraid_event.specs.Service.{service_of}
use Rattle.paraid_event.specs.Steps.{LosesInSteps, LosesShown, StepsInEvent, StepsToMark}
use Rattle.paraid_event.proofs.GivenLemmas.{commit_loses}
use Rattle.paraid_event.proofs.GivenStepLemmas.{between_lost}
use Rattle.paraid_event.proofs.ShownLemmas.{shown_rests}
use Rattle.paraid_event.proofs.StepLemmas.{lose_then, loses_bound, part_loses, ran_both, ran_then, shown_loses}
use Rattle.paraid_event.proofs.StepMarkLemmas.{commit_loses_steps}
use Rattle.paraid_event.specs.CoreServing.{IsHeldFromRest}
use Rattle.paraid_shift.specs.Steps.{CoreLosesInEvent, CoreLosesInSteps, CoreStepsInEvent, CoreStepsToMark}

-- after copies that ended well
pub copies_tell_then : {R : Type 0} {g : _} (count : R → ℕ) (slot : R → ℕ → Slot) (told : R → Option Trail) → ((rack : R) (t : Trail) → told rack ≡ Some t → Agrees (now t) (slot rack)) → (a b c : Core R g) (two : Two)
    → IsCoreReady count slot a → CoreMarksLost slot a b → MakesDataCalls told a b → CoreTellsLosses told (named_out b.meta.out) b c two → CoreTellsLosses told (named_out a.meta.out) a c two
copies_tell_then count slot told agrees a b c two ready marks calls tells =
    core_tells_then slot told agrees a b ready.absent marks c two (data_bears slot told agrees a b ready.absent marks calls) tells

module _ {R : Type 0} {g : _} (count : R → ℕ) (told : R → Option Trail) where
  -- in copies between two commits
  pub copies_lose : (a b : Core R g) (two : Two) → a.batch ≡ [] → MakesDataCalls told a b → IsHeldFromRest count told a b → CoreTellsLosses told (named_out a.meta.out) a b two → CoreLosesInSteps count told a b 1 two
  copies_lose a b two nothing calls held tells h lo samples served energy =
      let k = service_of count a samples served energy in
      ran_then (λ s cs. LosesShown k h lo s cs × TellsTwo k two s cs) (LosesInSteps k h lo 1 two) (λ s cs x. shown_loses k h lo two s cs x) (told (store_rack a.store)) (told (store_rack b.store))
      (between_lost (told (store_rack a.store)) (told (store_rack b.store)) k h lo (named_of a.store) (λ d is. inl is) (TellsTwo k two) (ServiceRests k h lo) (λ s z shows. shown_rests k h lo s z shows nothing) calls (held h lo) tells)

  -- in a commit
  pub commit_loses_both : (a b : Core R g) (two : Two) → IsStillOut (named_of a.store) a.meta → MakesTransferCalls told a b → CommitsWhole count told a b
      → ((h : History) (lo : ℕ) → Ran (told (store_rack a.store)) (told (store_rack b.store)) (CrashTriple (IsCoreHeldSinceCommit count a h lo) (CoreStandsFor count a h lo) (IsCoreHeldSinceCommit count a h lo)))
      → CoreTellsLosses told (core_down a) a b two → CoreLosesInEvent count told a b two
  commit_loses_both a b two still calls whole held tells h lo samples served energy =
      let k = service_of count a samples served energy in
      commit_loses (told (store_rack a.store)) (told (store_rack b.store)) k k h lo h lo (named_of a.store) (λ d is. inl is) (TellsTwo k two) calls (held h lo) (whole h lo)
      (subst (λ (o : Option ℕ). Ran (told (store_rack a.store)) (told (store_rack b.store)) (λ s cs. TellsLosses o two cs)) (down_is_named (named_of a.store) (named_out a.meta.out) still) tells)

  -- a commit is one part
  pub commit_loses_step : (a b : Core R g) (two : Two) → CoreLosesInEvent count told a b two → CoreLosesInSteps count told a b 1 two
  commit_loses_step a b two loses h lo samples served energy =
      let k = service_of count a samples served energy in
      ran_then (λ s cs. LosesInEvent k h lo s cs × TellsTwo k two s cs) (LosesInSteps k h lo 1 two) (λ s cs x. part_loses k h lo two s cs x) (told (store_rack a.store)) (told (store_rack b.store))
      (loses h lo samples served energy)

  -- in the later one of two parts
  pub core_loses_then : (a b c : Core R g) (most more : ℕ) (two : Two) → CoreStepsInEvent count told a b most → CoreLosesInSteps count told b c more two → CoreLosesInSteps count told a c (most + more) two
  core_loses_then a b c most more two first second h lo samples served energy =
      let k = service_of count a samples served energy in
      let j = service_of count b samples served energy in
      ran_both (StepsInEvent k j h lo most) (LosesInSteps j h lo more two) (LosesInSteps k h lo (most + more) two) (λ s cs ds x y. lose_then k j h lo most more two s cs ds x y)
      (told (store_rack a.store)) (told (store_rack b.store)) (told (store_rack c.store)) (first h lo samples served energy) (second h lo samples served energy)

  pub core_loses_within : (a b : Core R g) (most bound : ℕ) (two : Two) → most ≤ bound → CoreLosesInSteps count told a b most two → CoreLosesInSteps count told a b bound two
  core_loses_within a b most bound two le loses h lo samples served energy =
      let k = service_of count a samples served energy in
      ran_then (LosesInSteps k h lo most two) (LosesInSteps k h lo bound two) (λ s cs x. loses_bound k h lo most bound le two s cs x) (told (store_rack a.store)) (told (store_rack b.store)) (loses h lo samples served energy)

  -- in a commit of marks in memory
  pub marks_lose : (a b c : Core R g) (powers : Meta) (most : ℕ) (two : Two) → CoreStepsToMark count told a b powers most → CoreLosesInEvent count told b c two → CoreLosesInSteps count told a c (most + 1) two
  marks_lose a b c powers most two first second h lo samples served energy =
      let k = service_of count a samples served energy in
      let j = service_of count b samples served energy in
      ran_both (StepsToMark k j powers h lo most) (λ s cs. LosesInEvent j h lo s cs × TellsTwo j two s cs) (LosesInSteps k h lo (most + 1) two)
      (λ s cs ds x y. commit_loses_steps k j powers h lo most s cs ds x two y) (told (store_rack a.store)) (told (store_rack b.store)) (told (store_rack c.store))
      (first h lo samples served energy) (second h lo samples served energy)
