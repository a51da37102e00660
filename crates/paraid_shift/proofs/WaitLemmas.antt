-- The last step of a shift leaves its marks waiting for a commit, also where it makes none.
use Rattle.std.specs.Prelude.{◌≡◌, ℕ, false, Option, if◌then◌else◌}
use Rattle.std.proofs.Common.{refl, ◌∙◌, ap, arith, inl, inr}
use Rattle.paraid_base.specs.declared.state.Out.{Out}
use Rattle.paraid_base.specs.declared.state.Out.TheVariants.{No}
use Rattle.paraid_base.specs.declared.state.Phase.{Phase}
use Rattle.paraid_base.specs.declared.state.Phase.TheVariants.{Down, Steady, Up}
use Rattle.paraid_base.specs.States.{has_out, phase_beside}
use Rattle.paraid_rack.specs.Trail.{Trail}
use Rattle.paraid_txn.specs.Stores.{store_rack}
use Rattle.paraid_core.specs.declared.staged.Core.{Core}
use Rattle.paraid_event.specs.Service.{Service, service_of}
use Rattle.paraid_event.specs.Steps.{MarksInMemory, StepsInEvent, StepsToMark}
use Rattle.paraid_event.proofs.StepLemmas.{ran_then}
use Rattle.paraid_event.proofs.StepMarkLemmas.{mark_steps}
use Rattle.paraid_shift.specs.Steps.{CoreStepsInEvent, CoreStepsToMark, StepsOrWaits}

beside_none : (phase : Phase) → phase_beside false phase ≡ phase
beside_none Steady = refl
beside_none (Down to) = refl
beside_none (Up to) = refl

-- where no disk is out the meta itself is a mark that can wait
pub waits_itself : (k : Service) → k.meta.out ≡ No → MarksInMemory k k
waits_itself k whole = record {
  slots = refl;
  named = refl;
  setup = refl;
  ticks = refl;
  names = refl;
  gone = refl;
  settled = record {
    phase = ap (λ (o : Out). phase_beside (has_out o) k.meta.phase) whole ∙ beside_none k.meta.phase;
    fill = ap (λ (o : Out). if has_out o then 0 else k.meta.fill) whole;
  };
  used = λ power d low. omega arith;
}

module _ {R : Type 0} {g : _} (count : R → ℕ) (told : R → Option Trail) (a b : Core R g) (most : ℕ) (whole : b.meta.out ≡ No) where
  pub steps_wait : CoreStepsInEvent count told a b most → CoreStepsToMark count told a b b.meta most
  steps_wait steps h lo samples served energy =
      let i = service_of count a samples served energy in
      let k = service_of count b samples served energy in
      ran_then (StepsInEvent i k h lo most) (StepsToMark i k b.meta h lo most) (λ s cs x. mark_steps i k k (waits_itself k whole) h lo most s cs (λ z. z) x)
      (told (store_rack a.store)) (told (store_rack b.store)) (steps h lo samples served energy)

  pub either_waits : StepsOrWaits count told a b most → CoreStepsToMark count told a b b.meta most
  either_waits either = elim either [
    | inl steps ↦ steps_wait steps
    | inr waits ↦ waits.1
  ]
