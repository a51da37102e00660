use Rattle.std.specs.Prelude.{◌+◌}
use Rattle.paraid_base.specs.States.{gone_out}
use Rattle.paraid_core.proofs.CommitLemmas.{both_of}
use Rattle.paraid_core.specs.Calls.{IsDataCall}
use Rattle.paraid_txn.specs.Uses.{EachCall}
use Rattle.paraid_event.specs.Steps.{ServesAndMarks, StepsInEvent, StepsToMark}
use Rattle.paraid_event.proofs.StepLemmas.{ran_both, ran_end, ran_then}
use Rattle.paraid_event.proofs.StepMarkLemmas.{again_steps, cells_steps, copied_steps, follow_mark, mark_steps}
use Rattle.paraid_event.proofs.marking.marks_are_a_step.Goals as goal

pub returns : goal.returns
returns c = record {
  cells = λ told mid i k j h lo most meta slots named stands steps.
      ran_end k j h lo (StepsInEvent i k h lo most) (StepsInEvent i j h lo most) (λ s cs to x. cells_steps i k j meta slots named h lo most s cs to x) told mid stands steps;
  shift = λ told mid i k j h lo most mark stands steps.
      ran_end k j h lo (StepsInEvent i k h lo most) (StepsToMark i j k.meta h lo most) (λ s cs to x. mark_steps i k j mark h lo most s cs to x) told mid stands steps;
  more = λ told mid i k j powers h lo most mark stands steps.
      ran_end k j h lo (StepsToMark i k powers h lo most) (StepsToMark i j powers h lo most) (λ s cs to x. again_steps i k j powers mark h lo most s cs to x) told mid stands steps;
  copies = λ told told_then k unmarked j h lo slots mark serves calls.
      ran_then _ (StepsToMark k j unmarked.meta h lo 0) (λ s cs x. copied_steps k unmarked j slots mark h lo s cs x) told told_then
      (both_of (ServesAndMarks k unmarked j h lo) (EachCall (IsDataCall k.meta.setup.geometry.disks (gone_out k.meta.out))) told told_then serves calls);
  later = λ told mid told_then k j k_then powers h lo most more first second.
      ran_both (StepsInEvent k j h lo most) (StepsToMark j k_then powers h lo more) (StepsToMark k k_then powers h lo (most + more)) (λ s cs ds x y. follow_mark k j k_then powers h lo most more s cs ds x y) told mid told_then first second;
}
