use Rattle.std.specs.Prelude.{◌+◌}
use Rattle.paraid_rack.proofs.TrailsLemmas.{Ran-none}
use Rattle.paraid_event.specs.Steps.{LosesInSteps, StepsInEvent}
use Rattle.paraid_event.proofs.StepLemmas.{follow, goes_bound, lose_then, loses_bound, no_steps, ran_both, ran_then}
use Rattle.paraid_event.proofs.steps.steps_follow_each_other.Goals as goal

pub returns : goal.returns
returns c = record {
  none = λ told k h lo. Ran-none (StepsInEvent k k h lo 0) (λ s. no_steps k h lo s) told;
  both = λ told mid told_then k j k_then h lo most more first second.
      ran_both (StepsInEvent k j h lo most) (StepsInEvent j k_then h lo more) (StepsInEvent k k_then h lo (most + more)) (λ s cs ds x y. follow k j k_then h lo most more s cs ds x y) told mid told_then first second;
  loses = λ told mid told_then k j h lo most more two first second.
      ran_both (StepsInEvent k j h lo most) (LosesInSteps j h lo more two) (LosesInSteps k h lo (most + more) two) (λ s cs ds x y. lose_then k j h lo most more two s cs ds x y) told mid told_then first second;
  within = λ told told_then k k_then h lo most bound le steps. ran_then (StepsInEvent k k_then h lo most) (StepsInEvent k k_then h lo bound) (λ s cs x. goes_bound k k_then h lo most bound le s cs x) told told_then steps;
  loses_within = λ told told_then k h lo most bound two le steps. ran_then (LosesInSteps k h lo most two) (LosesInSteps k h lo bound two) (λ s cs x. loses_bound k h lo most bound le two s cs x) told told_then steps;
}
