use Rattle.paraid_base.specs.States.{gone_out}
use Rattle.paraid_core.proofs.CommitLemmas.{both_of}
use Rattle.paraid_core.specs.Calls.{IsDataCall}
use Rattle.paraid_txn.specs.Uses.{EachCall}
use Rattle.paraid_event.specs.Lost.{TellsTwo}
use Rattle.paraid_event.specs.Parts.{LosesInEvent}
use Rattle.paraid_event.specs.Steps.{LosesInSteps, LosesShown, ServesShown, StepsInEvent}
use Rattle.paraid_event.proofs.StepLemmas.{data_steps, part_loses, part_steps, ran_then, shown_loses}
use Rattle.paraid_event.proofs.steps.one_part_is_a_step.Goals as goal

pub returns : goal.returns
returns c = record {
  commit = λ told told_then k k_then h lo lo_then le slots serves. ran_then (ServesShown k k_then h lo lo_then) (StepsInEvent k k_then h lo 1) (λ s cs x. part_steps k k_then h lo lo_then le slots s cs x) told told_then serves;
  between = λ told told_then k k_then h lo lo_then le slots serves calls.
      ran_then _ (StepsInEvent k k_then h lo 0) (λ s cs x. data_steps k k_then h lo lo_then le slots s cs x) told told_then
      (both_of (ServesShown k k_then h lo lo_then) (EachCall (IsDataCall k.meta.setup.geometry.disks (gone_out k.meta.out))) told told_then serves calls);
  loses = λ told told_then k h lo two loses. ran_then (λ s cs. LosesInEvent k h lo s cs × TellsTwo k two s cs) (LosesInSteps k h lo 1 two) (λ s cs x. part_loses k h lo two s cs x) told told_then loses;
  loses_shown = λ told told_then k h lo two loses. ran_then (λ s cs. LosesShown k h lo s cs × TellsTwo k two s cs) (LosesInSteps k h lo 1 two) (λ s cs x. shown_loses k h lo two s cs x) told told_then loses;
}
