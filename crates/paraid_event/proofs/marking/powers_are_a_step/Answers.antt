use Rattle.paraid_event.specs.Lost.{TellsTwo}
use Rattle.paraid_event.specs.Powering.{PowersInEvent}
use Rattle.paraid_event.specs.Steps.{LosesInSteps, LosesPowered, PowersFrom, StepsInEvent}
use Rattle.paraid_event.proofs.StepLemmas.{ran_then}
use Rattle.paraid_event.proofs.StepMarkLemmas.{powers_lose, powers_steps}
use Rattle.paraid_event.proofs.marking.powers_are_a_step.Goals as goal

pub returns : goal.returns
returns c = record {
  plain = λ told told_then k k_then powers h lo ran. ran_then (PowersInEvent k k_then h lo) (PowersFrom powers k k_then h lo) (λ s cs x z shows by_gear. x z) told told_then ran;
  ends = λ told told_then k k_then h lo none_gone has slots powers. ran_then (PowersFrom k.meta k k_then h lo) (StepsInEvent k k_then h lo 0) (λ s cs x. powers_steps k k_then none_gone has slots h lo s cs x) told told_then powers;
  loses = λ told told_then k h lo two none_gone has loses. ran_then (λ s cs. LosesPowered k h lo s cs × TellsTwo k two s cs) (LosesInSteps k h lo 0 two) (λ s cs x. powers_lose k none_gone has h lo two s cs x) told told_then loses;
}
