use Rattle.std.specs.Prelude.{◌+◌}
use Rattle.paraid_event.specs.Lost.{TellsTwo}
use Rattle.paraid_event.specs.Parts.{LosesInEvent}
use Rattle.paraid_event.specs.Steps.{LosesInSteps, LosesPowered, PowersFrom, ServesMarked, StepsInEvent, StepsToMark}
use Rattle.paraid_event.proofs.StepLemmas.{ran_both, ran_three}
use Rattle.paraid_event.proofs.StepMarkLemmas.{commit_loses_steps, commit_steps, powered_loses, powered_steps}
use Rattle.paraid_event.proofs.marking.a_mark_is_committed.Goals as goal

pub returns : goal.returns
returns c = record {
  commit = λ told mid told_then k j k_then powers h lo lo_then most le slots more powered first second.
      ran_both (StepsToMark k j powers h lo most) (ServesMarked j k_then h lo lo_then) (StepsInEvent k k_then h lo (most + 1))
      (λ s cs ds x y. commit_steps k j powers h lo most s cs ds x k_then lo_then le slots more powered y) told mid told_then first second;
  powered = λ told mid opened_told told_then k j opened k_then powers h lo lo_then most le slots same_slots more whole has first second third.
      ran_three (StepsToMark k j powers h lo most) (ServesMarked j opened h lo lo_then) (PowersFrom powers opened k_then h lo) (StepsInEvent k k_then h lo (most + 1))
      (λ s cs ds es x y z. powered_steps k j powers h lo most s cs ds x opened lo_then le slots more whole has y k_then es same_slots z) told mid opened_told told_then first second third;
  commit_loses = λ told mid told_then k j powers h lo most two first second.
      ran_both (StepsToMark k j powers h lo most) (λ s cs. LosesInEvent j h lo s cs × TellsTwo j two s cs) (LosesInSteps k h lo (most + 1) two)
      (λ s cs ds x y. commit_loses_steps k j powers h lo most s cs ds x two y) told mid told_then first second;
  powered_loses = λ told mid opened_told told_then k j opened powers h lo lo_then most two le slots more whole has first second third.
      ran_three (StepsToMark k j powers h lo most) (ServesMarked j opened h lo lo_then) (λ s cs. LosesPowered opened h lo s cs × TellsTwo opened two s cs) (LosesInSteps k h lo (most + 1) two)
      (λ s cs ds es x y z. powered_loses k j powers h lo most s cs ds x opened lo_then le slots more whole has y two es z) told mid opened_told told_then first second third;
}
