use Rattle.paraid_event.specs.Lost.{TellsTwo}
use Rattle.paraid_event.proofs.PoweringLemmas.{powers_lost, powers_told}
use Rattle.paraid_event.proofs.powered.a_core_powers_disks_in_an_event.Goals as goal

pub returns : goal.returns
returns c = record {
  ends = λ told told_then k k_then h lo out is_out rests nothing calls stays marked powered. powers_told told told_then k h lo out is_out rests k_then nothing calls stays marked powered;
  loses = λ told told_then k two h lo out is_out rests calls stays tells. powers_lost told told_then k h lo out is_out rests (TellsTwo k two) calls stays tells;
}
