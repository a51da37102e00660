use Rattle.paraid_event.proofs.StateLemmas.{ends_shift, marked_state, starts_down, starts_up}
use Rattle.paraid_event.proofs.states.a_marked_service_goes_to_its_state.Goals as goal

pub returns : goal.returns
returns c = record {
  marked = λ k k_then s lost epoch writes of whole is table samples served. marked_state k k_then s of whole lost epoch writes is table samples served;
  ended = λ k j k_then count lost epoch writes moves whole is table samples served. ends_shift k j k_then count moves whole lost epoch writes is table samples served;
  begun = λ k k_then to spins lost epoch writes whole are is table samples served. starts_up k k_then to spins whole are lost epoch writes is table samples served;
  down = λ k k_then s to lost epoch writes of whole is table samples served. starts_down k k_then s to of whole lost epoch writes is table samples served;
}
