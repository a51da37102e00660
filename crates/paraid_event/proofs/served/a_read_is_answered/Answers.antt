use Rattle.std.proofs.Common.{refl}
use Rattle.paraid_base.specs.declared.event.Answer.TheVariants.{Value}
use Rattle.paraid_base.specs.declared.event.Event.TheVariants.{Read}
use Rattle.paraid_event.proofs.EventLemmas.{read_turn, told_turn}
use Rattle.paraid_event.proofs.served.a_read_is_answered.Goals as goal

pub returns : goal.returns
returns c told told_then k k_then setup p block lo_then bytes at fit there is counts low ran =
    told_turn told told_then k k_then setup p at p.history lo_then (Read block) (Value block bytes)
    (read_turn told told_then k k_then setup p at p.history lo_then block bytes fit there is counts refl low) ran
