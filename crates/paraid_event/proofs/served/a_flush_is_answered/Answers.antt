use Rattle.std.proofs.Common.{refl, length}
use Rattle.paraid_base.specs.declared.event.Answer.TheVariants.{Flushed}
use Rattle.paraid_base.specs.declared.event.Event.TheVariants.{Flush}
use Rattle.paraid_event.proofs.EventLemmas.{flush_turn, told_turn}
use Rattle.paraid_event.proofs.served.a_flush_is_answered.Goals as goal

pub returns : goal.returns
returns c told told_then k k_then setup p lo_then at fit counts low ran =
    told_turn told told_then k k_then setup p at p.history lo_then Flush (Flushed (length p.history))
    (flush_turn told told_then k k_then setup p at p.history lo_then fit counts refl low) ran
