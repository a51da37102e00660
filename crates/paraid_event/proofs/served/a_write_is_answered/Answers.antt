use Rattle.std.proofs.Common.{refl, ◌+◌, ◌++◌, ◌∷◌, [], length}
use Rattle.paraid_base.specs.declared.event.Answer.TheVariants.{Wrote}
use Rattle.paraid_base.specs.declared.event.Event.TheVariants.{Write}
use Rattle.paraid_base.specs.Pairs.{pairs_of}
use Rattle.paraid_event.proofs.EventLemmas.{told_turn, write_turn}
use Rattle.paraid_event.proofs.served.a_write_is_answered.Goals as goal

pub returns : goal.returns
returns c told told_then k k_then setup p pairs lo_then at fit there counts low ran =
    told_turn told told_then k k_then setup p at (p.history ++ pairs_of pairs ∷ []) lo_then (Write pairs) (Wrote (length p.history + 1))
    (write_turn told told_then k k_then setup p at (p.history ++ pairs_of pairs ∷ []) lo_then pairs fit there counts refl low) ran
