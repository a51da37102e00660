use Rattle.paraid_event.proofs.SlotsLemmas.{marked_by_slots}
use Rattle.paraid_event.proofs.given.a_core_marks_what_is_told.Goals as goal

pub returns : goal.returns
returns c told told_then k m_then setup p slot slot_then at ran agrees agrees_then marks named t tells =
    marked_by_slots told told_then k m_then setup p at slot slot_then _ ran agrees agrees_then marks named t tells
