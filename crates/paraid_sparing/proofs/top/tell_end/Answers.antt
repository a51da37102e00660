use Rattle.paraid_sparing.proofs.TextLemmas.{ends_part, ends_two}
use Rattle.paraid_sparing.proofs.top.tell_end.Goals as goal

pub returns-clause-ends : goal.returns-clause-ends
returns-clause-ends g c = ends_two _ _ _ _ c.args.line.now c.args.status c.last.result (rw (c.as_slice.ensures.value, c.spares_text.ensures) at c.in-Ok.ensures.grows) c.last.ensures.ends

pub returns-in_default-clause-ends : goal.returns-in_default-clause-ends
returns-in_default-clause-ends g c = ends_part _ _ _ c.args.line.now c.args.status (rw (c.as_slice.ensures.value, c.spares_text.ensures) at c.in_default.ensures.part)
