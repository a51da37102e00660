use Rattle.paraid_planning.proofs.SpokenLemmas.{heard_fault, heard_long, heard_number, heard_other}
use Rattle.paraid_planning.proofs.hear.hear.Goals as goal

pub returns-in-Some-clause-heard : goal.returns-in-Some-clause-heard
returns-in-Some-clause-heard g c =
    let is = rw c.line.ensures at c.in-Some.ensures.some in
    heard_number c.in-Some.number (rw c.in-Ok-Whole.field-0-is at (c.in-Ok-Whole.ensures.step c.requires)) is.0 is.1

pub returns-in-None-clause-heard : goal.returns-in-None-clause-heard
returns-in-None-clause-heard g c = heard_other (rw c.in-Ok-Whole.field-0-is at (c.in-Ok-Whole.ensures.step c.requires)) (rw c.line.ensures at c.in-None.ensures.none)

pub returns-in-Ok-Long-clause-heard : goal.returns-in-Ok-Long-clause-heard
returns-in-Ok-Long-clause-heard g c = heard_long (rw c.in-Ok-Long.field-0-is at (c.in-Ok-Long.ensures.step c.requires))

pub returns-in-Err-clause-heard : goal.returns-in-Err-clause-heard
returns-in-Err-clause-heard g c = heard_fault (c.in-Err.ensures.step c.requires)
