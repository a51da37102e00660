use Rattle.std.specs.Prelude.{Some, drop}
use Rattle.std.proofs.Common.{arith, ap, ◌∙◌}
use Rattle.paraid_record.proofs.SpellingLemmas.{heading-dropped}
use Rattle.paraid_record.proofs.read.take_heading.Goals as goal

pub returns-then-version-gt2-clause-reads : goal.returns-then-version-gt2-clause-reads
returns-then-version-gt2-clause-reads c = λ version rest known e.
    let read = c.take_u16-version.ensures.reads version rest (omega (arith, known.1)) (c.skip.ensures.rest ∙ ap (drop 8) e ∙ heading-dropped version rest) in
    absurd (omega (arith, read.0, known.1))

pub returns-clause-reads : goal.returns-clause-reads
returns-clause-reads c = λ version rest known e.
    let read = c.take_u16-version.ensures.reads version rest (omega (arith, known.1)) (c.skip.ensures.rest ∙ ap (drop 8) e ∙ heading-dropped version rest) in
    (ap Some read.0, read.1)
