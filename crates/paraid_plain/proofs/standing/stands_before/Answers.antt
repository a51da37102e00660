use Rattle.std.proofs.Common.{ap, sym, ◌∙◌}
use Rattle.std.specs.Prelude.{not}
use Rattle.paraid_plain.specs.Statements.{said_of}
use Rattle.paraid_plain.proofs.StatementLemmas.{stands_before-first, stands_before-second}
use Rattle.paraid_plain.proofs.standing.stands_before.Goals as goal

pub returns-then-mine-eq0 : goal.returns-then-mine-eq0
returns-then-mine-eq0 c = λ i.
    c.is_first.ensures i ∙ sym (stands_before-first _ (said_of i c.args.mine.now) (said_of i c.args.other.now) c.if-mine-eq0.true)

pub returns-else-mine-eq0 : goal.returns-else-mine-eq0
returns-else-mine-eq0 c = λ i.
    ap not (c.is_first-else-mine-eq0.ensures i)
    ∙ sym (stands_before-second _ (said_of i c.args.mine.now) (said_of i c.args.other.now) c.if-mine-eq0.false)
