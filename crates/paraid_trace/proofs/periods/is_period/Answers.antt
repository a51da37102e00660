use Rattle.std.proofs.Common.{◌∙◌, ap, sym}
use Rattle.paraid_trace.specs.BlockTexts.{is_period}
use Rattle.paraid_trace.proofs.periods.is_period.Goals as goal

pub returns-then-p-eq1 : goal.returns-then-p-eq1
returns-then-p-eq1 c = c.is_one_byte.ensures ∙ ap (is_period c.args.bytes.now) (sym c.if-p-eq1.true)
