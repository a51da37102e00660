use Rattle.std.proofs.Common.{◌∙◌}
use Rattle.paraid_trace.proofs.LineLemmas.{asked, asked_nothing, asked_only, event_of-long}
use Rattle.paraid_trace.proofs.line.read_line.Goals as goal

pub returns-clause-event : goal.returns-clause-event
returns-clause-event c = asked _ _ c.asked.ensures

pub returns-clause-only : goal.returns-clause-only
returns-clause-only c = asked_only _ _ c.asked.ensures

pub returns-clause-bad : goal.returns-clause-bad
returns-clause-bad c = asked_nothing _ _ c.asked.ensures

pub returns-clause-long : goal.returns-clause-long
returns-clause-long c = λ long. c.asked.ensures ∙ event_of-long _ long
