use Rattle.std.proofs.Common.{◌∙◌}
use Rattle.paraid_volume_lines.proofs.LineLemmas.{asked_nothing, asked_only, asked_task, line_of-long}
use Rattle.paraid_volume_lines.proofs.line.parse_volume_line.Goals as goal

pub returns-clause-task : goal.returns-clause-task
returns-clause-task c = asked_task _ _ c.task.ensures

pub returns-clause-only : goal.returns-clause-only
returns-clause-only c = asked_only _ _ c.task.ensures

pub returns-clause-bad : goal.returns-clause-bad
returns-clause-bad c = asked_nothing _ _ c.task.ensures

pub returns-clause-long : goal.returns-clause-long
returns-clause-long c = λ long. c.task.ensures ∙ line_of-long _ long
