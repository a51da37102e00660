use Rattle.std.proofs.Common.{◌∙◌}
use Rattle.paraid_commands.proofs.LineLemmas.{ends_two}
use Rattle.paraid_commands.proofs.plan_command.tell_lines.Goals as goal

pub returns-clause-ends : goal.returns-clause-ends
returns-clause-ends g c = ends_two _ _ _ c.args.first.now c.args.lines.now c.args.status c.last.result c.in-Ok.ensures.grows c.last.ensures.ends

pub returns-clause-still : goal.returns-clause-still
returns-clause-still g c = λ n. c.last.ensures.still n ∙ c.in-Ok.ensures.still
