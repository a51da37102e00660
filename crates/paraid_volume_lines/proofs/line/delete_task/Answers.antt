use Rattle.paraid_volume_lines.proofs.LineLemmas.{deletes_named, deletes_none}
use Rattle.paraid_volume_lines.proofs.line.delete_task.Goals as goal

pub returns-in-Some : goal.returns-in-Some
returns-in-Some c = λ b. deletes_named c.args.name.now c.in-Some.name c.in-Some.ensures.some

pub returns-in-None : goal.returns-in-None
returns-in-None c = λ b. deletes_none c.args.name.now c.in-None.ensures.none
