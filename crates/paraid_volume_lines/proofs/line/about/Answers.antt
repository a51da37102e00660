use Rattle.std.proofs.Common.{sym, ◌∙◌}
use Rattle.paraid_volume_lines.proofs.LineLemmas.{about_named, about_other}
use Rattle.paraid_volume_lines.proofs.line.about.Goals as goal

pub returns-in-Some : goal.returns-in-Some
returns-in-Some c = c.named_task.ensures ∙ sym (about_named c.args.word.now c.args.name.now c.args.rest.now c.in-Some.name c.in-Some.ensures.some)

pub returns-in-None : goal.returns-in-None
returns-in-None c = sym (about_other c.args.word.now c.args.name.now c.args.rest.now c.in-None.ensures.none)
