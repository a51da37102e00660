use Rattle.std.proofs.Common.{◌∙◌, sym}
use Rattle.paraid_plan.proofs.cell.needs_old.Goals as goal
use Rattle.paraid_plan.proofs.DeskLemmas.{soft_needed}

pub returns-then-not-has_soft : goal.returns-then-not-has_soft
returns-then-not-has_soft g c = sym (soft_needed c.args.m.now (g.P.WritePlan.desk c.args.plan.now) c.args.r c.args.d c.requires.disk (sym c.has_soft.ensures ∙ c.if-not-has_soft.true))
