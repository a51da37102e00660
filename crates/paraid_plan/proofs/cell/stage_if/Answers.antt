use Rattle.std.proofs.Common.{rules}
use Rattle.paraid_plan.proofs.cell.stage_if.Goals as goal
use Rattle.paraid_plan.proofs.DeskLemmas.{one_more, with_targets_none}

pub returns-then-written : goal.returns-then-written
returns-then-written g c = record {
  desk = search rules;
  room = one_more _ _ c.args.disk c.args.place c.args.block.now c.stage.ensures.desk;
  changes = search rules;
  goes_on = search rules;
  leads = search rules;
}

pub returns-else-written : goal.returns-else-written
returns-else-written g c = record {
  desk = rw c.if-written.false (with_targets_none _);
  room = search rules;
  changes = search rules;
  goes_on = search rules;
  leads = search rules;
}
