use Rattle.std.proofs.Common.{◌++◌, ap, ◌∙◌}
use Rattle.paraid_planning.specs.Planned.{unplanned_line}
use Rattle.paraid_serve.specs.Ending.{mount_line}
use Rattle.paraid_commands.specs.Planning.{unplanned_status}
use Rattle.paraid_commands.specs.Planning.PlanLines.{planned, unplanned}
use Rattle.paraid_serve.proofs.StatusLemmas.{ends_there, err_is, ok_not_err}
use Rattle.paraid_commands.proofs.plan_command.tell_plan.Goals as goal

pub returns-in-Ok-clause-told : goal.returns-in-Ok-clause-told
returns-in-Ok-clause-told g c = record {
  code = 0;
  lines = mount_line c.args.meta.now.writes c.args.meta.now.gear ++ c.in-Ok.lines.items;
  outcome = planned c.in-Ok.lines.items c.in-Ok.ensures.planned;
  ends = rw (c.as_slice.ensures.value, c.mount_text.ensures, c.deref.ensures.value) at c.tell_lines.ensures.ends;
}

pub returns-in-Err-clause-told : goal.returns-in-Err-clause-told
returns-in-Err-clause-told g c = record {
  code = unplanned_status c.in-Err.cause;
  lines = mount_line c.args.meta.now.writes c.args.meta.now.gear ++ unplanned_line c.in-Err.cause;
  outcome = unplanned c.in-Err.cause c.in-Err.ensures.unplanned;
  ends = rw (c.as_slice-in-Err.ensures.value, c.as_slice-in-Err-2.ensures.value, c.mount_text.ensures, c.unplanned_text.ensures, c.unplanned_status.ensures) at c.tell_lines-in-Err.ensures.ends;
}

pub returns-in-Ok-clause-unhurt : goal.returns-in-Ok-clause-unhurt
returns-in-Ok-clause-unhurt g c = record { sink = c.tell_lines.ensures.still; source = λ n m. c.in-Ok.ensures.still (λ is. ok_not_err is) }

pub returns-in-Err-clause-unhurt : goal.returns-in-Err-clause-unhurt
returns-in-Err-clause-unhurt g c = record {
  sink = c.tell_lines-in-Err.ensures.still;
  source = λ n m. c.in-Err.ensures.still (λ is. ends_there _ _ _ _ _ c.tell_lines-in-Err.ensures.ends m (λ e. n (e ∙ c.unplanned_status.ensures ∙ ap unplanned_status (err_is is))));
}
