use Rattle.std.proofs.Common.{rules, ◌∙◌, sym}
use Rattle.paraid_commands.specs.Ends.MountsAndThen.{mounted, refused}
use Rattle.paraid_commands.proofs.CheckLemmas.{check_is_refused, check_status_of, checks_over}
use Rattle.paraid_commands.proofs.EndLemmas.{began_at_end, begins_at_end, end_moment, end_over, service_from}
use Rattle.paraid_commands.proofs.check_command.check.Goals as goal

pub returns-in-Err : goal.returns-in-Err
returns-in-Err g c = record {
  run = refused c.in-Err.field-0.fault c.in-Err.ensures.refused c.tell_refusal.ensures.tells tt;
  slots = c.in-Err.ensures.refused_slots;
  status = check_is_refused c.in-Err.field-0.fault _ _ _ _ c.tell_refusal.ensures.tells;
  sink = search rules;
  still = c.tell_refusal.ensures.still;
}

pub returns-in-Ok : goal.returns-in-Ok
returns-in-Ok g c = record {
  run =
      let e = c.in-Ok.ensures in
      let done = c.tell_counts-status.ensures in
      let before = g.R.Rack.told c.args.rack in
      mounted (service_from before (g.O.Outside.served c.in-Ok.array) (g.A.Serves.told c.in-Ok.array)) e.served (begins_at_end _ _ _ _ e.grows c.unmount.ensures.told c.tell_counts-status.ensures.told)
      (checks_over _ _ _ _ _ _ _ _ e.slots e.setup c.unmount.ensures.told c.unmount.ensures.slot
      (end_over (g.A.Serves.setup c.in-Ok.array) _ _ _ (g.A.Serves.slot c.in-Ok.array) _ c.unmount.ensures.slot e.later done.present done.two done.worn)
      done.found (g.A.Serves.shown c.in-Ok.array) (g.A.Serves.shown c.tell_counts-status.new.array) e.shown ((g.met.A.Serves.shows c.tell_counts-status.new.array).slot ∙ sym c.unmount.ensures.slot) done.causes (done.counts (end_moment before) (e.mounted (end_moment before) (began_at_end before))) done.reads);
  slots = c.unmount.ensures.slots ∙ c.tell_counts-status.ensures.slots ∙ c.in-Ok.ensures.slots;
  status = check_status_of _ c.tell_counts-status.ensures.status;
  sink = search rules;
  still = c.tell_counts-status.ensures.still;
}
