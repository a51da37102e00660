use Rattle.std.proofs.Common.{inl, ◌∙◌, rules, sym, refl}
use Rattle.paraid_commands.specs.Ends.MountsAndThen.{mounted, refused}
use Rattle.paraid_commands.proofs.EndLemmas.{began_at_end, begins_at_end, end_moment, end_over, headline_over, run_is_refused, run_status, service_from}
use Rattle.paraid_commands.proofs.TakenLemmas.{refused_not}
use Rattle.paraid_commands.proofs.run_command.run.Goals as goal

pub returns-in-Err : goal.returns-in-Err
returns-in-Err g c = record {
  run = refused c.in-Err.field-0.fault c.in-Err.ensures.refused c.tell_refusal.ensures.tells (refl, refl);
  slots = c.in-Err.ensures.refused_slots;
  status = run_is_refused c.in-Err.field-0.fault _ _ _ _ c.tell_refusal.ensures.tells;
  end = λ zero. absurd (refused_not c.in-Err.field-0.fault _ _ _ _ c.tell_refusal.ensures.tells zero);
  source = search rules;
  sink = search rules;
  unhurt = record { sink = c.tell_refusal.ensures.still; source = λ n m. refl };
}

pub returns-in-Ok : goal.returns-in-Ok
returns-in-Ok g c = record {
  run =
      let e = c.in-Ok.ensures in
      let done = c.serve_mounted-status.ensures in
      let before = g.R.Rack.told c.args.rack in
      mounted (service_from before (g.O.Outside.served c.in-Ok.array) (g.A.Serves.told c.in-Ok.array)) e.served (begins_at_end _ _ _ _ e.grows c.unmount.ensures.told c.serve_mounted-status.ensures.told)
      (headline_over _ _ _ _ _ _ _ e.slots e.setup c.unmount.ensures.told
      (end_over (g.A.Serves.setup c.in-Ok.array) _ _ _ (g.A.Serves.slot c.in-Ok.array) _ c.unmount.ensures.slot e.later done.present done.two done.worn)
      (g.A.Serves.shown c.in-Ok.array) (g.A.Serves.shown c.serve_mounted-status.new.array) e.shown ((g.met.A.Serves.shows c.serve_mounted-status.new.array).slot ∙ sym c.unmount.ensures.slot) _ (done.headline (end_moment before) (e.mounted (end_moment before) (began_at_end before))));
  slots = c.unmount.ensures.slots ∙ c.serve_mounted-status.ensures.slots ∙ c.in-Ok.ensures.slots;
  status = run_status _ c.serve_mounted-status.ensures.status;
  end =
      let began = end_moment (g.R.Rack.told c.args.rack) in
      λ zero. ((c.serve_mounted-status.ensures.headline began (c.in-Ok.ensures.mounted began (began_at_end (g.R.Rack.told c.args.rack)))).all (inl zero)).1;
  source = search rules;
  sink = search rules;
  unhurt = c.serve_mounted-status.ensures.unhurt;
}
