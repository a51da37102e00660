use Rattle.std.proofs.Common.{inl, rules, refl, sym, ◌∙◌}
use Rattle.paraid_commands.specs.Ends.MountsAndThen.{mounted, refused}
use Rattle.paraid_commands.proofs.EndLemmas.{began_at_end, begins_at_end, end_moment, end_over, run_is_refused, run_status, service_from}
use Rattle.paraid_commands.proofs.TakenLemmas.{refused_not}
use Rattle.paraid_commands.proofs.VolumeLemmas.{volumes_over}
use Rattle.paraid_commands.proofs.vol_command.answer_volumes.Goals as goal

pub returns-in-Err : goal.returns-in-Err
returns-in-Err g c = record {
  run = refused c.in-Err.field-0.fault c.in-Err.ensures.refused c.tell_refusal.ensures.tells (refl, refl);
  slots = c.in-Err.ensures.refused_slots;
  status = run_is_refused c.in-Err.field-0.fault _ _ _ _ c.tell_refusal.ensures.tells;
  end = λ zero. absurd (refused_not c.in-Err.field-0.fault _ _ _ _ c.tell_refusal.ensures.tells zero);
  source = search rules;
  sink = search rules;
  unhurt = record { sink = c.tell_refusal.ensures.still; source = λ n m. refl };
}

pub returns-in-Ok : goal.returns-in-Ok
returns-in-Ok g c = record {
  run =
      let e = c.in-Ok.ensures in
      let done = c.serve_volumes-status.ensures in
      let array = c.in-Ok.array in
      let before = g.R.Rack.told c.args.rack in
      let began = end_moment before in
      mounted (service_from before (g.O.Outside.served array) (g.A.Serves.told array)) e.served (begins_at_end _ _ _ _ e.grows c.unmount.ensures.told done.told)
      (volumes_over _ _ _ _ _ _ (g.A.Serves.setup array) _ e.slots e.setup c.unmount.ensures.told
      (end_over (g.A.Serves.setup array) _ _ _ (g.A.Serves.slot array) _ c.unmount.ensures.slot e.later done.present done.two done.worn)
      (g.A.Serves.shown array) (g.A.Serves.shown c.serve_volumes-status.result.array) e.shown ((g.met.A.Serves.shows c.serve_volumes-status.result.array).slot ∙ sym c.unmount.ensures.slot)
      (done.headline began (e.mounted began (began_at_end before))));
  slots = c.unmount.ensures.slots ∙ c.serve_volumes-status.ensures.slots ∙ c.in-Ok.ensures.slots;
  status = run_status _ c.serve_volumes-status.ensures.status;
  end =
      let began = end_moment (g.R.Rack.told c.args.rack) in
      λ zero. ((c.serve_volumes-status.ensures.headline began (c.in-Ok.ensures.mounted began (began_at_end (g.R.Rack.told c.args.rack)))).all (inl zero)).1;
  source = search rules;
  sink = search rules;
  unhurt = c.serve_volumes-status.ensures.unhurt;
}
