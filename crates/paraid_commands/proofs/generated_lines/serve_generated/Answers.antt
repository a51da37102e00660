use Rattle.std.proofs.Common.{refl, rules, subst, ◌∙◌}
use Rattle.paraid_record.specs.declared.meta.Setup.{Setup}
use Rattle.paraid_serve.specs.Calls.{IsNotDouble}
use Rattle.paraid_base.proofs.ToldLemmas.{GrowsByBytes-then}
use Rattle.paraid_serve.proofs.GrowsLemmas.{grows_none, grows_then, told_then}
use Rattle.paraid_serve.proofs.TopLemmas.{shown_line}
use Rattle.paraid_commands.proofs.GenCauseLemmas.{tells_generated}
use Rattle.paraid_serve.proofs.HaltLemmas.{names_two, no_event_yet, tells_wear}
use Rattle.paraid_commands.proofs.LineLemmas.{done_gen, halted_gen, no_line_run, no_summary_run}
use Rattle.paraid_commands.proofs.generated_lines.serve_generated.Goals as goal

pub returns-in_default-write_all : goal.returns-in_default-write_all
returns-in_default-write_all g c = record {
  run = no_summary_run _ _ _ _ _ _ _ _ _ c.writes.result c.gear.result _ _ (c.writes.ensures.point c.requires.going) c.gear.ensures.point _ _ c.answer_lines-tally.ensures.counted c.gear-2.result c.energy.result c.gear-2.ensures.point c.energy.ensures.point (tells_generated _ _ _ _ _ c.writes.result c.gear.result c.gear-2.result c.energy.result (shown_line c.writes.result c.gear.result (g.A.Serves.shown c.args.array.now) c.writes.ensures.shown (c.gear.ensures.shown ∙ (g.met.A.Serves.shows c.args.array.now).gear ((g.met.A.Serves.shows c.args.array.now).halt ∙ c.requires.going))) c.answer_lines-tally.ensures.causes c.gear-2.ensures.shown c.energy.ensures.shown)
      (rw (c.as_slice.ensures.value, c.mount_text.ensures) at c.in-Ok.ensures.grows)
      (rw (c.as_slice-2.ensures.value, c.summary_text.ensures) at c.in_default-write_all.ensures.part);
  slots = c.answer_lines-tally.ensures.slots;
  told = search rules;
  status = search rules;
  present = search rules;
  two = search rules;
  worn = search rules;
  sink = search rules;
  still = λ n. absurd (n refl);
}

pub returns-in_default : goal.returns-in_default
returns-in_default g c = record {
  run = no_line_run _ _ _ _ _ _ c.writes.result c.gear.result _ _ (c.writes.ensures.point c.requires.going) c.gear.ensures.point (shown_line c.writes.result c.gear.result (g.A.Serves.shown c.args.array.now) c.writes.ensures.shown (c.gear.ensures.shown ∙ (g.met.A.Serves.shows c.args.array.now).gear ((g.met.A.Serves.shows c.args.array.now).halt ∙ c.requires.going))) (rw (c.as_slice.ensures.value, c.mount_text.ensures) at c.in_default.ensures.part);
  slots = refl;
  told = grows_none _;
  status = search rules;
  present = search rules;
  two = search rules;
  worn = search rules;
  sink = search rules;
  still = λ n. absurd (n refl);
}

pub returns-in-Ok-finish : goal.returns-in-Ok-finish
returns-in-Ok-finish g c = record {
  run =
      let a = c.answer_lines-tally.ensures in
      let f = c.in-Ok-finish.ensures in
      done_gen _ _ _ _ _ _ _ _ _ c.writes.result c.gear.result _ _ (c.writes.ensures.point c.requires.going) c.gear.ensures.point _ _ a.counted c.gear-2.result c.energy.result c.gear-2.ensures.point c.energy.ensures.point (tells_generated _ _ _ _ _ c.writes.result c.gear.result c.gear-2.result c.energy.result (shown_line c.writes.result c.gear.result (g.A.Serves.shown c.args.array.now) c.writes.ensures.shown (c.gear.ensures.shown ∙ (g.met.A.Serves.shows c.args.array.now).gear ((g.met.A.Serves.shows c.args.array.now).halt ∙ c.requires.going))) c.answer_lines-tally.ensures.causes c.gear-2.ensures.shown c.energy.ensures.shown)
      (rw (c.as_slice.ensures.value, c.mount_text.ensures) at c.in-Ok.ensures.grows)
      _ (rw (c.as_slice-2.ensures.value, c.summary_text.ensures) at c.in-Ok-write_all.ensures.grows)
      _ _ _ _ a.slots a.setup (told_then _ _ f.told) _ _ c.in-Ok-finish.writes f.cause f.turn
      (rw (c.as_slice-in-Ok-finish.ensures.value, c.end_text.ensures) at c.last.ensures.ends);
  slots = c.in-Ok-finish.ensures.slots ∙ c.answer_lines-tally.ensures.slots;
  told = grows_then _ _ _ c.answer_lines-tally.ensures.told c.in-Ok-finish.ensures.told;
  status = search rules;
  present = λ is. subst (λ (s : Setup). IsNotDouble s (g.A.Serves.slot c.finish.new.array)) (c.finish.ensures.setup ∙ c.answer_lines-tally.ensures.setup) (g.met.A.Serves.serves c.finish.new.array c.in-Ok-finish.ensures.going);
  two = search rules;
  worn = search rules;
  sink = search rules;
  still = λ n. c.last.ensures.still n ∙ c.in-Ok-write_all.ensures.still ∙ c.in-Ok.ensures.still;
}

pub returns-in-Err : goal.returns-in-Err
returns-in-Err g c = record {
  run =
      let a = c.answer_lines-tally.ensures in
      let f = c.in-Err.ensures in
      halted_gen _ _ _ _ _ _ _ _ _ c.writes.result c.gear.result _ _ (c.writes.ensures.point c.requires.going) c.gear.ensures.point _ _ a.counted c.gear-2.result c.energy.result c.gear-2.ensures.point c.energy.ensures.point (tells_generated _ _ _ _ _ c.writes.result c.gear.result c.gear-2.result c.energy.result (shown_line c.writes.result c.gear.result (g.A.Serves.shown c.args.array.now) c.writes.ensures.shown (c.gear.ensures.shown ∙ (g.met.A.Serves.shows c.args.array.now).gear ((g.met.A.Serves.shows c.args.array.now).halt ∙ c.requires.going))) c.answer_lines-tally.ensures.causes c.gear-2.ensures.shown c.energy.ensures.shown)
      (rw (c.as_slice.ensures.value, c.mount_text.ensures) at c.in-Ok.ensures.grows)
      _ (rw (c.as_slice-2.ensures.value, c.summary_text.ensures) at c.in-Ok-write_all.ensures.grows)
      _ _ _ _ a.slots a.setup (told_then _ _ f.told) _ _ c.in-Err.halt f.cause f.turn
      (rw (c.as_slice-in-Err.ensures.value, c.reply.ensures.value, c.halt_status.ensures) at c.last-in-Err.ensures.ends);
  slots = c.in-Err.ensures.slots ∙ c.answer_lines-tally.ensures.slots;
  told = grows_then _ _ _ c.answer_lines-tally.ensures.told c.in-Err.ensures.told;
  status = search rules;
  present = search rules;
  two = λ five.
      let start = g.A.Serves.slot c.args.array.now in
      names_two start _ c.in-Err.halt _ _ _ _ _ (c.in-Err.ensures.since start (c.answer_lines-tally.ensures.since start (no_event_yet start _ c.requires.going))).lost
      (GrowsByBytes-then _ _ _ _ _ (rw (c.as_slice.ensures.value, c.mount_text.ensures) at c.in-Ok.ensures.grows) (rw (c.as_slice-2.ensures.value, c.summary_text.ensures) at c.in-Ok-write_all.ensures.grows))
      (rw (c.as_slice-in-Err.ensures.value, c.reply.ensures.value, c.halt_status.ensures) at c.last-in-Err.ensures.ends) five;
  worn = λ twelve.
      tells_wear c.in-Err.halt _ _ _ _ _ c.in-Err.ensures.worn
      (GrowsByBytes-then _ _ _ _ _ (rw (c.as_slice.ensures.value, c.mount_text.ensures) at c.in-Ok.ensures.grows) (rw (c.as_slice-2.ensures.value, c.summary_text.ensures) at c.in-Ok-write_all.ensures.grows))
      (rw (c.as_slice-in-Err.ensures.value, c.reply.ensures.value, c.halt_status.ensures) at c.last-in-Err.ensures.ends) twelve;
  sink = search rules;
  still = λ n. c.last-in-Err.ensures.still n ∙ c.in-Ok-write_all.ensures.still ∙ c.in-Ok.ensures.still;
}
