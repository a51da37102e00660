use Rattle.std.specs.Prelude.{Err}
use Rattle.std.proofs.Common.{ap, arith, inl, inr, refl, subst, sym, ◌∙◌}
use Rattle.paraid_base.proofs.ToldLemmas.{GrowsByBytes-then, HasRisen-sooner}
use Rattle.paraid_record.specs.declared.meta.Setup.{Setup}
use Rattle.paraid_serve.specs.Calls.{IsNotDouble}
use Rattle.paraid_serve.specs.Output.{IsServedStatus}
use Rattle.paraid_serve.specs.Streams.{sink_use}
use Rattle.paraid_serve.proofs.GrowsLemmas.{grows_none}
use Rattle.paraid_serve.proofs.HaltLemmas.{names_two, tells_wear}
use Rattle.paraid_serve.proofs.StatusLemmas.{ends_there, err_is, not_fallen, halt_high, halt_not_sink, halt_not_source, halt_served, ok_not_err, other, served, sink_failed, source_not_sink, too_long_not_sink, too_long_not_source}
use Rattle.paraid_serve.proofs.TopLemmas.{shown_line, done_run, halted_run, source_run, too_long_run, sink_run, no_mount_run}
use Rattle.paraid_serve.proofs.top.serve.Goals as goal

pub returns-in-Ok-session : goal.returns-in-Ok-session
returns-in-Ok-session g c = record {
  run = done_run _ _ _ _ _ _ _ c.writes.result c.gear.result (c.writes.ensures.point c.requires.going) c.gear.ensures.point (shown_line c.writes.result c.gear.result (g.A.Serves.shown c.args.array.now) c.writes.ensures.shown (c.gear.ensures.shown ∙ (g.met.A.Serves.shows c.args.array.now).gear ((g.met.A.Serves.shows c.args.array.now).halt ∙ c.requires.going))) _ (rw (c.as_slice.ensures.value, c.mount_text.ensures) at c.in-Ok.ensures.grows)
      c.in-Ok-session.writes c.in-Ok-session.ensures.session (rw (c.as_slice-in-Ok-session.ensures.value, c.end_text.ensures) at c.last.ensures.ends);
  told = c.session.ensures.told;
  slots = c.session.ensures.slots;
  status = served _ _ _ _ _ c.last.ensures.ends (inl refl);
  present = λ is. subst (λ (s : Setup). IsNotDouble s (g.A.Serves.slot c.session.new.array)) c.session.ensures.setup (g.met.A.Serves.serves c.session.new.array c.in-Ok-session.ensures.going);
  two = λ is. absurd (other _ _ _ _ _ c.last.ensures.ends 5 (λ e. omega arith) (λ e. omega arith) is);
  worn = λ is. absurd (other _ _ _ _ _ c.last.ensures.ends 12 (λ e. omega arith) (λ e. omega arith) is);
  source = λ is. absurd (other _ _ _ _ _ c.last.ensures.ends 3 (λ e. omega arith) (λ e. omega arith) is);
  sink = λ is. sink_failed _ _ _ _ _ c.last.ensures.cause (λ e. omega arith) (not_fallen _ _ _ c.write_all.ensures.later c.session.ensures.later_sink) is;
  unhurt = record { sink = λ n. c.last.ensures.still n ∙ c.in-Ok-session.ensures.still_sink (λ is. ok_not_err is) ∙ c.in-Ok.ensures.still; source = λ n m. c.in-Ok-session.ensures.still_source (λ is. ok_not_err is) };
}

pub returns-in-Err-Source : goal.returns-in-Err-Source
returns-in-Err-Source g c = record {
  run = source_run _ _ _ _ _ _ _ c.writes.result c.gear.result (c.writes.ensures.point c.requires.going) c.gear.ensures.point (shown_line c.writes.result c.gear.result (g.A.Serves.shown c.args.array.now) c.writes.ensures.shown (c.gear.ensures.shown ∙ (g.met.A.Serves.shows c.args.array.now).gear ((g.met.A.Serves.shows c.args.array.now).halt ∙ c.requires.going))) _ (rw (c.as_slice.ensures.value, c.mount_text.ensures) at c.in-Ok.ensures.grows)
      (rw c.in-Err-Source.field-0-is at c.in-Err-Source.ensures.session) c.last-in-Err-Source.ensures.ends;
  told = c.session.ensures.told;
  slots = c.session.ensures.slots;
  status = served _ _ _ _ _ c.last-in-Err-Source.ensures.ends (inr (inl refl));
  present = λ is. absurd (other _ _ _ _ _ c.last-in-Err-Source.ensures.ends 0 (λ e. omega arith) (λ e. omega arith) is);
  two = λ is. absurd (other _ _ _ _ _ c.last-in-Err-Source.ensures.ends 5 (λ e. omega arith) (λ e. omega arith) is);
  worn = λ is. absurd (other _ _ _ _ _ c.last-in-Err-Source.ensures.ends 12 (λ e. omega arith) (λ e. omega arith) is);
  source = λ is. c.in-Err-Source.ensures.source (ap Err c.in-Err-Source.field-0-is);
  sink = λ is. sink_failed _ _ _ _ _ c.last-in-Err-Source.ensures.cause (λ e. omega arith) (not_fallen _ _ _ c.write_all.ensures.later c.session.ensures.later_sink) is;
  unhurt = record { sink = λ n. c.last-in-Err-Source.ensures.still n ∙ c.in-Err-Source.ensures.still_sink (λ is. source_not_sink (sym c.in-Err-Source.field-0-is ∙ err_is is)) ∙ c.in-Ok.ensures.still; source = λ n m. absurd (ends_there _ _ _ _ _ c.last-in-Err-Source.ensures.ends m n) };
}

pub returns-in-Err-TooLong : goal.returns-in-Err-TooLong
returns-in-Err-TooLong g c = record {
  run = too_long_run _ _ _ _ _ _ _ c.writes.result c.gear.result (c.writes.ensures.point c.requires.going) c.gear.ensures.point (shown_line c.writes.result c.gear.result (g.A.Serves.shown c.args.array.now) c.writes.ensures.shown (c.gear.ensures.shown ∙ (g.met.A.Serves.shows c.args.array.now).gear ((g.met.A.Serves.shows c.args.array.now).halt ∙ c.requires.going))) _ (rw (c.as_slice.ensures.value, c.mount_text.ensures) at c.in-Ok.ensures.grows)
      (rw c.in-Err-TooLong.field-0-is at c.in-Err-TooLong.ensures.session) c.last-in-Err-TooLong.ensures.ends;
  told = c.session.ensures.told;
  slots = c.session.ensures.slots;
  status = served _ _ _ _ _ c.last-in-Err-TooLong.ensures.ends (inr (inr (inr (inr (inl refl)))));
  present = λ is. absurd (other _ _ _ _ _ c.last-in-Err-TooLong.ensures.ends 0 (λ e. omega arith) (λ e. omega arith) is);
  two = λ is. absurd (other _ _ _ _ _ c.last-in-Err-TooLong.ensures.ends 5 (λ e. omega arith) (λ e. omega arith) is);
  worn = λ is. absurd (other _ _ _ _ _ c.last-in-Err-TooLong.ensures.ends 12 (λ e. omega arith) (λ e. omega arith) is);
  source = λ is. absurd (other _ _ _ _ _ c.last-in-Err-TooLong.ensures.ends 3 (λ e. omega arith) (λ e. omega arith) is);
  sink = λ is. sink_failed _ _ _ _ _ c.last-in-Err-TooLong.ensures.cause (λ e. omega arith) (not_fallen _ _ _ c.write_all.ensures.later c.session.ensures.later_sink) is;
  unhurt = record { sink = λ n. c.last-in-Err-TooLong.ensures.still n ∙ c.in-Err-TooLong.ensures.still_sink (λ is. too_long_not_sink (sym c.in-Err-TooLong.field-0-is ∙ err_is is)) ∙ c.in-Ok.ensures.still; source = λ n m. c.in-Err-TooLong.ensures.still_source (λ is. too_long_not_source (sym c.in-Err-TooLong.field-0-is ∙ err_is is)) };
}

pub returns-in-Err-Sink : goal.returns-in-Err-Sink
returns-in-Err-Sink g c = record {
  run = sink_run _ _ _ _ _ _ (sink_use g.K.Sink.written g.K.Sink.faults c.args.sink.now c.args.sink.now) c.writes.result c.gear.result (c.writes.ensures.point c.requires.going) c.gear.ensures.point (shown_line c.writes.result c.gear.result (g.A.Serves.shown c.args.array.now) c.writes.ensures.shown (c.gear.ensures.shown ∙ (g.met.A.Serves.shows c.args.array.now).gear ((g.met.A.Serves.shows c.args.array.now).halt ∙ c.requires.going))) (rw (c.as_slice.ensures.value, c.mount_text.ensures) at c.in-Ok.ensures.grows)
      (rw c.in-Err-Sink.field-0-is at c.in-Err-Sink.ensures.session);
  told = c.session.ensures.told;
  slots = c.session.ensures.slots;
  status = inr (inr (inl refl));
  present = λ is. absurd (omega (arith, is));
  two = λ is. absurd (omega (arith, is));
  worn = λ is. absurd (omega (arith, is));
  source = λ is. absurd (omega (arith, is));
  sink = λ is. HasRisen-sooner _ _ _ c.write_all.ensures.later (c.in-Err-Sink.ensures.sink (ap Err c.in-Err-Sink.field-0-is));
  unhurt = record { sink = λ n. absurd (n refl); source = λ n m. absurd (m refl) };
}

pub returns-in-Err-Halt : goal.returns-in-Err-Halt
returns-in-Err-Halt g c = record {
  run = halted_run _ _ _ _ _ _ _ c.writes.result c.gear.result (c.writes.ensures.point c.requires.going) c.gear.ensures.point (shown_line c.writes.result c.gear.result (g.A.Serves.shown c.args.array.now) c.writes.ensures.shown (c.gear.ensures.shown ∙ (g.met.A.Serves.shows c.args.array.now).gear ((g.met.A.Serves.shows c.args.array.now).halt ∙ c.requires.going))) _ (rw (c.as_slice.ensures.value, c.mount_text.ensures) at c.in-Ok.ensures.grows)
      c.in-Err-Halt.halt (rw c.in-Err-Halt.field-0-is at c.in-Err-Halt.ensures.session)
      (rw (c.as_slice-in-Err-Halt.ensures.value, c.reply.ensures.value, c.halt_status.ensures) at c.last-in-Err-Halt.ensures.ends);
  told = c.session.ensures.told;
  slots = c.session.ensures.slots;
  status = served _ _ _ _ _ c.last-in-Err-Halt.ensures.ends (subst IsServedStatus (sym c.halt_status.ensures) (halt_served c.in-Err-Halt.halt));
  present = λ is. absurd (other _ _ _ _ _ c.last-in-Err-Halt.ensures.ends 0 (λ e. omega arith) (λ e. halt_high c.in-Err-Halt.halt 0 (omega arith) (e ∙ c.halt_status.ensures)) is);
  two = λ five.
      let session = rw c.in-Err-Halt.field-0-is at c.in-Err-Halt.ensures.session in
      names_two _ _ c.in-Err-Halt.halt _ _ _ _ _ (rw c.in-Err-Halt.field-0-is at c.in-Err-Halt.ensures.failed)
      (GrowsByBytes-then _ _ _ _ _ (rw (c.as_slice.ensures.value, c.mount_text.ensures) at c.in-Ok.ensures.grows) session.grows)
      (rw (c.as_slice-in-Err-Halt.ensures.value, c.reply.ensures.value, c.halt_status.ensures) at c.last-in-Err-Halt.ensures.ends) five;
  worn = λ twelve.
      let session = rw c.in-Err-Halt.field-0-is at c.in-Err-Halt.ensures.session in
      tells_wear c.in-Err-Halt.halt _ _ _ _ _ (rw c.in-Err-Halt.field-0-is at c.in-Err-Halt.ensures.worn)
      (GrowsByBytes-then _ _ _ _ _ (rw (c.as_slice.ensures.value, c.mount_text.ensures) at c.in-Ok.ensures.grows) session.grows)
      (rw (c.as_slice-in-Err-Halt.ensures.value, c.reply.ensures.value, c.halt_status.ensures) at c.last-in-Err-Halt.ensures.ends) twelve;
  source = λ is. absurd (other _ _ _ _ _ c.last-in-Err-Halt.ensures.ends 3 (λ e. omega arith) (λ e. halt_high c.in-Err-Halt.halt 3 (omega arith) (e ∙ c.halt_status.ensures)) is);
  sink = λ is. sink_failed _ _ _ _ _ c.last-in-Err-Halt.ensures.cause (λ e. halt_high c.in-Err-Halt.halt 4 (omega arith) (sym e ∙ c.halt_status.ensures)) (not_fallen _ _ _ c.write_all.ensures.later c.session.ensures.later_sink) is;
  unhurt = record { sink = λ n. c.last-in-Err-Halt.ensures.still n ∙ c.in-Err-Halt.ensures.still_sink (λ is. halt_not_sink c.in-Err-Halt.halt (sym c.in-Err-Halt.field-0-is ∙ err_is is)) ∙ c.in-Ok.ensures.still; source = λ n m. c.in-Err-Halt.ensures.still_source (λ is. halt_not_source c.in-Err-Halt.halt (sym c.in-Err-Halt.field-0-is ∙ err_is is)) };
}

pub returns-in_default : goal.returns-in_default
returns-in_default g c = record {
  run = no_mount_run _ _ _ _ _ _ _ _ c.writes.result c.gear.result (c.writes.ensures.point c.requires.going) c.gear.ensures.point (shown_line c.writes.result c.gear.result (g.A.Serves.shown c.args.array.now) c.writes.ensures.shown (c.gear.ensures.shown ∙ (g.met.A.Serves.shows c.args.array.now).gear ((g.met.A.Serves.shows c.args.array.now).halt ∙ c.requires.going))) (rw (c.as_slice.ensures.value, c.mount_text.ensures) at c.in_default.ensures.part);
  told = grows_none _;
  slots = refl;
  status = inr (inr (inl refl));
  present = λ is. absurd (omega (arith, is));
  two = λ is. absurd (omega (arith, is));
  worn = λ is. absurd (omega (arith, is));
  source = λ is. absurd (omega (arith, is));
  sink = λ is. c.in_default.ensures.cause;
  unhurt = record { sink = λ n. absurd (n refl); source = λ n m. absurd (m refl) };
}

pub session-requires : goal.session-requires
session-requires g c = record { going = c.requires.going }
