use Rattle.std.proofs.Common.{ap, refl, sym, ◌∙◌}
use Rattle.paraid_base.proofs.ToldLemmas.{GrowsByBytes-then}
use Rattle.paraid_record.specs.declared.meta.Setup.{Setup}
use Rattle.paraid_serve.proofs.StatusLemmas.{ends_there, err_is, halt_not_sink, halt_not_source, ok_not_err, source_not_sink, too_long_not_sink, too_long_not_source}
use Rattle.paraid_serve.proofs.TopLemmas.{shown_line}
use Rattle.paraid_serve.specs.Streams.{sink_use}
use Rattle.paraid_spare.specs.Pools.{left_of, spins_of}
use Rattle.paraid_sparing.specs.Texts.{spares_line}
use Rattle.paraid_sparing.proofs.TextLemmas.{names_two_after, tells_wear_after}
use Rattle.paraid_sparing.proofs.TopLemmas.{done_run, halted_run, no_mount_run, sink_run, source_run, too_long_run}
use Rattle.paraid_sparing.proofs.top.serve.Goals as goal

pub returns-in_default-clause-run : goal.returns-in_default-clause-run
returns-in_default-clause-run g c = no_mount_run _ _ _ _ _ _ _ _ _ _ c.writes.result c.gear.result (c.writes.ensures.point c.requires.going) c.gear.ensures.point (shown_line c.writes.result c.gear.result (g.A.Serves.shown c.args.array.now) c.writes.ensures.shown (c.gear.ensures.shown ∙ (g.met.A.Serves.shows c.args.array.now).gear ((g.met.A.Serves.shows c.args.array.now).halt ∙ c.requires.going))) (rw (c.as_slice.ensures.value, c.mount_text.ensures) at c.in_default.ensures.part)

pub returns-in-Ok-session-clause-run : goal.returns-in-Ok-session-clause-run
returns-in-Ok-session-clause-run g c = done_run _ _ _ _ _ _ _ _ c.session.new.pool c.writes.result c.gear.result (shown_line c.writes.result c.gear.result (g.A.Serves.shown c.args.array.now) c.writes.ensures.shown (c.gear.ensures.shown ∙ (g.met.A.Serves.shows c.args.array.now).gear ((g.met.A.Serves.shows c.args.array.now).halt ∙ c.requires.going))) (c.writes.ensures.point c.requires.going) c.gear.ensures.point c.tell_end.result
    (rw (c.as_slice.ensures.value, c.mount_text.ensures) at c.in-Ok.ensures.grows) c.disks-disks.result c.disks-disks.ensures (c.disks-disks.ensures ∙ sym (ap (λ (z : Setup). z.geometry.disks) (g.met.A.Serves.shows c.args.array.now).setup)) c.in-Ok-session.writes
    (rw (c.new-pool.ensures.left, c.new-pool.ensures.wait) at c.in-Ok-session.ensures.session) (rw (c.as_slice-in-Ok-session.ensures.value, c.end_text.ensures) at c.tell_end.ensures.ends)

pub returns-in-Err-Source-clause-run : goal.returns-in-Err-Source-clause-run
returns-in-Err-Source-clause-run g c = source_run _ _ _ _ _ _ _ _ c.session.new.pool c.writes.result c.gear.result (shown_line c.writes.result c.gear.result (g.A.Serves.shown c.args.array.now) c.writes.ensures.shown (c.gear.ensures.shown ∙ (g.met.A.Serves.shows c.args.array.now).gear ((g.met.A.Serves.shows c.args.array.now).halt ∙ c.requires.going))) (c.writes.ensures.point c.requires.going) c.gear.ensures.point c.last.result
    (rw (c.as_slice.ensures.value, c.mount_text.ensures) at c.in-Ok.ensures.grows)
    (rw (c.new-pool.ensures.left, c.new-pool.ensures.wait, c.in-Err-Source.field-0-is) at c.in-Err-Source.ensures.session) c.last.ensures.ends

pub returns-in-Err-TooLong-clause-run : goal.returns-in-Err-TooLong-clause-run
returns-in-Err-TooLong-clause-run g c = too_long_run _ _ _ _ _ _ _ _ c.session.new.pool c.writes.result c.gear.result (shown_line c.writes.result c.gear.result (g.A.Serves.shown c.args.array.now) c.writes.ensures.shown (c.gear.ensures.shown ∙ (g.met.A.Serves.shows c.args.array.now).gear ((g.met.A.Serves.shows c.args.array.now).halt ∙ c.requires.going))) (c.writes.ensures.point c.requires.going) c.gear.ensures.point c.last-in-Err-TooLong.result
    (rw (c.as_slice.ensures.value, c.mount_text.ensures) at c.in-Ok.ensures.grows)
    (rw (c.new-pool.ensures.left, c.new-pool.ensures.wait, c.in-Err-TooLong.field-0-is) at c.in-Err-TooLong.ensures.session) c.last-in-Err-TooLong.ensures.ends

pub returns-in-Err-Sink-clause-run : goal.returns-in-Err-Sink-clause-run
returns-in-Err-Sink-clause-run g c = sink_run _ _ _ _ _ _ _ (sink_use g.K.Sink.written g.K.Sink.faults c.args.sink.now c.args.sink.now) c.session.new.pool c.writes.result c.gear.result (shown_line c.writes.result c.gear.result (g.A.Serves.shown c.args.array.now) c.writes.ensures.shown (c.gear.ensures.shown ∙ (g.met.A.Serves.shows c.args.array.now).gear ((g.met.A.Serves.shows c.args.array.now).halt ∙ c.requires.going))) (c.writes.ensures.point c.requires.going) c.gear.ensures.point
    (rw (c.as_slice.ensures.value, c.mount_text.ensures) at c.in-Ok.ensures.grows)
    (rw (c.new-pool.ensures.left, c.new-pool.ensures.wait, c.in-Err-Sink.field-0-is) at c.in-Err-Sink.ensures.session)

pub returns-in-Err-Halt-clause-run : goal.returns-in-Err-Halt-clause-run
returns-in-Err-Halt-clause-run g c = halted_run _ _ _ _ _ _ _ _ c.session.new.pool c.writes.result c.gear.result (shown_line c.writes.result c.gear.result (g.A.Serves.shown c.args.array.now) c.writes.ensures.shown (c.gear.ensures.shown ∙ (g.met.A.Serves.shows c.args.array.now).gear ((g.met.A.Serves.shows c.args.array.now).halt ∙ c.requires.going))) (c.writes.ensures.point c.requires.going) c.gear.ensures.point c.tell_end-in-Err-Halt.result
    (rw (c.as_slice.ensures.value, c.mount_text.ensures) at c.in-Ok.ensures.grows) c.disks-disks.result c.disks-disks.ensures (c.disks-disks.ensures ∙ sym (ap (λ (z : Setup). z.geometry.disks) (g.met.A.Serves.shows c.args.array.now).setup)) c.in-Err-Halt.halt
    (rw (c.new-pool.ensures.left, c.new-pool.ensures.wait, c.in-Err-Halt.field-0-is) at c.in-Err-Halt.ensures.session) (rw (c.as_slice-in-Err-Halt.ensures.value, c.reply.ensures.value, c.halt_status.ensures) at c.tell_end-in-Err-Halt.ensures.ends)

pub returns-in-Err-Halt-clause-two : goal.returns-in-Err-Halt-clause-two
returns-in-Err-Halt-clause-two g c five =
    let session = rw c.in-Err-Halt.field-0-is at c.in-Err-Halt.ensures.session in
    names_two_after _ _ _ _ _ _ (spares_line (left_of c.session.new.pool) (spins_of c.session.new.pool) c.disks-disks.result) c.in-Err-Halt.halt _ (rw c.in-Err-Halt.field-0-is at c.in-Err-Halt.ensures.failed)
    (GrowsByBytes-then _ _ _ _ _ (rw (c.as_slice.ensures.value, c.mount_text.ensures) at c.in-Ok.ensures.grows) session.grows)
    (rw (c.as_slice-in-Err-Halt.ensures.value, c.reply.ensures.value, c.halt_status.ensures) at c.tell_end-in-Err-Halt.ensures.ends) five

pub returns-in-Err-Halt-clause-worn : goal.returns-in-Err-Halt-clause-worn
returns-in-Err-Halt-clause-worn g c twelve =
    let session = rw c.in-Err-Halt.field-0-is at c.in-Err-Halt.ensures.session in
    tells_wear_after _ _ _ _ (spares_line (left_of c.session.new.pool) (spins_of c.session.new.pool) c.disks-disks.result) c.in-Err-Halt.halt _ (rw c.in-Err-Halt.field-0-is at c.in-Err-Halt.ensures.worn)
    (GrowsByBytes-then _ _ _ _ _ (rw (c.as_slice.ensures.value, c.mount_text.ensures) at c.in-Ok.ensures.grows) session.grows)
    (rw (c.as_slice-in-Err-Halt.ensures.value, c.reply.ensures.value, c.halt_status.ensures) at c.tell_end-in-Err-Halt.ensures.ends) twelve

pub returns-in-Ok-session-clause-unhurt : goal.returns-in-Ok-session-clause-unhurt
returns-in-Ok-session-clause-unhurt g c = record {
  sink = λ n. c.tell_end.ensures.still n ∙ c.in-Ok-session.ensures.still_sink (λ is. ok_not_err is) ∙ c.in-Ok.ensures.still;
  source = λ n m. c.in-Ok-session.ensures.still_source (λ is. ok_not_err is);
}

pub returns-in-Err-Source-clause-unhurt : goal.returns-in-Err-Source-clause-unhurt
returns-in-Err-Source-clause-unhurt g c = record {
  sink = λ n. c.last.ensures.still n ∙ c.in-Err-Source.ensures.still_sink (λ is. source_not_sink (sym c.in-Err-Source.field-0-is ∙ err_is is)) ∙ c.in-Ok.ensures.still;
  source = λ n m. absurd (ends_there _ _ _ _ _ c.last.ensures.ends m n);
}

pub returns-in-Err-TooLong-clause-unhurt : goal.returns-in-Err-TooLong-clause-unhurt
returns-in-Err-TooLong-clause-unhurt g c = record {
  sink = λ n. c.last-in-Err-TooLong.ensures.still n ∙ c.in-Err-TooLong.ensures.still_sink (λ is. too_long_not_sink (sym c.in-Err-TooLong.field-0-is ∙ err_is is)) ∙ c.in-Ok.ensures.still;
  source = λ n m. c.in-Err-TooLong.ensures.still_source (λ is. too_long_not_source (sym c.in-Err-TooLong.field-0-is ∙ err_is is));
}

pub returns-in-Err-Sink-clause-unhurt : goal.returns-in-Err-Sink-clause-unhurt
returns-in-Err-Sink-clause-unhurt g c = record {
  sink = λ n. absurd (n refl);
  source = λ n m. absurd (m refl);
}

pub returns-in-Err-Halt-clause-unhurt : goal.returns-in-Err-Halt-clause-unhurt
returns-in-Err-Halt-clause-unhurt g c = record {
  sink = λ n. c.tell_end-in-Err-Halt.ensures.still n ∙ c.in-Err-Halt.ensures.still_sink (λ is. halt_not_sink c.in-Err-Halt.halt (sym c.in-Err-Halt.field-0-is ∙ err_is is)) ∙ c.in-Ok.ensures.still;
  source = λ n m. c.in-Err-Halt.ensures.still_source (λ is. halt_not_source c.in-Err-Halt.halt (sym c.in-Err-Halt.field-0-is ∙ err_is is));
}

pub returns-in_default-clause-unhurt : goal.returns-in_default-clause-unhurt
returns-in_default-clause-unhurt g c = record {
  sink = λ n. absurd (n refl);
  source = λ n m. absurd (m refl);
}
