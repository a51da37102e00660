use Rattle.std.proofs.Common.{◌≡◌, ℕ, ◌<◌, ◌∙◌, [], ◌++◌, List, length, take, None, ap, arith, inl, inr, refl, sym, subst}
use Rattle.paraid_base.proofs.ToldLemmas.{GrowsByBytes-then}
use Rattle.paraid_device.specs.Devices.{array_of, span_between}
use Rattle.paraid_record.specs.declared.meta.Setup.{Setup}
use Rattle.paraid_device.specs.Laws.{answered_none}
use Rattle.paraid_serve.specs.Calls.{IsNotDouble}
use Rattle.paraid_serve.specs.Ending.{mount_line}
use Rattle.paraid_serve.specs.Output.{begins_with, first_line}
use Rattle.paraid_serve.specs.Streams.{Streams, sink_use, source_use, streams_of}
use Rattle.paraid_session.specs.Turn.{Point}
use Rattle.paraid_serve.proofs.GrowsLemmas.{grows_none}
use Rattle.paraid_serve.proofs.HaltLemmas.{no_event_yet}
use Rattle.paraid_service.proofs.TextLemmas.{all_answered, answered_at, ends_going, ends_served, ends_three, ends_two, ends_worn, grew_as, headline_of, mount_shown, not_at_sink, not_at_source, ran, ran_none, sink_cause}
use Rattle.paraid_service.specs.VolumeSessions.{VolumesRun}
use Rattle.paraid_service.proofs.session.serve_volumes.Goals as goal

pub returns-in_default : goal.returns-in_default
returns-in_default g c =
    let a = c.args.array in
    let p = c.in_default.ensures.part in
    let shown = mount_shown g.A.Serves a c.writes.result c.gear.result c.writes.ensures.shown c.gear.ensures.shown (g.met.A.Serves.shows a) c.requires.going in
    let run = ran_none g.A.Serves a (g.S.Source.left c.args.source.now) (g.S.Source.faults c.args.source.now) (sink_use g.K.Sink.written g.K.Sink.faults c.args.sink.now c.write_all.new.sink) p.0
    (subst (λ (x : List ℕ). p.0 < length x) shown (rw (c.as_slice.ensures.value, c.mount_text.ensures) at p.1))
    (grew_as (ap (take p.0) shown) (rw (c.as_slice.ensures.value, c.mount_text.ensures) at p.2))
    (λ q at. sym shown ∙ rw (c.writes.ensures.point c.requires.going q at, c.gear.ensures.point q at) refl) in
    record {
      run = run;
      headline = headline_of g.A.Serves g.met.A.Serves.agrees a a [] (answered_none g.A.Serves a) 4 (λ zero. absurd (omega (arith, zero))) run;
      told = grows_none (g.A.Serves.told a);
      slots = refl;
      status = inr (inr (inl refl));
      present = λ zero. absurd (omega (arith, zero));
      two = λ five. absurd (omega (arith, five));
      worn = λ twelve. absurd (omega (arith, twelve));
      source = λ three. absurd (omega (arith, three));
      sink = λ four. c.in_default.ensures.cause;
      unhurt = record { sink = λ n. absurd (n refl); source = λ n m. absurd (m refl) };
    }

pub returns : goal.returns
returns g c =
    let a = c.args.array in
    let b = c.close.result in
    let first = c.new.result in
    let last = c.end_session-status.new.device in
    let shelf = c.serve_lines-run.result.shelved.shelf in
    let halt = c.serve_lines-run.result.shelved.halt in
    let end = c.serve_lines-run.result.end in
    let status = c.end_session-status.result in
    let mount = mount_line c.writes.result c.gear.result in
    let lines = c.serve_lines-run.ensures.lines in
    let ends = rw c.finish-device.ensures at c.end_session-status.ensures.ends in
    let k = c.in-Ok.ensures in
    let grew = rw (c.as_slice.ensures.value, c.mount_text.ensures) at k.grows in
    let shown : mount ≡ first_line (g.A.Serves.shown (array_of first)) = rw c.new.ensures.array (mount_shown g.A.Serves a c.writes.result c.gear.result c.writes.ensures.shown c.gear.ensures.shown (g.met.A.Serves.shows a) c.requires.going) in
    let opened = grew_as shown grew in
    let mounted : (q : Point) → g.A.Serves.stands (array_of first) q → first_line (g.A.Serves.shown (array_of first)) ≡ begins_with q = λ q stands. sym shown ∙ let here = rw c.new.ensures.array at stands in rw (c.writes.ensures.point c.requires.going q here, c.gear.ensures.point q here) refl in
    let streams : Streams = streams_of (source_use g.S.Source.left g.S.Source.faults c.args.source.now c.serve_lines-run.new.source) (sink_use g.K.Sink.written g.K.Sink.faults c.args.sink.now c.end_session-status.new.sink) in
    let run : VolumesRun (g.A.Serves.shown a) (g.A.Serves.shown b) (span_between g.A.Serves a b) (g.A.Serves.stands a) streams status
    = rw (c.close.ensures, ← c.new.ensures.array) (ran g.A.Serves g.met.A.Serves.agrees g.met.A.Serves.shows first c.new.ensures.going streams shelf halt opened mounted last end status lines ends) in
    let every = all_answered g.A.Serves g.met.A.Serves.agrees g.met.A.Serves.shows first c.new.ensures.going streams shelf halt opened mounted last end status lines ends in
    let all = answered_at g.A.Serves first last a b every.0 c.new.ensures.array c.close.ensures every.1 in
    let going : status ≡ 0 → g.A.Serves.halted b ≡ None = λ zero. rw c.close.ensures (ends_going g.A.Serves end status ends zero) in
    let text = GrowsByBytes-then _ _ _ mount lines.told grew lines.grows in
    let since = all.since (g.A.Serves.slot a) (no_event_yet (g.A.Serves.slot a) (g.A.Serves.halted a) c.requires.going) in
    record {
      run = run;
      headline = headline_of g.A.Serves g.met.A.Serves.agrees a b every.0 all status going run;
      told = all.grows;
      slots = all.same_slots;
      status = ends_served g.A.Serves end status ends;
      present = λ zero. subst (λ (z : Setup). IsNotDouble z (g.A.Serves.slot b)) all.same_setup (g.met.A.Serves.serves b (going zero));
      two = λ five. rw c.close.ensures (ends_two g.A.Serves _ (mount ++ lines.told) text (g.A.Serves.slot a) (rw c.close.ensures at since.lost) end status ends five);
      worn = λ twelve. ends_worn g.A.Serves _ (mount ++ lines.told) text (g.met.A.Serves.worn (array_of last)) end status ends twelve;
      source = λ three. c.serve_lines-run.ensures.source (ends_three g.A.Serves end status ends three);
      sink = sink_cause end _ _ _ _ status k.later c.serve_lines-run.ensures.later_sink c.end_session-status.ensures.later c.serve_lines-run.ensures.sink c.end_session-status.ensures.cause;
      unhurt = record {
        sink = λ n. c.end_session-status.ensures.still n ∙ c.serve_lines-run.ensures.still_sink (not_at_sink g.A.Serves end status ends n) ∙ k.still;
        source = λ n m. c.serve_lines-run.ensures.still_source (not_at_source g.A.Serves end status ends n m);
      };
    }
