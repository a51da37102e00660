use Rattle.std.specs.Prelude.{Err}
use Rattle.std.proofs.Common.{ap, sym, ◌∙◌, refl}
use Rattle.paraid_base.proofs.ToldLemmas.{HasRisen-sooner}
use Rattle.paraid_serve.proofs.GrowsLemmas.{grows_none, grows_then, told_then}
use Rattle.paraid_serve.proofs.HearLemmas.{less_to_take}
use Rattle.paraid_serve.proofs.HaltLemmas.{no_event_yet}
use Rattle.paraid_serve.proofs.StatusLemmas.{err_is, halt_not_sink, halt_not_source, not_fallen, ok_not_err, sink_not_source, source_not_sink, stood, too_long_not_sink, too_long_not_source}
use Rattle.paraid_sparing.proofs.Sofar.{ends_at_sink, ends_at_source, ends_halted, ends_too_long, ends_well, sofar_more, sofar_start}
use Rattle.paraid_sparing.proofs.run.session.Goals as goal

pub lines-init : goal.lines-init
lines-init g c = record {
  sofar = rw c.new-reader.ensures (sofar_start _ _ _ _ _ _ _ _ _ _ c.requires.fresh);
  told = grows_none _;
  slots = refl;
  setup = refl;
  halt = sym c.requires.going;
  since = no_event_yet _ _ c.requires.going;
  source = refl;
  sink = refl;
}

pub lines-preserved : goal.lines-preserved
lines-preserved g c =
    let i = c.lines.invariant in
    let e = c.answer_line.ensures in
    let k = c.in-Ok.ensures in
    let h = rw c.in-Ok-Some.field-0-is at c.in-Ok-Some.ensures.heard in
    record {
      sofar = sofar_more i.sofar h _ _ _ _ _ _ i.slots i.setup (told_then _ _ e.told) (λ q w j at keeps. e.serves q w j at keeps) _ (λ w j keeps. e.causes w j keeps) c.in-Ok-Some.ensures.goes_on _ (rw (c.as_slice.ensures.value, c.as_slice-in-lines.ensures.value) at k.grows);
      told = grows_then _ _ _ i.told e.told;
      slots = e.slots ∙ i.slots;
      setup = e.setup ∙ i.setup;
      halt = e.halt;
      since = e.since (g.A.Serves.slot c.args.array.now) i.since;
      source = c.in-Ok-Some.ensures.still (λ is. ok_not_err is) ∙ i.source;
      sink = k.still ∙ i.sink;
    }

pub returns-in-Err-Source : goal.returns-in-Err-Source
returns-in-Err-Source g c = record {
  session = ends_at_source c.lines.invariant.sofar c.in-Err-Source.ensures.heard;
  told = c.lines.invariant.told;
  slots = c.lines.invariant.slots;
  setup = c.lines.invariant.setup;
  going = tt;
  failed = tt;
  worn = tt;
  source = λ is. HasRisen-sooner _ _ _ (stood c.lines.invariant.source) (c.in-Err-Source.ensures.cause (ap Err c.in-Err-Source.field-0-is));
  sink = λ is. absurd (source_not_sink (err_is is));
  later_source = not_fallen _ _ _ (stood c.lines.invariant.source) c.in-Err-Source.ensures.later;
  later_sink = stood c.lines.invariant.sink;
  still_source = λ n. absurd (n refl);
  still_sink = λ n. c.lines.invariant.sink;
}

pub returns-in-Err-TooLong : goal.returns-in-Err-TooLong
returns-in-Err-TooLong g c = record {
  session = ends_too_long c.lines.invariant.sofar c.in-Err-TooLong.ensures.heard (c.in-Err-TooLong.ensures.too_long c.in-Err-TooLong.field-0-0 (ap Err c.in-Err-TooLong.field-0-is));
  told = c.lines.invariant.told;
  slots = c.lines.invariant.slots;
  setup = c.lines.invariant.setup;
  going = tt;
  failed = tt;
  worn = tt;
  source = λ is. absurd (too_long_not_source (err_is is));
  sink = λ is. absurd (too_long_not_sink (err_is is));
  later_source = not_fallen _ _ _ (stood c.lines.invariant.source) c.in-Err-TooLong.ensures.later;
  later_sink = stood c.lines.invariant.sink;
  still_source = λ n. c.in-Err-TooLong.ensures.still (λ is. cc (is, c.in-Err-TooLong.field-0-is)) ∙ c.lines.invariant.source;
  still_sink = λ n. c.lines.invariant.sink;
}

pub returns-in_default : goal.returns-in_default
returns-in_default g c = record {
  session =
      let i = c.lines.invariant in
      let e = c.answer_line.ensures in
      let p = c.in_default.ensures.part in
      let h = rw c.in-Ok-Some.field-0-is at c.in-Ok-Some.ensures.heard in
      ends_at_sink i.sofar h _ _ _ _ _ _ i.slots i.setup (told_then _ _ e.told) (λ q w j at keeps. e.serves q w j at keeps) _ (λ w j keeps. e.causes w j keeps) _ p.0 (rw (c.as_slice.ensures.value, c.as_slice-in-lines.ensures.value) at p.1) (rw (c.as_slice.ensures.value, c.as_slice-in-lines.ensures.value) at p.2);
  told = grows_then _ _ _ c.lines.invariant.told c.answer_line.ensures.told;
  slots = c.answer_line.ensures.slots ∙ c.lines.invariant.slots;
  setup = c.answer_line.ensures.setup ∙ c.lines.invariant.setup;
  going = tt;
  failed = tt;
  worn = tt;
  source = λ is. absurd (sink_not_source (err_is is));
  sink = λ is. HasRisen-sooner _ _ _ (stood c.lines.invariant.sink) c.in_default.ensures.cause;
  later_source = not_fallen _ _ _ (stood c.lines.invariant.source) c.in-Ok-Some.ensures.later;
  later_sink = not_fallen _ _ _ (stood c.lines.invariant.sink) c.tell.ensures.later;
  still_source = λ n. c.in-Ok-Some.ensures.still (λ is. ok_not_err is) ∙ c.lines.invariant.source;
  still_sink = λ n. absurd (n refl);
}

pub returns-in-Ok-finish : goal.returns-in-Ok-finish
returns-in-Ok-finish g c = record {
  session =
      let i = c.lines.invariant in
      let f = c.in-Ok-finish.ensures in
      ends_well i.sofar (rw c.in-Ok-None.field-0-is at c.in-Ok-None.ensures.heard) _ _ _ _ i.slots i.setup (told_then _ _ f.told) c.in-Ok-finish.writes _ f.cause f.turn;
  told = grows_then _ _ _ c.lines.invariant.told c.in-Ok-finish.ensures.told;
  slots = c.in-Ok-finish.ensures.slots ∙ c.lines.invariant.slots;
  setup = c.in-Ok-finish.ensures.setup ∙ c.lines.invariant.setup;
  going = c.in-Ok-finish.ensures.going;
  failed = tt;
  worn = tt;
  source = λ is. absurd (ok_not_err is);
  sink = λ is. absurd (ok_not_err is);
  later_source = not_fallen _ _ _ (stood c.lines.invariant.source) c.in-Ok-None.ensures.later;
  later_sink = stood c.lines.invariant.sink;
  still_source = λ n. c.in-Ok-None.ensures.still (λ is. ok_not_err is) ∙ c.lines.invariant.source;
  still_sink = λ n. c.lines.invariant.sink;
}

pub returns-in-Err : goal.returns-in-Err
returns-in-Err g c = record {
  session =
      let i = c.lines.invariant in
      let f = c.in-Err.ensures in
      ends_halted i.sofar (rw c.in-Ok-None.field-0-is at c.in-Ok-None.ensures.heard) _ _ _ _ i.slots i.setup (told_then _ _ f.told) c.in-Err.halt _ f.cause f.turn;
  told = grows_then _ _ _ c.lines.invariant.told c.in-Err.ensures.told;
  slots = c.in-Err.ensures.slots ∙ c.lines.invariant.slots;
  setup = c.in-Err.ensures.setup ∙ c.lines.invariant.setup;
  going = tt;
  failed = (c.in-Err.ensures.since (g.A.Serves.slot c.args.array.now) c.lines.invariant.since).lost;
  worn = c.in-Err.ensures.worn;
  source = λ is. absurd (halt_not_source c.in-Err.halt (err_is is));
  sink = λ is. absurd (halt_not_sink c.in-Err.halt (err_is is));
  later_source = not_fallen _ _ _ (stood c.lines.invariant.source) c.in-Ok-None.ensures.later;
  later_sink = stood c.lines.invariant.sink;
  still_source = λ n. c.in-Ok-None.ensures.still (λ is. ok_not_err is) ∙ c.lines.invariant.source;
  still_sink = λ n. c.lines.invariant.sink;
}

pub hear-requires : goal.hear-requires
hear-requires g c = c.lines.invariant.sofar.fault

pub answer_line-requires : goal.answer_line-requires
answer_line-requires g c = record { halt = c.lines.invariant.halt }

pub finish-requires : goal.finish-requires
finish-requires g c = record { halt = c.lines.invariant.halt }

pub lines-smaller : goal.lines-smaller
lines-smaller g c = less_to_take (rw c.in-Ok-Some.field-0-is at c.in-Ok-Some.ensures.heard)
