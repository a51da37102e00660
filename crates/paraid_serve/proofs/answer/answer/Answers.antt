use Rattle.std.proofs.Common.{refl, sym, ◌∙◌, subst}
use Rattle.paraid_image.specs.Out.{named_out}
use Rattle.paraid_serve.specs.Causes.{HasCause}
use Rattle.paraid_trace.specs.Answered.{answer_with}
use Rattle.paraid_trace.specs.Asked.{event_with}
use Rattle.paraid_trace.specs.declared.asked.Asked.{Asked}
use Rattle.paraid_base.specs.declared.event.Answer.TheVariants.{Bad as IsBad}
use Rattle.paraid_rack.specs.Told.{Ran}
use Rattle.paraid_session.specs.Turn.{GoesOn}
use Rattle.paraid_serve.proofs.FormLemmas.{again_cause, bad_cause, not_bad}
use Rattle.paraid_serve.proofs.GrowsLemmas.{grows_none}
use Rattle.paraid_serve.proofs.HaltLemmas.{served_more}
use Rattle.paraid_serve.proofs.OwedLemmas.{few_by, halt_owed, later_owed, setup_owed, two_owed}
use Rattle.paraid_serve.proofs.StretchLemmas.{bad_turn, again_turn}
use Rattle.paraid_serve.proofs.answer.answer.Goals as goal

pub returns-in-Bad : goal.returns-in-Bad
returns-in-Bad g c = record {
  turn = λ p stands.
      let told = g.A.Serves.told c.args.array.now in
      subst (λ (a : Asked). Ran told told (GoesOn (g.A.Serves.slots c.args.array.now) (g.A.Serves.setup c.args.array.now) p (event_with a c.args.pairs.now) IsBad (g.A.Serves.stands c.args.array.now)))
      (sym c.in-Bad.is) (bad_turn _ _ told p _ stands);
  told = grows_none _;
  slots = refl;
  setup = refl;
  halt = c.requires.halt;
  since = λ start s. s;
  few = tt;
  cause =
      let x = g.A.Serves.shown c.args.array.now in
      subst (λ (a : Asked). HasCause x (event_with a c.args.pairs.now) IsBad x) (sym c.in-Bad.is) (bad_cause x (g.met.A.Serves.shows c.args.array.now).fits (g.met.A.Serves.shows c.args.array.now).synced);
}

pub returns-in-Some : goal.returns-in-Some
returns-in-Some g c =
    let event = event_with c.args.asked c.args.pairs.now in
    let good = not_bad c.args.asked c.args.pairs.now c.in_default.not-Bad in
    record {
      turn = λ p stands. again_turn _ _ _ p _ event c.in-Some.halt good (g.met.A.Serves.agrees c.args.array.now p stands ∙ sym c.requires.halt ∙ c.in-Some.is) stands;
      told = grows_none _;
      slots = refl;
      setup = refl;
      halt = c.requires.halt;
      since = λ start s. s;
      few = tt;
      cause = again_cause (g.A.Serves.shown c.args.array.now) event c.in-Some.halt good ((g.met.A.Serves.shows c.args.array.now).halt ∙ sym c.requires.halt ∙ c.in-Some.is);
    }

pub returns : goal.returns
returns g c =
    let a = c.args.array.now in
    let b = c.serve-answered.new.self in
    let event = event_with c.args.asked c.args.pairs.now in
    let answer = answer_with c.serve-answered.result c.serve-answered.new.beside in
    let e = c.serve-answered.ensures in
    let good = not_bad c.args.asked c.args.pairs.now c.in_default.not-Bad in
    let shows_a = g.met.A.Serves.shows a in
    let shows_b = g.met.A.Serves.shows b in
    record {
      turn = e.turn;
      told = e.told;
      slots = e.slots;
      setup = setup_owed g.A.Serves a b shows_a shows_b event answer e.cause;
      halt = c.halt_in.ensures c.serve-answered.new.beside ∙ sym (halt_owed g.A.Serves a b shows_a shows_b event answer e.cause good);
      since = λ start s.
          served_more start (g.A.Serves.slot a) (g.A.Serves.slot b) (g.A.Serves.halted a) (g.A.Serves.halted b) (named_out (g.A.Serves.shown a).meta.out) event
          (two_owed g.A.Serves a b shows_a shows_b event answer e.cause good (sym c.requires.halt ∙ c.in_default-halt.is)) (later_owed g.A.Serves a b shows_a shows_b event answer e.cause) s;
      few = few_by (g.A.Serves.shown a) (g.A.Serves.shown b) event answer e.cause;
      cause = e.cause;
    }
