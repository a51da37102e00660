use Rattle.std.proofs.Common.{◌≡◌, Option, Some, refl, sym, ◌∙◌, ◌≢◌, subst}
use Rattle.paraid_base.specs.declared.event.Answer.TheVariants.{Flushed, Halted}
use Rattle.paraid_base.specs.declared.event.Event.TheVariants.{Bad, Flush}
use Rattle.paraid_base.specs.declared.fault.Halt.{Halt}
use Rattle.paraid_serve.specs.Lost.{HaltsByWear, HasServedSince}
use Rattle.paraid_serve.proofs.FormLemmas.{again_cause}
use Rattle.paraid_serve.proofs.GrowsLemmas.{grows_none}
use Rattle.paraid_serve.proofs.HaltLemmas.{served_more}
use Rattle.paraid_serve.proofs.OwedLemmas.{halt_owed, later_owed, setup_owed, two_owed}
use Rattle.paraid_image.specs.Out.{named_out}
use Rattle.paraid_serve.proofs.StretchLemmas.{again_turn}
use Rattle.paraid_serve.proofs.answer.finish.Goals as goal

apart : Flush ≢ Bad
apart e = cc

pub returns-in-Some : goal.returns-in-Some
returns-in-Some g c = record {
  turn = λ p stands. again_turn _ _ _ p _ Flush c.in-Some.halt apart (g.met.A.Serves.agrees c.args.array.now p stands ∙ sym c.requires.halt ∙ c.in-Some.is) stands;
  told = grows_none _;
  slots = refl;
  setup = refl;
  going = tt;
  since = λ start s. subst (λ (o : Option Halt). HasServedSince start (g.A.Serves.slot c.args.array.now) o) (sym c.requires.halt ∙ c.in-Some.is) s;
  worn = subst HaltsByWear (sym c.requires.halt ∙ c.in-Some.is) (g.met.A.Serves.worn c.args.array.now);
  cause = again_cause (g.A.Serves.shown c.args.array.now) Flush c.in-Some.halt apart ((g.met.A.Serves.shows c.args.array.now).halt ∙ sym c.requires.halt ∙ c.in-Some.is);
}

pub returns-in-Err : goal.returns-in-Err
returns-in-Err g c =
    let a = c.args.array.now in
    let b = c.flush.new.self in
    let e = c.in-Err.ensures in
    let shows_a = g.met.A.Serves.shows a in
    let shows_b = g.met.A.Serves.shows b in
    let halt : g.A.Serves.halted b ≡ Some c.in-Err.halt = halt_owed g.A.Serves a b shows_a shows_b Flush (Halted c.in-Err.halt) e.cause apart in
    record {
      turn = e.turn;
      told = e.told;
      slots = e.slots;
      setup = setup_owed g.A.Serves a b shows_a shows_b Flush (Halted c.in-Err.halt) e.cause;
      going = tt;
      since = λ start s.
          subst (λ (o : Option Halt). HasServedSince start (g.A.Serves.slot b) o) halt
          (served_more start (g.A.Serves.slot a) (g.A.Serves.slot b) (g.A.Serves.halted a) (g.A.Serves.halted b) (named_out (g.A.Serves.shown a).meta.out) Flush
          (two_owed g.A.Serves a b shows_a shows_b Flush (Halted c.in-Err.halt) e.cause apart (sym c.requires.halt ∙ c.in_default.is)) (later_owed g.A.Serves a b shows_a shows_b Flush (Halted c.in-Err.halt) e.cause) s);
      worn = subst HaltsByWear halt (g.met.A.Serves.worn b);
      cause = e.cause;
    }

pub returns-in-Ok : goal.returns-in-Ok
returns-in-Ok g c = record {
  turn = c.in-Ok.ensures.turn;
  told = c.in-Ok.ensures.told;
  slots = c.in-Ok.ensures.slots;
  setup = setup_owed g.A.Serves c.args.array.now c.flush.new.self (g.met.A.Serves.shows c.args.array.now) (g.met.A.Serves.shows c.flush.new.self) Flush (Flushed c.in-Ok.writes) c.in-Ok.ensures.cause;
  going = halt_owed g.A.Serves c.args.array.now c.flush.new.self (g.met.A.Serves.shows c.args.array.now) (g.met.A.Serves.shows c.flush.new.self) Flush (Flushed c.in-Ok.writes) c.in-Ok.ensures.cause apart;
  since = tt;
  worn = tt;
  cause = c.in-Ok.ensures.cause;
}
