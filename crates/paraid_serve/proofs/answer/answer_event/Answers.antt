use Rattle.paraid_serve.specs.Causes.{HasCause}
use Rattle.std.proofs.Common.{subst, sym}
use Rattle.paraid_base.specs.declared.event.Answer.{Answer}
use Rattle.paraid_base.specs.declared.event.Event.{Event}
use Rattle.paraid_rack.specs.Told.{Ran}
use Rattle.paraid_session.specs.Turn.{GoesOn}
use Rattle.paraid_trace.specs.Answered.{answer_with}
use Rattle.paraid_serve.proofs.answer.answer_event.Goals as goal

pub returns-in-Write : goal.returns-in-Write
returns-in-Write g c =
    let e = c.answer-written.ensures in
    let a = c.args.array.now in
    let b = c.answer-written.new.array in
    let told = answer_with c.answer-written.result c.answer-written.new.beside in
    let is = sym c.in-Write.is in
    record {
      turn = λ p stands.
          subst (λ (x : Answer). Ran (g.A.Serves.told a) (g.A.Serves.told b) (GoesOn (g.A.Serves.slots a) (g.A.Serves.setup a) p c.args.event.now x (g.A.Serves.stands b))) (sym c.answer.ensures)
          (subst (λ (event : Event). Ran (g.A.Serves.told a) (g.A.Serves.told b) (GoesOn (g.A.Serves.slots a) (g.A.Serves.setup a) p event told (g.A.Serves.stands b))) is (e.turn p stands));
      told = e.told;
      slots = e.slots;
      setup = e.setup;
      halt = e.halt;
      since = e.since;
      cause = subst (λ (x : Answer). HasCause (g.A.Serves.shown a) c.args.event.now x (g.A.Serves.shown b)) (sym c.answer.ensures) (subst (λ (event : Event). HasCause (g.A.Serves.shown a) event told (g.A.Serves.shown b)) is e.cause);
    }

pub returns : goal.returns
returns g c =
    let e = c.answer-answered.ensures in
    let a = c.args.array.now in
    let b = c.answer-answered.new.array in
    let told = answer_with c.answer-answered.result c.answer-answered.new.beside in
    let is = c.asked_by.ensures c.one-none.result c.in_default.not-Write in
    record {
      turn = λ p stands.
          subst (λ (x : Answer). Ran (g.A.Serves.told a) (g.A.Serves.told b) (GoesOn (g.A.Serves.slots a) (g.A.Serves.setup a) p c.args.event.now x (g.A.Serves.stands b))) (sym c.answer-2.ensures)
          (subst (λ (event : Event). Ran (g.A.Serves.told a) (g.A.Serves.told b) (GoesOn (g.A.Serves.slots a) (g.A.Serves.setup a) p event told (g.A.Serves.stands b))) is (e.turn p stands));
      told = e.told;
      slots = e.slots;
      setup = e.setup;
      halt = e.halt;
      since = e.since;
      cause = subst (λ (x : Answer). HasCause (g.A.Serves.shown a) c.args.event.now x (g.A.Serves.shown b)) (sym c.answer-2.ensures) (subst (λ (event : Event). HasCause (g.A.Serves.shown a) event told (g.A.Serves.shown b)) is e.cause);
    }
