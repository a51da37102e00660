use Rattle.paraid_trace.specs.declared.answered.Brief.TheVariants.{Halted as ToldHalted}
use Rattle.std.proofs.Common.{◌≡◌, ◌∙◌, ap, sym, subst}
use Rattle.paraid_base.specs.declared.event.Answer.{Answer}
use Rattle.paraid_trace.specs.Answered.{answer_of, answer_with}
use Rattle.paraid_trace.specs.Asked.{event_with}
use Rattle.paraid_trace.specs.declared.answered.Answered.{Answered}
use Rattle.paraid_device.specs.Asking.{AsksArray}
use Rattle.paraid_device.proofs.AskLemmas.{asks_halted}
use Rattle.paraid_device.proofs.ask.ask.Goals as goal

pub returns-in-Some-clause-asks : goal.returns-in-Some-clause-asks
returns-in-Some-clause-asks g c = asks_halted g.A.Serves c.args.array.now (event_with c.args.asked c.args.pairs.now) c.in-Some.halt c.requires.event (sym c.requires.halt ∙ c.in-Some.is) (g.met.A.Serves.agrees c.args.array.now) (g.met.A.Serves.shows c.args.array.now).halt

pub returns-in-Brief-Halted-clause-asks : goal.returns-in-Brief-Halted-clause-asks
returns-in-Brief-Halted-clause-asks g c =
    let a = c.args.array.now in
    let b = c.ask_going-answered.new.array in
    let event = event_with c.args.asked c.args.pairs.now in
    let told : c.in-Brief-Halted.field-0 ≡ ToldHalted c.in-Brief-Halted.now = rw c.in-Brief-Halted.is at c.in-Brief-Halted.field-0-is in
    let is = ap (λ (x : Answered). answer_with x c.ask_going-answered.new.beside) c.in-Brief-Halted.is ∙ ap answer_of told in
    subst (λ (x : Answer). AsksArray g.A.Serves a b event x) is
    c.ask_going-answered.ensures.asks
