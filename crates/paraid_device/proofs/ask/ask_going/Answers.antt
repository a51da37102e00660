use Rattle.paraid_trace.specs.Answered.{answer_with}
use Rattle.paraid_trace.specs.Asked.{event_with}
use Rattle.paraid_serve.proofs.OwedLemmas.{halt_owed}
use Rattle.paraid_device.proofs.AskLemmas.{asks_served}
use Rattle.paraid_device.proofs.ask.ask_going.Goals as goal

pub serve-requires : goal.serve-requires
serve-requires g c = record { going = c.requires.going; event = c.requires.event }

pub returns : goal.returns
returns g c =
    let a = c.args.array.now in
    let b = c.serve.new.self in
    let event = event_with c.args.asked c.args.pairs.now in
    let answer = answer_with c.serve.result c.serve.new.beside in
    let e = c.serve.ensures in
    record {
      halt = halt_owed g.A.Serves a b (g.met.A.Serves.shows a) (g.met.A.Serves.shows b) event answer e.cause c.requires.event;
      asks = asks_served g.A.Serves a b event answer c.requires.going e.turn e.told e.slots c.requires.event (g.met.A.Serves.shows a) (g.met.A.Serves.shows b) e.cause;
    }
