use Rattle.std.proofs.Common.{◌∙◌, ◌≢◌, sym}
use Rattle.paraid_base.specs.declared.event.Answer.TheVariants.{Flushed, Halted}
use Rattle.paraid_base.specs.declared.event.Event.TheVariants.{Bad, Flush}
use Rattle.paraid_serve.proofs.OwedLemmas.{halt_owed}
use Rattle.paraid_device.proofs.AskLemmas.{asks_halted, asks_served}
use Rattle.paraid_device.proofs.ask.ask_flush.Goals as goal

apart : Flush ≢ Bad
apart e = cc

pub returns-in-Some-clause-asks : goal.returns-in-Some-clause-asks
returns-in-Some-clause-asks g c = asks_halted g.A.Serves c.args.array.now Flush c.in-Some.halt apart (sym c.requires.halt ∙ c.in-Some.is) (g.met.A.Serves.agrees c.args.array.now) (g.met.A.Serves.shows c.args.array.now).halt

pub returns-in-Ok-clause-asks : goal.returns-in-Ok-clause-asks
returns-in-Ok-clause-asks g c =
    let e = c.in-Ok.ensures in
    asks_served g.A.Serves c.args.array.now c.flush.new.self Flush (Flushed c.in-Ok.writes) (sym c.requires.halt ∙ c.in_default.is) e.turn e.told e.slots apart (g.met.A.Serves.shows c.args.array.now) (g.met.A.Serves.shows c.flush.new.self) e.cause

pub returns-in-Err-clause-asks : goal.returns-in-Err-clause-asks
returns-in-Err-clause-asks g c =
    let e = c.in-Err.ensures in
    asks_served g.A.Serves c.args.array.now c.flush.new.self Flush (Halted c.in-Err.now) (sym c.requires.halt ∙ c.in_default.is) e.turn e.told e.slots apart (g.met.A.Serves.shows c.args.array.now) (g.met.A.Serves.shows c.flush.new.self) e.cause

-- the halt that a flush tells, or none
pub returns-in-Ok-clause-halt : goal.returns-in-Ok-clause-halt
returns-in-Ok-clause-halt g c =
    let a = c.args.array.now in
    let b = c.flush.new.self in
    c.in_default.is ∙ sym (halt_owed g.A.Serves a b (g.met.A.Serves.shows a) (g.met.A.Serves.shows b) Flush (Flushed c.in-Ok.writes) c.in-Ok.ensures.cause apart)

pub returns-in-Ok-clause-going : goal.returns-in-Ok-clause-going
returns-in-Ok-clause-going g c =
    let a = c.args.array.now in
    let b = c.flush.new.self in
    halt_owed g.A.Serves a b (g.met.A.Serves.shows a) (g.met.A.Serves.shows b) Flush (Flushed c.in-Ok.writes) c.in-Ok.ensures.cause apart

pub returns-in-Err-clause-halt : goal.returns-in-Err-clause-halt
returns-in-Err-clause-halt g c =
    let a = c.args.array.now in
    let b = c.flush.new.self in
    sym (halt_owed g.A.Serves a b (g.met.A.Serves.shows a) (g.met.A.Serves.shows b) Flush (Halted c.in-Err.now) c.in-Err.ensures.cause apart)
