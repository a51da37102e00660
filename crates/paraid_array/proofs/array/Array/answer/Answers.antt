use Rattle.std.proofs.Common.{ap}
use Rattle.paraid_trace.specs.Asked.{event_with}
use Rattle.paraid_trace.specs.declared.asked.Asked.{Asked}
use Rattle.paraid_array.proofs.AnswersLemmas.{asked_answers}
use Rattle.paraid_array.proofs.array.Array.answer.Goals as goal

pub read-requires : goal.read-requires
read-requires g c = record { going = c.requires.going }

pub write-requires : goal.write-requires
write-requires g c = record { going = c.requires.going }

pub flush_told-requires : goal.flush_told-requires
flush_told-requires g c = record { going = c.requires.going }

pub tick-requires : goal.tick-requires
tick-requires g c = record { going = c.requires.going }

pub ask-requires : goal.ask-requires
ask-requires g c = record { going = c.requires.going }

pub ask-requires-in-Down : goal.ask-requires-in-Down
ask-requires-in-Down g c = record { going = c.requires.going }

pub fail-requires : goal.fail-requires
fail-requires g c = record { going = c.requires.going }

pub replace-requires : goal.replace-requires
replace-requires g c = record { going = c.requires.going }

pub tell_state-requires : goal.tell_state-requires
tell_state-requires g c = record { going = c.requires.going }

pub tell_energy-requires : goal.tell_energy-requires
tell_energy-requires g c = record { going = c.requires.going }

pub returns-in-Read : goal.returns-in-Read
returns-in-Read g c = record { answers = asked_answers g.R.Rack.slot_count g.R.Rack.slot g.R.Rack.told _ _ c.args.asked _ c.args.pairs.now _ c.in-Read.is c.read.ensures.answers }

pub returns-in-Write : goal.returns-in-Write
returns-in-Write g c = record { answers = asked_answers g.R.Rack.slot_count g.R.Rack.slot g.R.Rack.told _ _ c.args.asked _ c.args.pairs.now _ c.in-Write.is c.write.ensures.answers }

pub returns-in-Flush : goal.returns-in-Flush
returns-in-Flush g c = record { answers = asked_answers g.R.Rack.slot_count g.R.Rack.slot g.R.Rack.told _ _ c.args.asked _ c.args.pairs.now _ c.in-Flush.is c.flush_told.ensures.answers }

pub returns-in-Tick : goal.returns-in-Tick
returns-in-Tick g c = record { answers = asked_answers g.R.Rack.slot_count g.R.Rack.slot g.R.Rack.told _ _ c.args.asked _ c.args.pairs.now _ c.in-Tick.is c.tick.ensures.answers }

pub returns-in-Up : goal.returns-in-Up
returns-in-Up g c = record { answers = asked_answers g.R.Rack.slot_count g.R.Rack.slot g.R.Rack.told _ _ c.args.asked _ c.args.pairs.now _ c.in-Up.is c.ask.ensures.answers }

pub returns-in-Down : goal.returns-in-Down
returns-in-Down g c = record { answers = asked_answers g.R.Rack.slot_count g.R.Rack.slot g.R.Rack.told _ _ c.args.asked _ c.args.pairs.now _ c.in-Down.is c.ask-in-Down.ensures.answers }

pub returns-in-Fail : goal.returns-in-Fail
returns-in-Fail g c = record { answers = asked_answers g.R.Rack.slot_count g.R.Rack.slot g.R.Rack.told _ _ c.args.asked _ c.args.pairs.now _ c.in-Fail.is c.fail.ensures.answers }

pub returns-in-Replace : goal.returns-in-Replace
returns-in-Replace g c = record { answers = asked_answers g.R.Rack.slot_count g.R.Rack.slot g.R.Rack.told _ _ c.args.asked _ c.args.pairs.now _ c.in-Replace.is c.replace.ensures.answers }

pub returns-in-State : goal.returns-in-State
returns-in-State g c = record { answers = asked_answers g.R.Rack.slot_count g.R.Rack.slot g.R.Rack.told _ _ c.args.asked _ c.args.pairs.now _ c.in-State.is c.tell_state.ensures.answers }

pub returns-in-Energy : goal.returns-in-Energy
returns-in-Energy g c = record { answers = asked_answers g.R.Rack.slot_count g.R.Rack.slot g.R.Rack.told _ _ c.args.asked _ c.args.pairs.now _ c.in-Energy.is c.tell_energy.ensures.answers }

pub returns-in-Bad : goal.returns-in-Bad
returns-in-Bad g c = record { answers = absurd (c.requires.event (ap (λ (asked : Asked). event_with asked c.args.pairs.now) c.in-Bad.is)) }
