use Rattle.std.proofs.Common.{ℕ, subst}
use Rattle.paraid_rack.specs.Told.{Ran}
use Rattle.paraid_session.specs.Turn.{GoesOn}
use Rattle.paraid_trace.specs.Answered.{answer_with}
use Rattle.paraid_trace.specs.Asked.{event_with}
use Rattle.paraid_array.specs.Arrays.{ArrayStandsAt, told_of_array}
use Rattle.paraid_array.specs.Laws.{going_end}
use Rattle.paraid_array.proofs.serving.ArrayServes.serve.Goals as goal

pub answer-requires : goal.answer-requires
answer-requires g c = record { going = c.requires.going; event = c.requires.event }

pub returns : goal.returns
returns g c =
    let it = c.answer.ensures.answers in
    record {
      turn = λ p at.
          let a = c.args.self.now in
          let b = c.answer.new.self in
          subst (λ (n : ℕ). Ran (told_of_array g.R.Rack.told a) (told_of_array g.R.Rack.told b) (GoesOn n a.setup p (event_with c.args.asked c.args.pairs.now) (answer_with c.answer.result c.answer.new.beside) (ArrayStandsAt g.R.Rack.slot_count g.R.Rack.told b)))
          ((a.serving (going_end a.ended c.requires.going)).same_slots) (it.turn p at);
      told = it.grows;
      slots = it.slots;
      cause = it.cause;
    }
