use Rattle.std.proofs.Common.{ℕ, subst}
use Rattle.paraid_base.specs.BlockAnswers.{answer_to_flush}
use Rattle.paraid_base.specs.declared.event.Event.TheVariants.{Flush}
use Rattle.paraid_rack.specs.Told.{Ran}
use Rattle.paraid_session.specs.Turn.{GoesOn}
use Rattle.paraid_array.specs.Arrays.{ArrayStandsAt, told_of_array}
use Rattle.paraid_array.specs.Laws.{going_end}
use Rattle.paraid_array.proofs.serving.ArrayServes.flush.Goals as goal

pub flush-requires : goal.flush-requires
flush-requires g c = record { going = c.requires.going }

pub returns : goal.returns
returns g c =
    let it = c.flush.ensures.answers in
    record {
      turn = λ p at.
          let a = c.args.self.now in
          let b = c.flush.new.self in
          subst (λ (n : ℕ). Ran (told_of_array g.R.Rack.told a) (told_of_array g.R.Rack.told b) (GoesOn n a.setup p Flush (answer_to_flush c.flush.result) (ArrayStandsAt g.R.Rack.slot_count g.R.Rack.told b)))
          ((a.serving (going_end a.ended c.requires.going)).same_slots) (it.turn p at);
      told = it.grows;
      slots = it.slots;
      cause = it.cause;
    }
