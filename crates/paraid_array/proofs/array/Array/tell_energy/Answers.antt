use Rattle.paraid_array.specs.Arrays.{AnswersEvent, shown_of_array}
use Rattle.paraid_array.specs.Laws.{going_end}
use Rattle.paraid_array.proofs.CauseLemmas.{quiet_cause, takes_question}
use Rattle.std.proofs.Common.{ℕ, refl, subst, sym}
use Rattle.paraid_base.specs.declared.event.Answer.TheVariants.{Energy as IsEnergy}
use Rattle.paraid_base.specs.declared.event.Event.TheVariants.{Energy}
use Rattle.paraid_array.proofs.AnswersLemmas.{quiet_answers}
use Rattle.paraid_array.proofs.QuietLemmas.{energy_asked}
use Rattle.paraid_array.proofs.array.Array.tell_energy.Goals as goal

pub returns : goal.returns
returns g c = record {
  answers =
      subst (λ (n : ℕ). AnswersEvent g.R.Rack.slot_count g.R.Rack.slot g.R.Rack.told c.args.self.now c.args.self.now Energy (IsEnergy n)) (sym c.energy.ensures.value)
      (quiet_answers g.R.Rack.slot_count g.R.Rack.slot g.R.Rack.told c.args.self.now Energy (IsEnergy c.args.self.now.ledger.total)
      (energy_asked g.R.Rack.slot_count g.R.Rack.told c.args.self.now c.requires.going)
      (quiet_cause g.R.Rack.slot c.args.self.now Energy (IsEnergy c.args.self.now.ledger.total) c.requires.going refl (takes_question (shown_of_array g.R.Rack.slot c.args.self.now) Energy c.requires.going refl) refl (record { samples = refl; served = refl }) (c.args.self.now.serving (going_end c.args.self.now.ended c.requires.going))));
}
