use Rattle.paraid_array.specs.Arrays.{shown_of_array}
use Rattle.paraid_array.specs.Laws.{going_end}
use Rattle.paraid_array.proofs.CauseLemmas.{quiet_cause, state_answer, takes_question}
use Rattle.std.proofs.Common.{refl}
use Rattle.paraid_base.specs.declared.event.Answer.TheVariants.{State as IsState}
use Rattle.paraid_base.specs.declared.event.Event.TheVariants.{State}
use Rattle.paraid_array.proofs.AnswersLemmas.{quiet_answers}
use Rattle.paraid_array.proofs.QuietLemmas.{state_told}
use Rattle.paraid_array.proofs.array.Array.tell_state.Goals as goal

pub status-beside-requires : goal.status-beside-requires
status-beside-requires g c = record { going = c.requires.going }

pub returns : goal.returns
returns g c = record {
  answers =
      quiet_answers g.R.Rack.slot_count g.R.Rack.slot g.R.Rack.told c.args.self.now State (IsState c.status-beside.result c.disks.result)
      (state_told g.R.Rack.slot_count g.R.Rack.told c.args.self.now c.requires.going c.status-beside.result c.disks.result c.disks.ensures.value c.status-beside.ensures.point)
      (quiet_cause g.R.Rack.slot c.args.self.now State (IsState c.status-beside.result c.disks.result) c.requires.going refl (takes_question (shown_of_array g.R.Rack.slot c.args.self.now) State c.requires.going refl)
      (state_answer c.args.self.now.setup.geometry.disks c.disks.result _ c.status-beside.result c.status-beside.ensures.shown c.disks.ensures.value) (record { samples = refl; served = refl }) (c.args.self.now.serving (going_end c.args.self.now.ended c.requires.going)));
}
