use Rattle.paraid_serve.proofs.QuietLemmas.{used_nothing}
use Rattle.paraid_array.specs.Laws.{all_synced, gear_going}
use Rattle.std.proofs.Common.{Ok, sym, ◌∙◌, ap, ◌≡◌, refl, Some, subst}
use Rattle.paraid_serve.specs.Causes.{HasCause}
use Rattle.paraid_array.specs.Arrays.{shown_of_array}
use Rattle.paraid_array.proofs.CauseLemmas.{shown_with, replace_busy, replace_cause, takes, two_cause}
use Rattle.paraid_base.specs.declared.event.Answer.{Answer}
use Rattle.paraid_base.specs.declared.event.Event.TheVariants.{Bad, Replace}
use Rattle.paraid_base.specs.declared.fault.Halt.TheVariants.{Two as HaltTwo}
use Rattle.paraid_gear.specs.ThreeWindows.{lengths_of, sample_of}
use Rattle.paraid_record.specs.declared.meta.Meta.{Meta}
use Rattle.paraid_upkeep.specs.Turns.{CoreGoesOn}
use Rattle.paraid_machine.specs.Energy.{energy_of}
use Rattle.paraid_session.specs.Turn.{halt_told}
use Rattle.paraid_trace.specs.Answered.{answer_of}
use Rattle.paraid_array.specs.Lasting.{halt_of_end, samples_held}
use Rattle.paraid_array.proofs.AnswerLemmas.{replace_going, replace_uses}
use Rattle.paraid_array.proofs.CoreLemmas.{known_of, serving_of}
use Rattle.paraid_array.proofs.EnergyLemmas.{uses_none}
use Rattle.paraid_array.proofs.StandLemmas.{end_by}
use Rattle.paraid_array.proofs.TurnLemmas.{core_halts, core_on}
use Rattle.paraid_array.proofs.LossLemmas.{going_wear, two_lost, ended_not_none, two_wear}
use Rattle.paraid_image.specs.Out.{named_out}
use Rattle.paraid_txn.specs.Stores.{named_of}
use Rattle.paraid_array.proofs.array.Array.replace_there.Goals as goal

pub replace-requires : goal.replace-requires
replace-requires g c =
    let a = c.args.self.now in
    let q = a.serving c.requires.going in
    record { service = record { serving = q.serving; known = known_of g.R.Rack.slot_count g.R.Rack.slot a.core (lengths_of a.windows) a.setup a.slots q }; epoch = c.requires.epoch }

pub invariant_of-self : goal.invariant_of-self
invariant_of-self g c =
    let a = c.args.self.now in
    let done = c.in-Ok.ensures in
    record {
      serving = λ e. let q = a.serving e in serving_of g.R.Rack.slot_count g.R.Rack.slot c.replace.new.core (lengths_of a.windows) a.setup a.slots
          done.service.serving done.service.known (done.fits q.fits) q.windows (done.setup ∙ q.same_setup) (done.keeps.slots ∙ q.same_slots);
      counted = c.replace.ensures.keeps.slots ∙ c.args.self.now.counted;
      worn = going_wear c.replace.new.core.meta c.args.self.now.ended c.requires.going;
      priced = c.args.self.now.priced;
      sampled = c.args.self.now.sampled;
    }

pub returns-in-Ok : goal.returns-in-Ok
returns-in-Ok g c = record {
  answers = record {
    turn =
        let a = c.args.self.now in
        let d = c.args.disk in
        let r = c.in-Ok.refusal in
        let told = c.replace_told.ensures in
        core_on g.R.Rack.slot_count g.R.Rack.told a _ c.requires.going c.requires.epoch c.requires.writes (Replace d) (answer_of c.replace_told.result)
        (subst (λ (z : Answer). CoreGoesOn g.R.Rack.slot_count g.R.Rack.told a.core c.replace.new.core (Replace d) z) (sym told) c.in-Ok.ensures.turn)
        (ap halt_told told ∙ replace_going d a.core.meta r c.in-Ok.ensures.refuses.refused) (λ e. let z : Replace d ≡ Bad = e in cc) c.requires.going refl refl refl
        (λ s fits. uses_none a.setup a.ledger.total s (answer_of c.replace_told.result) (ap (energy_of a.setup s) told ∙ replace_uses a.setup s d r) fits);
    grows = c.replace.ensures.told;
    slots = refl;
    cause =
        let a = c.args.self.now in
        let done = c.in-Ok.ensures in
        let q = a.serving c.requires.going in
        subst (λ (z : Answer). HasCause (shown_of_array g.R.Rack.slot c.args.self.now) (Replace c.args.disk) z (shown_with g.R.Rack.slot c.args.self.now.setup c.replace.new.core c.args.self.now.ledger.total (samples_held c.args.self.now.windows) (sample_of c.args.self.now.served) c.args.self.now.ended)) (sym c.replace_told.ensures)
        (replace_cause g.R.Rack.slot a c.replace.new.core c.args.self.now.ledger.total c.args.disk (takes (shown_of_array g.R.Rack.slot c.args.self.now) (Replace c.args.disk) (ap halt_of_end c.requires.going) c.requires.epoch c.requires.writes) q.same_setup refl (c.replace.ensures.keeps.later) done.writes done.table (done.fits q.fits)
        (all_synced g.R.Rack.slot c.replace.new.core done.service.serving.copies_synced done.service.serving.unsynced) (λ past. (done.refuses.missing past).1) (λ low not. (done.refuses.in_place low not).1) c.in-Ok.refusal (ap halt_of_end c.requires.going) done.refuses.refused
        (λ is. let there = done.replaced (ap Ok is) in (there.0, there.1, done.fresh (ap Ok is)))
        (λ is. ((done.lacks (ap Ok is)).risen, (done.lacks (ap Ok is)).gone)));
  };
}

pub returns-in-Err : goal.returns-in-Err
returns-in-Err g c = record {
  answers = record {
    turn =
        core_halts g.R.Rack.slot_count g.R.Rack.told c.args.self.now _ c.requires.going c.requires.epoch c.requires.writes (Replace c.args.disk) c.in-Err.two c.in-Err.ensures.halts refl
        (ap (λ (m : Meta). Some (end_by (HaltTwo c.in-Err.two) m.gear)) c.meta.ensures);
    grows = c.replace.ensures.told;
    slots = refl;
    cause = two_cause (shown_of_array g.R.Rack.slot c.args.self.now) _ (Replace c.args.disk) (takes (shown_of_array g.R.Rack.slot c.args.self.now) (Replace c.args.disk) (ap halt_of_end c.requires.going) c.requires.epoch c.requires.writes) (replace_busy g.R.Rack.slot c.args.self.now (c.args.self.now.serving c.requires.going).same_setup c.in-Err.two c.args.disk _ c.in-Err.ensures.refuses.missing c.in-Err.ensures.refuses.in_place) refl (c.replace.ensures.keeps.later) refl (ap (λ (m : Meta). m.gear) c.meta.ensures ∙ sym (gear_going c.args.self.now.ended _ (ap halt_of_end c.requires.going))) (λ fits. used_nothing c.args.self.now.ledger.total fits) c.in-Err.two refl
        (let a = c.args.self.now in
        two_lost (named_of a.core.store) (named_out a.core.meta.out) (a.serving c.requires.going).serving.serves.stays _ _ _ c.in-Err.two c.in-Err.ensures.keeps.two);
  };
}

pub invariant_of-self-in-Err : goal.invariant_of-self-in-Err
invariant_of-self-in-Err g c = record { serving = λ e. ended_not_none _ e; counted = c.replace.ensures.keeps.slots ∙ c.args.self.now.counted; worn = two_wear c.replace.new.core.meta c.in-Err.two; priced = c.args.self.now.priced; sampled = c.args.self.now.sampled }
