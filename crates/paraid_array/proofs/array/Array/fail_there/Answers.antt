use Rattle.paraid_serve.proofs.QuietLemmas.{used_nothing}
use Rattle.paraid_array.specs.Laws.{all_synced, gear_going}
use Rattle.std.proofs.Common.{Ok, sym, ◌∙◌, ap, ◌≡◌, refl, Some, subst}
use Rattle.paraid_serve.specs.Causes.{HasCause}
use Rattle.paraid_array.specs.Arrays.{shown_of_array}
use Rattle.paraid_array.proofs.CauseLemmas.{shown_with, fail_busy, fail_cause, takes, two_cause}
use Rattle.paraid_base.specs.declared.event.Answer.{Answer}
use Rattle.paraid_base.specs.declared.event.Event.TheVariants.{Bad, Fail}
use Rattle.paraid_base.specs.declared.fault.Halt.TheVariants.{Two as HaltTwo}
use Rattle.paraid_gear.specs.ThreeWindows.{lengths_of, sample_of}
use Rattle.paraid_record.specs.declared.meta.Meta.{Meta}
use Rattle.paraid_upkeep.proofs.ServiceLemmas.{service_serving, serving_service}
use Rattle.paraid_upkeep.specs.Turns.{CoreGoesOn}
use Rattle.paraid_machine.specs.Energy.{energy_of}
use Rattle.paraid_session.specs.Turn.{halt_told}
use Rattle.paraid_trace.specs.Answered.{answer_of}
use Rattle.paraid_array.specs.Lasting.{halt_of_end, samples_held}
use Rattle.paraid_array.proofs.AnswerLemmas.{fail_going, fail_uses}
use Rattle.paraid_array.proofs.CoreLemmas.{known_of, serving_of}
use Rattle.paraid_array.proofs.EnergyLemmas.{uses_none}
use Rattle.paraid_array.proofs.StandLemmas.{end_by}
use Rattle.paraid_array.proofs.TurnLemmas.{core_halts, core_on}
use Rattle.paraid_array.proofs.LossLemmas.{going_wear, taken_lost, ended_not_none, two_wear}
use Rattle.paraid_image.specs.Out.{named_out}
use Rattle.paraid_txn.specs.Stores.{named_of, store_rack}
use Rattle.paraid_session.proofs.FaultLemmas.{no_fall_counts}
use Rattle.paraid_array.proofs.array.Array.fail_there.Goals as goal

pub take_out-requires : goal.take_out-requires
take_out-requires g c =
    let a = c.args.self.now in
    record { service = serving_service g.R.Rack.slot_count g.R.Rack.slot a.core (a.serving c.requires.going).serving; epoch = c.requires.epoch }

pub invariant_of-self : goal.invariant_of-self
invariant_of-self g c =
    let a = c.args.self.now in
    let done = c.in-Ok.ensures in
    record {
      serving = λ e. let q = a.serving e in serving_of g.R.Rack.slot_count g.R.Rack.slot c.take_out.new.core (lengths_of a.windows) a.setup a.slots
          (service_serving g.R.Rack.slot_count g.R.Rack.slot c.take_out.new.core done.stays.service (done.stays.unsynced q.serving.unsynced))
          (done.stays.known (known_of g.R.Rack.slot_count g.R.Rack.slot a.core (lengths_of a.windows) a.setup a.slots q)) (done.stays.fits q.fits) q.windows (done.stays.setup ∙ q.same_setup) (c.take_out.ensures.calls.slots ∙ q.same_slots);
      counted = c.take_out.ensures.calls.slots ∙ c.args.self.now.counted;
      worn = going_wear c.take_out.new.core.meta c.args.self.now.ended c.requires.going;
      priced = c.args.self.now.priced;
      sampled = c.args.self.now.sampled;
    }

pub returns-in-Ok : goal.returns-in-Ok
returns-in-Ok g c = record {
  answers = record {
    turn =
        let a = c.args.self.now in
        let d = c.args.disk in
        let r = c.in-Ok.refusal in
        let told = c.fail_told.ensures in
        core_on g.R.Rack.slot_count g.R.Rack.told a _ c.requires.going c.requires.epoch c.requires.writes (Fail d) (answer_of c.fail_told.result)
        (subst (λ (z : Answer). CoreGoesOn g.R.Rack.slot_count g.R.Rack.told a.core c.take_out.new.core (Fail d) z) (sym told) c.in-Ok.ensures.turn)
        (ap halt_told told ∙ fail_going d a.core.meta c.take_out.new.core.meta r c.in-Ok.ensures.refuses.refused) (λ e. let z : Fail d ≡ Bad = e in cc) c.requires.going refl refl refl
        (λ s fits. uses_none a.setup a.ledger.total s (answer_of c.fail_told.result) (ap (energy_of a.setup s) told ∙ fail_uses a.setup s d r) fits);
    grows = c.take_out.ensures.calls.grows;
    slots = refl;
    cause =
        let a = c.args.self.now in
        let done = c.in-Ok.ensures in
        let q = a.serving c.requires.going in
        subst (λ (z : Answer). HasCause (shown_of_array g.R.Rack.slot c.args.self.now) (Fail c.args.disk) z (shown_with g.R.Rack.slot c.args.self.now.setup c.take_out.new.core c.args.self.now.ledger.total (samples_held c.args.self.now.windows) (sample_of c.args.self.now.served) c.args.self.now.ended)) (sym c.fail_told.ensures)
        (fail_cause g.R.Rack.slot a c.take_out.new.core c.args.self.now.ledger.total c.args.disk (takes (shown_of_array g.R.Rack.slot c.args.self.now) (Fail c.args.disk) (ap halt_of_end c.requires.going) c.requires.epoch c.requires.writes) q.same_setup refl (no_fall_counts (g.R.Rack.slot (store_rack c.args.self.now.core.store)) (g.R.Rack.slot (store_rack c.take_out.new.core.store)) c.take_out.ensures.calls.no_fall) done.stays.writes c.take_out.ensures.table (record { later = done.commits.later; few = done.commits.few }) (done.stays.fits q.fits)
        (all_synced g.R.Rack.slot c.take_out.new.core done.stays.service.copies_synced (done.stays.unsynced q.serving.unsynced)) (λ past. (done.refuses.no_disk past).1) (λ e low is. (done.refuses.out e low is).1) c.in-Ok.refusal (ap halt_of_end c.requires.going) done.refuses.refused (λ is. done.taken (ap Ok is)) done.marks done.refuses.lost);
  };
}

pub returns-in-Err : goal.returns-in-Err
returns-in-Err g c = record {
  answers = record {
    turn =
        core_halts g.R.Rack.slot_count g.R.Rack.told c.args.self.now _ c.requires.going c.requires.epoch c.requires.writes (Fail c.args.disk) c.in-Err.two c.in-Err.ensures.halts refl
        (ap (λ (m : Meta). Some (end_by (HaltTwo c.in-Err.two) m.gear)) c.meta.ensures);
    grows = c.take_out.ensures.calls.grows;
    slots = refl;
    cause = two_cause (shown_of_array g.R.Rack.slot c.args.self.now) _ (Fail c.args.disk) (takes (shown_of_array g.R.Rack.slot c.args.self.now) (Fail c.args.disk) (ap halt_of_end c.requires.going) c.requires.epoch c.requires.writes) (fail_busy g.R.Rack.slot c.args.self.now (c.args.self.now.serving c.requires.going).same_setup c.in-Err.two c.args.disk _ c.in-Err.ensures.refuses.no_disk c.in-Err.ensures.refuses.out) refl (no_fall_counts (g.R.Rack.slot (store_rack c.args.self.now.core.store)) (g.R.Rack.slot (store_rack c.take_out.new.core.store)) c.take_out.ensures.calls.no_fall) refl (ap (λ (m : Meta). m.gear) c.meta.ensures ∙ sym (gear_going c.args.self.now.ended _ (ap halt_of_end c.requires.going))) (λ fits. used_nothing c.args.self.now.ledger.total fits) c.in-Err.two refl
        (let a = c.args.self.now in
        taken_lost (named_of a.core.store) (named_out a.core.meta.out) (a.serving c.requires.going).serving.serves.stays _ _ _ c.in-Err.two c.args.disk refl c.in-Err.ensures.two);
  };
}

pub invariant_of-self-in-Err : goal.invariant_of-self-in-Err
invariant_of-self-in-Err g c = record { serving = λ e. ended_not_none _ e; counted = c.take_out.ensures.calls.slots ∙ c.args.self.now.counted; worn = two_wear c.take_out.new.core.meta c.in-Err.two; priced = c.args.self.now.priced; sampled = c.args.self.now.sampled }
