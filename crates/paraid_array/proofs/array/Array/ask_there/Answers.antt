use Rattle.paraid_energy.specs.Account.{after_spin_ups}
use Rattle.paraid_energy.proofs.AccountLemmas.{HasFigures-with_used}
use Rattle.paraid_array.specs.Laws.{all_synced, gear_going}
use Rattle.paraid_upkeep.proofs.OutLemmas.{fails_newly}
use Rattle.paraid_array.specs.Used.{asked_spin_ups}
use Rattle.paraid_serve.specs.Causes.{HasCause, state_shown}
use Rattle.paraid_array.specs.Arrays.{shown_of_array}
use Rattle.paraid_array.proofs.CauseLemmas.{asked_busy, asked_cause, asked_going, shown_with, takes, two_cause}
use Rattle.std.proofs.Common.{◌≡◌, ℕ, refl, sym, ap, ◌∙◌, Some, subst}
use Rattle.paraid_base.specs.declared.event.Answer.{Answer}
use Rattle.paraid_base.specs.declared.fault.Halt.TheVariants.{Two as HaltTwo}
use Rattle.paraid_gear.specs.ThreeWindows.{lengths_of, sample_of}
use Rattle.paraid_record.specs.declared.meta.Meta.{Meta}
use Rattle.paraid_upkeep.specs.Directions.{asked_event}
use Rattle.paraid_upkeep.specs.Turns.{CoreGoesOn, asked_answer}
use Rattle.paraid_machine.specs.Energy.{energy_after}
use Rattle.paraid_session.specs.Turn.{halt_told}
use Rattle.paraid_trace.specs.Answered.{answer_of}
use Rattle.paraid_array.specs.Lasting.{halt_of_end, samples_held}
use Rattle.paraid_array.proofs.AskedLemmas.{asked_may_halt, asked_not_bad, asked_nothing}
use Rattle.paraid_array.proofs.CoreLemmas.{known_of, serving_of}
use Rattle.paraid_array.proofs.EnergyLemmas.{asked_total, asked_used}
use Rattle.paraid_array.proofs.StandLemmas.{end_by}
use Rattle.paraid_array.proofs.TurnLemmas.{core_halts, core_on}
use Rattle.paraid_array.proofs.LossLemmas.{going_wear, two_lost, ended_not_none, two_wear}
use Rattle.paraid_image.specs.Out.{named_out}
use Rattle.paraid_txn.specs.Stores.{named_of, store_rack}
use Rattle.paraid_session.proofs.FaultLemmas.{no_fall_counts}
use Rattle.paraid_array.proofs.array.Array.ask_there.Goals as goal

pub ask_shift-requires : goal.ask_shift-requires
ask_shift-requires g c = record { serving = (c.args.self.now.serving c.requires.going).serving; epoch = c.requires.epoch }

pub invariant_of-self : goal.invariant_of-self
invariant_of-self g c =
    let a = c.args.self.now in
    let done = c.in-Ok.ensures in
    record {
      serving = λ e. let q = a.serving e in serving_of g.R.Rack.slot_count g.R.Rack.slot c.ask_shift.new.core (lengths_of a.windows) a.setup a.slots
          done.serves.serving (done.serves.known (known_of g.R.Rack.slot_count g.R.Rack.slot a.core (lengths_of a.windows) a.setup a.slots q)) (done.serves.fits q.fits) q.windows (done.serves.leaves.setup ∙ q.same_setup) (done.serves.leaves.slots ∙ q.same_slots);
      counted = c.ask_shift.ensures.calls.slots ∙ c.args.self.now.counted;
      worn = going_wear c.ask_shift.new.core.meta c.args.self.now.ended c.requires.going;
      priced = HasFigures-with_used a.setup a.ledger _ _ a.priced c.spin_up.ensures;
      sampled = c.args.self.now.sampled;
    }

pub returns-in-Ok : goal.returns-in-Ok
returns-in-Ok g c = record {
  answers = record {
    turn =
        let a = c.args.self.now in
        let x = c.in-Ok.asked in
        let n = c.meta.result.now.gear in
        let gear : n ≡ a.core.meta.gear = ap (λ (m : Meta). m.gear) c.meta.ensures in
        let told = c.asked_told.ensures in
        let event = asked_event c.args.direction in
        core_on g.R.Rack.slot_count g.R.Rack.told a _ c.requires.going c.requires.epoch c.requires.writes event (answer_of c.asked_told.result)
        (subst (λ (z : Answer). CoreGoesOn g.R.Rack.slot_count g.R.Rack.told a.core c.ask_shift.new.core event z) (sym told)
        (subst (λ (y : ℕ). CoreGoesOn g.R.Rack.slot_count g.R.Rack.told a.core c.ask_shift.new.core event (asked_answer y x)) (sym gear) c.in-Ok.ensures.turn))
        (ap halt_told told ∙ asked_going n x) (asked_not_bad c.args.direction) c.requires.going refl refl refl
        (λ s fits. asked_total a.setup a.ledger c.spin_up.new.self n x a.priced (c.spin_up.ensures ∙ ap (after_spin_ups a.ledger) c.spin_ups_asked.ensures) ∙ asked_used a.setup a.ledger.total s n x ∙ ap (energy_after a.setup a.ledger.total s) (sym told));
    grows = c.ask_shift.ensures.calls.grows;
    slots = refl;
    cause =
        let a = c.args.self.now in
        let x = c.in-Ok.asked in
        let done = c.in-Ok.ensures in
        let q = a.serving c.requires.going in
        let gear = ap (λ (m : Meta). m.gear) c.meta.ensures in
        let event = asked_event c.args.direction in
        subst (λ (z : Answer). HasCause (shown_of_array g.R.Rack.slot c.args.self.now) event z (shown_with g.R.Rack.slot c.args.self.now.setup c.ask_shift.new.core c.spin_up.new.self.total (samples_held c.args.self.now.windows) (sample_of c.args.self.now.served) c.args.self.now.ended)) (sym (c.asked_told.ensures ∙ ap (λ (n : ℕ). asked_answer n x) gear))
        (asked_cause g.R.Rack.slot a c.ask_shift.new.core c.spin_up.new.self.total q.same_setup (ap halt_of_end c.requires.going) (no_fall_counts (g.R.Rack.slot (store_rack c.args.self.now.core.store)) (g.R.Rack.slot (store_rack c.ask_shift.new.core.store)) c.ask_shift.ensures.calls.no_fall) done.serves.leaves.writes x
        (asked_total a.setup a.ledger c.spin_up.new.self a.core.meta.gear x a.priced (c.spin_up.ensures ∙ ap (after_spin_ups a.ledger) (c.spin_ups_asked.ensures ∙ ap (λ (n : ℕ). asked_spin_ups n x) gear)))
        (fails_newly (g.R.Rack.slot (store_rack a.core.store)) (g.R.Rack.slot (store_rack c.ask_shift.new.core.store)) (named_out a.core.meta.out) (named_out c.ask_shift.new.core.meta.out) (named_of a.core.store) (named_of c.ask_shift.new.core.store) q.serving.serves.stays done.serves.serving.serves.stays done.serves.leaves.down) done.table (record { later = done.commits.later; few = done.commits.few }) (done.serves.fits q.fits)
        (all_synced g.R.Rack.slot c.ask_shift.new.core done.serves.serving.copies_synced done.serves.serving.unsynced)
        c.args.direction (takes (shown_of_array g.R.Rack.slot c.args.self.now) event (ap halt_of_end c.requires.going) c.requires.epoch c.requires.writes) done.refused done.begins done.marks);
  };
}

pub returns-in-Err : goal.returns-in-Err
returns-in-Err g c = record {
  answers = record {
    turn =
        core_halts g.R.Rack.slot_count g.R.Rack.told c.args.self.now _ c.requires.going c.requires.epoch c.requires.writes (asked_event c.args.direction) c.in-Err.two c.in-Err.ensures.halts refl
        (ap (λ (m : Meta). Some (end_by (HaltTwo c.in-Err.two) m.gear)) c.meta.ensures);
    grows = c.ask_shift.ensures.calls.grows;
    slots = refl;
    cause = two_cause (shown_of_array g.R.Rack.slot c.args.self.now) _ (asked_event c.args.direction) (takes (shown_of_array g.R.Rack.slot c.args.self.now) (asked_event c.args.direction) (ap halt_of_end c.requires.going) c.requires.epoch c.requires.writes) (asked_busy g.R.Rack.slot c.args.self.now (c.args.self.now.serving c.requires.going).same_setup c.in-Err.two c.args.direction _ c.in-Err.ensures.refused) refl (no_fall_counts (g.R.Rack.slot (store_rack c.args.self.now.core.store)) (g.R.Rack.slot (store_rack c.ask_shift.new.core.store)) c.ask_shift.ensures.calls.no_fall) (asked_may_halt c.args.direction) (ap (λ (m : Meta). m.gear) c.meta.ensures ∙ sym (gear_going c.args.self.now.ended _ (ap halt_of_end c.requires.going))) (λ fits. asked_nothing c.args.direction c.args.self.now.setup (state_shown (shown_of_array g.R.Rack.slot c.args.self.now)) c.args.self.now.ledger.total fits) c.in-Err.two refl
        (let a = c.args.self.now in
        two_lost (named_of a.core.store) (named_out a.core.meta.out) (a.serving c.requires.going).serving.serves.stays _ _ _ c.in-Err.two c.in-Err.ensures.two);
  };
}

pub invariant_of-self-in-Err : goal.invariant_of-self-in-Err
invariant_of-self-in-Err g c = record { serving = λ e. ended_not_none _ e; counted = c.ask_shift.ensures.calls.slots ∙ c.args.self.now.counted; worn = two_wear c.ask_shift.new.core.meta c.in-Err.two; priced = c.args.self.now.priced; sampled = c.args.self.now.sampled }
