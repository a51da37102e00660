use Rattle.paraid_energy.specs.Account.{after_spin_ups}
use Rattle.paraid_energy.proofs.AccountLemmas.{HasFigures-with_used}
use Rattle.paraid_array.specs.Laws.{all_synced, gear_going}
use Rattle.std.proofs.Common.{Option, ◌⊎◌, sym, ◌∙◌, ap, ◌≡◌, None, Some, refl, ◌+◌, ◌<◌, ◌≤◌, [], ◌∷◌, ◌++◌, ℕ, min, subst}
use Rattle.paraid_upkeep.proofs.OutLemmas.{fails_newly}
use Rattle.paraid_upkeep.specs.Refusals.{IsShiftStateOf}
use Rattle.paraid_event.specs.Service.{service_of}
use Rattle.paraid_upkeep.specs.TickAnswers.{TellsDecision, TellsMove, TellsRebuild, TellsRest}
use Rattle.paraid_base.specs.declared.event.Answer.TheVariants.{Ticked}
use Rattle.paraid_base.specs.declared.event.Event.TheVariants.{Tick}
use Rattle.paraid_base.specs.Log.{worn_at}
use Rattle.paraid_base.specs.Told.{HasRisen}
use Rattle.paraid_image.specs.Power.{PowerState}
use Rattle.paraid_machine.specs.Energy.{tick_energy}
use Rattle.paraid_serve.specs.Causes.{shown_ticked, state_shown}
use Rattle.paraid_array.specs.Arrays.{shown_of_array}
use Rattle.paraid_array.proofs.CauseLemmas.{done_cause, takes, two_cause}
use Rattle.paraid_array.proofs.TickCauseLemmas.{idle_core, ok_event, ok_moved, out_then, tick_commits, tick_sum, ticked_service, ticked_state, ticks_by}
use Rattle.paraid_array.proofs.SampleLemmas.{held_own, held_ticked}
use Rattle.paraid_array.specs.Lasting.{halt_of_end, samples_held}
use Rattle.paraid_base.specs.declared.fault.Halt.TheVariants.{Two as HaltTwo}
use Rattle.paraid_gear.specs.Decision.{decision}
use Rattle.paraid_gear.specs.ThreeWindows.{HoldLastSamples, lengths_of, sample_of}
use Rattle.paraid_record.specs.declared.meta.Meta.{Meta}
use Rattle.paraid_record.specs.declared.meta.Setup.{Setup}
use Rattle.paraid_txn.specs.declared.store.Store.{Store}
use Rattle.paraid_base.specs.declared.state.GearReport.{GearReport}
use Rattle.paraid_base.specs.declared.state.TickEvent.{TickEvent}
use Rattle.paraid_upkeep.specs.Turns.{CoreTicks}
use Rattle.paraid_image.specs.Out.{named_out, or_else}
use Rattle.paraid_txn.specs.Losses.{AreTwoDown}
use Rattle.paraid_txn.specs.Stores.{named_of, store_rack}
use Rattle.paraid_array.specs.Used.{begun_spin_ups}
use Rattle.paraid_array.proofs.CoreLemmas.{known_of, serving_of}
use Rattle.paraid_array.proofs.CountedLemmas.{fits_counted, known_counted, serving_counted}
use Rattle.paraid_array.proofs.EnergyLemmas.{begun_total}
use Rattle.paraid_array.proofs.StandLemmas.{end_by}
use Rattle.paraid_array.proofs.TickLemmas.{array_ticked, tick_halts, ticks_on}
use Rattle.paraid_array.proofs.LossLemmas.{going_wear, two_lost, ended_not_none, two_wear}
use Rattle.paraid_session.proofs.FaultLemmas.{no_fall_counts}
use Rattle.paraid_upkeep.proofs.ToldLemmas.{extends_store}
use Rattle.paraid_array.proofs.array.Array.tick_there.Goals as goal

-- what a tick tells
abbrev report : ℕ → ℕ → TickEvent → GearReport
report gear moved event = record { gear = gear; moved = moved; event = event }

pub count_tick-requires : goal.count_tick-requires
count_tick-requires g c = record { ready = (c.args.self.now.serving c.requires.going).serving.ready }

pub advance-requires : goal.advance-requires
advance-requires g c =
    let a = c.args.self.now in
    let q = a.serving c.requires.going in
    let t = c.count_tick.ensures in
    record {
      service = record {
        serving = serving_counted g.R.Rack.slot_count g.R.Rack.slot a.core c.count_tick.new.self t.marks.store t.meta q.serving t.marks.ready (t.serves q.serving.serves) t.marks.staged.draft t.marks.staged.copied;
        known = known_counted g.R.Rack.slot_count g.R.Rack.slot a.core c.count_tick.new.self t.marks.store t.meta (known_of g.R.Rack.slot_count g.R.Rack.slot a.core (lengths_of a.windows) a.setup a.slots q);
      };
      epoch = subst (λ (m : Meta). m.epoch < worn_at) (sym t.meta) c.requires.epoch;
      lengths = c.push.ensures.lengths ∙ q.windows ∙ ap (λ (z : Setup). z.windows) (sym q.same_setup) ∙ ap (λ (m : Meta). m.setup.windows) (sym t.meta);
    }

pub invariant_of-self : goal.invariant_of-self
invariant_of-self g c =
    let a = c.args.self.now in
    let t = c.count_tick.ensures in
    let done = c.in-Ok.ensures in
    record {
      serving = λ e. let q = a.serving e in serving_of g.R.Rack.slot_count g.R.Rack.slot c.advance.new.core (lengths_of c.push.new.self) a.setup a.slots
          done.serves.serving done.serves.known (done.serves.fits (fits_counted g.R.Rack.slot_count g.R.Rack.slot a.core c.count_tick.new.self t.marks.store t.meta q.fits)) (c.push.ensures.lengths ∙ q.windows) (done.serves.leaves.setup ∙ ap (λ (m : Meta). m.setup) t.meta ∙ q.same_setup)
          (done.serves.leaves.slots ∙ ap (λ (s : Store _ _). g.R.Rack.slot_count s.rack) t.marks.store ∙ q.same_slots);
      counted = c.advance.ensures.calls.slots ∙ ap (λ (s : Store _ _). g.R.Rack.slot_count s.rack) c.count_tick.ensures.marks.store ∙ c.args.self.now.counted;
      worn = going_wear c.advance.new.core.meta c.args.self.now.ended c.requires.going;
      priced = HasFigures-with_used a.setup c.count_disks.new.ledger _ _ (HasFigures-with_used a.setup a.ledger _ _ a.priced c.count_disks.ensures) c.spin_up.ensures;
      sampled = held_own c.push.new.self (samples_held c.args.self.now.windows ++ sample_of c.args.self.now.served ∷ []) (c.push.ensures.more (samples_held c.args.self.now.windows) c.args.self.now.sampled);
    }

pub returns-in-Ok : goal.returns-in-Ok
returns-in-Ok g c = record {
  answers = record {
    turn =
        let a = c.args.self.now in
        let t = c.count_tick.ensures in
        ticks_on g.R.Rack.slot_count g.R.Rack.told a _ c.count_tick.new.self c.requires.going c.requires.epoch c.requires.writes t.marks.store t.meta t.marks.staged.table t.marks.staged.batch t.marks.staged.copied c.count_disks.new.ledger.total
        (array_ticked a _ c.count_disks.new.ledger (a.serving c.requires.going).same_setup c.meta-2.ensures c.count_disks.ensures)
        c.push.ensures.more (report c.meta-in-Ok.result.now.gear c.in-Ok.moved c.in-Ok.event)
        (subst (λ (m : Meta). CoreTicks g.R.Rack.slot_count g.R.Rack.told c.push.new.self c.count_tick.new.self c.advance.new.core (report m.gear c.in-Ok.moved c.in-Ok.event)) (sym c.meta-in-Ok.ensures) c.in-Ok.ensures.turn)
        c.requires.going refl refl
        (begun_total a.setup c.count_disks.new.ledger c.spin_up.new.self a.core.meta.gear c.in-Ok.event (HasFigures-with_used a.setup a.ledger _ _ a.priced c.count_disks.ensures) (c.spin_up.ensures ∙ ap (after_spin_ups c.count_disks.new.ledger) (c.spin_ups_begun.ensures ∙ ap (λ (m : Meta). begun_spin_ups m.gear c.in-Ok.event) c.meta.ensures)));
    grows = extends_store g.R.Rack.told c.args.self.now.core c.count_tick.new.self c.advance.new.core c.count_tick.ensures.marks.store c.advance.ensures.calls.grows;
    slots = refl;
    cause =
        let a = c.args.self.now in
        let q = a.serving c.requires.going in
        let t = c.count_tick.ensures in
        let mid = c.count_tick.new.self in
        let new = c.advance.new.core in
        let done = c.in-Ok.ensures in
        let s : PowerState = state_shown (shown_of_array g.R.Rack.slot c.args.self.now) in
        let out : mid.meta.out ≡ a.core.meta.out = ap (λ (m : Meta). m.out) t.meta in
        let phase : mid.meta.phase ≡ a.core.meta.phase = ap (λ (m : Meta). m.phase) t.meta in
        let spans : lengths_of c.push.new.self ≡ a.setup.windows = c.push.ensures.lengths ∙ q.windows in
        let pushed = c.push.ensures.more (samples_held a.windows) a.sampled in
        let held : samples_held c.push.new.self ≡ (shown_ticked (shown_of_array g.R.Rack.slot c.args.self.now)).samples = held_ticked c.push.new.self a.windows a.setup (sample_of a.served) spans pushed in
        let windows : HoldLastSamples c.push.new.self (shown_ticked (shown_of_array g.R.Rack.slot c.args.self.now)).samples = subst (HoldLastSamples c.push.new.self) held (held_own c.push.new.self (samples_held a.windows ++ sample_of a.served ∷ []) pushed) in
        let ticked : PowerState = state_shown (shown_ticked (shown_of_array g.R.Rack.slot c.args.self.now)) in
        let setup : mid.meta.setup ≡ a.setup = ap (λ (m : Meta). m.setup) t.meta ∙ q.same_setup in
        let idle = idle_core g.R.Rack.slot_count g.R.Rack.slot a mid t.meta t.marks.staged.table t.marks.store t.marks.staged.batch new in
        done_cause (shown_of_array g.R.Rack.slot c.args.self.now) _ Tick (takes (shown_of_array g.R.Rack.slot c.args.self.now) Tick (ap halt_of_end c.requires.going) c.requires.epoch c.requires.writes) refl refl
        (let new = g.R.Rack.slot (store_rack c.advance.new.core.store) in
        no_fall_counts (g.R.Rack.slot (store_rack c.args.self.now.core.store)) new (subst (λ (s : Store _ _). (d : ℕ) → (g.R.Rack.slot (store_rack s) d).faults ≤ (new d).faults) c.count_tick.ensures.marks.store c.advance.ensures.calls.no_fall))
        (Ticked (report c.meta-in-Ok.result.now.gear c.in-Ok.moved c.in-Ok.event)) (ap halt_of_end c.requires.going) (gear_going c.args.self.now.ended _)
        (record { samples = held; served = refl })
        (record {
          out = λ d is.
              subst (λ (y : Store _ _). (named_out a.core.meta.out ≡ Some d) ⊎ HasRisen (g.R.Rack.slot (store_rack y) d).faults (g.R.Rack.slot (store_rack new.store) d).faults) t.marks.store
              (subst (λ (o : Option ℕ). (o ≡ Some d) ⊎ HasRisen (g.R.Rack.slot (store_rack mid.store) d).faults (g.R.Rack.slot (store_rack new.store) d).faults) (ap named_out out)
              (out_then (g.R.Rack.slot (store_rack mid.store)) (g.R.Rack.slot (store_rack new.store)) (named_out mid.meta.out) (named_out new.meta.out) (named_of mid.store) (named_of new.store) (t.serves q.serving.serves).stays done.serves.serving.serves.stays done.serves.leaves.down d is));
          gear = ap (λ (m : Meta). m.gear) c.meta-in-Ok.ensures;
          writes = done.serves.leaves.writes ∙ ap (λ (m : Meta). m.writes) t.meta;
          energy =
              tick_sum a.setup a.ledger.total s c.count_disks.new.ledger.total _ (report c.meta-in-Ok.result.now.gear c.in-Ok.moved c.in-Ok.event)
              (array_ticked a _ c.count_disks.new.ledger q.same_setup c.meta-2.ensures c.count_disks.ensures s refl refl refl ∙ ap (λ (z : Setup). min (a.ledger.total + tick_energy z s) 18446744073709551615) q.same_setup)
              (begun_total a.setup c.count_disks.new.ledger c.spin_up.new.self a.core.meta.gear c.in-Ok.event (HasFigures-with_used a.setup a.ledger _ _ a.priced c.count_disks.ensures) (c.spin_up.ensures ∙ ap (after_spin_ups c.count_disks.new.ledger) (c.spin_ups_begun.ensures ∙ ap (λ (m : Meta). begun_spin_ups m.gear c.in-Ok.event) c.meta.ensures)));
          by =
              ticks_by g.R.Rack.slot_count g.R.Rack.slot a new c.spin_up.new.self.total (samples_held c.push.new.self) q.same_setup c.in-Ok.moved c.in-Ok.event
              (subst (λ (y : Store _ _). named_out a.core.meta.out ≡ None → (d : ℕ) → named_out new.meta.out ≡ Some d → HasRisen (g.R.Rack.slot (store_rack y) d).faults (g.R.Rack.slot (store_rack new.store) d).faults) t.marks.store
              (λ none. fails_newly (g.R.Rack.slot (store_rack mid.store)) (g.R.Rack.slot (store_rack new.store)) (named_out mid.meta.out) (named_out new.meta.out) (named_of mid.store) (named_of new.store) (t.serves q.serving.serves).stays done.serves.serving.serves.stays done.serves.leaves.down (ap named_out out ∙ none)))
              a.core.meta.out refl
              (λ d is. let w = done.waits d (out ∙ is) in let same = idle w.1 in (ok_moved c.in-Ok.moved c.in-Ok.event w.0, ok_event c.in-Ok.moved c.in-Ok.event w.0, same.0, same.1, same.2, same.3))
              (λ d u is. subst (λ (m : Meta). TellsRebuild m new.meta d u c.in-Ok.moved c.in-Ok.event) t.meta (done.rebuilds.rebuilds d u (out ∙ is)))
              (λ d u is. done.rebuilds.table d u (out ∙ is) ∙ t.marks.staged.table)
              (λ d u is gone. subst (λ (y : Store _ _). HasRisen (g.R.Rack.slot (store_rack y) d).faults (g.R.Rack.slot (store_rack new.store) d).faults) t.marks.store (done.rebuilds.failed d u (out ∙ is) gone))
              (done.serves.leaves.setup ∙ ap (λ (m : Meta). m.setup) t.meta) (done.serves.leaves.version ∙ ap (λ (m : Meta). m.version) t.meta) (done.serves.leaves.writes ∙ ap (λ (m : Meta). m.writes) t.meta)
              (λ whole shifts. subst (λ (z : Setup). TellsMove z ticked (service_of g.R.Rack.slot_count new ticked.samples 0 0) c.in-Ok.moved c.in-Ok.event) setup
              (done.moves.moves (out ∙ whole) (λ steady. shifts (sym phase ∙ steady)) ticked.samples 0 0 ticked (ticked_service g.R.Rack.slot_count g.R.Rack.slot a mid t.meta t.marks.staged.table)))
              (λ whole steady.
              let rests = subst (λ (m : Meta). (c.in-Ok.moved ≡ 0) × TellsRest m new.meta c.in-Ok.event) t.meta (done.decides.rests (out ∙ whole) (phase ∙ steady)) in
              let decides = done.decides.decides (out ∙ whole) (phase ∙ steady) (shown_ticked (shown_of_array g.R.Rack.slot c.args.self.now)).samples windows ticked (subst (λ (m : Meta). IsShiftStateOf m ticked) (sym t.meta) (ticked_state g.R.Rack.slot a)) in
              (rests.0, rests.1, subst (λ (z : Setup). TellsDecision z ticked (decision z ticked.gear (shown_ticked (shown_of_array g.R.Rack.slot c.args.self.now)).samples) c.in-Ok.event) setup decides.1))
              (λ whole steady is. idle (done.decides.idle (out ∙ whole) (phase ∙ steady) is))
              (λ whole steady. done.decides.table (out ∙ whole) (phase ∙ steady) ∙ t.marks.staged.table);
        })
        (tick_commits g.R.Rack.slot_count g.R.Rack.slot a mid t.meta t.marks.staged.table new c.spin_up.new.self.total (samples_held c.push.new.self) q.same_setup done.commits)
        (done.serves.fits (fits_counted g.R.Rack.slot_count g.R.Rack.slot a.core mid t.marks.store t.meta q.fits))
        (all_synced g.R.Rack.slot new done.serves.serving.copies_synced done.serves.serving.unsynced);
  };
}

pub returns-in-Err : goal.returns-in-Err
returns-in-Err g c = record {
  answers = record {
    turn =
        let a = c.args.self.now in
        let t = c.count_tick.ensures in
        tick_halts g.R.Rack.slot_count g.R.Rack.told a _ c.count_tick.new.self c.requires.going c.requires.epoch c.requires.writes t.marks.store t.meta t.marks.staged.table t.marks.staged.batch t.marks.staged.copied c.count_disks.new.ledger.total
        (array_ticked a _ c.count_disks.new.ledger (a.serving c.requires.going).same_setup c.meta-2.ensures c.count_disks.ensures)
        c.push.ensures.more c.in-Err.two c.in-Err.ensures.halts refl (ap (λ (m : Meta). Some (end_by (HaltTwo c.in-Err.two) m.gear)) c.meta.ensures);
    grows = extends_store g.R.Rack.told c.args.self.now.core c.count_tick.new.self c.advance.new.core c.count_tick.ensures.marks.store c.advance.ensures.calls.grows;
    slots = refl;
    cause = two_cause (shown_of_array g.R.Rack.slot c.args.self.now) _ Tick (takes (shown_of_array g.R.Rack.slot c.args.self.now) Tick (ap halt_of_end c.requires.going) c.requires.epoch c.requires.writes) refl refl
        (let new = g.R.Rack.slot (store_rack c.advance.new.core.store) in
        no_fall_counts (g.R.Rack.slot (store_rack c.args.self.now.core.store)) new (subst (λ (s : Store _ _). (d : ℕ) → (g.R.Rack.slot (store_rack s) d).faults ≤ (new d).faults) c.count_tick.ensures.marks.store c.advance.ensures.calls.no_fall)) refl (ap (λ (m : Meta). m.gear) c.meta.ensures ∙ sym (gear_going c.args.self.now.ended _ (ap halt_of_end c.requires.going))) (λ fits.
        let a = c.args.self.now in
        let s : PowerState = state_shown (shown_of_array g.R.Rack.slot a) in
        (let q = a.serving c.requires.going in array_ticked a _ c.count_disks.new.ledger q.same_setup c.meta-2.ensures c.count_disks.ensures s refl refl refl ∙ ap (λ (z : Setup). min (a.ledger.total + tick_energy z s) 18446744073709551615) q.same_setup)) c.in-Err.two refl
        (let a = c.args.self.now in
        let t = c.count_tick.ensures in
        let new = g.R.Rack.slot (store_rack c.advance.new.core.store) in
        let counted : AreTwoDown (or_else (named_of a.core.store) (named_out c.count_tick.new.self.meta.out)) (g.R.Rack.slot (store_rack a.core.store)) new c.in-Err.two =
        subst (λ (s : Store _ _). AreTwoDown (or_else (named_of s) (named_out c.count_tick.new.self.meta.out)) (g.R.Rack.slot (store_rack s)) new c.in-Err.two) t.marks.store c.in-Err.ensures.two in
        two_lost (named_of a.core.store) (named_out a.core.meta.out) (a.serving c.requires.going).serving.serves.stays _ _ _ c.in-Err.two
        (subst (λ (m : Meta). AreTwoDown (or_else (named_of a.core.store) (named_out m.out)) (g.R.Rack.slot (store_rack a.core.store)) new c.in-Err.two) t.meta counted));
  };
}

pub invariant_of-self-in-Err : goal.invariant_of-self-in-Err
invariant_of-self-in-Err g c = record { serving = λ e. ended_not_none _ e; counted = c.advance.ensures.calls.slots ∙ ap (λ (s : Store _ _). g.R.Rack.slot_count s.rack) c.count_tick.ensures.marks.store ∙ c.args.self.now.counted; worn = two_wear c.advance.new.core.meta c.in-Err.two; priced = HasFigures-with_used c.args.self.now.setup c.args.self.now.ledger _ _ c.args.self.now.priced c.count_disks.ensures; sampled = held_own c.push.new.self (samples_held c.args.self.now.windows ++ sample_of c.args.self.now.served ∷ []) (c.push.ensures.more (samples_held c.args.self.now.windows) c.args.self.now.sampled) }
