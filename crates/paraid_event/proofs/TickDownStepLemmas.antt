-- Ticks that begin a shift down, by the parts of their events.
use Rattle.paraid_event.proofs.ApartLemmas.{no_one}
use Rattle.paraid_event.proofs.SteppedLemmas.{other_base}
use Rattle.std.proofs.Common.{false, ◌≡◌, ℕ, ◌-◌, ◌*◌, ◌^◌, ◌<◌, ◌≤◌, [], List, Option, Some, None, refl, sym, ap, subst, arith, min, ◌≢◌, ◌∙◌}
use Rattle.std.specs.Prelude.{◌+◌, Contains}
use Rattle.paraid_base.specs.declared.event.Answer.{Answer}
use Rattle.paraid_base.specs.declared.event.Answer.TheVariants.{Halted, Ticked}
use Rattle.paraid_base.specs.declared.event.Event.TheVariants.{Tick}
use Rattle.paraid_base.specs.declared.fault.Halt.TheVariants.{Two as HaltTwo}
use Rattle.paraid_base.specs.declared.fault.Two.{Two}
use Rattle.paraid_base.specs.declared.state.Out.{Out}
use Rattle.paraid_base.specs.declared.state.Out.TheVariants.{No}
use Rattle.paraid_base.specs.declared.state.Phase.{Phase}
use Rattle.paraid_base.specs.declared.state.Phase.TheVariants.{Steady, Down}
use Rattle.paraid_base.specs.declared.state.TickEvent.TheVariants.{Begun}
use Rattle.paraid_base.specs.Log.{worn_at}
use Rattle.paraid_base.specs.States.{named_out}
use Rattle.paraid_gear.specs.declared.decision.Decision.{Decision}
use Rattle.paraid_gear.specs.declared.decision.Decision.TheVariants.{Down as DecideDown}
use Rattle.paraid_gear.specs.Decision.{decision}
use Rattle.paraid_rack.specs.declared.call.Call.{Call}
use Rattle.paraid_rack.specs.Told.{Ran}
use Rattle.paraid_rack.specs.Trail.{Trail, now, run}
use Rattle.paraid_record.specs.declared.meta.Setup.{Setup}
use Rattle.paraid_image.specs.Power.{PowerState}
use Rattle.paraid_core.specs.CoreInvariant.{AreCopiesSynced}
use Rattle.paraid_machine.specs.Energy.{begun_energy, tick_energy}
use Rattle.paraid_machine.specs.Machine.{IsEventStep, begin_by_tick, decide, outcomes, report, shift_down, tick_by_out, tick_by_phase}
use Rattle.paraid_machine.specs.Moves.{after_loss, begun_down, first_used_up, state_with_tick}
use Rattle.paraid_session.specs.Turn.{GoesOn, IsUnhurt, Point, makes_no_call, point_wear}
use Rattle.paraid_session.specs.Watch.{Watch, first_lost, watch_all}
use Rattle.paraid_session.specs.Resting.{watch_at}
use Rattle.paraid_event.specs.Moving.{GoesToState}
use Rattle.paraid_event.specs.Service.{IsStateOf, Service}
use Rattle.paraid_event.specs.Stands.{StandsAt}
use Rattle.paraid_event.specs.Steps.{GoesInSteps, IsUnderway, LosesInSteps, StepsInEvent}
use Rattle.paraid_event.specs.Ticks.{CountsTick, IsHaltedWith}
use Rattle.paraid_event.proofs.TickStepLemmas.{energy1, first_outcome, lost_named, no_name, none_lost, one_outcome, own_energy1, tick_answered, tick_lost, tick_parts, tick_underway}

capped_begun : (x y a z : ℕ) → x ≡ min a 18446744073709551615 → z ≡ 0 → y ≡ x → y ≡ min (x + z) 18446744073709551615
capped_begun x y a z is none same = grind (arith)

no_spin_ups : (mj to gear : ℕ) → to < gear → mj * (to - gear) ≡ 0
no_spin_ups mj to gear l = let e : to - gear ≡ 0 = omega (arith, l) in rw e (zero_times mj)
  where
    zero_times : (a : ℕ) → a * 0 ≡ 0
    zero_times a = grind (arith)

module _ (told : Option Trail) (k k1 : Service) (setup : Setup) (p : Point) (at : StandsAt told k setup p) (counts : CountsTick k k1) (fit : point_wear p < worn_at) (no_out : p.state.out ≡ No) (steady : p.state.phase ≡ Steady) (to : ℕ)
    (down : decision setup p.state.gear (state_with_tick p.state).samples ≡ DecideDown to) (unworn : first_used_up setup (state_with_tick p.state) to ≡ None) where
  abbrev w0 : Watch
  w0 = watch_at p

  abbrev s1 : PowerState
  s1 = state_with_tick p.state

  lowered_step : (loss : Option ℕ) (answer : Answer) (new : PowerState) → Contains {X = Answer × PowerState} (begin_by_tick loss (begun_down to s1) to) (answer, new) → IsEventStep setup p.history p.energy p.state Tick loss answer new
  unfolding outcomes
  lowered_step loss answer new is = record {
    among = subst (λ (o : Out). Contains {X = Answer × PowerState} (tick_by_out setup loss s1 o) (answer, new)) (sym no_out)
        (subst (λ (x : Phase). Contains {X = Answer × PowerState} (tick_by_phase setup loss s1 x) (answer, new)) (sym steady)
        (subst (λ (x : Decision). Contains {X = Answer × PowerState} (decide setup loss s1 x) (answer, new)) (sym down)
        (subst (λ (o : Option ℕ). Contains {X = Answer × PowerState} (shift_down setup loss s1 to o) (answer, new)) (sym unworn) is)));
  }

  lowered_busy : (answer : Answer) (new : PowerState) → IsUnhurt setup p Tick answer new → makes_no_call answer ≡ false
  unfolding outcomes
  lowered_busy answer new is =
      let none_out = subst (λ (o : Out). Contains {X = Answer × PowerState} (tick_by_out setup None s1 o) (answer, new)) no_out is.among in
      let in_phase = subst (λ (x : Phase). Contains {X = Answer × PowerState} (tick_by_phase setup None s1 x) (answer, new)) steady none_out in
      let decided = subst (λ (x : Decision). Contains {X = Answer × PowerState} (decide setup None s1 x) (answer, new)) down in_phase in
      let free = subst (λ (o : Option ℕ). Contains {X = Answer × PowerState} (shift_down setup None s1 to o) (answer, new)) unworn decided in
      ap makes_no_call (sym (one_outcome (report (begun_down to s1) 0 (Begun to)) answer new free))

  module _ (lower : to < p.state.gear) (k2 : Service) (synced : AreCopiesSynced k2.meta.setup.geometry.disks k2.copied) (goes_to : GoesToState k2 (begun_down to s1)) (same_energy : k2.energy ≡ k1.energy) (most : ℕ) (few : most ≤ 2 ^ 20) (told_then : Option Trail) where
    abbrev down_answer : Answer
    down_answer = Ticked (record { gear = k2.meta.gear; moved = 0; event = Begun to })

    energy2 : k2.energy ≡ min (k1.energy + begun_energy setup p.state.gear (Begun to)) 18446744073709551615
    energy2 = capped_begun k1.energy k2.energy (k.energy + tick_energy setup p.state) (begun_energy setup p.state.gear (Begun to)) (energy1 told k k1 setup p at counts fit) (no_spin_ups setup.spinup_mj to p.state.gear lower) same_energy

    down_among : (loss : Option ℕ) (new : PowerState) → new.gear ≡ k2.meta.gear → Contains {X = Answer × PowerState} (begin_by_tick loss (begun_down to s1) to) (report new 0 (Begun to)) → Contains {X = Answer × PowerState} (begin_by_tick loss (begun_down to s1) to) (down_answer, new)
    down_among loss new gear is = subst (λ (g : ℕ). Contains {X = Answer × PowerState} (begin_by_tick loss (begun_down to s1) to) (Ticked (record { gear = g; moved = 0; event = Begun to }), new)) gear is

    down_by : (cs : List Call) → ((t : Trail) → told_then ≡ Some t → now t ≡ run p.disks cs) → GoesInSteps k1 k2 p.history p.low most (IsUnderway k2 p.history p.low) p.meta w0 cs → GoesOn k.slots setup p Tick down_answer (StandsAt told_then k2 setup) p.disks cs
    down_by cs tells goes = by_name (named_out k2.meta.out) refl
      where
        turn_to : (new : PowerState) (loss : Option ℕ) → first_lost cs ≡ loss → IsStateOf k2 new → (first_lost cs ≡ None → new.phase ≢ Steady) → Contains {X = Answer × PowerState} (begin_by_tick loss (begun_down to s1) to) (report new 0 (Begun to)) → GoesOn k.slots setup p Tick down_answer (StandsAt told_then k2 setup) p.disks cs
        turn_to new loss first state shifts is = tick_answered told k k1 setup p at counts fit k2 (Begun to) 0 new state synced energy2 most few told_then no_out refl cs goes tells
            (λ begun none. other_base p.meta k.meta goes.base_then k2.meta p.disks.power (watch_all cs w0).disks.power at.shown goes.ends.shown (sym at.state.out ∙ no_out) (sym at.state.phase ∙ steady) (λ still. shifts none (state.phase ∙ still)))
            (lowered_step (first_lost cs) down_answer new (subst (λ (l : Option ℕ). Contains {X = Answer × PowerState} (begin_by_tick l (begun_down to s1) to) (down_answer, new)) (sym first) (down_among loss new state.gear is)))

        by_name : (n : Option ℕ) → named_out k2.meta.out ≡ n → GoesOn k.slots setup p Tick down_answer (StandsAt told_then k2 setup) p.disks cs
        by_name None none = let whole = no_name k2.meta.out none in
            turn_to (begun_down to s1) None (none_lost told k k1 setup p at counts fit k2 most cs goes no_out whole) (goes_to.whole whole) (λ first down_now. let z : Down to ≡ Steady = down_now in cc) (first_outcome (report (begun_down to s1) 0 (Begun to)) [])
        by_name (Some d) named =
            turn_to (after_loss (begun_down to s1) d) (Some d) (lost_named told k k1 setup p at counts fit k2 most cs goes no_out d named) (goes_to.lost d named) (λ first. absurd (no_one (sym first ∙ lost_named told k k1 setup p at counts fit k2 most cs goes no_out d named))) (first_outcome (report (after_loss (begun_down to s1) d) 0 (Begun to)) [])

    pub down_turn : Ran told told_then (StepsInEvent k1 k2 p.history p.low most) → Ran told told_then (GoesOn k.slots setup p Tick down_answer (StandsAt told_then k2 setup))
    down_turn = tick_parts told k k1 setup p at counts fit told_then (StepsInEvent k1 k2 p.history p.low most) (GoesOn k.slots setup p Tick down_answer (StandsAt told_then k2 setup)) (λ cs steps tells. down_by cs tells (steps p.meta w0 refl (tick_underway told k k1 setup p at counts fit)))

  -- A second disk is lost in it.
  pub down_lost : (two : Two) (most : ℕ) → most ≤ 2 ^ 20 → (told_then : Option Trail) → Ran told told_then (LosesInSteps k1 p.history p.low most two) → Ran told told_then (GoesOn k.slots setup p Tick (Halted (HaltTwo two)) (IsHaltedWith p (HaltTwo two) k1.energy))
  down_lost two most few told_then = tick_lost told k k1 setup p at counts fit two k1.energy (own_energy1 told k k1 setup p at counts fit) lowered_busy most few told_then
