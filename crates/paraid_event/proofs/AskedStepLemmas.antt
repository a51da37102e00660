-- Shifts that are asked for, by the parts of their events.
use Rattle.std.proofs.lemmas.Bool.{false≢true}
use Rattle.std.proofs.Common.{◌≡◌, ◌≢◌, ℕ, ◌+◌, ◌-◌, ◌*◌, ◌^◌, ◌<◌, ◌≤◌, ◌⊎◌, false, List, [], ◌∷◌, Option, Some, None, refl, sym, ap, ◌∙◌, inl, inr, subst, arith, min}
use Rattle.std.specs.Prelude.{Contains}
use Rattle.paraid_base.specs.declared.event.Answer.{Answer}
use Rattle.paraid_base.specs.declared.event.Answer.TheVariants.{Halted, Out as IsOut, Shift}
use Rattle.paraid_base.specs.declared.event.Event.{Event}
use Rattle.paraid_base.specs.declared.event.Event.TheVariants.{Bad, Down as AskDown, Up as AskUp}
use Rattle.paraid_base.specs.declared.fault.Halt.TheVariants.{Two as HaltTwo}
use Rattle.paraid_base.specs.declared.fault.Two.{Two}
use Rattle.paraid_base.specs.declared.state.Out.TheVariants.{No}
use Rattle.paraid_base.specs.declared.state.Phase.TheVariants.{Steady, Down, Up}
use Rattle.paraid_base.specs.Gears.{next_higher, next_lower}
use Rattle.paraid_base.specs.Log.{worn_at}
use Rattle.paraid_base.specs.States.{named_out}
use Rattle.paraid_base.specs.BlockAnswers.{accepted_write}
use Rattle.paraid_rack.specs.declared.call.Call.{Call}
use Rattle.paraid_rack.specs.Disks.{Disks}
use Rattle.paraid_rack.specs.Told.{Ran}
use Rattle.paraid_rack.specs.Trail.{Trail, now, run}
use Rattle.paraid_rack.proofs.TrailsLemmas.{now-extend}
use Rattle.paraid_record.specs.declared.meta.Setup.{Setup}
use Rattle.paraid_image.specs.Power.{PowerState}
use Rattle.paraid_core.specs.CoreInvariant.{AreCopiesSynced}
use Rattle.paraid_machine.specs.Energy.{energy_after, spin_up_energy}
use Rattle.paraid_machine.specs.Machine.{IsEventStep, begin, go_down, go_up, outcomes, ration_refusal, refusal_else, shift_refusal}
use Rattle.paraid_machine.specs.Moves.{after_loss, begun_down, begun_up, first_used_up}
use Rattle.paraid_session.specs.Turn.{GoesOn, IsSecondLossEnergy, IsUnhurt, Point, bounds_at, bounds_of, makes_no_call, point_wear, watch_of}
use Rattle.paraid_session.specs.Turn.IsSecondLossEnergy.{begun, own}
use Rattle.paraid_session.specs.Watch.{Watch, first_lost, watch_all}
use Rattle.paraid_session.proofs.LayerLemmas.{first_fails}
use Rattle.paraid_session.specs.Resting.{watch_at}
use Rattle.paraid_event.proofs.ApartLemmas.{down_not_bad, no_one, up_not_bad}
use Rattle.paraid_event.specs.Moving.{GoesToState}
use Rattle.paraid_event.proofs.UpLemmas.{stands_made}
use Rattle.paraid_event.specs.Service.{IsStateOf, Service}
use Rattle.paraid_event.specs.Stands.{StandsAt}
use Rattle.paraid_event.specs.Steps.{GoesInSteps, IsUnderway, LosesInSteps, StepsInEvent}
use Rattle.paraid_event.specs.Ticks.{IsHaltedWith}
use Rattle.paraid_event.proofs.BeginLemmas.{down_busy, free, up_busy}
use Rattle.paraid_event.proofs.SteppedLemmas.{event_underway, steps_lost, steps_turn, steps_turn_by, other_base}
use Rattle.paraid_event.proofs.TickStepLemmas.{first_outcome, later_outcome, no_name}
use Rattle.paraid_event.proofs.PreludeLemmas.{some_trail}

capped_sum : (a b z y : ℕ) → a ≡ b → y ≡ min (b + z) 18446744073709551615 → min (a + z) 18446744073709551615 ≡ y
capped_sum a b z y equal is = grind (arith)

capped_own : (a b z y : ℕ) → a ≡ b → b ≤ 18446744073709551615 → z ≡ 0 → y ≡ b → min (a + z) 18446744073709551615 ≡ y
capped_own a b z y equal fits none is = grind (arith)

under_cap : (x a : ℕ) → x ≡ min a 18446744073709551615 → x ≤ 18446744073709551615
under_cap x a is = grind (arith)

no_spin_ups : (mj to gear : ℕ) → to < gear → mj * (to - gear) ≡ 0
no_spin_ups mj to gear l = let e : to - gear ≡ 0 = omega (arith, l) in rw e (zero_times mj)
  where
    zero_times : (a : ℕ) → a * 0 ≡ 0
    zero_times a = grind (arith)

-- what may come of a shift that nothing refuses
shift_among : (s : PowerState) (to : ℕ) (start : PowerState) → Contains {X = Answer × PowerState} (begin None None s to start) (Shift s.gear to, start)
shift_among s to start = first_outcome (Shift s.gear to, start) []

lost_among : (d : ℕ) (s : PowerState) (to : ℕ) (start : PowerState) → Contains {X = Answer × PowerState} (begin None (Some d) s to start) (Shift s.gear to, after_loss start d)
lost_among d s to start = later_outcome (IsOut d, after_loss s d) ((Shift s.gear to, after_loss start d) ∷ []) (Shift s.gear to, after_loss start d) (first_outcome (Shift s.gear to, after_loss start d) [])

module _ (told : Option Trail) (k : Service) (setup : Setup) (p : Point) (at : StandsAt told k setup p) (fit : point_wear p < worn_at) (steady : p.state.phase ≡ Steady) (no_out : p.state.out ≡ No) (to : ℕ) where
  abbrev w0 : Watch
  w0 = watch_at p

  -- from what is told of its parts
  asked_parts : (told_then : Option Trail) (Q : Disks → List Call → Type 0) (R : Disks → List Call → Type 0) → ((cs : List Call) → Q p.disks cs → ((t : Trail) → told_then ≡ Some t → now t ≡ run p.disks cs) → R p.disks cs) → Ran told told_then Q → Ran told told_then R
  asked_parts told_then Q R goes ran t tells =
      let r = ran t tells in
      let from : now r.from ≡ p.disks = at.disks r.from r.was in
      let end : now t ≡ run p.disks r.calls = ap now r.is ∙ now-extend r.from r.calls ∙ ap (λ (s : Disks). run s r.calls) from in
      record {
        from = r.from;
        was = r.was;
        calls = r.calls;
        is = r.is;
        holds = subst (λ (s : Disks). R s r.calls) (sym from) (goes r.calls (subst (λ (s : Disks). Q s r.calls) from r.holds) (λ u u_tells. ap now (some_trail u t (sym u_tells ∙ tells)) ∙ end));
      }

  ticks_fit : k.meta.ticks ≤ p.state.ticks
  ticks_fit = let e = at.state.ticks in omega (arith, e)

  -- a shift that is asked for, down or up
  module _ (event : Event) (start : PowerState) (not_bad : event ≢ Bad) (bounds : bounds_of setup p event ≡ bounds_at setup p p.state)
      (step : (loss : Option ℕ) (new : PowerState) → Contains {X = Answer × PowerState} (begin None loss p.state to start) (Shift p.state.gear to, new) → IsEventStep setup p.history p.energy p.state event loss (Shift p.state.gear to) new)
      (moves : start.phase ≢ Steady) (k2 : Service) (synced : AreCopiesSynced k2.meta.setup.geometry.disks k2.copied) (goes_to : GoesToState k2 start) (energy : energy_after setup p.energy p.state (Shift p.state.gear to) ≡ k2.energy) (fits : k2.energy ≤ 18446744073709551615)
      (starts : watch_of p event (Shift p.state.gear to) ≡ w0) (most : ℕ) (few : most ≤ 2 ^ 20) (told_then : Option Trail) where
    begun_by : (cs : List Call) → ((t : Trail) → told_then ≡ Some t → now t ≡ run p.disks cs) → GoesInSteps k k2 p.history p.low most (IsUnderway k2 p.history p.low) p.meta w0 cs → accepted_write event (Shift p.state.gear to) ≡ [] → GoesOn k.slots setup p event (Shift p.state.gear to) (StandsAt told_then k2 setup) p.disks cs
    begun_by cs tells goes none_written = by_name (named_out k2.meta.out) refl
      where
        turn_to : (new : PowerState) → IsStateOf k2 new → (first_lost cs ≡ None → new.phase ≢ Steady) → IsEventStep setup p.history p.energy p.state event (first_lost cs) (Shift p.state.gear to) new → GoesOn k.slots setup p event (Shift p.state.gear to) (StandsAt told_then k2 setup) p.disks cs
        turn_to new state shifts machine = steps_turn told_then k k setup p event p.state at.going not_bad fit bounds ticks_fit at.same_setup refl most few cs k2 goes (Shift p.state.gear to) new starts tells machine state synced energy fits refl (λ a. refl) none_written refl refl refl (λ is first. other_base p.meta k.meta goes.base_then k2.meta p.disks.power (watch_all cs w0).disks.power at.shown goes.ends.shown (sym at.state.out ∙ no_out) (sym at.state.phase ∙ steady) (λ still. shifts first (state.phase ∙ still))) (λ e low. stands_made told k setup p at e low) no_out

        none_lost : k2.meta.out ≡ No → (o : Option ℕ) → first_lost cs ≡ o → first_lost cs ≡ None
        none_lost whole None is = is
        none_lost whole (Some e) is = absurd (no_one (sym (ap named_out whole) ∙ goes.leaves.failed e (first_fails cs e is)))

        lost_named : (d : ℕ) → named_out k2.meta.out ≡ Some d → first_lost cs ≡ Some d
        lost_named d named = elim (goes.leaves.newly d named) [
          | inl was ↦ absurd (no_one (sym (ap named_out (sym at.state.out ∙ no_out)) ∙ was))
          | inr first ↦ first
        ]

        by_name : (n : Option ℕ) → named_out k2.meta.out ≡ n → GoesOn k.slots setup p event (Shift p.state.gear to) (StandsAt told_then k2 setup) p.disks cs
        by_name None none = let whole = no_name k2.meta.out none in
            turn_to start (goes_to.whole whole) (λ first. moves) (step (first_lost cs) start (subst (λ (l : Option ℕ). Contains {X = Answer × PowerState} (begin None l p.state to start) (Shift p.state.gear to, start)) (sym (none_lost whole (first_lost cs) refl)) (shift_among p.state to start)))
        by_name (Some d) named =
            turn_to (after_loss start d) (goes_to.lost d named) (λ first. absurd (no_one (sym first ∙ lost_named d named))) (step (first_lost cs) (after_loss start d) (subst (λ (l : Option ℕ). Contains {X = Answer × PowerState} (begin None l p.state to start) (Shift p.state.gear to, after_loss start d)) (sym (lost_named d named)) (lost_among d p.state to start)))

    begun_told : accepted_write event (Shift p.state.gear to) ≡ [] → Ran told told_then (StepsInEvent k k2 p.history p.low most) → Ran told told_then (GoesOn k.slots setup p event (Shift p.state.gear to) (StandsAt told_then k2 setup))
    begun_told none_written = asked_parts told_then (StepsInEvent k k2 p.history p.low most) (GoesOn k.slots setup p event (Shift p.state.gear to) (StandsAt told_then k2 setup))
        (λ cs steps tells. begun_by cs tells (steps p.meta w0 refl (event_underway told k setup p at)) none_written)

  asked_lost : (event : Event) (two : Two) (energy : ℕ) → event ≢ Bad → bounds_of setup p event ≡ bounds_at setup p p.state → watch_of p event (Halted (HaltTwo two)) ≡ w0 → IsSecondLossEnergy setup p event energy → ((answer : Answer) (new : PowerState) → IsUnhurt setup p event answer new → makes_no_call answer ≡ false)
      → (most : ℕ) → most ≤ 2 ^ 20 → (told_then : Option Trail) → Ran told told_then (LosesInSteps k p.history p.low most two) → Ran told told_then (GoesOn k.slots setup p event (Halted (HaltTwo two)) (IsHaltedWith p (HaltTwo two) energy))
  asked_lost event two energy not_bad bounds starts is busy most few told_then = asked_parts told_then (LosesInSteps k p.history p.low most two) (GoesOn k.slots setup p event (Halted (HaltTwo two)) (IsHaltedWith p (HaltTwo two) energy))
      (λ cs loses tells. let x = loses p.meta w0 refl (event_underway told k setup p at) in
      steps_lost told_then k k setup p event p.state at.going not_bad fit bounds ticks_fit at.same_setup refl most few cs two energy starts (sym at.state.out) x.0 x.1 busy is)

  open_now : shift_refusal p.state.phase p.state.out ≡ None
  open_now = free told k setup p at to steady no_out

  up_step : next_higher setup.geometry p.state.gear ≡ Some to → (loss : Option ℕ) (new : PowerState) → Contains {X = Answer × PowerState} (begin None loss p.state to (begun_up to p.state)) (Shift p.state.gear to, new) → IsEventStep setup p.history p.energy p.state AskUp loss (Shift p.state.gear to) new
  unfolding outcomes
  up_step some loss new is = record {
    among = subst (λ (o : Option ℕ). Contains {X = Answer × PowerState} (go_up setup loss p.state o) (Shift p.state.gear to, new)) (sym some)
        (subst (λ (o : Option Answer). Contains {X = Answer × PowerState} (begin o loss p.state to (begun_up to p.state)) (Shift p.state.gear to, new)) (sym open_now) is);
  }

  down_step : next_lower setup.geometry p.state.gear ≡ Some to → first_used_up setup p.state to ≡ None → (loss : Option ℕ) (new : PowerState) → Contains {X = Answer × PowerState} (begin None loss p.state to (begun_down to p.state)) (Shift p.state.gear to, new) → IsEventStep setup p.history p.energy p.state AskDown loss (Shift p.state.gear to) new
  unfolding outcomes
  down_step some unworn loss new is = record {
    among = subst (λ (o : Option ℕ). Contains {X = Answer × PowerState} (go_down setup loss p.state o) (Shift p.state.gear to, new)) (sym some)
        (subst (λ (o : Option Answer). Contains {X = Answer × PowerState} (begin o loss p.state to (begun_down to p.state)) (Shift p.state.gear to, new))
        (sym (ap (λ (o : Option Answer). refusal_else o (ration_refusal (first_used_up setup p.state to))) open_now ∙ ap ration_refusal unworn)) is);
  }

  -- A shift up that is asked for begins,
  pub up_asked : next_higher setup.geometry p.state.gear ≡ Some to → (k2 : Service) → AreCopiesSynced k2.meta.setup.geometry.disks k2.copied → GoesToState k2 (begun_up to p.state) → k2.energy ≡ min (k.energy + spin_up_energy setup p.state.gear to) 18446744073709551615
      → (most : ℕ) → most ≤ 2 ^ 20 → (told_then : Option Trail) → Ran told told_then (StepsInEvent k k2 p.history p.low most) → Ran told told_then (GoesOn k.slots setup p AskUp (Shift p.state.gear to) (StandsAt told_then k2 setup))
  up_asked some k2 synced goes_to energy most few told_then = begun_told AskUp (begun_up to p.state) (λ e. up_not_bad e) refl (up_step some) (λ up. let z : Up to ≡ Steady = up in cc) k2 synced goes_to
      (capped_sum p.energy k.energy (spin_up_energy setup p.state.gear to) k2.energy at.energy energy) (under_cap k2.energy (k.energy + spin_up_energy setup p.state.gear to) energy) refl most few told_then refl

  -- and so does a shift down.
  pub down_asked : next_lower setup.geometry p.state.gear ≡ Some to → to < p.state.gear → first_used_up setup p.state to ≡ None → (k2 : Service) → AreCopiesSynced k2.meta.setup.geometry.disks k2.copied → GoesToState k2 (begun_down to p.state) → k2.energy ≡ k.energy
      → (most : ℕ) → most ≤ 2 ^ 20 → (told_then : Option Trail) → Ran told told_then (StepsInEvent k k2 p.history p.low most) → Ran told told_then (GoesOn k.slots setup p AskDown (Shift p.state.gear to) (StandsAt told_then k2 setup))
  down_asked some lower unworn k2 synced goes_to energy most few told_then = begun_told AskDown (begun_down to p.state) (λ e. down_not_bad e) refl (down_step some unworn) (λ down. let z : Down to ≡ Steady = down in cc) k2 synced goes_to
      (capped_own p.energy k.energy (spin_up_energy setup p.state.gear to) k2.energy at.energy at.fits (no_spin_ups setup.spinup_mj to p.state.gear lower) energy) (let f = at.fits in omega (arith, f, energy)) refl most few told_then refl

  own_up : (energy : ℕ) → energy ≡ k.energy → IsSecondLossEnergy setup p AskUp energy
  own_up energy is = own (is ∙ sym (capped_own p.energy k.energy 0 k.energy at.energy at.fits refl refl))

  own_down : (energy : ℕ) → energy ≡ k.energy → IsSecondLossEnergy setup p AskDown energy
  own_down energy is = own (is ∙ sym (capped_own p.energy k.energy 0 k.energy at.energy at.fits refl refl))

  begun_energy_up : next_higher setup.geometry p.state.gear ≡ Some to → (energy : ℕ) → energy ≡ min (k.energy + spin_up_energy setup p.state.gear to) 18446744073709551615 → IsSecondLossEnergy setup p AskUp energy
  begun_energy_up some energy is = begun (Shift p.state.gear to) (begun_up to p.state) (up_step some None (begun_up to p.state) (shift_among p.state to (begun_up to p.state)))
      (sym (capped_sum p.energy k.energy (spin_up_energy setup p.state.gear to) energy at.energy is))

  -- A second disk is lost in either.
  pub up_asked_lost : next_higher setup.geometry p.state.gear ≡ Some to → (two : Two) (energy : ℕ) → (energy ≡ k.energy) ⊎ (energy ≡ min (k.energy + spin_up_energy setup p.state.gear to) 18446744073709551615) → (most : ℕ) → most ≤ 2 ^ 20 → (told_then : Option Trail)
      → Ran told told_then (LosesInSteps k p.history p.low most two) → Ran told told_then (GoesOn k.slots setup p AskUp (Halted (HaltTwo two)) (IsHaltedWith p (HaltTwo two) energy))
  up_asked_lost some two energy which most few told_then = asked_lost AskUp two energy (λ e. up_not_bad e) refl refl (elim which [ inl same ↦ own_up energy same | inr after ↦ begun_energy_up some energy after ]) (up_busy told k setup p at to steady no_out some) most few told_then

  pub down_asked_lost : next_lower setup.geometry p.state.gear ≡ Some to → first_used_up setup p.state to ≡ None → (two : Two) (most : ℕ) → most ≤ 2 ^ 20 → (told_then : Option Trail)
      → Ran told told_then (LosesInSteps k p.history p.low most two) → Ran told told_then (GoesOn k.slots setup p AskDown (Halted (HaltTwo two)) (IsHaltedWith p (HaltTwo two) k.energy))
  down_asked_lost some unworn two most few told_then = asked_lost AskDown two k.energy (λ e. down_not_bad e) refl refl (own_down k.energy refl) (down_busy told k setup p at to steady no_out some unworn) most few told_then

  -- A disk that is lost with what was staged stands in the way.
  module _ (event : Event) (not_bad : event ≢ Bad) (bounds : bounds_of setup p event ≡ bounds_at setup p p.state) (e : ℕ) (starts : watch_of p event (IsOut e) ≡ w0) (none_written : accepted_write event (IsOut e) ≡ [])
      (step : IsEventStep setup p.history p.energy p.state event (Some e) (IsOut e) (after_loss p.state e))
      (k2 : Service) (synced : AreCopiesSynced k2.meta.setup.geometry.disks k2.copied) (goes_to : GoesToState k2 p.state) (named : named_out k2.meta.out ≡ Some e) (same_energy : k2.energy ≡ k.energy) (most : ℕ) (few : most ≤ 2 ^ 20) (told_then : Option Trail) where
    hindered_by : (cs : List Call) → ((t : Trail) → told_then ≡ Some t → now t ≡ run p.disks cs) → GoesInSteps k k2 p.history p.low most (IsUnderway k2 p.history p.low) p.meta w0 cs → GoesOn k.slots setup p event (IsOut e) (StandsAt told_then k2 setup) p.disks cs
    hindered_by cs tells goes = steps_turn_by told_then k k setup p event p.state at.going not_bad fit bounds ticks_fit at.same_setup refl most few cs k2 goes (IsOut e) (after_loss p.state e) starts tells
        (subst (λ (o : Option ℕ). IsEventStep setup p.history p.energy p.state event o (IsOut e) (after_loss p.state e)) (sym failed) step)
        (goes_to.lost e named) synced (capped_own p.energy k.energy 0 k2.energy at.energy at.fits refl same_energy) (let f = at.fits in omega (arith, f, same_energy))
        (λ quiet none. let z : Some e ≡ None = sym failed ∙ none in cc) (λ a. refl) none_written refl refl refl (λ is. absurd (false≢true is)) (λ x low. stands_made told k setup p at x low) no_out
      where
        failed : first_lost cs ≡ Some e
        failed = elim (goes.leaves.newly e named) [
          | inl was ↦ absurd (no_one (sym (ap named_out (sym at.state.out ∙ no_out)) ∙ was))
          | inr first ↦ first
        ]

    hindered_told : Ran told told_then (StepsInEvent k k2 p.history p.low most) → Ran told told_then (GoesOn k.slots setup p event (IsOut e) (StandsAt told_then k2 setup))
    hindered_told = asked_parts told_then (StepsInEvent k k2 p.history p.low most) (GoesOn k.slots setup p event (IsOut e) (StandsAt told_then k2 setup))
        (λ cs steps tells. hindered_by cs tells (steps p.meta w0 refl (event_underway told k setup p at)))

  pub up_hindered : next_higher setup.geometry p.state.gear ≡ Some to → (e : ℕ) (k2 : Service) → AreCopiesSynced k2.meta.setup.geometry.disks k2.copied → GoesToState k2 p.state → named_out k2.meta.out ≡ Some e → k2.energy ≡ k.energy → (most : ℕ) → most ≤ 2 ^ 20 → (told_then : Option Trail)
      → Ran told told_then (StepsInEvent k k2 p.history p.low most) → Ran told told_then (GoesOn k.slots setup p AskUp (IsOut e) (StandsAt told_then k2 setup))
  unfolding outcomes
  up_hindered some e k2 synced goes_to named same_energy most few told_then = hindered_told AskUp (λ z. let y : AskUp ≡ Bad = z in cc) refl e refl refl step k2 synced goes_to named same_energy most few told_then
    where
      step : IsEventStep setup p.history p.energy p.state AskUp (Some e) (IsOut e) (after_loss p.state e)
      step = record { among = rw (some, steady, no_out) (0, omega arith, refl) }

  pub down_hindered : next_lower setup.geometry p.state.gear ≡ Some to → first_used_up setup p.state to ≡ None → (e : ℕ) (k2 : Service) → AreCopiesSynced k2.meta.setup.geometry.disks k2.copied → GoesToState k2 p.state → named_out k2.meta.out ≡ Some e → k2.energy ≡ k.energy → (most : ℕ) → most ≤ 2 ^ 20 → (told_then : Option Trail)
      → Ran told told_then (StepsInEvent k k2 p.history p.low most) → Ran told told_then (GoesOn k.slots setup p AskDown (IsOut e) (StandsAt told_then k2 setup))
  unfolding outcomes
  down_hindered some unworn e k2 synced goes_to named same_energy most few told_then = hindered_told AskDown (λ z. let y : AskDown ≡ Bad = z in cc) refl e refl refl step k2 synced goes_to named same_energy most few told_then
    where
      step : IsEventStep setup p.history p.energy p.state AskDown (Some e) (IsOut e) (after_loss p.state e)
      step = record { among = rw (some, steady, no_out, unworn) (0, omega arith, refl) }
