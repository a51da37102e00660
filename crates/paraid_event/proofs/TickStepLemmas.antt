-- Ticks that move units of a shift, end it, or begin a shift up.
use Rattle.std.proofs.lemmas.Bool.{false≢true}
use Rattle.std.proofs.Common.{zero, suc, ◌≡◌, ℕ, ◌+◌, ◌^◌, ◌<◌, ◌≤◌, ◌⊎◌, Bool, true, false, List, [], ◌∷◌, Option, Some, None, refl, sym, ap, ◌∙◌, inl, inr, subst, arith, min, ◌≢◌}
use Rattle.std.specs.Prelude.{◌==◌, Contains, slice_index_or}
use Rattle.paraid_base.specs.declared.event.Answer.{Answer}
use Rattle.paraid_base.specs.declared.event.Answer.TheVariants.{Halted, Ticked}
use Rattle.paraid_base.specs.declared.event.Event.TheVariants.{Tick}
use Rattle.paraid_base.specs.declared.fault.Halt.TheVariants.{Two as HaltTwo}
use Rattle.paraid_base.specs.declared.fault.Two.{Two}
use Rattle.paraid_base.specs.declared.state.Out.{Out}
use Rattle.paraid_base.specs.declared.state.Out.TheVariants.{No, Gone, Fresh}
use Rattle.paraid_base.specs.declared.state.Phase.{Phase}
use Rattle.paraid_base.specs.declared.state.Phase.TheVariants.{Steady, Down, Up}
use Rattle.paraid_base.specs.declared.state.TickEvent.{TickEvent}
use Rattle.paraid_base.specs.declared.state.TickEvent.TheVariants.{Begun, Flipped, Lost, Moving}
use Rattle.paraid_base.specs.Log.{worn_at}
use Rattle.paraid_base.specs.States.{named_out}
use Rattle.paraid_gear.specs.declared.decision.Decision.{Decision}
use Rattle.paraid_gear.specs.declared.decision.Decision.TheVariants.{Up as DecideUp}
use Rattle.paraid_gear.specs.Decision.{decision}
use Rattle.paraid_rack.specs.declared.call.Call.{Call}
use Rattle.paraid_rack.specs.Disks.{Disks}
use Rattle.paraid_rack.specs.Told.{Ran}
use Rattle.paraid_rack.specs.Trail.{Trail, now, run}
use Rattle.paraid_rack.proofs.TrailsLemmas.{now-extend}
use Rattle.paraid_record.specs.declared.meta.Setup.{Setup}
use Rattle.paraid_image.specs.Power.{PowerState}
use Rattle.paraid_core.specs.CoreInvariant.{AreCopiesSynced}
use Rattle.paraid_machine.specs.Energy.{begun_energy, spin_up_energy, tick_energy}
use Rattle.paraid_machine.specs.Machine.{IsEventStep, begin_by_tick, decide, lost_within, move, outcomes, report, tick_by_out, tick_by_phase}
use Rattle.paraid_machine.specs.Moves.{after_flip, after_loss, after_unit, after_units, begun_up, first_dirty, state_with_tick, units_left, units_of_tick}
use Rattle.paraid_session.specs.Turn.{GoesOn, IsSecondLossEnergy, IsUnhurt, Point, makes_no_call, point_wear, is_begun}
use Rattle.paraid_session.specs.Turn.IsSecondLossEnergy.{begun, own}
use Rattle.paraid_session.specs.Watch.{Watch, first_lost, watch_all}
use Rattle.paraid_session.proofs.LayerLemmas.{first_fails}
use Rattle.paraid_session.specs.Resting.{watch_at}
use Rattle.paraid_event.proofs.ApartLemmas.{no_one, tick_not_bad}
use Rattle.paraid_event.specs.Moving.{EndsShift, GoesToState, MovesUnits, StartsShiftUp}
use Rattle.paraid_event.proofs.UsedLemmas.{counted_made}
use Rattle.paraid_event.specs.Service.{IsStateOf, Service}
use Rattle.paraid_event.specs.Stands.{StandsAt}
use Rattle.paraid_event.specs.Steps.{GoesInSteps, IsOnly, IsUnderway, LosesInSteps, StepsInEvent}
use Rattle.paraid_event.specs.Ticks.{CountsTick, IsHaltedWith}
use Rattle.paraid_event.proofs.EndLemmas.{only_from}
use Rattle.paraid_event.proofs.IdleLemmas.{stands_in, state_then, used}
use Rattle.paraid_event.proofs.SteppedLemmas.{steps_lost, steps_turn, other_base}
use Rattle.paraid_event.proofs.TurnLemmas.{absent_named, fresh_there, out_low}
use Rattle.paraid_event.proofs.PreludeLemmas.{some_trail}

-- units leave the gear of the state as it is
units_gear : (setup : Setup) (count : ℕ) (s : PowerState) → (after_units setup count s).gear ≡ s.gear
units_gear setup zero s = refl
units_gear setup (suc count) s = units_gear setup count (after_unit s (first_dirty setup s)) ∙ unit_gear (first_dirty setup s)
  where
    unit_gear : (o : Option ℕ) → (after_unit s o).gear ≡ s.gear
    unit_gear None = refl
    unit_gear (Some c) = refl

pub one_outcome : (outcome : Answer × PowerState) (answer : Answer) (new : PowerState) → Contains (outcome ∷ []) (answer, new) → outcome.0 ≡ answer
one_outcome outcome answer new is = by is.0 is.1 is.2
  where
    by : (x : ℕ) → x < 1 → slice_index_or (outcome ∷ []) x (answer, new) ≡ (answer, new) → outcome.0 ≡ answer
    by zero low at = ap (λ (z : Answer × PowerState). z.0) at
    by (suc x) low at = absurd (omega arith)

-- one of the later outcomes
pub later_outcome : (first : Answer × PowerState) (outcomes : List (Answer × PowerState)) (o : Answer × PowerState) → Contains outcomes o → Contains (first ∷ outcomes) o
later_outcome first outcomes o is = (suc is.0, (let l = is.1 in omega (arith, l)), is.2)

pub first_outcome : (first : Answer × PowerState) (outcomes : List (Answer × PowerState)) → Contains (first ∷ outcomes) first
first_outcome first outcomes = (0, omega arith, refl)

-- a disk is lost after some of the units
within_units : (setup : Setup) (s : PowerState) (d count most : ℕ) → count ≤ most → Contains {X = Answer × PowerState} (lost_within setup s d most) (report (after_loss (after_units setup count s) d) count (Lost d))
within_units setup s d zero zero le = first_outcome (report (after_loss s d) 0 (Lost d)) []
within_units setup s d (suc count) zero le = absurd (omega (arith, le))
within_units setup s d count (suc most) le = by (cases_le count most le) (λ less. within_units setup s d count most less)
  where
    cases_le : (a b : ℕ) → a ≤ suc b → (a ≡ suc b) ⊎ (a ≤ b)
    cases_le a b l = grind (arith)

    by : (count ≡ suc most) ⊎ (count ≤ most) → (count ≤ most → Contains {X = Answer × PowerState} (lost_within setup s d most) (report (after_loss (after_units setup count s) d) count (Lost d))) → Contains {X = Answer × PowerState} (lost_within setup s d (suc most)) (report (after_loss (after_units setup count s) d) count (Lost d))
    by (inl same) rest = subst (λ (x : ℕ). Contains {X = Answer × PowerState} (lost_within setup s d (suc most)) (report (after_loss (after_units setup x s) d) x (Lost d))) (sym same)
        (first_outcome (report (after_loss (after_units setup (suc most) s) d) (suc most) (Lost d)) (lost_within setup s d most))
    by (inr less) rest = later_outcome (report (after_loss (after_units setup (suc most) s) d) (suc most) (Lost d)) (lost_within setup s d most) (report (after_loss (after_units setup count s) d) count (Lost d)) (rest less)

capped_sum : (a b t z x y : ℕ) → a ≡ b → x ≡ min (b + t) 18446744073709551615 → y ≡ min (x + z) 18446744073709551615 → min (a + (t + z)) 18446744073709551615 ≡ y
capped_sum a b t z x y equal is last = grind (arith)

under_cap : (x a : ℕ) → x ≡ min a 18446744073709551615 → x ≤ 18446744073709551615
under_cap x a is = grind (arith)

capped_none : (x y a : ℕ) → x ≡ min a 18446744073709551615 → y ≡ x → y ≡ min (x + 0) 18446744073709551615
capped_none x y a is same = grind (arith)

pub no_name : (o : Out) → named_out o ≡ None → o ≡ No
no_name No none = refl
no_name (Gone d) none = let z : Some d ≡ None = none in cc
no_name (Fresh d u) none = let z : Some d ≡ None = none in cc

module _ (told : Option Trail) (k k1 : Service) (setup : Setup) (p : Point) (at : StandsAt told k setup p) (counts : CountsTick k k1) (fit : point_wear p < worn_at) where
  abbrev w0 : Watch
  w0 = watch_at p

  abbrev s1 : PowerState
  s1 = state_with_tick p.state

  pub tick_state : IsStateOf k1 s1
  tick_state = subst (λ (z : Service). IsStateOf z s1) (sym counts.is) (state_then told k k1 setup p at counts fit)

  -- The tick is counted, and the event is underway.
  pub tick_underway : IsUnderway k1 p.history p.low p.meta w0
  tick_underway = subst (λ (z : Service). IsUnderway z p.history p.low p.meta w0) (sym counts.is) (record {
    midway = record { stands = stands_in told k k1 setup p at counts fit; named = absent_named told k setup p at; low = out_low told k setup p at; fresh = fresh_there told k setup p at };
    only = subst (λ (o : Out). IsOnly (named_out o) w0.down) at.state.out (only_from (named_out p.state.out));
    shown = record { gear = at.shown.gear; out = at.shown.out; phase = at.shown.phase; fill = at.shown.fill; spins = at.shown.spins };
    powered = record { by_gear = at.powered.by_gear; fresh = at.powered.fresh };
  })

  setup1 : k1.meta.setup ≡ setup
  setup1 = ap (λ (z : Service). z.meta.setup) counts.is ∙ at.same_setup

  slots1 : k1.slots ≡ k.slots
  slots1 = ap (λ (z : Service). z.slots) counts.is

  ticks1 : k1.meta.ticks ≤ s1.ticks
  ticks1 = let e = tick_state.ticks in omega (arith, e)

  pub energy1 : k1.energy ≡ min (k.energy + tick_energy setup p.state) 18446744073709551615
  energy1 = used told k k1 setup p at counts fit

  pub own_energy1 : IsSecondLossEnergy setup p Tick k1.energy
  own_energy1 = own (energy1 ∙ ap (λ (e : ℕ). min (e + tick_energy setup p.state) 18446744073709551615) (sym at.energy))

  -- what a tick is answered with, by what it came to after it was counted
  module _ (k2 : Service) (event : TickEvent) (moved : ℕ) (new : PowerState) (state : IsStateOf k2 new) (synced : AreCopiesSynced k2.meta.setup.geometry.disks k2.copied)
      (energy : k2.energy ≡ min (k1.energy + begun_energy setup p.state.gear event) 18446744073709551615) (most : ℕ) (few : most ≤ 2 ^ 20) (told_then : Option Trail) where
    abbrev answer : Answer
    answer = Ticked (record { gear = k2.meta.gear; moved = moved; event = event })

    pub tick_answered : p.state.out ≡ No → makes_no_call answer ≡ false → (cs : List Call) (goes : GoesInSteps k1 k2 p.history p.low most (IsUnderway k2 p.history p.low) p.meta w0 cs) → ((t : Trail) → told_then ≡ Some t → now t ≡ run p.disks cs) → (is_begun event ≡ true → first_lost cs ≡ None → goes.base_then ≢ p.meta)
        → IsEventStep setup p.history p.energy p.state Tick (first_lost cs) answer new → GoesOn k.slots setup p Tick answer (StandsAt told_then k2 setup) p.disks cs
    tick_answered no_out busy cs goes tells begins machine = steps_turn told_then k k1 setup p Tick s1 at.going (λ e. tick_not_bad e) fit refl ticks1 setup1 slots1 most few cs k2 goes answer new refl tells machine state synced
        (capped_sum p.energy k.energy (tick_energy setup p.state) (begun_energy setup p.state.gear event) k1.energy k2.energy at.energy energy1 energy)
        (under_cap k2.energy (k1.energy + begun_energy setup p.state.gear event) energy) busy (λ a. refl) refl refl refl refl begins (λ e low. counted_made told k k1 setup p at counts e low) no_out

  -- from what is told of its parts
  pub tick_parts : (told_then : Option Trail) (Q : Disks → List Call → Type 0) (R : Disks → List Call → Type 0) → ((cs : List Call) → Q p.disks cs → ((t : Trail) → told_then ≡ Some t → now t ≡ run p.disks cs) → R p.disks cs) → Ran told told_then Q → Ran told told_then R
  tick_parts told_then Q R goes ran t tells =
      let r = ran t tells in
      let from : now r.from ≡ p.disks = at.disks r.from r.was in
      let end : now t ≡ run p.disks r.calls = ap now r.is ∙ now-extend r.from r.calls ∙ ap (λ (s : Disks). run s r.calls) from in
      record {
        from = r.from;
        was = r.was;
        calls = r.calls;
        is = r.is;
        holds = subst (λ (s : Disks). R s r.calls) (sym from) (goes r.calls (subst (λ (s : Disks). Q s r.calls) from r.holds) (λ u u_tells. ap now (some_trail u t (sym u_tells ∙ tells)) ∙ end));
      }

  pub tick_lost : (two : Two) (energy : ℕ) → IsSecondLossEnergy setup p Tick energy → ((answer : Answer) (new : PowerState) → IsUnhurt setup p Tick answer new → makes_no_call answer ≡ false)
      → (most : ℕ) → most ≤ 2 ^ 20 → (told_then : Option Trail) → Ran told told_then (LosesInSteps k1 p.history p.low most two) → Ran told told_then (GoesOn k.slots setup p Tick (Halted (HaltTwo two)) (IsHaltedWith p (HaltTwo two) energy))
  tick_lost two energy is busy most few told_then = tick_parts told_then (LosesInSteps k1 p.history p.low most two) (GoesOn k.slots setup p Tick (Halted (HaltTwo two)) (IsHaltedWith p (HaltTwo two) energy))
      (λ cs loses tells. let x = loses p.meta w0 refl tick_underway in
      steps_lost told_then k k1 setup p Tick s1 at.going (λ e. tick_not_bad e) fit refl ticks1 setup1 slots1 most few cs two energy refl (sym tick_state.out) x.0 x.1 busy is)

  -- no disk fails where none is out then, and one that is out then is the first that failed
  module _ (k2 : Service) (most : ℕ) (cs : List Call) (goes : GoesInSteps k1 k2 p.history p.low most (IsUnderway k2 p.history p.low) p.meta w0 cs) (no_out : p.state.out ≡ No) where
    pub none_lost : k2.meta.out ≡ No → first_lost cs ≡ None
    none_lost whole = by (first_lost cs) refl
      where
        by : (o : Option ℕ) → first_lost cs ≡ o → first_lost cs ≡ None
        by None is = is
        by (Some e) is = absurd (no_one (sym (ap named_out whole) ∙ goes.leaves.failed e (first_fails cs e is)))

    pub lost_named : (d : ℕ) → named_out k2.meta.out ≡ Some d → first_lost cs ≡ Some d
    lost_named d named = elim (goes.leaves.newly d named) [
      | inl was ↦ absurd (no_one (sym (ap named_out (sym tick_state.out ∙ no_out)) ∙ was))
      | inr first ↦ first
    ]

  -- A shift is under way.
  module _ (no_out : p.state.out ≡ No) (shifts : p.state.phase ≡ Steady → ⊥) where
    abbrev count : ℕ
    count = units_of_tick setup s1

    abbrev ended : Bool
    ended = count == units_left setup s1

    by_phase : (loss : Option ℕ) (o : Answer × PowerState) → Contains {X = Answer × PowerState} (move setup loss s1 count ended) o → (phase : Phase) → p.state.phase ≡ phase → Contains {X = Answer × PowerState} (tick_by_phase setup loss s1 phase) o
    by_phase loss o is Steady same = absurd (shifts same)
    by_phase loss o is (Down to) same = is
    by_phase loss o is (Up to) same = is

    moved_step : (loss : Option ℕ) (answer : Answer) (new : PowerState) → Contains {X = Answer × PowerState} (move setup loss s1 count ended) (answer, new) → IsEventStep setup p.history p.energy p.state Tick loss answer new
    unfolding outcomes
    moved_step loss answer new is = record {
      among = subst (λ (o : Out). Contains {X = Answer × PowerState} (tick_by_out setup loss s1 o) (answer, new)) (sym no_out) (by_phase loss (answer, new) is p.state.phase refl);
    }

    move_busy : (answer : Answer) (new : PowerState) → IsUnhurt setup p Tick answer new → makes_no_call answer ≡ false
    unfolding outcomes
    move_busy answer new is = in_phase p.state.phase refl (subst (λ (o : Out). Contains {X = Answer × PowerState} (tick_by_out setup None s1 o) (answer, new)) no_out is.among)
      where
        by_end : (t : Bool) → Contains {X = Answer × PowerState} (move setup None s1 count t) (answer, new) → makes_no_call answer ≡ false
        by_end true there = ap makes_no_call (sym (one_outcome (report (after_flip (after_units setup count s1)) count Flipped) answer new there))
        by_end false there = ap makes_no_call (sym (one_outcome (report (after_units setup count s1) count Moving) answer new there))

        in_phase : (phase : Phase) → p.state.phase ≡ phase → Contains {X = Answer × PowerState} (tick_by_phase setup None s1 phase) (answer, new) → makes_no_call answer ≡ false
        in_phase Steady same there = absurd (shifts same)
        in_phase (Down to) same there = by_end ended there
        in_phase (Up to) same there = by_end ended there

    module _ (k2 : Service) (synced : AreCopiesSynced k2.meta.setup.geometry.disks k2.copied) (same_energy : k2.energy ≡ k1.energy) (most : ℕ) (few : most ≤ 2 ^ 20) (told_then : Option Trail) where
      energy2 : k2.energy ≡ min (k1.energy + 0) 18446744073709551615
      energy2 = capped_none k1.energy k2.energy (k.energy + tick_energy setup p.state) energy1 same_energy

      units_state : (m : ℕ) → MovesUnits k1 k2 m → GoesToState k2 (after_units setup m s1)
      units_state m moves = subst (λ (z : Setup). GoesToState k2 (after_units z m s1)) setup1 (moves.moved s1 tick_state)

      flipped_state : (m : ℕ) → EndsShift k1 k2 m → GoesToState k2 (after_flip (after_units setup m s1))
      flipped_state m ends = subst (λ (z : Setup). GoesToState k2 (after_flip (after_units z m s1))) setup1 (ends.moved s1 tick_state)

      -- Units are moved, and more are left.
      pub units_turn : MovesUnits k1 k2 count → k2.meta.out ≡ No → ended ≡ false → Ran told told_then (StepsInEvent k1 k2 p.history p.low most)
          → Ran told told_then (GoesOn k.slots setup p Tick (Ticked (record { gear = k2.meta.gear; moved = count; event = Moving })) (StandsAt told_then k2 setup))
      units_turn moves whole left = tick_parts told_then (StepsInEvent k1 k2 p.history p.low most) (GoesOn k.slots setup p Tick (Ticked (record { gear = k2.meta.gear; moved = count; event = Moving })) (StandsAt told_then k2 setup))
          (λ cs steps tells. let goes = steps p.meta w0 refl tick_underway in tick_answered k2 Moving count (after_units setup count s1) state synced energy2 most few told_then no_out refl cs goes tells (λ is. absurd (false≢true is))
          (moved_step (first_lost cs) (Ticked (record { gear = k2.meta.gear; moved = count; event = Moving })) (after_units setup count s1)
          (subst (λ (o : Option ℕ). Contains {X = Answer × PowerState} (move setup o s1 count ended) (Ticked (record { gear = k2.meta.gear; moved = count; event = Moving }), after_units setup count s1)) (sym (none_lost k2 most cs goes no_out whole)) among)))
        where
          state : IsStateOf k2 (after_units setup count s1)
          state = (units_state count moves).whole whole

          among : Contains {X = Answer × PowerState} (move setup None s1 count ended) (Ticked (record { gear = k2.meta.gear; moved = count; event = Moving }), after_units setup count s1)
          among = subst (λ (t : Bool). Contains {X = Answer × PowerState} (move setup None s1 count t) (Ticked (record { gear = k2.meta.gear; moved = count; event = Moving }), after_units setup count s1)) (sym left)
              (subst (λ (g : ℕ). Contains {X = Answer × PowerState} (report (after_units setup count s1) count Moving ∷ []) (Ticked (record { gear = g; moved = count; event = Moving }), after_units setup count s1)) state.gear
              (first_outcome (report (after_units setup count s1) count Moving) []))

      -- A disk is lost after some of them.
      pub lost_turn : (m d : ℕ) → MovesUnits k1 k2 m → m ≤ count → named_out k2.meta.out ≡ Some d → Ran told told_then (StepsInEvent k1 k2 p.history p.low most)
          → Ran told told_then (GoesOn k.slots setup p Tick (Ticked (record { gear = k2.meta.gear; moved = m; event = Lost d })) (StandsAt told_then k2 setup))
      lost_turn m d moves le named = tick_parts told_then (StepsInEvent k1 k2 p.history p.low most) (GoesOn k.slots setup p Tick (Ticked (record { gear = k2.meta.gear; moved = m; event = Lost d })) (StandsAt told_then k2 setup))
          (λ cs steps tells. let goes = steps p.meta w0 refl tick_underway in tick_answered k2 (Lost d) m (after_loss (after_units setup m s1) d) state synced energy2 most few told_then no_out refl cs goes tells (λ is. absurd (false≢true is))
          (moved_step (first_lost cs) (Ticked (record { gear = k2.meta.gear; moved = m; event = Lost d })) (after_loss (after_units setup m s1) d)
          (subst (λ (o : Option ℕ). Contains {X = Answer × PowerState} (move setup o s1 count ended) (Ticked (record { gear = k2.meta.gear; moved = m; event = Lost d }), after_loss (after_units setup m s1) d)) (sym (lost_named k2 most cs goes no_out d named)) (among ended))))
        where
          state : IsStateOf k2 (after_loss (after_units setup m s1) d)
          state = (units_state m moves).lost d named

          within : Contains {X = Answer × PowerState} (lost_within setup s1 d count) (Ticked (record { gear = k2.meta.gear; moved = m; event = Lost d }), after_loss (after_units setup m s1) d)
          within = subst (λ (g : ℕ). Contains {X = Answer × PowerState} (lost_within setup s1 d count) (Ticked (record { gear = g; moved = m; event = Lost d }), after_loss (after_units setup m s1) d)) state.gear
              (within_units setup s1 d m count le)

          among : (t : Bool) → Contains {X = Answer × PowerState} (move setup (Some d) s1 count t) (Ticked (record { gear = k2.meta.gear; moved = m; event = Lost d }), after_loss (after_units setup m s1) d)
          among true = later_outcome (report (after_loss (after_flip (after_units setup count s1)) d) count Flipped) (lost_within setup s1 d count) (Ticked (record { gear = k2.meta.gear; moved = m; event = Lost d }), after_loss (after_units setup m s1) d) within
          among false = within

      -- The shift ends with them; a disk may be lost in that.
      pub flipped_turn : EndsShift k1 k2 count → ended ≡ true → Ran told told_then (StepsInEvent k1 k2 p.history p.low most)
          → Ran told told_then (GoesOn k.slots setup p Tick (Ticked (record { gear = k2.meta.gear; moved = count; event = Flipped })) (StandsAt told_then k2 setup))
      flipped_turn ends last = tick_parts told_then (StepsInEvent k1 k2 p.history p.low most) (GoesOn k.slots setup p Tick (Ticked (record { gear = k2.meta.gear; moved = count; event = Flipped })) (StandsAt told_then k2 setup))
          (λ cs steps tells. by_out cs tells (steps p.meta w0 refl tick_underway) k2.meta.out refl)
        where
          among : (loss : Option ℕ) (new : PowerState) → new.gear ≡ k2.meta.gear → Contains {X = Answer × PowerState} (move setup loss s1 count true) (report new count Flipped) → Contains {X = Answer × PowerState} (move setup loss s1 count ended) (Ticked (record { gear = k2.meta.gear; moved = count; event = Flipped }), new)
          among loss new gear is = subst (λ (t : Bool). Contains {X = Answer × PowerState} (move setup loss s1 count t) (Ticked (record { gear = k2.meta.gear; moved = count; event = Flipped }), new)) (sym last)
              (subst (λ (g : ℕ). Contains {X = Answer × PowerState} (move setup loss s1 count true) (Ticked (record { gear = g; moved = count; event = Flipped }), new)) gear is)

          by_out : (cs : List Call) → ((t : Trail) → told_then ≡ Some t → now t ≡ run p.disks cs) → GoesInSteps k1 k2 p.history p.low most (IsUnderway k2 p.history p.low) p.meta w0 cs → (o : Out) → k2.meta.out ≡ o
              → GoesOn k.slots setup p Tick (Ticked (record { gear = k2.meta.gear; moved = count; event = Flipped })) (StandsAt told_then k2 setup) p.disks cs
          by_out cs tells goes o is = by_name (named_out k2.meta.out) refl
            where
              turn_to : (new : PowerState) (loss : Option ℕ) → first_lost cs ≡ loss → IsStateOf k2 new → Contains {X = Answer × PowerState} (move setup loss s1 count true) (report new count Flipped) → GoesOn k.slots setup p Tick (Ticked (record { gear = k2.meta.gear; moved = count; event = Flipped })) (StandsAt told_then k2 setup) p.disks cs
              turn_to new loss first state is = tick_answered k2 Flipped count new state synced energy2 most few told_then no_out refl cs goes tells (λ is. absurd (false≢true is))
                  (moved_step (first_lost cs) (Ticked (record { gear = k2.meta.gear; moved = count; event = Flipped })) new (subst (λ (l : Option ℕ). Contains {X = Answer × PowerState} (move setup l s1 count ended) (Ticked (record { gear = k2.meta.gear; moved = count; event = Flipped }), new)) (sym first) (among loss new state.gear is)))

              by_name : (n : Option ℕ) → named_out k2.meta.out ≡ n → GoesOn k.slots setup p Tick (Ticked (record { gear = k2.meta.gear; moved = count; event = Flipped })) (StandsAt told_then k2 setup) p.disks cs
              by_name None none = let whole = no_name k2.meta.out none in
                  turn_to (after_flip (after_units setup count s1)) None (none_lost k2 most cs goes no_out whole) ((flipped_state count ends).whole whole) (first_outcome (report (after_flip (after_units setup count s1)) count Flipped) [])
              by_name (Some d) named =
                  turn_to (after_loss (after_flip (after_units setup count s1)) d) (Some d) (lost_named k2 most cs goes no_out d named) ((flipped_state count ends).lost d named)
                  (first_outcome (report (after_loss (after_flip (after_units setup count s1)) d) count Flipped) (lost_within setup s1 d count))

    -- A second disk is lost in it.
    pub move_lost : (two : Two) (most : ℕ) → most ≤ 2 ^ 20 → (told_then : Option Trail) → Ran told told_then (LosesInSteps k1 p.history p.low most two)
        → Ran told told_then (GoesOn k.slots setup p Tick (Halted (HaltTwo two)) (IsHaltedWith p (HaltTwo two) k1.energy))
    move_lost two most few told_then = tick_lost two k1.energy own_energy1 move_busy most few told_then

  -- A shift up begins.
  module _ (no_out : p.state.out ≡ No) (steady : p.state.phase ≡ Steady) (to : ℕ) (up : decision setup p.state.gear s1.samples ≡ DecideUp to) where
    begun_step : (loss : Option ℕ) (answer : Answer) (new : PowerState) → Contains {X = Answer × PowerState} (begin_by_tick loss (begun_up to s1) to) (answer, new) → IsEventStep setup p.history p.energy p.state Tick loss answer new
    unfolding outcomes
    begun_step loss answer new is = record {
      among = subst (λ (o : Out). Contains {X = Answer × PowerState} (tick_by_out setup loss s1 o) (answer, new)) (sym no_out)
          (subst (λ (x : Phase). Contains {X = Answer × PowerState} (tick_by_phase setup loss s1 x) (answer, new)) (sym steady)
          (subst (λ (x : Decision). Contains {X = Answer × PowerState} (decide setup loss s1 x) (answer, new)) (sym up) is));
    }

    begin_busy : (answer : Answer) (new : PowerState) → IsUnhurt setup p Tick answer new → makes_no_call answer ≡ false
    unfolding outcomes
    begin_busy answer new is =
        let none_out = subst (λ (o : Out). Contains {X = Answer × PowerState} (tick_by_out setup None s1 o) (answer, new)) no_out is.among in
        let in_phase = subst (λ (x : Phase). Contains {X = Answer × PowerState} (tick_by_phase setup None s1 x) (answer, new)) steady none_out in
        let decided = subst (λ (x : Decision). Contains {X = Answer × PowerState} (decide setup None s1 x) (answer, new)) up in_phase in
        ap makes_no_call (sym (one_outcome (report (begun_up to s1) 0 (Begun to)) answer new decided))

    module _ (k2 : Service) (synced : AreCopiesSynced k2.meta.setup.geometry.disks k2.copied) (starts : StartsShiftUp k1 k2 to) (energy : k2.energy ≡ min (k1.energy + spin_up_energy setup p.state.gear to) 18446744073709551615)
        (most : ℕ) (few : most ≤ 2 ^ 20) (told_then : Option Trail) where
      abbrev up_answer : Answer
      up_answer = Ticked (record { gear = k2.meta.gear; moved = 0; event = Begun to })

      up_among : (loss : Option ℕ) (new : PowerState) → new.gear ≡ k2.meta.gear → Contains {X = Answer × PowerState} (begin_by_tick loss (begun_up to s1) to) (report new 0 (Begun to)) → Contains {X = Answer × PowerState} (begin_by_tick loss (begun_up to s1) to) (up_answer, new)
      up_among loss new gear is = subst (λ (g : ℕ). Contains {X = Answer × PowerState} (begin_by_tick loss (begun_up to s1) to) (Ticked (record { gear = g; moved = 0; event = Begun to }), new)) gear is

      up_by : (cs : List Call) → ((t : Trail) → told_then ≡ Some t → now t ≡ run p.disks cs) → GoesInSteps k1 k2 p.history p.low most (IsUnderway k2 p.history p.low) p.meta w0 cs → GoesOn k.slots setup p Tick up_answer (StandsAt told_then k2 setup) p.disks cs
      up_by cs tells goes = by_name (named_out k2.meta.out) refl
        where
          turn_to : (new : PowerState) (loss : Option ℕ) → first_lost cs ≡ loss → IsStateOf k2 new → (first_lost cs ≡ None → new.phase ≢ Steady) → Contains {X = Answer × PowerState} (begin_by_tick loss (begun_up to s1) to) (report new 0 (Begun to)) → GoesOn k.slots setup p Tick up_answer (StandsAt told_then k2 setup) p.disks cs
          turn_to new loss first state shifts is = tick_answered k2 (Begun to) 0 new state synced energy most few told_then no_out refl cs goes tells
              (λ begun none. other_base p.meta k.meta goes.base_then k2.meta p.disks.power (watch_all cs w0).disks.power at.shown goes.ends.shown (sym at.state.out ∙ no_out) (sym at.state.phase ∙ steady) (λ still. shifts none (state.phase ∙ still)))
              (begun_step (first_lost cs) up_answer new (subst (λ (l : Option ℕ). Contains {X = Answer × PowerState} (begin_by_tick l (begun_up to s1) to) (up_answer, new)) (sym first) (up_among loss new state.gear is)))

          by_name : (n : Option ℕ) → named_out k2.meta.out ≡ n → GoesOn k.slots setup p Tick up_answer (StandsAt told_then k2 setup) p.disks cs
          by_name None none = let whole = no_name k2.meta.out none in
              turn_to (begun_up to s1) None (none_lost k2 most cs goes no_out whole) ((starts.begun s1 tick_state).whole whole) (λ first up. let z : Up to ≡ Steady = up in cc) (first_outcome (report (begun_up to s1) 0 (Begun to)) [])
          by_name (Some d) named =
              turn_to (after_loss (begun_up to s1) d) (Some d) (lost_named k2 most cs goes no_out d named) ((starts.begun s1 tick_state).lost d named) (λ first. absurd (no_one (sym first ∙ lost_named k2 most cs goes no_out d named))) (first_outcome (report (after_loss (begun_up to s1) d) 0 (Begun to)) [])

      pub up_turn : Ran told told_then (StepsInEvent k1 k2 p.history p.low most) → Ran told told_then (GoesOn k.slots setup p Tick up_answer (StandsAt told_then k2 setup))
      up_turn = tick_parts told_then (StepsInEvent k1 k2 p.history p.low most) (GoesOn k.slots setup p Tick up_answer (StandsAt told_then k2 setup)) (λ cs steps tells. up_by cs tells (steps p.meta w0 refl tick_underway))

    up_energy : (energy : ℕ) → energy ≡ min (k1.energy + spin_up_energy setup p.state.gear to) 18446744073709551615 → IsSecondLossEnergy setup p Tick energy
    up_energy energy is = begun (report (begun_up to s1) 0 (Begun to)).0 (begun_up to s1) (begun_step None (report (begun_up to s1) 0 (Begun to)).0 (begun_up to s1) (first_outcome (report (begun_up to s1) 0 (Begun to)) []))
        (sym (capped_sum p.energy k.energy (tick_energy setup p.state) (spin_up_energy setup p.state.gear to) k1.energy energy at.energy energy1 is))

    -- A second disk is lost in it, before the spin-ups have used their energy or after it.
    pub up_lost : (two : Two) (energy : ℕ) → (energy ≡ k1.energy) ⊎ (energy ≡ min (k1.energy + spin_up_energy setup p.state.gear to) 18446744073709551615) → (most : ℕ) → most ≤ 2 ^ 20 → (told_then : Option Trail)
        → Ran told told_then (LosesInSteps k1 p.history p.low most two) → Ran told told_then (GoesOn k.slots setup p Tick (Halted (HaltTwo two)) (IsHaltedWith p (HaltTwo two) energy))
    up_lost two energy which most few told_then = tick_lost two energy (elim which [ inl own_energy ↦ subst (IsSecondLossEnergy setup p Tick) (sym own_energy) own_energy1 | inr after ↦ up_energy energy after ]) begin_busy most few told_then
