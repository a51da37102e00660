-- The ticks of an array over a core, as turns of a session.
use Rattle.std.specs.Prelude.{◌≡◌, ◌≢◌, ℕ, ◌+◌, ◌-◌, ◌*◌, ◌^◌, ◌<◌, ◌≤◌, ◌⊎◌, ◌==◌, ◌&&◌, nat_le, nat_lt, min, Bool, true, false, List, [], ◌∷◌, length, Option, Some, None, slice_index, if◌then◌else◌}
use Rattle.std.proofs.Common.{refl, sym, ◌∙◌, ap, subst, arith, inl, inr, zero, suc}
use Rattle.std.proofs.lemmas.Bool.Decides.{nat_tests}
use Rattle.paraid_base.specs.declared.event.Answer.TheVariants.{Halted, Ticked}
use Rattle.paraid_base.specs.declared.event.Event.TheVariants.{Tick}
use Rattle.paraid_base.specs.declared.fault.Halt.TheVariants.{Two as HaltTwo}
use Rattle.paraid_base.specs.declared.fault.Two.{Two}
use Rattle.paraid_base.specs.declared.geometry.Geometry.{Geometry}
use Rattle.paraid_base.specs.declared.state.GearReport.{GearReport}
use Rattle.paraid_base.specs.declared.state.Out.{Out}
use Rattle.paraid_base.specs.declared.state.Out.TheVariants.{Fresh, Gone, No}
use Rattle.paraid_base.specs.declared.state.Phase.{Phase}
use Rattle.paraid_base.specs.declared.state.Phase.TheVariants.{Down, Steady, Up}
use Rattle.paraid_base.specs.declared.state.TickEvent.{TickEvent}
use Rattle.paraid_base.specs.declared.state.TickEvent.TheVariants.{Begun, Flipped, Lost, Moving, Ration as RationTick, Steady as TickSteady, Waiting}
use Rattle.paraid_base.specs.Gears.{next_higher, next_lower}
use Rattle.paraid_base.specs.History.{History}
use Rattle.paraid_base.specs.Log.{worn_at}
use Rattle.paraid_base.specs.States.{named_out, phase_to}
use Rattle.paraid_gear.specs.declared.decision.Decision.{Decision}
use Rattle.paraid_gear.specs.declared.decision.Decision.TheVariants.{Down as DecideDown, Stay, Up as DecideUp}
use Rattle.paraid_gear.specs.Decision.{decision}
use Rattle.paraid_rack.specs.declared.call.Call.{Call}
use Rattle.paraid_rack.specs.Disks.{Disks}
use Rattle.paraid_rack.specs.Slots.{Slot}
use Rattle.paraid_rack.specs.Told.{Ran}
use Rattle.paraid_rack.specs.Trail.{Trail}
use Rattle.paraid_record.specs.declared.meta.Meta.{Meta}
use Rattle.paraid_record.specs.declared.meta.Mode.{Mode}
use Rattle.paraid_record.specs.declared.meta.Mode.TheVariants.{Access, Whole}
use Rattle.paraid_record.specs.declared.meta.Setup.{Setup}
use Rattle.paraid_record.specs.Range.{IsInRange, IsPhaseInRange}
use Rattle.paraid_image.specs.Power.{PowerState}
use Rattle.paraid_image.specs.Mark.{meta_with_lost}
use Rattle.paraid_dirty.specs.Table.{is_dirty}
use Rattle.paraid_moves.specs.MoveMetas.{meta_after_begin, meta_flipped_to}
use Rattle.paraid_txn.specs.Stores.{store_rack}
use Rattle.paraid_core.specs.declared.staged.Core.{Core}
use Rattle.paraid_core.specs.CoreInvariant.{AreCopiesSynced}
use Rattle.paraid_core.specs.Steps.{IsMarkedFrom, IsNamedOrAbsent}
use Rattle.paraid_machine.specs.Energy.{begun_energy, spin_up_energy, tick_energy}
use Rattle.paraid_machine.specs.Machine.{report}
use Rattle.paraid_machine.specs.Moves.{after_unit, after_units, first_dirty, first_used_up, state_with_tick, units_by, units_left, units_of_tick, with_spin_ups, with_spins}
use Rattle.paraid_session.specs.Turn.{GoesOn, Point, point_wear}
use Rattle.paraid_session.specs.Watch.{Watch, watch_all}
use Rattle.paraid_event.specs.Moving.{EndsShift, GoesToState, MovesUnits}
use Rattle.paraid_event.specs.Service.{IsStateOf, Service, service_of}
use Rattle.paraid_event.specs.Stands.{StandsAt}
use Rattle.paraid_event.specs.Steps.{IsUnderway, StepsInEvent, StepsToMark}
use Rattle.paraid_event.specs.Ticks.{CountsTick, IsHaltedWith}
use Rattle.paraid_event.proofs.IdleLemmas.{ration_turn, steady_turn, waiting_turn}
use Rattle.paraid_event.proofs.RoomLemmas.{tick_room}
use Rattle.paraid_event.proofs.StateLemmas.{ends_shift, starts_down, starts_up}
use Rattle.paraid_event.proofs.StepLemmas.{ran_then}
use Rattle.paraid_event.proofs.TickDownStepLemmas.{down_lost, down_turn}
use Rattle.paraid_event.proofs.TickStepLemmas.{flipped_turn, lost_turn, move_lost, tick_state, units_turn, up_lost, up_turn}
use Rattle.paraid_shift.specs.Rising.{HasBegunUp}
use Rattle.paraid_shift.specs.Steps.{CoreLosesInSteps, CoreStepsInEvent, EndsInSteps, EndsLosing, StepsOrWaits}
use Rattle.paraid_shift.specs.Units.{AreUnitsDone, CountsMoved, MovesUpTo, TellsDone}
use Rattle.paraid_shift.proofs.UnitLemmas.{done_left}
use Rattle.paraid_shift.proofs.WaitLemmas.{either_waits}
use Rattle.paraid_upkeep.specs.Refusals.{IsDownRefused, IsShiftStateOf, MayGoDown, MayGoUp}
use Rattle.paraid_upkeep.specs.Service.{IsOutKnown}
use Rattle.paraid_upkeep.specs.TickTurns.{AreUnitsOfTick}
use Rattle.paraid_upkeep.specs.declared.fault.ShiftFault.{ShiftFault}
use Rattle.paraid_upkeep.specs.declared.fault.ShiftFault.TheVariants.{Ration}
use Rattle.paraid_upkeep.proofs.DecisionLemmas.{decided_down, decided_up, down_worn_only}
use Rattle.paraid_upkeep.proofs.OutLemmas.{known_gone, known_whole}

-- the mark of a commit, with the counts as they are then
pub marked_then : (m new : Meta) (e : ℕ) (marked : IsMarkedFrom (record m { epoch = e }) new) → new ≡ record (meta_with_lost marked.lost m) { epoch = e; writes = m.writes }
marked_then m new e marked = marked.is ∙ by marked.lost
  where
    by : (o : Option ℕ) → meta_with_lost o (record m { epoch = e }) ≡ record (meta_with_lost o m) { epoch = e; writes = m.writes }
    by None = refl
    by (Some d) = refl

-- it leaves the spin-ups as they are
marked_spins : (m new : Meta) → IsMarkedFrom m new → new.spins ≡ m.spins
marked_spins m new marked = ap (λ (z : Meta). z.spins) marked.is ∙ by marked.lost
  where
    by : (o : Option ℕ) → (meta_with_lost o m).spins ≡ m.spins
    by None = refl
    by (Some d) = refl

-- a count that stays at the greatest number
still_capped : (x a z : ℕ) → x ≡ min a 18446744073709551615 → z ≡ 0 → x ≡ min (x + z) 18446744073709551615
still_capped x a z is none = grind (arith)

no_spin_ups : (mj to gear : ℕ) → to < gear → mj * (to - gear) ≡ 0
no_spin_ups mj to gear l = let e : to - gear ≡ 0 = omega (arith, l) in rw e (zero_times mj)
  where
    zero_times : (a : ℕ) → a * 0 ≡ 0
    zero_times a = grind (arith)

same_gear : (x y : ℕ) (o : Option ℕ) → o ≡ Some x → o ≡ Some y → x ≡ y
same_gear x y o is was = let z : Some x ≡ Some y = sym is ∙ was in cc

abbrev one_more : ℕ → ℕ → ℕ → ℕ → ℕ
one_more lo hi d count = if nat_le lo d && nat_lt d hi then count + 1 else count

-- spin-ups of which those of the disks that come up are one more
spun_up : (lo hi : ℕ) (a b : List ℕ) → length a ≡ length b → ((d : ℕ) → lo ≤ d → d < hi → slice_index a d ≡ slice_index b d + 1)
    → ((d : ℕ) → (d < lo) ⊎ (hi ≤ d) → slice_index a d ≡ slice_index b d) → a ≡ with_spin_ups lo hi b
spun_up lo hi a b many raised others = go 0 a b many (λ e. by e (nat_le lo e) refl (nat_lt e hi) refl ∙ ap (λ (z : ℕ). one_more lo hi z (slice_index b e)) (let x : e ≡ 0 + e = omega arith in x))
  where
    from : (x y : ℕ) → nat_le x y ≡ true → x ≤ y
    from x y t = grind (arith, nat_tests)

    not_from : (x y : ℕ) → nat_le x y ≡ false → y < x
    not_from x y t = grind (arith, nat_tests)

    below : (x y : ℕ) → nat_lt x y ≡ true → x < y
    below x y t = grind (arith, nat_tests)

    not_below : (x y : ℕ) → nat_lt x y ≡ false → y ≤ x
    not_below x y t = grind (arith, nat_tests)

    by : (e : ℕ) (t : Bool) → nat_le lo e ≡ t → (u : Bool) → nat_lt e hi ≡ u → slice_index a e ≡ (if t && u then slice_index b e + 1 else slice_index b e)
    by e true low true high = raised e (from lo e low) (below e hi high)
    by e true low false high = others e (inr (not_below e hi high))
    by e false low true high = others e (inl (not_from lo e low))
    by e false low false high = others e (inl (not_from lo e low))

    first : (at x y : ℕ) → x ≡ one_more lo hi (at + 0) y → x ≡ one_more lo hi at y
    first at x y is = is ∙ ap (λ (z : ℕ). one_more lo hi z y) (let e : at + 0 ≡ at = omega arith in e)

    later : (at i x y : ℕ) → x ≡ one_more lo hi (at + suc i) y → x ≡ one_more lo hi (suc at + i) y
    later at i x y is = is ∙ ap (λ (z : ℕ). one_more lo hi z y) (let e : at + suc i ≡ suc at + i = omega arith in e)

    go : (at : ℕ) (x y : List ℕ) → length x ≡ length y → ((i : ℕ) → slice_index x i ≡ one_more lo hi (at + i) (slice_index y i)) → x ≡ with_spins (one_more lo hi) at y
    go at [] [] l same = refl
    go at [] (v ∷ y) l same = absurd (omega (arith, l))
    go at (u ∷ x) [] l same = absurd (omega (arith, l))
    go at (u ∷ x) (v ∷ y) l same =
        let head : u ≡ one_more lo hi at v = first at u v (same 0) in
        let tail : x ≡ with_spins (one_more lo hi) (suc at) y = go (suc at) x y (omega (arith, l)) (λ i. later at i (slice_index x i) (slice_index y i) (same (suc i))) in
        ap (λ (z : ℕ). z ∷ x) head ∙ ap (λ (z : List ℕ). one_more lo hi at v ∷ z) tail

-- the spin-ups that a shift up has counted
begun_spins : (m new : Meta) (to : ℕ) (begun : HasBegunUp m new to) → IsInRange m → IsInRange new → begun.spins ≡ with_spin_ups m.gear to m.spins
begun_spins m new to begun range range_then =
    spun_up m.gear to begun.spins m.spins
    (ap length (sym (marked_spins (record (meta_after_begin m (Up to) begun.spins) { epoch = m.epoch + 1 }) new begun.is)) ∙ range_then.eight ∙ sym range.eight) begun.raised begun.others

-- after a commit in which a disk may be lost, with none out before
pub known_marked : {R : Type 0} {g : _} (slot : R → ℕ → Slot) (m : Meta) (b : Core R g) → IsMarkedFrom m b.meta → m.out ≡ No → IsNamedOrAbsent slot b → IsOutKnown slot b
known_marked slot m b marked whole absent = by marked.lost refl
  where
    by : (o : Option ℕ) → marked.lost ≡ o → IsOutKnown slot b
    by None is = known_whole slot b (ap (λ (z : Meta). z.out) (marked.is ∙ ap (λ (o : Option ℕ). meta_with_lost o m) is) ∙ whole)
    by (Some d) is = known_gone slot b d (ap (λ (z : Meta). z.out) (marked.is ∙ ap (λ (o : Option ℕ). meta_with_lost o m) is)) absent

-- a disk that is told as gone or fresh is named
pub out_told : (o out : Out) (d : ℕ) → o ≡ out → (o ≡ Gone d) ⊎ ((u : ℕ) × (o ≡ Fresh d u)) → named_out out ≡ Some d
out_told o out d same (inl gone) = ap named_out (sym same ∙ gone)
out_told o out d same (inr fresh) = ap named_out (sym same ∙ fresh.1)

-- The energy that is counted takes no part in an event that is underway.
underway_counted : (k : Service) (e : ℕ) (h : History) (lo : ℕ) (base : Meta) (w : Watch) → IsUnderway k h lo base w → IsUnderway (record k { energy = e }) h lo base w
underway_counted k e h lo base w it = record {
  midway = record {
    stands = record {
      keeps = it.midway.stands.keeps;
      is_base = it.midway.stands.is_base;
      absent_down = it.midway.stands.absent_down;
      named_down = it.midway.stands.named_down;
      stays = it.midway.stands.stays;
      recorded = it.midway.stands.recorded;
      recorded_next = it.midway.stands.recorded_next;
      awaited = it.midway.stands.awaited;
      ticks = it.midway.stands.ticks;
    };
    named = it.midway.named;
    low = it.midway.low;
    fresh = it.midway.fresh;
  };
  only = it.only;
  shown = it.shown;
  powered = it.powered;
}

steps_counted : (k j : Service) (e : ℕ) (h : History) (lo most : ℕ) (s : Disks) (cs : List Call) → StepsInEvent k j h lo most s cs → StepsInEvent k (record j { energy = e }) h lo most s cs
steps_counted k j e h lo most s cs steps base w same at =
    let goes = steps base w same at in
    record {
      calls = goes.calls;
      leaves = record {
        slots = goes.leaves.slots;
        setup = goes.leaves.setup;
        ticks = goes.leaves.ticks;
        failed = goes.leaves.failed;
        still = goes.leaves.still;
        newly = goes.leaves.newly;
        awaited = goes.leaves.awaited;
        used = goes.leaves.used;
      };
      base_then = goes.base_then;
      room = goes.room;
      carried = goes.carried;
      ends = underway_counted j e h lo goes.base_then (watch_all cs w) goes.ends;
    }

-- the state that a service shows
abbrev pub shown_state : Service → PowerState
shown_state k = record {
  gear = k.meta.gear;
  phase = k.meta.phase;
  dirty = is_dirty k.table;
  fill = k.meta.fill;
  out = k.meta.out;
  spins = k.meta.spins;
  ticks = k.meta.ticks;
  samples = k.samples;
  served = k.served;
}

pub state_shown : (k : Service) → IsStateOf k (shown_state k)
state_shown k = record { gear = refl; phase = refl; fill = refl; out = refl; spins = refl; ticks = refl; dirty = λ r d low. refl; samples = refl; served = refl }

-- units leave the phase as it is
units_phase : (setup : Setup) (count : ℕ) (s : PowerState) → (after_units setup count s).phase ≡ s.phase
units_phase setup zero s = refl
units_phase setup (suc count) s = units_phase setup count (after_unit s (first_dirty setup s)) ∙ by (first_dirty setup s)
  where
    by : (o : Option ℕ) → (after_unit s o).phase ≡ s.phase
    by None = refl
    by (Some c) = refl

-- a shift goes to some gear
phase_some : (g : Geometry) (gear : ℕ) (phase : Phase) → IsPhaseInRange g gear phase → phase ≢ Steady → 0 < phase_to phase
phase_some g gear Steady is not = absurd (not refl)
phase_some g gear (Down to) is not = let l = g.gears_low to is.lower_gear in omega (arith, l)
phase_some g gear (Up to) is not = let l = g.gears_low to is.higher_gear in omega (arith, l)

lesser : (a b : ℕ) → min a b ≤ b
lesser a b = grind (arith)

-- a tick moves at most what is left
within_left : (mode : Mode) (phase : Phase) (rate left : ℕ) → units_by mode phase rate left ≤ left
within_left Whole Steady rate left = lesser rate left
within_left Whole (Down to) rate left = lesser rate left
within_left Whole (Up to) rate left = omega arith
within_left Access phase rate left = lesser rate left

some_more : (x y z : ℕ) → z + x ≡ y → z ≢ 0 → (x == y) ≡ false
some_more x y z sum not = grind (arith, nat_tests)

none_more : (x y : ℕ) → x ≡ y → (x == y) ≡ true
none_more x y is = grind (arith, nat_tests)

-- After units were moved, by the core alone: a disk that is out then is gone, and else the shift is the same.
module _ {R : Type 0} {g : _} (count : R → ℕ) (a b : Core R g) (units : ℕ) (moves : (samples : List ℕ) (served energy : ℕ) → CountsMoved (service_of count a samples served energy) (service_of count b samples served energy) units) where
  abbrev before : Service
  before = service_of count a [] 0 0

  goes_to : GoesToState (service_of count b [] 0 0) (after_units a.meta.setup units (shown_state before))
  goes_to = (moves [] 0 0).moved.moved (shown_state before) (state_shown before)

  pub moved_gone : (d : ℕ) → named_out b.meta.out ≡ Some d → b.meta.out ≡ Gone d
  moved_gone d named = sym (goes_to.lost d named).out

  pub moved_phase : b.meta.out ≡ No → b.meta.phase ≡ a.meta.phase
  moved_phase whole = sym (goes_to.whole whole).phase ∙ units_phase a.meta.setup units (shown_state before)

  pub moved_shifts : IsInRange a.meta → a.meta.phase ≢ Steady → b.meta.out ≡ No → 0 < phase_to b.meta.phase
  moved_shifts range not whole =
      subst (λ (x : Phase). 0 < phase_to x) (sym (moved_phase whole)) (phase_some a.meta.setup.geometry a.meta.gear a.meta.phase range.phase not)

-- A tick is counted of a service that stood at a point.
module _ {R : Type 0} {g : _} (count : R → ℕ) (told : R → Option Trail) (a : Core R g) (k : Service) (setup : Setup) (p : Point) (samples : List ℕ) (served energy : ℕ)
    (at : StandsAt (told (store_rack a.store)) k setup p) (fit : point_wear p < worn_at) (counts : CountsTick k (service_of count a samples served energy)) where
  abbrev counted : Service
  counted = service_of count a samples served energy

  abbrev s1 : PowerState
  s1 = state_with_tick p.state

  abbrev ta : Option Trail
  ta = told (store_rack a.store)

  pub shows : IsStateOf counted s1
  shows = tick_state ta k counted setup p at counts fit

  pub shift_shown : IsShiftStateOf a.meta s1
  shift_shown = record { gear = shows.gear; phase = shows.phase; out = shows.out; spins = shows.spins; ticks = shows.ticks }

  pub setup_is : a.meta.setup ≡ setup
  setup_is = ap (λ (z : Service). z.meta.setup) counts.is ∙ at.same_setup

  slots_are : k.slots ≡ count (store_rack a.store)
  slots_are = sym (ap (λ (z : Service). z.slots) counts.is)

  energy_is : (event : TickEvent) → begun_energy setup p.state.gear event ≡ 0 → energy ≡ min (energy + begun_energy setup p.state.gear event) 18446744073709551615
  energy_is event none = still_capped energy (k.energy + tick_energy k.meta.setup p.state) (begun_energy setup p.state.gear event) (counts.energy p.state at.state) none

  -- what is to be told of the tick, with this core after it
  abbrev pub Goes : Core R g → GearReport → Disks → List Call → Type 0
  Goes b report =
      GoesOn (count (store_rack a.store)) setup p Tick (Ticked report)
      (StandsAt (told (store_rack b.store)) (service_of count b samples served (min (energy + begun_energy setup p.state.gear report.event) 18446744073709551615)) setup)

  abbrev pub Halts : Two → Disks → List Call → Type 0
  Halts two = GoesOn (count (store_rack a.store)) setup p Tick (Halted (HaltTwo two)) (IsHaltedWith p (HaltTwo two) energy)

  pub goes_so : (b : Core R g) (report : GearReport) → begun_energy setup p.state.gear report.event ≡ 0
      → Ran ta (told (store_rack b.store)) (GoesOn k.slots setup p Tick (Ticked report) (StandsAt (told (store_rack b.store)) (service_of count b samples served energy) setup))
      → Ran ta (told (store_rack b.store)) (Goes b report)
  goes_so b report none goes =
      subst (λ (n : ℕ). Ran ta (told (store_rack b.store)) (GoesOn n setup p Tick (Ticked report)
      (StandsAt (told (store_rack b.store)) (service_of count b samples served (min (energy + begun_energy setup p.state.gear report.event) 18446744073709551615)) setup))) slots_are
      (subst (λ (e : ℕ). Ran ta (told (store_rack b.store)) (GoesOn k.slots setup p Tick (Ticked report) (StandsAt (told (store_rack b.store)) (service_of count b samples served e) setup)))
      (energy_is report.event none) goes)

  pub halts_so : (b : Core R g) (two : Two) → Ran ta (told (store_rack b.store)) (GoesOn k.slots setup p Tick (Halted (HaltTwo two)) (IsHaltedWith p (HaltTwo two) energy)) → Ran ta (told (store_rack b.store)) (Halts two)
  halts_so b two = subst (λ (n : ℕ). Ran ta (told (store_rack b.store)) (GoesOn n setup p Tick (Halted (HaltTwo two)) (IsHaltedWith p (HaltTwo two) energy))) slots_are

  -- a tick that does nothing
  idle_so : (event : TickEvent) → begun_energy setup p.state.gear event ≡ 0 → Ran ta ta (GoesOn k.slots setup p Tick (report p.state 0 event).0 (StandsAt ta counted setup))
      → Ran ta ta (Goes a (record { gear = a.meta.gear; moved = 0; event = event }))
  idle_so event none goes =
      goes_so a (record { gear = a.meta.gear; moved = 0; event = event }) none
      (subst (λ (n : ℕ). Ran ta ta (GoesOn k.slots setup p Tick (Ticked (record { gear = n; moved = 0; event = event })) (StandsAt ta counted setup))) shows.gear goes)

  pub waits_told : (d : ℕ) → a.meta.out ≡ Gone d → Ran ta ta (Goes a (record { gear = a.meta.gear; moved = 0; event = Waiting }))
  waits_told d gone = idle_so Waiting refl (waiting_turn ta k counted setup p at counts fit d (shows.out ∙ gone))

  decided : (made : Decision) → made ≡ decision a.meta.setup a.meta.gear samples → decision setup p.state.gear s1.samples ≡ made
  decided made is =
      ap (λ (z : Setup). decision z p.state.gear s1.samples) (sym setup_is) ∙ ap (λ (n : ℕ). decision a.meta.setup n s1.samples) shows.gear ∙ ap (decision a.meta.setup a.meta.gear) shows.samples ∙ sym is

  -- At rest.
  module _ (whole : a.meta.out ≡ No) (steady : a.meta.phase ≡ Steady) where
    pub stays_told : Stay ≡ decision a.meta.setup a.meta.gear samples → Ran ta ta (Goes a (record { gear = a.meta.gear; moved = 0; event = TickSteady }))
    stays_told is = idle_so TickSteady refl (steady_turn ta k counted setup p at counts fit (shows.out ∙ whole) (shows.phase ∙ steady) (decided Stay is))

    -- a shift down that is due, with a disk that is worn
    pub worn_told : (asked : ℕ) (fault : ShiftFault) (event : TickEvent) → DecideDown asked ≡ decision a.meta.setup a.meta.gear samples → IsDownRefused a.meta.setup s1 fault
        → ((d : ℕ) → fault ≡ Ration d → event ≡ RationTick d) → Ran ta ta (Goes a (record { gear = a.meta.gear; moved = 0; event = event }))
    worn_told asked fault event is why tells =
        let made : DecideDown asked ≡ decision a.meta.setup s1.gear samples = is ∙ ap (λ (n : ℕ). decision a.meta.setup n samples) (sym shows.gear) in
        let worn = down_worn_only a.meta.setup s1 (DecideDown asked) asked samples fault made refl (record { steady = shows.phase ∙ steady; whole = shows.out ∙ whole }) why in
        let used : IsDownRefused a.meta.setup s1 (Ration worn.0) = subst (IsDownRefused a.meta.setup s1) worn.1 why in
        let next : used.0 ≡ asked = same_gear used.0 asked (next_lower a.meta.setup.geometry s1.gear) used.1 (decided_down a.meta.setup s1.gear samples asked (sym made)) in
        let first : first_used_up setup s1 asked ≡ Some worn.0 = ap (λ (z : Setup). first_used_up z s1 asked) (sym setup_is) ∙ ap (first_used_up a.meta.setup s1) (sym next) ∙ used.3 in
        subst (λ (e : TickEvent). Ran ta ta (Goes a (record { gear = a.meta.gear; moved = 0; event = e }))) (sym (tells worn.0 worn.1))
        (idle_so (RationTick worn.0) refl (ration_turn ta k counted setup p at counts fit (shows.out ∙ whole) (shows.phase ∙ steady) asked worn.0 (decided (DecideDown asked) is) first))

    -- a shift up that is asked for
    module _ (b : Core R g) (to asked : ℕ) (is : DecideUp asked ≡ decision a.meta.setup a.meta.gear samples) (may : MayGoUp a.meta.setup s1 to) where
      up_asked : decision setup p.state.gear s1.samples ≡ DecideUp to
      up_asked =
          decided (DecideUp asked) is
          ∙ ap DecideUp (same_gear asked to (next_higher a.meta.setup.geometry a.meta.gear) (decided_up a.meta.setup a.meta.gear samples asked (sym is)) (ap (next_higher a.meta.setup.geometry) (sym shows.gear) ∙ may.next))

      pub up_told : HasBegunUp a.meta b.meta to → IsInRange a.meta → IsInRange b.meta → AreCopiesSynced b.meta.setup.geometry.disks b.copied → b.dirty ≡ a.dirty → CoreStepsInEvent count told a b 1
          → Ran ta (told (store_rack b.store)) (Goes b (record { gear = b.meta.gear; moved = 0; event = Begun to }))
      up_told begun range range_then synced table steps =
          let used = min (energy + spin_up_energy setup p.state.gear to) 18446744073709551615 in
          let k2 = service_of count b samples served used in
          let starts = starts_up counted k2 to begun.spins whole (begun_spins a.meta b.meta to begun range range_then) begun.is.lost (a.meta.epoch + 1) a.meta.writes
          (marked_then (meta_after_begin a.meta (Up to) begun.spins) b.meta (a.meta.epoch + 1) begun.is) table refl refl in
          let goes = ran_then (StepsInEvent counted (service_of count b samples served energy) p.history p.low 1) (StepsInEvent counted k2 p.history p.low 1)
          (λ s cs x. steps_counted counted (service_of count b samples served energy) used p.history p.low 1 s cs x) ta (told (store_rack b.store)) (steps p.history p.low samples served energy) in
          subst (λ (n : ℕ). Ran ta (told (store_rack b.store)) (GoesOn n setup p Tick (Ticked (record { gear = b.meta.gear; moved = 0; event = Begun to })) (StandsAt (told (store_rack b.store)) k2 setup))) slots_are
          (up_turn ta k counted setup p at counts fit (shows.out ∙ whole) (shows.phase ∙ steady) to up_asked k2 synced starts refl 1 (omega arith) (told (store_rack b.store)) goes)

      pub up_halts : (two : Two) → CoreLosesInSteps count told a b 1 two → Ran ta (told (store_rack b.store)) (Halts two)
      up_halts two loses =
          halts_so b two
          (up_lost ta k counted setup p at counts fit (shows.out ∙ whole) (shows.phase ∙ steady) to up_asked two energy (inl refl) 1 (omega arith) (told (store_rack b.store)) (loses p.history p.low samples served energy))

    -- and one down
    module _ (b : Core R g) (to asked : ℕ) (is : DecideDown asked ≡ decision a.meta.setup a.meta.gear samples) (may : MayGoDown a.meta.setup s1 to) where
      down_asked : decision setup p.state.gear s1.samples ≡ DecideDown to
      down_asked =
          decided (DecideDown asked) is
          ∙ ap DecideDown (same_gear asked to (next_lower a.meta.setup.geometry a.meta.gear) (decided_down a.meta.setup a.meta.gear samples asked (sym is)) (ap (next_lower a.meta.setup.geometry) (sym shows.gear) ∙ may.next))

      unworn : first_used_up setup s1 to ≡ None
      unworn = ap (λ (z : Setup). first_used_up z s1 to) (sym setup_is) ∙ may.unworn

      pub down_told : to < a.meta.gear → IsMarkedFrom (record (meta_after_begin a.meta (Down to) a.meta.spins) { epoch = a.meta.epoch + 1 }) b.meta → AreCopiesSynced b.meta.setup.geometry.disks b.copied → b.dirty ≡ a.dirty
          → CoreStepsInEvent count told a b 1 → Ran ta (told (store_rack b.store)) (Goes b (record { gear = b.meta.gear; moved = 0; event = Begun to }))
      down_told below marked synced table steps =
          let lower : to < p.state.gear = (let same = shows.gear in omega (arith, same, below)) in
          let k2 = service_of count b samples served energy in
          let starts = starts_down counted k2 s1 to shows whole marked.lost (a.meta.epoch + 1) a.meta.writes
          (marked_then (meta_after_begin a.meta (Down to) a.meta.spins) b.meta (a.meta.epoch + 1) marked) table refl refl in
          goes_so b (record { gear = b.meta.gear; moved = 0; event = Begun to }) (no_spin_ups setup.spinup_mj to p.state.gear lower)
          (down_turn ta k counted setup p at counts fit (shows.out ∙ whole) (shows.phase ∙ steady) to down_asked unworn lower k2 synced starts refl 1 (omega arith) (told (store_rack b.store)) (steps p.history p.low samples served energy))

      pub down_halts : (two : Two) → CoreLosesInSteps count told a b 1 two → Ran ta (told (store_rack b.store)) (Halts two)
      down_halts two loses =
          halts_so b two
          (down_lost ta k counted setup p at counts fit (shows.out ∙ whole) (shows.phase ∙ steady) to down_asked unworn two 1 (omega arith) (told (store_rack b.store)) (loses p.history p.low samples served energy))

  -- A shift under way, of which so many units are to be moved.
  module _ (whole : a.meta.out ≡ No) (shifts : a.meta.phase ≢ Steady) (range : IsInRange a.meta) (units : ℕ) (asks : AreUnitsOfTick count a units) where
    units_are : units ≡ units_of_tick setup s1
    units_are = asks samples served energy s1 shows ∙ ap (λ (z : Setup). units_of_tick z s1) setup_is

    moves_shift : p.state.phase ≡ Steady → ⊥
    moves_shift is = shifts (sym shows.phase ∙ is)

    room : units + 3 ≤ 2 ^ 20
    room = let fits = tick_room counted s1 shows range moves_shift in let is = asks samples served energy s1 shows in omega (arith, fits, is)

    pub step_halts : (b : Core R g) (two : Two) → CoreLosesInSteps count told a b (units + 2) two → Ran ta (told (store_rack b.store)) (Halts two)
    step_halts b two loses =
        halts_so b two
        (move_lost ta k counted setup p at counts fit (shows.out ∙ whole) moves_shift two (units + 2) (let r = room in omega (arith, r)) (told (store_rack b.store)) (loses p.history p.low samples served energy))

    -- some of them were
    module _ (b : Core R g) (n : ℕ) (moves : MovesUpTo count a b (AreUnitsDone b.meta b.dirty) units n) (synced : AreCopiesSynced b.meta.setup.geometry.disks b.copied) (steps : StepsOrWaits count told a b (units + 2)) where
      abbrev k2 : Service
      k2 = service_of count b samples served energy

      abbrev s2 : PowerState
      s2 = after_units a.meta.setup n s1

      abbrev tb : Option Trail
      tb = told (store_rack b.store)

      made : CountsMoved counted k2 n
      made = moves.moves samples served energy

      shows_then : b.meta.out ≡ No → IsStateOf k2 s2
      shows_then still = (made.moved.moved s1 shows).whole still

      -- a disk was lost
      pub lost_told : (d : ℕ) → n ≤ units → named_out b.meta.out ≡ Some d → Ran ta tb (Goes b (record { gear = b.meta.gear; moved = n; event = Lost d }))
      lost_told d few named =
          goes_so b (record { gear = b.meta.gear; moved = n; event = Lost d }) refl
          (lost_turn ta k counted setup p at counts fit (shows.out ∙ whole) moves_shift k2 synced refl (units + 2) (let r = room in omega (arith, r)) tb n d made.moved (let is = units_are in omega (arith, is, few)) named (by steps))
        where
          by : StepsOrWaits count told a b (units + 2) → Ran ta tb (StepsInEvent counted k2 p.history p.low (units + 2))
          by (inl goes) = goes p.history p.low samples served energy
          by (inr waits) = let z : None ≡ Some d = ap named_out (sym waits.0.1) ∙ named in absurd cc

      not_done : b.meta.out ≡ No → TellsDone k2 false → AreUnitsDone b.meta b.dirty → ⊥
      not_done still tells done = tells.some refl s2 (shows_then still) (done_left k2 done s2 (shows_then still))

      module _ (still : b.meta.out ≡ No) (same : b.meta.setup ≡ a.meta.setup) where
        -- more are left
        pub moving_told : TellsDone k2 false → Ran ta tb (Goes b (record { gear = b.meta.gear; moved = n; event = Moving }))
        moving_told tells =
            let all : n ≡ units_of_tick setup s1 = elim (moves.all still) [ inl is ↦ is ∙ units_are | inr done ↦ absurd (not_done still tells done) ] in
            let left : units_left a.meta.setup s2 ≢ 0 = subst (λ (z : Setup). units_left z s2 ≢ 0) same (tells.some refl s2 (shows_then still)) in
            let more : (n == units_left setup s1) ≡ false = subst (λ (z : Setup). (n == units_left z s1) ≡ false) setup_is (some_more n (units_left a.meta.setup s1) (units_left a.meta.setup s2) (made.counted s1 shows) left) in
            goes_so b (record { gear = b.meta.gear; moved = n; event = Moving }) refl
            (subst (λ (m : ℕ). Ran ta tb (GoesOn k.slots setup p Tick (Ticked (record { gear = b.meta.gear; moved = m; event = Moving })) (StandsAt tb k2 setup))) (sym all)
            (units_turn ta k counted setup p at counts fit (shows.out ∙ whole) moves_shift k2 synced refl (units + 2) (let r = room in omega (arith, r)) tb (subst (MovesUnits counted k2) all made.moved) still
            (subst (λ (m : ℕ). (m == units_left setup s1) ≡ false) all more) (by tells steps)))
          where
            by : TellsDone k2 false → StepsOrWaits count told a b (units + 2) → Ran ta tb (StepsInEvent counted k2 p.history p.low (units + 2))
            by tells (inl goes) = goes p.history p.low samples served energy
            by tells (inr waits) = absurd (not_done still tells waits.0.0)

        -- none are left, and the shift ends
        module _ (c : Core R g) (few : n ≤ units) (done : AreUnitsDone b.meta b.dirty) where
          none_left : n ≡ units_left setup s1
          none_left =
              let none : units_left a.meta.setup s2 ≡ 0 = ap (λ (z : Setup). units_left z s2) (sym same) ∙ done_left k2 done s2 (shows_then still) in
              let sum : units_left a.meta.setup s2 + n ≡ units_left a.meta.setup s1 = made.counted s1 shows in
              subst (λ (z : Setup). n ≡ units_left z s1) setup_is (omega (arith, none, sum))

          all_moved : n ≡ units_of_tick setup s1
          all_moved =
              let within : units_of_tick setup s1 ≤ units_left setup s1 = within_left setup.mode s1.phase setup.rate (units_left setup s1) in
              let is = units_are in
              let all = none_left in
              omega (arith, within, is, all, few)

          waits : Ran ta tb (StepsToMark counted k2 b.meta p.history p.low (units + 2))
          waits = either_waits count told a b (units + 2) still steps p.history p.low samples served energy

          pub flipped_told : EndsInSteps count told b c → IsMarkedFrom (record (meta_flipped_to b.meta (phase_to b.meta.phase)) { epoch = b.meta.epoch + 1 }) c.meta → AreCopiesSynced c.meta.setup.geometry.disks c.copied → c.dirty ≡ b.dirty
              → Ran ta (told (store_rack c.store)) (Goes c (record { gear = c.meta.gear; moved = n; event = Flipped }))
          flipped_told ends marked synced_then table =
              let k3 = service_of count c samples served energy in
              let ended = ends_shift counted k2 k3 n made.moved still marked.lost (b.meta.epoch + 1) b.meta.writes
              (marked_then (meta_flipped_to b.meta (phase_to b.meta.phase)) c.meta (b.meta.epoch + 1) marked) table refl refl in
              goes_so c (record { gear = c.meta.gear; moved = n; event = Flipped }) refl
              (subst (λ (m : ℕ). Ran ta (told (store_rack c.store)) (GoesOn k.slots setup p Tick (Ticked (record { gear = c.meta.gear; moved = m; event = Flipped })) (StandsAt (told (store_rack c.store)) k3 setup))) (sym all_moved)
              (flipped_turn ta k counted setup p at counts fit (shows.out ∙ whole) moves_shift k3 synced_then refl (units + 2 + 1) (let r = room in omega (arith, r)) (told (store_rack c.store)) (subst (EndsShift counted k3) all_moved ended)
              (none_more (units_of_tick setup s1) (units_left setup s1) (sym all_moved ∙ none_left)) (ends ta counted p.history p.low (units + 2) samples served energy waits)))

          pub flip_halts : (two : Two) → EndsLosing count told b c two → Ran ta (told (store_rack c.store)) (Halts two)
          flip_halts two loses =
              halts_so c two
              (move_lost ta k counted setup p at counts fit (shows.out ∙ whole) moves_shift two (units + 2 + 1) (let r = room in omega (arith, r)) (told (store_rack c.store)) (loses ta counted p.history p.low (units + 2) samples served energy waits))
