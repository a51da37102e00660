-- Shifts that are asked for, as events of a session.
use Rattle.std.proofs.Common.{◌≡◌, suc, ℕ, ◌+◌, ◌-◌, ◌*◌, ◌^◌, ◌<◌, ◌≤◌, ◌⊎◌, Bool, true, false, if◌then◌else◌, List, [], ◌∷◌, length, Option, Some, None, refl, sym, ap, ◌∙◌, inl, inr, subst, arith, min}
use Rattle.std.specs.Prelude.{◌&&◌, nat_le, nat_lt, slice_index}
use Rattle.std.proofs.lemmas.Bool.Decides.{nat_tests}
use Rattle.paraid_base.specs.declared.event.Answer.TheVariants.{Halted, Out as IsOut, Shift, Shifting as IsShifting}
use Rattle.paraid_base.specs.declared.event.Event.TheVariants.{Down as AskDown, Up as AskUp}
use Rattle.paraid_base.specs.declared.fault.Halt.TheVariants.{Two as HaltTwo}
use Rattle.paraid_base.specs.declared.fault.Two.{Two}
use Rattle.paraid_base.specs.declared.state.Out.TheVariants.{Gone, No}
use Rattle.paraid_base.specs.declared.state.Phase.TheVariants.{Down, Steady, Up}
use Rattle.paraid_base.specs.declared.geometry.Geometry.{Geometry}
use Rattle.paraid_base.specs.Gears.{next_higher, next_lower}
use Rattle.paraid_base.specs.History.{History}
use Rattle.paraid_base.specs.Log.{worn_at}
use Rattle.paraid_base.specs.States.{named_out, phase_beside}
use Rattle.paraid_rack.specs.Slots.{Slot}
use Rattle.paraid_rack.specs.Told.{Ran}
use Rattle.paraid_rack.specs.Trail.{Trail}
use Rattle.paraid_record.specs.declared.meta.Meta.{Meta}
use Rattle.paraid_record.specs.declared.meta.Setup.{Setup}
use Rattle.paraid_image.specs.Power.{PowerState}
use Rattle.paraid_image.specs.Mark.{meta_with_lost}
use Rattle.paraid_moves.specs.MoveMetas.{meta_after_begin}
use Rattle.paraid_core.specs.declared.staged.Core.{Core}
use Rattle.paraid_core.specs.CoreInvariant.{AreCopiesSynced}
use Rattle.paraid_core.specs.Cores.{core_rack}
use Rattle.paraid_core.specs.Steps.{IsMarkedFrom, IsNamedOrAbsent}
use Rattle.paraid_machine.specs.Energy.{energy_after, energy_of, spin_up_energy}
use Rattle.paraid_machine.specs.Moves.{with_spin_ups, with_spins}
use Rattle.paraid_session.specs.Turn.{GoesOn, Point, point_wear}
use Rattle.paraid_event.specs.Moving.{GoesToState}
use Rattle.paraid_event.specs.Service.{IsStateOf, Service, service_of}
use Rattle.paraid_event.specs.Stands.{StandsAt}
use Rattle.paraid_event.specs.Steps.{LosesInSteps, StepsInEvent}
use Rattle.paraid_event.specs.Ticks.{IsHaltedWith}
use Rattle.paraid_event.proofs.AskedStepLemmas.{down_asked, down_asked_lost, down_hindered, up_asked, up_asked_lost, up_hindered}
use Rattle.paraid_event.proofs.QuietLemmas.{down_lowest, down_out, down_ration, down_shifting, up_out, up_shifting, up_top}
use Rattle.paraid_event.proofs.StateLemmas.{marked_state, starts_down, starts_up}
use Rattle.paraid_event.proofs.StepLemmas.{lose_then, ran_both, ran_then}
use Rattle.paraid_event.proofs.StepMarkLemmas.{cells_steps}
use Rattle.paraid_shift.specs.Steps.{CoreLosesInSteps, CoreStepsInEvent}
use Rattle.paraid_shift.specs.Rising.{HasBegunUp}
use Rattle.paraid_shift.proofs.StepsLemmas.{core_steps_then}
use Rattle.paraid_upkeep.specs.Directions.{HasBegun, HasMarkedShift, IsNextTo, IsRefusedTo, MayGo, asked_event}
use Rattle.paraid_upkeep.specs.Refusals.{IsShiftStateOf, MayGoDown, MayGoUp, fault_answer}
use Rattle.paraid_upkeep.specs.Service.{IsOutKnown}
use Rattle.paraid_upkeep.specs.Turns.{CoreGoesOn, CoreHalts}
use Rattle.paraid_upkeep.specs.declared.asked.ShiftOutcome.TheVariants.{Begun, Refused}
use Rattle.paraid_upkeep.specs.declared.asked.Direction.{Direction}
use Rattle.paraid_upkeep.specs.declared.asked.Direction.TheVariants.{Down as Downward, Up as Upward}
use Rattle.paraid_upkeep.specs.declared.fault.ShiftFault.{ShiftFault}
use Rattle.paraid_upkeep.specs.declared.fault.ShiftFault.TheVariants.{Lowest, Out, Ration, Shifting, Top}
use Rattle.paraid_upkeep.proofs.OutLemmas.{known_gone, known_whole}
use Rattle.paraid_upkeep.proofs.RefusalLemmas.{down_may_not, down_refused_same, up_may_not, up_refused_same}
use Rattle.paraid_upkeep.proofs.TurnLemmas.{goes_same}

-- what a shift sees of the state is what the service knows
shift_state : (k : Service) (s : PowerState) → IsStateOf k s → IsShiftStateOf k.meta s
shift_state k s of = record { gear = of.gear; phase = of.phase; out = of.out; spins = of.spins; ticks = of.ticks }

no_energy : (fault : ShiftFault) (setup : Setup) (s : PowerState) → energy_of setup s (fault_answer fault) ≡ 0
no_energy Top setup s = refl
no_energy Lowest setup s = refl
no_energy (Shifting to) setup s = refl
no_energy (Out d) setup s = refl
no_energy (Ration d) setup s = refl

no_spin_ups : (mj to gear : ℕ) → to < gear → mj * (to - gear) ≡ 0
no_spin_ups mj to gear l = let e : to - gear ≡ 0 = omega (arith, l) in rw e (zero_times mj)
  where
    zero_times : (a : ℕ) → a * 0 ≡ 0
    zero_times a = grind (arith)

-- the next gear by the direction of a shift
abbrev next_gear : Direction → Geometry → ℕ → Option ℕ
next_gear Upward = next_higher
next_gear Downward = next_lower

-- one that may begin goes there
next_is : (direction : Direction) (setup : Setup) (s : PowerState) (to : ℕ) → MayGo direction setup s to → next_gear direction setup.geometry s.gear ≡ Some to
next_is Upward setup s to may = may.next
next_is Downward setup s to may = may.next

-- one that may begin is not refused
pub may_not : (direction : Direction) (setup : Setup) (s : PowerState) (to : ℕ) (fault : ShiftFault) → MayGo direction setup s to → IsRefusedTo direction setup s fault → ⊥
may_not Upward setup s to fault may why = up_may_not setup s to fault may why
may_not Downward setup s to fault may why = down_may_not setup s to fault may why

-- it has one refusal
pub refused_same : (direction : Direction) (setup : Setup) (s : PowerState) (a b : ShiftFault) → IsRefusedTo direction setup s a → IsRefusedTo direction setup s b → a ≡ b
refused_same Upward setup s a b first second = up_refused_same setup s a b first second
refused_same Downward setup s a b first second = down_refused_same setup s a b first second

-- a disk that is out refuses it
out_refuses : (direction : Direction) (setup : Setup) (s : PowerState) (to d : ℕ) → next_gear direction setup.geometry s.gear ≡ Some to → s.phase ≡ Steady → named_out s.out ≡ Some d → IsRefusedTo direction setup s (Out d)
out_refuses Upward setup s to d next steady out = (to, next, (steady, out))
out_refuses Downward setup s to d next steady out = (to, next, (steady, out))

-- the marks of a disk that was lost, where none has begun
pub marked_lost : (direction : Direction) (m m_then : Meta) (fault : ShiftFault) (epoch : ℕ) → IsMarkedFrom (record m { epoch = epoch }) m_then → HasMarkedShift direction m m_then (Refused fault)
marked_lost Upward m m_then fault epoch marked = (epoch, marked)
marked_lost Downward m m_then fault epoch marked = (epoch, marked)

-- A refused shift makes no call.
module _ (told : Option Trail) (k : Service) (setup : Setup) (p : Point) (at : StandsAt told k setup p) (fit : point_wear p < worn_at) where
  refused : (direction : Direction) (fault : ShiftFault) → IsRefusedTo direction setup p.state fault → Ran told told (GoesOn k.slots setup p (asked_event direction) (fault_answer fault) (StandsAt told k setup))
  refused Upward Top why = up_top told k setup p at fit why
  refused Upward Lowest why = absurd why
  refused Upward (Shifting to) why = subst (λ (x : ℕ). Ran told told (GoesOn k.slots setup p AskUp (IsShifting x) (StandsAt told k setup))) (sym why.2.1) (up_shifting told k setup p at fit why.0 why.1 why.2.0)
  refused Upward (Out d) why = up_out told k setup p at fit why.0 d why.1 why.2.0 why.2.1
  refused Upward (Ration d) why = absurd why
  refused Downward Top why = absurd why
  refused Downward Lowest why = down_lowest told k setup p at fit why
  refused Downward (Shifting to) why = subst (λ (x : ℕ). Ran told told (GoesOn k.slots setup p AskDown (IsShifting x) (StandsAt told k setup))) (sym why.2.1) (down_shifting told k setup p at fit why.0 why.1 why.2.0)
  refused Downward (Out d) why = down_out told k setup p at fit why.0 d why.1 why.2.0 why.2.1
  refused Downward (Ration d) why = down_ration told k setup p at fit why.0 d why.1 why.2.steady why.2.whole why.3

pub asked_stays : {R : Type 0} {g : _} (count : R → ℕ) (told : R → Option Trail) (a : Core R g) (direction : Direction) (fault : ShiftFault) → ((s : PowerState) → IsShiftStateOf a.meta s → IsRefusedTo direction a.meta.setup s fault)
    → CoreGoesOn count told a a (asked_event direction) (fault_answer fault)
asked_stays count told a direction fault why = goes_same count told a a (asked_event direction) (fault_answer fault) (no_energy fault)
    (λ setup p samples served energy at fit.
    let k = service_of count a samples served energy in
    refused (told (core_rack a)) k setup p at fit direction fault (subst (λ (z : Setup). IsRefusedTo direction z p.state fault) at.same_setup (why p.state (shift_state k p.state at.state))))

-- a meta with the counts that it has
with_counts : (m n : Meta) (e : ℕ) → n ≡ record m { epoch = e } → n ≡ record m { epoch = n.epoch; writes = n.writes }
with_counts m n e is =
    is ∙ ap (λ (x : ℕ). record m { epoch = x }) (sym (ap (λ (z : Meta). z.epoch) is))
    ∙ ap (λ (x : ℕ). record m { epoch = n.epoch; writes = x }) (sym (ap (λ (z : Meta). z.writes) is))

-- the meta after a commit is the one before it, but for the mark of a disk that was lost
module _ (m n : Meta) (e : ℕ) (marked : IsMarkedFrom (record m { epoch = e }) n) where
  by_mark : (o : Option ℕ) → marked.lost ≡ o → n ≡ record (meta_with_lost o m) { epoch = e }
  by_mark None is = marked.is ∙ ap (λ (o : Option ℕ). meta_with_lost o (record m { epoch = e })) is
  by_mark (Some d) is = marked.is ∙ ap (λ (o : Option ℕ). meta_with_lost o (record m { epoch = e })) is

  pub marked_counts : n ≡ record (meta_with_lost marked.lost m) { epoch = n.epoch; writes = n.writes }
  marked_counts = with_counts (meta_with_lost marked.lost m) n e (by_mark marked.lost refl)

  -- none was lost where none is out
  pub unmarked : m.out ≡ No → n.out ≡ No → n ≡ record m { epoch = e }
  unmarked whole still = by marked.lost refl
    where
      by : (o : Option ℕ) → marked.lost ≡ o → n ≡ record m { epoch = e }
      by None is = by_mark None is
      by (Some d) is = let z : Gone d ≡ No = sym (ap (λ (z : Meta). z.out) (by_mark (Some d) is)) ∙ still in cc

  -- what a shift sees of it
  abbrev seen : PowerState
  seen = record { gear = n.gear; phase = n.phase; dirty = λ r d. false; fill = n.fill; out = n.out; spins = n.spins; ticks = n.ticks; samples = []; served = 0 }

  of_seen : IsShiftStateOf n seen
  of_seen = record { gear = refl; phase = refl; out = refl; spins = refl; ticks = refl }

  -- what it saw before that
  abbrev before : PowerState
  before = record seen { phase = m.phase; out = m.out }

  module _ (steady : m.phase ≡ Steady) (whole : m.out ≡ No) where
    none_lost : marked.lost ≡ None → IsShiftStateOf m seen
    none_lost none = let q = by_mark None none in record {
      gear = ap (λ (z : Meta). z.gear) q;
      phase = ap (λ (z : Meta). z.phase) q;
      out = ap (λ (z : Meta). z.out) q;
      spins = ap (λ (z : Meta). z.spins) q;
      ticks = ap (λ (z : Meta). z.ticks) q;
    }

    one_lost : (d : ℕ) → marked.lost ≡ Some d → IsShiftStateOf m before
    one_lost d some = let q = by_mark (Some d) some in record {
      gear = ap (λ (z : Meta). z.gear) q;
      phase = refl;
      out = refl;
      spins = ap (λ (z : Meta). z.spins) q;
      ticks = ap (λ (z : Meta). z.ticks) q;
    }

    same_setup : (o : Option ℕ) → marked.lost ≡ o → n.setup ≡ m.setup
    same_setup None is = ap (λ (z : Meta). z.setup) (by_mark None is)
    same_setup (Some d) is = ap (λ (z : Meta). z.setup) (by_mark (Some d) is)

    still_steady : (d : ℕ) → marked.lost ≡ Some d → n.phase ≡ Steady
    still_steady d some = ap (λ (z : Meta). z.phase) (by_mark (Some d) some) ∙ ap (phase_beside true) steady

    out_now : (d : ℕ) → marked.lost ≡ Some d → named_out n.out ≡ Some d
    out_now d some = ap (λ (z : Meta). named_out z.out) (by_mark (Some d) some)

    -- A disk that was lost with what was staged is why a shift does not begin that could.
    pub asked_lost : (direction : Direction) (to : ℕ) (fault : ShiftFault) → ((s : PowerState) → IsShiftStateOf m s → MayGo direction m.setup s to) → ((s : PowerState) → IsShiftStateOf n s → IsRefusedTo direction n.setup s fault)
        → (d : ℕ) × (fault ≡ Out d) × (named_out n.out ≡ Some d)
    asked_lost direction to fault may why = by marked.lost refl
      where
        by : (o : Option ℕ) → marked.lost ≡ o → (d : ℕ) × (fault ≡ Out d) × (named_out n.out ≡ Some d)
        by None none = absurd (may_not direction m.setup seen to fault (may seen (none_lost none)) (subst (λ (z : Setup). IsRefusedTo direction z seen fault) (same_setup None none) (why seen of_seen)))
        by (Some d) some =
            let next : next_gear direction n.setup.geometry n.gear ≡ Some to =
            subst (λ (z : Setup). next_gear direction z.geometry n.gear ≡ Some to) (sym (same_setup (Some d) some)) (next_is direction m.setup before to (may before (one_lost d some))) in
            (d, refused_same direction n.setup seen fault (Out d) (why seen of_seen) (out_refuses direction n.setup seen to d next (still_steady d some) (out_now d some)), out_now d some)

    -- One that begins goes to the gear that it could.
    module _ (still : n.out ≡ No) (s : PowerState) (of : IsShiftStateOf m s) where
      seen_still : IsShiftStateOf n s
      seen_still = let q = unmarked whole still in record {
        gear = of.gear ∙ sym (ap (λ (z : Meta). z.gear) q);
        phase = of.phase ∙ sym (ap (λ (z : Meta). z.phase) q);
        out = of.out ∙ sym (ap (λ (z : Meta). z.out) q);
        spins = of.spins ∙ sym (ap (λ (z : Meta). z.spins) q);
        ticks = of.ticks ∙ sym (ap (λ (z : Meta). z.ticks) q);
      }

      some_of : (x y : ℕ) (o : Option ℕ) → o ≡ Some x → o ≡ Some y → x ≡ y
      some_of x y o is was = let z : Some x ≡ Some y = sym is ∙ was in cc

      pub asked_same : (direction : Direction) (to gear : ℕ) → MayGo direction m.setup s to → ((u : PowerState) → IsShiftStateOf n u → MayGo direction n.setup u gear) → gear ≡ to
      asked_same direction to gear could may =
          some_of gear to (next_gear direction m.setup.geometry s.gear)
          (subst (λ (z : Setup). next_gear direction z.geometry s.gear ≡ Some gear) (same_setup marked.lost refl) (next_is direction n.setup s gear (may s seen_still))) (next_is direction m.setup s to could)

  -- the marks of a begin after it, where none was lost
  pub asked_marked : (direction : Direction) → m.out ≡ No → n.out ≡ No → (m_then : Meta) (to : ℕ) → HasBegun direction n m_then to → HasMarkedShift direction m m_then (Begun to)
  asked_marked Upward whole still m_then to begun = (e, subst (λ (z : Meta). HasBegun Upward z m_then to) (unmarked whole still) begun)
  asked_marked Downward whole still m_then to begun = (e + 1, subst (λ (z : Meta). HasBegun Downward z m_then to) (unmarked whole still) begun)

-- marks leave the epoch
marked_epoch : (m n : Meta) → IsMarkedFrom m n → n.epoch ≡ m.epoch
marked_epoch m n marked = by marked.lost refl
  where
    by : (o : Option ℕ) → marked.lost ≡ o → n.epoch ≡ m.epoch
    by None is = ap (λ (z : Meta). z.epoch) (marked.is ∙ ap (λ (o : Option ℕ). meta_with_lost o m) is)
    by (Some d) is = ap (λ (z : Meta). z.epoch) (marked.is ∙ ap (λ (o : Option ℕ). meta_with_lost o m) is)

-- after marks of a meta by which no disk is out
pub known_marked : {R : Type 0} {g : _} (slot : R → ℕ → Slot) (b : Core R g) (m : Meta) → m.out ≡ No → IsMarkedFrom m b.meta → IsNamedOrAbsent slot b → IsOutKnown slot b
known_marked slot b m whole marked absent = by marked.lost refl
  where
    by : (o : Option ℕ) → marked.lost ≡ o → IsOutKnown slot b
    by None e = known_whole slot b (ap (λ (z : Meta). z.out) (marked.is ∙ ap (λ (o : Option ℕ). meta_with_lost o m) e) ∙ whole)
    by (Some d) e = known_gone slot b d (ap (λ (z : Meta). z.out) (marked.is ∙ ap (λ (o : Option ℕ). meta_with_lost o m) e)) absent

abbrev raised_count : ℕ → ℕ → ℕ → ℕ → ℕ
raised_count gear to d count = if nat_le gear d && nat_lt d to then count + 1 else count

-- the spin-ups of a shift up are those of the machine
pub raised_spins : (gear to : ℕ) (a b : List ℕ) → length a ≡ length b → ((d : ℕ) → gear ≤ d → d < to → slice_index a d ≡ slice_index b d + 1) → ((d : ℕ) → (d < gear) ⊎ (to ≤ d) → slice_index a d ≡ slice_index b d) → a ≡ with_spin_ups gear to b
raised_spins gear to a b many raised others = go 0 a b many (λ d. by d ∙ ap (λ (z : ℕ). raised_count gear to z (slice_index b d)) (let x : d ≡ 0 + d = omega arith in x))
  where
    at_least : (x y : ℕ) → nat_le x y ≡ true → x ≤ y
    at_least x y t = grind (arith, nat_tests)

    under : (x y : ℕ) → nat_lt x y ≡ true → x < y
    under x y t = grind (arith, nat_tests)

    short : (x y : ℕ) → nat_le x y ≡ false → y < x
    short x y t = grind (arith, nat_tests)

    past : (x y : ℕ) → nat_lt x y ≡ false → y ≤ x
    past x y t = grind (arith, nat_tests)

    split : (d : ℕ) (u v : Bool) → nat_le gear d ≡ u → nat_lt d to ≡ v → slice_index a d ≡ (if u && v then slice_index b d + 1 else slice_index b d)
    split d true true low high = raised d (at_least gear d low) (under d to high)
    split d true false low high = others d (inr (past d to high))
    split d false true low high = others d (inl (short gear d low))
    split d false false low high = others d (inl (short gear d low))

    by : (d : ℕ) → slice_index a d ≡ raised_count gear to d (slice_index b d)
    by d = split d (nat_le gear d) (nat_lt d to) refl refl

    first : (at x y : ℕ) → x ≡ raised_count gear to (at + 0) y → x ≡ raised_count gear to at y
    first at x y is = is ∙ ap (λ (z : ℕ). raised_count gear to z y) (let e : at + 0 ≡ at = omega arith in e)

    later : (at i x y : ℕ) → x ≡ raised_count gear to (at + suc i) y → x ≡ raised_count gear to (suc at + i) y
    later at i x y is = is ∙ ap (λ (z : ℕ). raised_count gear to z y) (let e : at + suc i ≡ suc at + i = omega arith in e)

    go : (at : ℕ) (x y : List ℕ) → length x ≡ length y → ((i : ℕ) → slice_index x i ≡ raised_count gear to (at + i) (slice_index y i)) → x ≡ with_spins (raised_count gear to) at y
    go at [] [] l same = refl
    go at [] (v ∷ y) l same = absurd (omega (arith, l))
    go at (u ∷ x) [] l same = absurd (omega (arith, l))
    go at (u ∷ x) (v ∷ y) l same =
        let head : u ≡ raised_count gear to at v = first at u v (same 0) in
        let tail : x ≡ with_spins (raised_count gear to) (suc at) y = go (suc at) x y (omega (arith, l)) (λ i. later at i (slice_index x i) (slice_index y i) (same (suc i))) in
        ap (λ (z : ℕ). z ∷ x) head ∙ ap (λ (z : List ℕ). raised_count gear to at v ∷ z) tail

-- Parts of an event do not rest on the energy.
recounted : (told told_then : Option Trail) (k j : Service) (used : ℕ) (h : History) (lo most : ℕ) → Ran told told_then (StepsInEvent k j h lo most) → Ran told told_then (StepsInEvent k (record j { energy = used }) h lo most)
recounted told told_then k j used h lo most ran =
    ran_then (StepsInEvent k j h lo most) (StepsInEvent k (record j { energy = used }) h lo most)
    (λ s cs x. cells_steps k j (record j { energy = used }) refl refl refl h lo most s cs (λ z. z) x) told told_then ran

-- A second disk is lost in the later of two parts.
pub core_loses_then : {R : Type 0} {g : _} (count : R → ℕ) (told : R → Option Trail) (a b c : Core R g) (most more : ℕ) (two : Two) → CoreStepsInEvent count told a b most → CoreLosesInSteps count told b c more two → CoreLosesInSteps count told a c (most + more) two
core_loses_then count told a b c most more two first second h lo samples served energy =
    let k = service_of count a samples served energy in
    let j = service_of count b samples served energy in
    ran_both (StepsInEvent k j h lo most) (LosesInSteps j h lo more two) (LosesInSteps k h lo (most + more) two) (λ s cs ds x y. lose_then k j h lo most more two s cs ds x y)
    (told (core_rack a)) (told (core_rack b)) (told (core_rack c)) (first h lo samples served energy) (second h lo samples served energy)

-- A shift is asked for while none is under way and no disk is out.
module _ {R : Type 0} {g : _} (count : R → ℕ) (told : R → Option Trail) (a : Core R g) (steady : a.meta.phase ≡ Steady) (whole : a.meta.out ≡ No) where
  -- it ends with a second loss
  module _ (b : Core R g) (to : ℕ) (two : Two) (most : ℕ) (few : most ≤ 2 ^ 20) (loses : CoreLosesInSteps count told a b most two) where
    halted : (direction : Direction) (setup : Setup) (p : Point) (samples : List ℕ) (served energy : ℕ) → StandsAt (told (core_rack a)) (service_of count a samples served energy) setup p → point_wear p < worn_at → MayGo direction setup p.state to
        → Ran (told (core_rack a)) (told (core_rack b)) (GoesOn (count (core_rack a)) setup p (asked_event direction) (Halted (HaltTwo two)) (IsHaltedWith p (HaltTwo two) energy))
    halted Upward setup p samples served energy at fit may =
        up_asked_lost (told (core_rack a)) (service_of count a samples served energy) setup p at fit (at.state.phase ∙ steady) (at.state.out ∙ whole) to may.next two energy (inl refl) most few (told (core_rack b)) (loses p.history p.low samples served energy)
    halted Downward setup p samples served energy at fit may =
        down_asked_lost (told (core_rack a)) (service_of count a samples served energy) setup p at fit (at.state.phase ∙ steady) (at.state.out ∙ whole) to may.next may.unworn two most few (told (core_rack b)) (loses p.history p.low samples served energy)

    pub asked_halts : (direction : Direction) → ((s : PowerState) → IsShiftStateOf a.meta s → MayGo direction a.meta.setup s to) → CoreHalts count told a b (asked_event direction) two
    asked_halts direction could setup p samples served energy at fit =
        let k = service_of count a samples served energy in
        let may = subst (λ (z : Setup). MayGo direction z p.state to) at.same_setup (could p.state (shift_state k p.state at.state)) in
        subst (λ (x : ℕ). Ran (told (core_rack a)) (told (core_rack b)) (GoesOn k.slots setup p (asked_event direction) (Halted (HaltTwo two)) (IsHaltedWith p (HaltTwo two) x))) (sym at.energy) (halted direction setup p samples served energy at fit may)

  -- what is staged is committed
  module _ (m : Core R g) (e : ℕ) (marked : IsMarkedFrom (record a.meta { epoch = e }) m.meta) (table : m.dirty ≡ a.dirty) (staged : CoreStepsInEvent count told a m 1) where
    staged_state : (setup : Setup) (p : Point) (samples : List ℕ) (served energy : ℕ) → StandsAt (told (core_rack a)) (service_of count a samples served energy) setup p → GoesToState (service_of count m samples served energy) p.state
    staged_state setup p samples served energy at =
        marked_state (service_of count a samples served energy) (service_of count m samples served energy) p.state at.state whole marked.lost m.meta.epoch m.meta.writes (marked_counts a.meta m.meta e marked) table refl refl

    -- a disk is lost in that, and refuses the shift
    module _ (to : ℕ) (fault : ShiftFault) (copies : AreCopiesSynced m.meta.setup.geometry.disks m.copied) where
      hindered : (direction : Direction) (setup : Setup) (p : Point) (samples : List ℕ) (served energy d : ℕ) → StandsAt (told (core_rack a)) (service_of count a samples served energy) setup p → point_wear p < worn_at → MayGo direction setup p.state to → named_out m.meta.out ≡ Some d
          → Ran (told (core_rack a)) (told (core_rack m)) (GoesOn (count (core_rack a)) setup p (asked_event direction) (IsOut d) (StandsAt (told (core_rack m)) (service_of count m samples served energy) setup))
      hindered Upward setup p samples served energy d at fit may lost =
          up_hindered (told (core_rack a)) (service_of count a samples served energy) setup p at fit (at.state.phase ∙ steady) (at.state.out ∙ whole) to may.next d (service_of count m samples served energy) copies (staged_state setup p samples served energy at) lost refl 1
          (omega arith) (told (core_rack m)) (staged p.history p.low samples served energy)
      hindered Downward setup p samples served energy d at fit may lost =
          down_hindered (told (core_rack a)) (service_of count a samples served energy) setup p at fit (at.state.phase ∙ steady) (at.state.out ∙ whole) to may.next may.unworn d (service_of count m samples served energy) copies (staged_state setup p samples served energy at) lost refl 1
          (omega arith) (told (core_rack m)) (staged p.history p.low samples served energy)

      pub asked_stopped : (direction : Direction) → ((s : PowerState) → IsShiftStateOf a.meta s → MayGo direction a.meta.setup s to) → ((s : PowerState) → IsShiftStateOf m.meta s → IsRefusedTo direction m.meta.setup s fault)
          → CoreGoesOn count told a m (asked_event direction) (fault_answer fault)
      asked_stopped direction could why =
          let lost = asked_lost a.meta m.meta e marked steady whole direction to fault could why in
          subst (λ (x : ShiftFault). CoreGoesOn count told a m (asked_event direction) (fault_answer x)) (sym lost.1)
          (goes_same count told a m (asked_event direction) (IsOut lost.0) (λ setup s. refl)
          (λ setup p samples served energy at fit.
          let k = service_of count a samples served energy in
          let may = subst (λ (z : Setup). MayGo direction z p.state to) at.same_setup (could p.state (shift_state k p.state at.state)) in
          hindered direction setup p samples served energy lost.0 at fit may lost.2))

    -- or none, and it begins
    module _ (slot : R → ℕ → Slot) (b : Core R g) (to : ℕ) (still : m.meta.out ≡ No) (begins : CoreStepsInEvent count told m b 1) (table_then : b.dirty ≡ m.dirty) (copies : AreCopiesSynced b.meta.setup.geometry.disks b.copied) where
      setup_is : m.meta.setup ≡ a.meta.setup
      setup_is = ap (λ (z : Meta). z.setup) (unmarked a.meta m.meta e marked whole still)

      gear_is : m.meta.gear ≡ a.meta.gear
      gear_is = ap (λ (z : Meta). z.gear) (unmarked a.meta m.meta e marked whole still)

      steps : CoreStepsInEvent count told a b (1 + 1)
      steps = core_steps_then count slot told a m b 1 1 staged begins

      down_begun : ((s : PowerState) → IsShiftStateOf m.meta s → MayGoDown m.meta.setup s to) → to < m.meta.gear → IsMarkedFrom (record (meta_after_begin m.meta (Down to) m.meta.spins) { epoch = m.meta.epoch + 1 }) b.meta
          → CoreGoesOn count told a b AskDown (Shift a.meta.gear to)
      down_begun could lower begun = goes_same count told a b AskDown (Shift a.meta.gear to) (λ setup s. no_spin_ups setup.spinup_mj to a.meta.gear (subst (λ (x : ℕ). to < x) gear_is lower))
          (λ setup p samples served energy at fit.
          let k = service_of count a samples served energy in
          let j = service_of count m samples served energy in
          let k_then = service_of count b samples served energy in
          let state = (staged_state setup p samples served energy at).whole still in
          let may = subst (λ (z : Setup). MayGoDown z p.state to) (setup_is ∙ at.same_setup) (could p.state (shift_state j p.state state)) in
          let goes = starts_down j k_then p.state to state still begun.lost b.meta.epoch b.meta.writes (marked_counts (meta_after_begin m.meta (Down to) m.meta.spins) b.meta (m.meta.epoch + 1) begun) table_then refl refl in
          subst (λ (x : ℕ). Ran (told (core_rack a)) (told (core_rack b)) (GoesOn k.slots setup p AskDown (Shift x to) (StandsAt (told (core_rack b)) k_then setup))) at.state.gear
          (down_asked (told (core_rack a)) k setup p at fit (at.state.phase ∙ steady) (at.state.out ∙ whole) to may.next (subst (λ (x : ℕ). to < x) (gear_is ∙ sym at.state.gear) lower) may.unworn k_then copies goes refl (1 + 1)
          (omega arith) (told (core_rack b)) (steps p.history p.low samples served energy)))

      -- upward with the energy of its spin-ups
      module _ (begun : HasBegunUp m.meta b.meta to) (eight : length m.meta.spins ≡ 8) (eight_then : length b.meta.spins ≡ 8) where
        spins_now : b.meta.spins ≡ begun.spins
        spins_now = by begun.is.lost refl
          where
            by : (o : Option ℕ) → begun.is.lost ≡ o → b.meta.spins ≡ begun.spins
            by None is = ap (λ (z : Meta). z.spins) (begun.is.is ∙ ap (λ (o : Option ℕ). meta_with_lost o (record (meta_after_begin m.meta (Up to) begun.spins) { epoch = m.meta.epoch + 1 })) is)
            by (Some d) is = ap (λ (z : Meta). z.spins) (begun.is.is ∙ ap (λ (o : Option ℕ). meta_with_lost o (record (meta_after_begin m.meta (Up to) begun.spins) { epoch = m.meta.epoch + 1 })) is)

        spins_are : begun.spins ≡ with_spin_ups m.meta.gear to m.meta.spins
        spins_are = raised_spins m.meta.gear to begun.spins m.meta.spins (ap (λ (z : List ℕ). length z) (sym spins_now) ∙ eight_then ∙ sym eight) begun.raised begun.others

        up_begun : ((s : PowerState) → IsShiftStateOf m.meta s → MayGoUp m.meta.setup s to) → CoreGoesOn count told a b AskUp (Shift a.meta.gear to)
        up_begun could setup p samples served energy at fit =
            let k = service_of count a samples served energy in
            let j = service_of count m samples served energy in
            let used = energy_after setup energy p.state (Shift a.meta.gear to) in
            let k_then = service_of count b samples served used in
            let state = (staged_state setup p samples served energy at).whole still in
            let may = subst (λ (z : Setup). MayGoUp z p.state to) (setup_is ∙ at.same_setup) (could p.state (shift_state j p.state state)) in
            let goes = (starts_up j k_then to begun.spins still spins_are begun.is.lost b.meta.epoch b.meta.writes (marked_counts (meta_after_begin m.meta (Up to) begun.spins) b.meta (m.meta.epoch + 1) begun.is) table_then refl refl).begun p.state state in
            subst (λ (x : ℕ). Ran (told (core_rack a)) (told (core_rack b)) (GoesOn k.slots setup p AskUp (Shift x to) (StandsAt (told (core_rack b)) k_then setup))) at.state.gear
            (up_asked (told (core_rack a)) k setup p at fit (at.state.phase ∙ steady) (at.state.out ∙ whole) to may.next k_then copies goes (ap (λ (x : ℕ). min (energy + spin_up_energy setup x to) 18446744073709551615) (sym at.state.gear)) (1 + 1)
            (omega arith) (told (core_rack b)) (recounted (told (core_rack a)) (told (core_rack b)) k (service_of count b samples served energy) used p.history p.low (1 + 1) (steps p.history p.low samples served energy)))

      pub asked_begun : (direction : Direction) → ((s : PowerState) → IsShiftStateOf m.meta s → MayGo direction m.meta.setup s to) → IsNextTo direction m.meta to → HasBegun direction m.meta b.meta to → length m.meta.spins ≡ 8 → length b.meta.spins ≡ 8
          → CoreGoesOn count told a b (asked_event direction) (Shift a.meta.gear to)
      asked_begun Upward could next begun eight eight_then = up_begun begun eight eight_then could
      asked_begun Downward could next begun eight eight_then = down_begun could next.0.below begun

-- It has one commit, and leaves the disk that is out known.
module _ {R : Type 0} {g : _} (slot : R → ℕ → Slot) (m : Meta) (b : Core R g) (to : ℕ) where
  -- the marks of its begin
  begun_marks : (direction : Direction) → HasBegun direction m b.meta to → (n : Meta) × (n.out ≡ m.out) × (n.epoch ≡ m.epoch + 1) × IsMarkedFrom n b.meta
  begun_marks Upward begun = (record (meta_after_begin m (Up to) begun.spins) { epoch = m.epoch + 1 }, refl, refl, begun.is)
  begun_marks Downward begun = (record (meta_after_begin m (Down to) m.spins) { epoch = m.epoch + 1 }, refl, refl, begun)

  pub begun_known : (direction : Direction) → HasBegun direction m b.meta to → m.out ≡ No → IsNamedOrAbsent slot b → IsOutKnown slot b
  begun_known direction begun whole absent = let marks = begun_marks direction begun in known_marked slot b marks.0 (marks.1 ∙ whole) marks.3 absent

  pub begun_epoch : (direction : Direction) → HasBegun direction m b.meta to → b.meta.epoch ≡ m.epoch + 1
  begun_epoch direction begun = let marks = begun_marks direction begun in marked_epoch marks.0 b.meta marks.3 ∙ marks.2
