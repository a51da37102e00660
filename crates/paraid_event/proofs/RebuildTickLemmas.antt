-- A tick that moves units of a rebuild.
use Rattle.std.proofs.Common.{◌≡◌, ℕ, ◌+◌, ◌^◌, ◌<◌, ◌≤◌, Bool, true, false, List, [], ◌∷◌, Option, Some, None, refl, sym, ap, ◌∙◌, inl, inr, subst, arith, min, if◌then◌else◌}
use Rattle.std.specs.Prelude.{◌==◌, Contains, slice_index}
use Rattle.std.proofs.lemmas.Bool.{cases_eq, false≢true}
use Rattle.std.proofs.lemmas.Bool.Decides.{nat_tests}
use Rattle.std.proofs.lemmas.List.{append-nil}
use Rattle.paraid_base.specs.declared.event.Answer.{Answer}
use Rattle.paraid_base.specs.declared.event.Answer.TheVariants.{Halted}
use Rattle.paraid_base.specs.declared.event.Event.TheVariants.{Tick}
use Rattle.paraid_base.specs.declared.fault.Halt.TheVariants.{Two as HaltTwo}
use Rattle.paraid_base.specs.declared.fault.Two.{Two}
use Rattle.paraid_base.specs.declared.state.Out.{Out}
use Rattle.paraid_base.specs.declared.state.Out.TheVariants.{No, Gone, Fresh}
use Rattle.paraid_base.specs.declared.state.TickEvent.{TickEvent}
use Rattle.paraid_base.specs.declared.state.TickEvent.TheVariants.{Gone as GoneAgain, Moving, Rebuilt}
use Rattle.paraid_base.specs.Log.{worn_at}
use Rattle.paraid_base.specs.States.{named_out, phase_beside}
use Rattle.paraid_dirty.specs.Table.{is_dirty}
use Rattle.paraid_rack.specs.declared.call.Call.{Call}
use Rattle.paraid_rack.specs.declared.call.Call.TheVariants.{Read, Write, Sync, Park, SpinUp, Attach}
use Rattle.paraid_rack.specs.declared.call.Power.{Power}
use Rattle.paraid_rack.specs.declared.call.Power.TheVariants.{Absent, Parked, Spinning}
use Rattle.paraid_rack.specs.Disks.{Disks, is_present, power_after, step, with_at}
use Rattle.paraid_rack.specs.Lawful.{IsLawful}
use Rattle.paraid_rack.specs.Told.{Ran}
use Rattle.paraid_rack.specs.Trail.{Trail, now, run}
use Rattle.paraid_rack.proofs.AtomsLemmas.{with_at_other, with_at_same}
use Rattle.paraid_rack.proofs.TrailsLemmas.{now-extend}
use Rattle.paraid_record.specs.declared.meta.Meta.{Meta}
use Rattle.paraid_record.specs.declared.meta.Setup.{Setup}
use Rattle.paraid_image.specs.Calls.{disk_of, is_attach}
use Rattle.paraid_image.specs.Power.{PowerState}
use Rattle.paraid_image.proofs.FailedCallLemmas.{failed_is_loss}
use Rattle.paraid_machine.specs.Energy.{energy_after, tick_energy}
use Rattle.paraid_machine.specs.Machine.{IsEventStep, outcomes, rebuild, report, tick_by_out}
use Rattle.paraid_machine.specs.Moves.{after_loss, state_with_tick, units_to_rebuild}
use Rattle.paraid_session.specs.Turn.{GoesOn, IsFirstDown, IsMark, IsUnhurt, LosesSecondDisk, Point, bounds_at, makes_no_call, point_wear, tells_begin}
use Rattle.paraid_session.specs.Turn.IsFirstDown.{out as first_out}
use Rattle.paraid_session.specs.Turn.IsSecondLossEnergy.{own}
use Rattle.paraid_session.specs.Turn.IsSecondLossGear.{same}
use Rattle.paraid_session.specs.Turn.IsTurn.{answered, two as second_loss}
use Rattle.paraid_session.specs.Watch.{Bounds, Down, Each, HoldsWhileServing, IsAllowed, IsServing, Watch, attach_count, down_from_out, fails_on, first_lost, watch, watch_all}
use Rattle.paraid_session.proofs.LayerLemmas.{absent_failed, fails_first, first_fails}
use Rattle.paraid_session.specs.Resting.{watch_at}
use Rattle.paraid_recover.proofs.DownLemmas.{watched_disks}
use Rattle.paraid_event.proofs.ApartLemmas.{gone_not_fresh, tick_not_bad}
use Rattle.paraid_event.specs.Lost.{TellsTwo}
use Rattle.paraid_event.specs.RebuildTicks.{CountsRebuild, MarksGoneAgain, MarksRebuilt}
use Rattle.paraid_event.proofs.UpLemmas.{made_most}
use Rattle.paraid_event.proofs.UsedLemmas.{counted_made}
use Rattle.paraid_event.specs.Service.{IsStateOf, Service}
use Rattle.paraid_event.specs.Stands.{IsMidway, StandsAt, StandsIn}
use Rattle.paraid_event.specs.Steps.{AreStepCalls, GoesInSteps, IsOnly, IsUnderway, LosesInSteps, StepsInEvent}
use Rattle.paraid_event.specs.Ticks.{CountsTick, IsHaltedWith}
use Rattle.paraid_event.proofs.EndLemmas.{fails_split, only_from, only_is, only_serving}
use Rattle.paraid_event.proofs.IdleLemmas.{stands_in, state_then, used}
use Rattle.paraid_event.proofs.LastCallLemmas.{ends_event}
use Rattle.paraid_event.proofs.LostLemmas.{one_outcome}
use Rattle.paraid_event.proofs.PointLemmas.{stands_mark}
use Rattle.paraid_event.proofs.TurnLemmas.{absent_named, fresh_there, out_low}
use Rattle.paraid_event.proofs.PreludeLemmas.{some_trail}

-- a disk that is absent stays so, while none is attached
off_at : (p : ℕ → Power) (e x : ℕ) (left was : Power) → p e ≡ was → (is_present was ≡ false → is_present left ≡ false) → is_present (p x) ≡ false → is_present (with_at p e left x) ≡ false
off_at p e x left was is stays off = elim (cases_eq x e) [
  | inl same_disk ↦ ap is_present (with_at_same p e left x same_disk) ∙ stays (ap is_present (sym is) ∙ ap (λ (y : ℕ). is_present (p y)) (sym same_disk) ∙ off)
  | inr apart ↦ ap is_present (with_at_other p e left x apart) ∙ off
]

after_off : (done : Bool) (power : Power) → is_present power ≡ false → is_present (power_after done power) ≡ false
after_off true power off = off
after_off false power off = refl

off_step : (s : Disks) (c : Call) (x : ℕ) → IsLawful s c → is_attach c ≡ false → is_present (s.power x) ≡ false → is_present ((step c s).power x) ≡ false
unfolding step
off_step s (Read e p done) x lawful is off = off_at s.power e x (power_after done (s.power e)) (s.power e) refl (after_off done (s.power e)) off
off_step s (Write e p b done) x lawful is off = off_at s.power e x (power_after done (s.power e)) (s.power e) refl (after_off done (s.power e)) off
off_step s (Sync e done) x lawful is off = off_at s.power e x (power_after done (s.power e)) (s.power e) refl (after_off done (s.power e)) off
off_step s (Park e done) x lawful is off = off_at s.power e x (power_after done Parked) Spinning lawful.0 (λ z. absurd (false≢true (sym z))) off
off_step s (SpinUp e done) x lawful is off = off_at s.power e x (power_after done Spinning) Parked lawful (λ z. absurd (false≢true (sym z))) off
off_step s (Attach e size done) x lawful is off = absurd (false≢true (sym is))

pub none_first : (t : Bool) (count : ℕ) → (if t then count + 1 else count) ≡ 0 → (t ≡ false) × (count ≡ 0)
none_first true count is = absurd (omega (arith, is))
none_first false count is = (refl, is)

module _ (P : Watch → Type 0) (setup : Setup) (asked : Option ℕ) where
  off_all : (w : Watch) (cs : List Call) (x : ℕ) → Each P (IsAllowed setup asked) w cs → attach_count cs ≡ 0 → is_present (w.disks.power x) ≡ false → is_present ((watch_all cs w).disks.power x) ≡ false
  off_all w [] x each none off = off
  off_all w (c ∷ cs) x each none off = let no = none_first (is_attach c) (attach_count cs) none in off_all (watch c w) cs x each.2 no.1 (off_step w.disks c x each.1.power no.0 off)

  -- one on which a call failed is absent then
  pub failed_off : (w : Watch) (cs : List Call) (e : ℕ) → Each P (IsAllowed setup asked) w cs → attach_count cs ≡ 0 → fails_on e cs ≡ true → is_present ((watch_all cs w).disks.power e) ≡ false
  failed_off w [] e each none is = absurd (false≢true is)
  failed_off w (c ∷ cs) e each none is = let no = none_first (is_attach c) (attach_count cs) none in elim (fails_split c cs e is) [
    | inl here ↦ off_all (watch c w) cs e each.2 no.1 (subst (λ (x : ℕ). is_present ((step c w.disks).power x) ≡ false) here.1 (let l = failed_is_loss w.disks c here.0 in ap is_present (l.power (disk_of c) ∙ with_at_same w.disks.power (disk_of c) Absent (disk_of c) refl)))
    | inr later ↦ failed_off (watch c w) cs e each.2 no.1 later
  ]

pub capped_sum : (a b t x y : ℕ) → a ≡ b → x ≡ min (b + t) 18446744073709551615 → y ≡ x → min (a + (t + 0)) 18446744073709551615 ≡ y
capped_sum a b t x y equal is last = grind (arith)

pub under_cap : (x y a : ℕ) → x ≡ min a 18446744073709551615 → y ≡ x → y ≤ 18446744073709551615
under_cap x y a is last = grind (arith)

pub equal_test : (a b : ℕ) → a ≡ b → (a == b) ≡ true
equal_test a b same_disk = grind (arith, nat_tests)

less_min : (a b : ℕ) → a < b → min a b ≡ a
less_min a b l = grind (arith)

apart_test : (a b : ℕ) → a < b → (a == b) ≡ false
apart_test a b l = grind (arith, nat_tests)

-- so it is answered: units are moved, or the disk is gone again
abbrev ticks_to : Setup → ℕ → Bool → TickEvent
ticks_to setup d true = Moving
ticks_to setup d false = GoneAgain d

abbrev moved_by : Setup → Bool → ℕ
moved_by setup true = setup.rate
moved_by setup false = 0

abbrev rebuilt_state : Setup → PowerState → ℕ → ℕ → Bool → PowerState
rebuilt_state setup s d rebuilt true = record s { out = Fresh d (rebuilt + setup.rate) }
rebuilt_state setup s d rebuilt false = after_loss s d

abbrev loss_by : ℕ → Bool → Option ℕ
loss_by d true = None
loss_by d false = Some d

module _ (told : Option Trail) (k k1 : Service) (setup : Setup) (p : Point) (at : StandsAt told k setup p) (d rebuilt : ℕ) (is_fresh : p.state.out ≡ Fresh d rebuilt) (counts : CountsTick k k1) (fit : point_wear p < worn_at) (most : ℕ) (few : most ≤ 2 ^ 20) where
  abbrev w0 : Watch
  w0 = watch_at p

  abbrev s1 : PowerState
  s1 = state_with_tick p.state

  abbrev b : Bounds
  b = bounds_at setup p s1

  pub state1 : IsStateOf k1 s1
  state1 = subst (λ (z : Service). IsStateOf z s1) (sym counts.is) (state_then told k k1 setup p at counts fit)

  pub out1 : k1.meta.out ≡ Fresh d rebuilt
  out1 = sym state1.out ∙ is_fresh

  pub setup1 : k1.meta.setup ≡ setup
  setup1 = ap (λ (z : Service). z.meta.setup) counts.is ∙ at.same_setup

  pub slots1 : k1.slots ≡ k.slots
  slots1 = ap (λ (z : Service). z.slots) counts.is

  -- the tick is counted
  pub underway1 : IsUnderway k1 p.history p.low p.meta w0
  underway1 = subst (λ (z : Service). IsUnderway z p.history p.low p.meta w0) (sym counts.is) (record {
    midway = record { stands = stands_in told k k1 setup p at counts fit; named = absent_named told k setup p at; low = out_low told k setup p at; fresh = fresh_there told k setup p at };
    only = subst (λ (o : Out). IsOnly (named_out o) (down_from_out (named_out p.state.out))) at.state.out (only_from (named_out p.state.out));
    shown = record { gear = at.shown.gear; out = at.shown.out; phase = at.shown.phase; fill = at.shown.fill; spins = at.shown.spins };
    powered = record { by_gear = at.powered.by_gear; fresh = at.powered.fresh };
  })

  pub counted_energy : k1.energy ≡ min (k.energy + tick_energy setup p.state) 18446744073709551615
  counted_energy = used told k k1 setup p at counts fit

  abbrev Held : List Call → Type 0
  Held = Each (HoldsWhileServing k.slots p.history p.low b) (IsAllowed setup None) w0

  -- what a session asks of each moment
  pub moments : (cs : List Call) → AreStepCalls k1 p.history p.low most p.meta w0 cs → Held cs
  moments cs calls = subst (λ (n : ℕ). Each (HoldsWhileServing n p.history p.low b) (IsAllowed setup None) w0 cs) slots1
      (calls.moments b None setup1 (let e = state1.ticks in omega (arith, e)) (omega (arith, few)))

  abbrev halted_point : Two → List Call → Point
  halted_point two cs = record p { disks = run p.disks cs; energy = k1.energy; halt = Some (HaltTwo two) }

  abbrev count : ℕ
  count = min setup.rate (units_to_rebuild setup s1 d rebuilt)

  tick_busy : (answer : Answer) (new : PowerState) → IsUnhurt setup p Tick answer new → makes_no_call answer ≡ false
  unfolding outcomes
  tick_busy answer new is =
      let one = subst (λ (o : Out). Contains {X = Answer × PowerState} (tick_by_out setup None s1 o) (answer, new)) is_fresh is.among in
      by (count == units_to_rebuild setup s1 d rebuilt) one
    where
      by : (t : Bool) → Contains {X = Answer × PowerState} ((if t then report (record s1 { out = No }) count (Rebuilt d) else report (record s1 { out = Fresh d (rebuilt + count) }) count Moving) ∷ []) (answer, new) → makes_no_call answer ≡ false
      by true one = ap makes_no_call (sym (one_outcome (report (record s1 { out = No }) count (Rebuilt d)) answer new one))
      by false one = ap makes_no_call (sym (one_outcome (report (record s1 { out = Fresh d (rebuilt + count) }) count Moving) answer new one))

  first_down : (two : Two) (cs : List Call) → TellsTwo k1 two p.disks cs → IsFirstDown k.slots setup p Tick cs two.first
  first_down two cs tells = first_out (elim tells.first [
    | inl was ↦ ap named_out state1.out ∙ was
    | inr none ↦ let z : Some d ≡ None = ap named_out (sym out1) ∙ none.0 in cc
  ])

  -- a second disk is lost
  tick_lost : (two : Two) (cs : List Call) → AreStepCalls k1 p.history p.low most p.meta w0 cs → TellsTwo k1 two p.disks cs → LosesSecondDisk k.slots setup p Tick two cs (halted_point two cs)
  tick_lost two cs calls tells = record {
    fit = fit;
    first = first_down two cs tells;
    apart = tells.apart;
    ends = ends_event k.slots setup p Tick two cs (first_down two cs tells) tells.ends;
    busy = tick_busy;
    moments = moments cs calls;
    once = let a = calls.attaches in omega (arith, a);
    disks = refl;
    history = refl;
    gear = same refl;
    energy = own (counted_energy ∙ ap (λ (e : ℕ). min (e + tick_energy setup p.state) 18446744073709551615) (sym at.energy));
    halted = refl;
  }

  pub rebuild_loses : (two : Two) (told_then : Option Trail) → Ran told told_then (LosesInSteps k1 p.history p.low most two) → Ran told told_then (GoesOn k.slots setup p Tick (Halted (HaltTwo two)) (IsHaltedWith p (HaltTwo two) k1.energy))
  rebuild_loses two told_then ran t tells =
      let r = ran t tells in
      let from : now r.from ≡ p.disks = at.disks r.from r.was in
      let holds = r.holds p.meta w0 (sym from) underway1 in
      record {
        from = r.from;
        was = r.was;
        calls = r.calls;
        is = r.is;
        holds = (
          halted_point two r.calls,
          second_loss two at.going (λ e. tick_not_bad e) refl (tick_lost two r.calls holds.0 (subst (λ (s : Disks). TellsTwo k1 two s r.calls) from holds.1)),
          refl,
        );
      }

  -- with more units left than it may move
  abbrev moving_outcome : ℕ → ℕ → Answer × PowerState
  moving_outcome left c = if c == left then report (record s1 { out = No }) c (Rebuilt d) else report (record s1 { out = Fresh d (rebuilt + c) }) c Moving

  moves_rate : (left : ℕ) → (setup.rate == left) ≡ false → Contains {X = Answer × PowerState} (moving_outcome left setup.rate ∷ []) ((report p.state setup.rate Moving).0, record s1 { out = Fresh d (rebuilt + setup.rate) })
  moves_rate left test = rw test (0, omega arith, refl)

  moves_some : setup.rate < units_to_rebuild setup s1 d rebuilt → Contains {X = Answer × PowerState} (rebuild setup None s1 d rebuilt) ((report p.state setup.rate Moving).0, record s1 { out = Fresh d (rebuilt + setup.rate) })
  moves_some more = subst (λ (c : ℕ). Contains {X = Answer × PowerState} (moving_outcome (units_to_rebuild setup s1 d rebuilt) c ∷ []) ((report p.state setup.rate Moving).0, record s1 { out = Fresh d (rebuilt + setup.rate) }))
      (sym (less_min setup.rate (units_to_rebuild setup s1 d rebuilt) more)) (moves_rate (units_to_rebuild setup s1 d rebuilt) (apart_test setup.rate (units_to_rebuild setup s1 d rebuilt) more))

  module _ (moved : Bool) (k2 : Service) (counts2 : CountsRebuild k k1 k2) (left : moved ≡ true → setup.rate < units_to_rebuild setup s1 d rebuilt) (cs : List Call) (goes : GoesInSteps k1 k2 p.history p.low most (IsUnderway k2 p.history p.low) p.meta w0 cs)
      (state2 : IsStateOf k2 (rebuilt_state setup s1 d rebuilt moved)) (loss : first_lost cs ≡ loss_by d moved) where
    abbrev v : Watch
    v = watch_all cs w0

    abbrev s2 : PowerState
    s2 = rebuilt_state setup s1 d rebuilt moved

    abbrev answer : Answer
    answer = (report p.state (moved_by setup moved) (ticks_to setup d moved)).0

    mid2 : IsMidway k2 p.history p.low goes.base_then v
    mid2 = goes.ends.midway

    serving2 : IsServing v.down
    serving2 = only_serving (named_out k2.meta.out) v.down goes.ends.only

    down2 : v.down ≡ down_from_out (named_out s2.out)
    down2 = only_is (named_out k2.meta.out) v.down goes.ends.only mid2.stands.named_down ∙ ap (λ (o : Out). down_from_out (named_out o)) (sym state2.out)

    abbrev q : Point
    q = record {
      disks = v.disks;
      history = p.history;
      low = p.low;
      meta = goes.base_then;
      state = s2;
      energy = energy_after setup p.energy p.state answer;
      spun = v.spun;
      awaited = v.awaited;
      halt = None;
    }

    energy2 : energy_after setup p.energy p.state answer ≡ k2.energy
    energy2 = by moved
      where
        by : (t : Bool) → energy_after setup p.energy p.state (report p.state (moved_by setup t) (ticks_to setup d t)).0 ≡ k2.energy
        by true = capped_sum p.energy k.energy (tick_energy setup p.state) k1.energy k2.energy at.energy counted_energy counts2.energy
        by false = capped_sum p.energy k.energy (tick_energy setup p.state) k1.energy k2.energy at.energy counted_energy counts2.energy

    after : (told_then : Option Trail) → ((t : Trail) → told_then ≡ Some t → now t ≡ v.disks) → StandsAt told_then k2 setup q
    after told_then tells = record {
      disks = tells;
      stands = subst (λ (x : Down). StandsIn k2 p.history p.low goes.base_then (record { disks = v.disks; down = x; spun = v.spun; awaited = v.awaited })) down2 mid2.stands;
      copies_synced = counts2.copies_synced;
      same_setup = goes.leaves.setup ∙ setup1;
      shown = goes.ends.shown;
      powered = goes.ends.powered;
      state = state2;
      energy = energy2;
      fits = under_cap k1.energy k2.energy (k.energy + tick_energy setup p.state) counted_energy counts2.energy;
      going = refl;
    }

    among : Contains {X = Answer × PowerState} (rebuild setup (loss_by d moved) s1 d rebuilt) (answer, s2)
    among = by moved left
      where
        by : (t : Bool) → (t ≡ true → setup.rate < units_to_rebuild setup s1 d rebuilt) → Contains {X = Answer × PowerState} (rebuild setup (loss_by d t) s1 d rebuilt) ((report p.state (moved_by setup t) (ticks_to setup d t)).0, rebuilt_state setup s1 d rebuilt t)
        by true more = moves_some (more refl)
        by false more = let test = equal_test d d refl in rw test (0, omega arith, refl)

    machine : IsEventStep setup p.history p.energy p.state Tick (first_lost cs) answer s2
    unfolding outcomes
    machine = record {
      among = subst (λ (o : Out). Contains {X = Answer × PowerState} (tick_by_out setup (first_lost cs) s1 o) (answer, s2)) (sym is_fresh)
          (subst (λ (o : Option ℕ). Contains {X = Answer × PowerState} (rebuild setup o s1 d rebuilt) (answer, s2)) (sym loss) among);
    }

    not_begun : tells_begin answer ≡ false
    not_begun = by moved
      where
        by : (t : Bool) → tells_begin (report p.state (moved_by setup t) (ticks_to setup d t)).0 ≡ false
        by true = refl
        by false = refl

    busy : makes_no_call answer ≡ false
    busy = by moved
      where
        by : (t : Bool) → makes_no_call (report p.state (moved_by setup t) (ticks_to setup d t)).0 ≡ false
        by true = refl
        by false = refl

    tick_turn : (told_then : Option Trail) → ((t : Trail) → told_then ≡ Some t → now t ≡ v.disks) → GoesOn k.slots setup p Tick answer (StandsAt told_then k2 setup) p.disks cs
    tick_turn told_then tells = let there = after told_then tells in (
      q,
      answered at.going (λ e. tick_not_bad e) (record {
        fit = λ asked. fit;
        machine = machine;
        moments = moments cs goes.calls;
        once = let a = goes.calls.attaches in omega (arith, a);
        attached = λ is. absurd (false≢true is);
        ups = λ e low.
            let a = goes.leaves.used e (subst (λ (z : Setup). e < z.geometry.disks) (sym setup1) low) in
            let r = counted_made told k k1 setup p at counts e low in
            let m = made_most k2.meta v.disks.power e in
            let l = ap (λ (x : List ℕ). slice_index x e) state2.spins in
            omega (arith, a, r, m, l);
        quiet = λ still none. absurd (false≢true (sym busy ∙ still));
        serving = serving2;
        carried = λ is none. absurd (false≢true (sym not_begun ∙ is));
        brought = λ moved_on. elim goes.carried [
          | inl still ↦ absurd (moved_on still)
          | inr brought ↦ brought ∙ sym state2.ticks
        ];
        named = λ e was is moved_on. absurd (gone_not_fresh (sym was ∙ is_fresh));
        mark = subst (λ (m : ℕ). IsMark m setup q) (goes.leaves.slots ∙ slots1) (stands_mark told_then k2 setup q there);
        flushed = λ f. absurd (false≢true f);
        disks = watched_disks w0 cs;
        history = sym (append-nil p.history);
        low = refl;
        energy = refl;
        spun = refl;
        awaited = refl;
        going = refl;
      }),
      there,
    )

  -- the meta that is marked is that of the state
  moving_state : (k2 : Service) → CountsRebuild k k1 k2 → MarksRebuilt k1 k2 d (rebuilt + setup.rate) → IsStateOf k2 (rebuilt_state setup s1 d rebuilt true)
  moving_state k2 counts2 marks = record {
    gear = state1.gear ∙ sym (ap (λ (m : Meta). m.gear) marks.is);
    phase = state1.phase ∙ sym (ap (λ (m : Meta). m.phase) marks.is);
    fill = state1.fill ∙ sym (ap (λ (m : Meta). m.fill) marks.is);
    out = sym (ap (λ (m : Meta). m.out) marks.is);
    spins = state1.spins ∙ sym (ap (λ (m : Meta). m.spins) marks.is);
    ticks = state1.ticks ∙ sym (ap (λ (m : Meta). m.ticks) marks.is);
    dirty = λ r e low. state1.dirty r e (subst (λ (m : Meta). r < m.setup.geometry.rows) marks.is low) ∙ ap (λ (t : List (List Bool)). is_dirty t r e) (sym counts2.counts_then.table);
    samples = state1.samples ∙ sym counts2.counts_then.samples;
    served = state1.served ∙ sym counts2.counts_then.served;
  }

  pub gone_state : (k2 : Service) → CountsRebuild k k1 k2 → MarksGoneAgain k1 k2 d → IsStateOf k2 (rebuilt_state setup s1 d rebuilt false)
  gone_state k2 counts2 marks = record {
    gear = state1.gear ∙ sym (ap (λ (m : Meta). m.gear) marks.is);
    phase = ap (phase_beside true) state1.phase ∙ sym (ap (λ (m : Meta). m.phase) marks.is);
    fill = sym (ap (λ (m : Meta). m.fill) marks.is);
    out = sym (ap (λ (m : Meta). m.out) marks.is);
    spins = state1.spins ∙ sym (ap (λ (m : Meta). m.spins) marks.is);
    ticks = state1.ticks ∙ sym (ap (λ (m : Meta). m.ticks) marks.is);
    dirty = λ r e low. state1.dirty r e (subst (λ (m : Meta). r < m.setup.geometry.rows) marks.is low) ∙ ap (λ (t : List (List Bool)). is_dirty t r e) (sym counts2.counts_then.table);
    samples = state1.samples ∙ sym counts2.counts_then.samples;
    served = state1.served ∙ sym counts2.counts_then.served;
  }

  -- no call failed where the disk is there still
  none_failed : (k2 : Service) (cs : List Call) (goes : GoesInSteps k1 k2 p.history p.low most (IsUnderway k2 p.history p.low) p.meta w0 cs) (u : ℕ) → k2.meta.out ≡ Fresh d u → first_lost cs ≡ None
  none_failed k2 cs goes u is = by (first_lost cs) refl
    where
      by : (o : Option ℕ) → first_lost cs ≡ o → first_lost cs ≡ None
      by None none = none
      by (Some e) some =
          let fails = first_fails cs e some in
          let one : Some d ≡ Some e = sym (ap named_out is) ∙ goes.leaves.failed e fails in
          let same_disk : d ≡ e = cc in
          let absent = failed_off (HoldsWhileServing k.slots p.history p.low b) setup None w0 cs e (moments cs goes.calls) goes.calls.attaches fails in
          absurd (false≢true (sym absent ∙ ap (λ (x : ℕ). is_present ((watch_all cs w0).disks.power x)) (sym same_disk) ∙ goes.ends.midway.fresh d u is))

  -- and it failed where it is absent
  it_failed : (k2 : Service) (cs : List Call) (goes : GoesInSteps k1 k2 p.history p.low most (IsUnderway k2 p.history p.low) p.meta w0 cs) → k2.meta.out ≡ Gone d → is_present ((run p.disks cs).power d) ≡ false → first_lost cs ≡ Some d
  it_failed k2 cs goes is off = elim (absent_failed p.disks cs d off) [
    | inl before ↦ absurd (false≢true (sym before ∙ fresh_there told k setup p at d rebuilt (sym at.state.out ∙ is_fresh)))
    | inr fails ↦
        let it = fails_first cs d fails in
        let one : Some d ≡ Some it.0 = sym (ap named_out is) ∙ goes.leaves.failed it.0 (first_fails cs it.0 it.1) in
        it.1 ∙ sym one
  ]

  pub moving_told : (k2 : Service) → CountsRebuild k k1 k2 → MarksRebuilt k1 k2 d (rebuilt + setup.rate) → setup.rate < units_to_rebuild setup s1 d rebuilt → (told_then : Option Trail) → Ran told told_then (StepsInEvent k1 k2 p.history p.low most)
      → Ran told told_then (GoesOn k.slots setup p Tick (report p.state setup.rate Moving).0 (StandsAt told_then k2 setup))
  moving_told k2 counts2 marks left told_then ran t tells =
      let r = ran t tells in
      let from : now r.from ≡ p.disks = at.disks r.from r.was in
      let goes = r.holds p.meta w0 (sym from) underway1 in
      let end : now t ≡ (watch_all r.calls w0).disks = ap now r.is ∙ now-extend r.from r.calls ∙ ap (λ (s : Disks). run s r.calls) from ∙ sym (watched_disks w0 r.calls) in
      record {
        from = r.from;
        was = r.was;
        calls = r.calls;
        is = r.is;
        holds = tick_turn true k2 counts2 (λ e. left) r.calls goes (moving_state k2 counts2 marks) (none_failed k2 r.calls goes (rebuilt + setup.rate) (ap (λ (m : Meta). m.out) marks.is)) told_then
            (λ u u_tells. ap now (some_trail u t (sym u_tells ∙ tells)) ∙ end);
      }

  pub gone_told : (k2 : Service) → CountsRebuild k k1 k2 → MarksGoneAgain k1 k2 d → (told_then : Option Trail) → ((t : Trail) → told_then ≡ Some t → is_present ((now t).power d) ≡ false) → Ran told told_then (StepsInEvent k1 k2 p.history p.low most)
      → Ran told told_then (GoesOn k.slots setup p Tick (report p.state 0 (GoneAgain d)).0 (StandsAt told_then k2 setup))
  gone_told k2 counts2 marks told_then absent ran t tells =
      let r = ran t tells in
      let from : now r.from ≡ p.disks = at.disks r.from r.was in
      let goes = r.holds p.meta w0 (sym from) underway1 in
      let last : now t ≡ run p.disks r.calls = ap now r.is ∙ now-extend r.from r.calls ∙ ap (λ (s : Disks). run s r.calls) from in
      let end : now t ≡ (watch_all r.calls w0).disks = last ∙ sym (watched_disks w0 r.calls) in
      record {
        from = r.from;
        was = r.was;
        calls = r.calls;
        is = r.is;
        holds = tick_turn false k2 counts2 (λ e. absurd (false≢true e)) r.calls goes (gone_state k2 counts2 marks)
            (it_failed k2 r.calls goes (ap (λ (m : Meta). m.out) marks.is) (subst (λ (s : Disks). is_present (s.power d) ≡ false) last (absent t tells))) told_then
            (λ u u_tells. ap now (some_trail u t (sym u_tells ∙ tells)) ∙ end);
      }
