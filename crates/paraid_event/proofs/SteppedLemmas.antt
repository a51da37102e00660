-- From parts of an event to its turn.
use Rattle.paraid_event.specs.Marks.{ShowsMeta}
use Rattle.paraid_record.specs.declared.meta.Meta.{Meta}
use Rattle.paraid_rack.specs.declared.call.Power.{Power}
use Rattle.paraid_base.specs.declared.state.Out.TheVariants.{No}
use Rattle.paraid_base.specs.declared.state.Phase.TheVariants.{Steady, Down as PhaseDown, Up as PhaseUp}
use Rattle.paraid_base.specs.declared.state.Phase.{Phase}
use Rattle.std.proofs.Common.{true, ◌≡◌, ◌≢◌, ℕ, ◌^◌, ◌<◌, ◌≤◌, false, List, [], ◌++◌, Option, Some, None, refl, sym, ap, ◌∙◌, inl, inr, subst, arith, Bool}
use Rattle.std.proofs.lemmas.Bool.{false≢true}
use Rattle.std.proofs.lemmas.List.{append-nil}
use Rattle.paraid_base.specs.declared.event.Answer.{Answer}
use Rattle.paraid_base.specs.declared.event.Answer.TheVariants.{Halted}
use Rattle.paraid_base.specs.declared.event.Event.{Event}
use Rattle.paraid_base.specs.declared.event.Event.TheVariants.{Bad}
use Rattle.paraid_base.specs.declared.fault.Halt.TheVariants.{Two as HaltTwo}
use Rattle.paraid_base.specs.declared.fault.Two.{Two}
use Rattle.paraid_base.specs.declared.state.Out.{Out}
use Rattle.paraid_base.specs.History.{History}
use Rattle.paraid_base.specs.Log.{worn_at}
use Rattle.paraid_base.specs.States.{named_out, has_out, phase_beside}
use Rattle.paraid_base.specs.BlockAnswers.{accepted_write}
use Rattle.paraid_rack.specs.declared.call.Call.{Call}
use Rattle.paraid_rack.specs.Trail.{Trail, now, run}
use Rattle.paraid_record.specs.declared.meta.Setup.{Setup}
use Rattle.paraid_image.specs.Power.{PowerState}
use Rattle.paraid_image.specs.Shown.{with_flush}
use Rattle.paraid_core.specs.CoreInvariant.{AreCopiesSynced}
use Rattle.paraid_machine.specs.Energy.{energy_after}
use Rattle.paraid_machine.specs.Machine.{IsEventStep}
use Rattle.paraid_session.specs.Turn.{GoesOn, IsFirstDown, IsMark, IsSecondLossEnergy, IsUnhurt, Point, awaited_by, bounds_at, bounds_of, is_flush, makes_no_call, point_wear, replaced_by, watch_of, tells_attach, tells_begin}
use Rattle.paraid_session.specs.Turn.IsFirstDown.{lost, out as was_out}
use Rattle.paraid_session.specs.Turn.IsSecondLossGear.{same as same_gear}
use Rattle.paraid_session.specs.Turn.IsTurn.{answered, two as second_loss}
use Rattle.paraid_session.specs.Watch.{Bounds, Down as DownDisks, Each, HoldsWhileServing, IsAllowed, IsServing, Watch, down_from_out, first_lost, watch_all}
use Rattle.paraid_session.specs.Resting.{watch_at}
use Rattle.paraid_recover.proofs.DownLemmas.{watched_disks}
use Rattle.paraid_event.proofs.ApartLemmas.{none_not_gone}
use Rattle.paraid_event.specs.Lost.{TellsTwo}
use Rattle.std.specs.Prelude.{slice_index}
use Rattle.paraid_event.specs.Steps.{made_by, AreStepCalls, GoesInSteps, IsOnly, IsUnderway}
use Rattle.paraid_event.proofs.UpLemmas.{made_most}
use Rattle.paraid_event.specs.Service.{IsStateOf, Service}
use Rattle.paraid_event.specs.Stands.{StandsAt, StandsIn}
use Rattle.paraid_event.specs.Ticks.{IsHaltedWith}
use Rattle.paraid_event.proofs.EndLemmas.{only_from, only_is, only_serving}
use Rattle.paraid_event.proofs.LastCallLemmas.{ends_event}
use Rattle.paraid_event.proofs.PointLemmas.{stands_mark}
use Rattle.paraid_event.proofs.TurnLemmas.{absent_named, fresh_there, out_low}

beside_none : (z : Phase) → phase_beside false z ≡ z
beside_none Steady = refl
beside_none (PhaseDown to) = refl
beside_none (PhaseUp to) = refl

beside_steady : (t : Bool) → phase_beside t Steady ≡ Steady
beside_steady true = refl
beside_steady false = refl

-- where the phase was steady and is not so any more, another meta stands
pub other_base : (base m base_then m_then : Meta) (power power_then : ℕ → Power) → ShowsMeta power base m → ShowsMeta power_then base_then m_then → m.out ≡ No → m.phase ≡ Steady → m_then.phase ≢ Steady → base_then ≢ base
other_base base m base_then m_then power power_then shown shown_then whole steady moved same =
    let was : base.phase ≡ Steady = sym (beside_none base.phase) ∙ ap (λ (o : Out). phase_beside (has_out o) base.phase) (sym whole) ∙ shown.phase ∙ steady in
    moved (sym shown_then.phase ∙ ap (phase_beside (has_out m_then.out)) (ap (λ (z : Meta). z.phase) same ∙ was) ∙ beside_steady (has_out m_then.out))

-- From a point on, of which the array counts `k1` before its parts.
module _ (told_then : Option Trail) (k k1 : Service) (setup : Setup) (p : Point) (event : Event) (bounded : PowerState) (going : p.halt ≡ None) (not_bad : event ≢ Bad) (fit : point_wear p < worn_at)
    (bounds : bounds_of setup p event ≡ bounds_at setup p bounded) (ticks : k1.meta.ticks ≤ bounded.ticks) (setup1 : k1.meta.setup ≡ setup) (slots1 : k1.slots ≡ k.slots) (most : ℕ) (few : most ≤ 2 ^ 20) (cs : List Call) where
  abbrev w0 : Watch
  w0 = watch_at p

  abbrev v : Watch
  v = watch_all cs w0

  abbrev b : Bounds
  b = bounds_at setup p bounded

  each_of : AreStepCalls k1 p.history p.low most p.meta w0 cs → Each (HoldsWhileServing k.slots p.history p.low (bounds_of setup p event)) (IsAllowed setup (replaced_by event)) w0 cs
  each_of calls = subst (λ (z : Bounds). Each (HoldsWhileServing k.slots p.history p.low z) (IsAllowed setup (replaced_by event)) w0 cs) (sym bounds)
      (subst (λ (n : ℕ). Each (HoldsWhileServing n p.history p.low b) (IsAllowed setup (replaced_by event)) w0 cs) slots1 (calls.moments b (replaced_by event) setup1 ticks (omega (arith, few))))

  first_down : (two : Two) → k1.meta.out ≡ p.state.out → TellsTwo k1 two p.disks cs → IsFirstDown k.slots setup p event cs two.first
  first_down two same_out tells = elim tells.first [
    | inl named ↦ was_out (ap named_out (sym same_out) ∙ named)
    | inr none ↦ lost (ap named_out (sym same_out) ∙ none.0) none.1
  ]

  -- where a second disk is lost
  pub steps_lost : (two : Two) (used : ℕ) → watch_of p event (Halted (HaltTwo two)) ≡ w0 → k1.meta.out ≡ p.state.out → AreStepCalls k1 p.history p.low most p.meta w0 cs → TellsTwo k1 two p.disks cs
      → ((answer : Answer) (new : PowerState) → IsUnhurt setup p event answer new → makes_no_call answer ≡ false) → IsSecondLossEnergy setup p event used
      → GoesOn k.slots setup p event (Halted (HaltTwo two)) (IsHaltedWith p (HaltTwo two) used) p.disks cs
  steps_lost two used starts same_out calls tells busy energy = (
    record p { disks = run p.disks cs; energy = used; halt = Some (HaltTwo two) },
    second_loss two going not_bad refl (record {
      fit = fit;
      first = first_down two same_out tells;
      apart = tells.apart;
      ends = ends_event k.slots setup p event two cs (first_down two same_out tells) tells.ends;
      busy = busy;
      moments = subst (λ (u : Watch). Each (HoldsWhileServing k.slots p.history p.low (bounds_of setup p event)) (IsAllowed setup (replaced_by event)) u cs) (sym starts) (each_of calls);
      once = let a = calls.attaches in omega (arith, a);
      disks = refl;
      history = refl;
      gear = same_gear refl;
      energy = energy;
      halted = refl;
    }),
    refl,
  )

  -- where it is answered
  module _ (k2 : Service) (goes : GoesInSteps k1 k2 p.history p.low most (IsUnderway k2 p.history p.low) p.meta w0 cs) (answer : Answer) (new : PowerState) (starts : watch_of p event answer ≡ w0) (tells : (t : Trail) → told_then ≡ Some t → now t ≡ run p.disks cs)
      (machine : IsEventStep setup p.history p.energy p.state event (first_lost cs) answer new) (state : IsStateOf k2 new) (synced : AreCopiesSynced k2.meta.setup.geometry.disks k2.copied)
      (energy : energy_after setup p.energy p.state answer ≡ k2.energy) (fits : k2.energy ≤ 18446744073709551615) (quiet : makes_no_call answer ≡ true → first_lost cs ≡ None → cs ≡ []) (awaits : (a : Option ℕ) → awaited_by answer a ≡ a)
      (none : accepted_write event answer ≡ []) (low : with_flush p.low answer ≡ p.low) (not_flush : is_flush answer ≡ false) (no_attach : tells_attach answer ≡ false) (begins : tells_begin answer ≡ true → first_lost cs ≡ None → goes.base_then ≢ p.meta)
      (rest : (d : ℕ) → d < setup.geometry.disks → slice_index p.state.spins d ≤ made_by k1.meta p.disks.power d) (whole : p.state.out ≡ No) where
    abbrev q : Point
    q = record {
      disks = v.disks;
      history = p.history;
      low = p.low;
      meta = goes.base_then;
      state = new;
      energy = energy_after setup p.energy p.state answer;
      spun = v.spun;
      awaited = v.awaited;
      halt = None;
    }

    down_now : v.down ≡ down_from_out (named_out new.out)
    down_now = only_is (named_out k2.meta.out) v.down goes.ends.only goes.ends.midway.stands.named_down ∙ ap (λ (o : Out). down_from_out (named_out o)) (sym state.out)

    there : StandsAt told_then k2 setup q
    there = record {
      disks = λ t told. tells t told ∙ sym (watched_disks w0 cs);
      stands = subst (λ (dn : DownDisks). StandsIn k2 p.history p.low goes.base_then (record { disks = v.disks; down = dn; spun = v.spun; awaited = v.awaited })) down_now goes.ends.midway.stands;
      copies_synced = synced;
      same_setup = goes.leaves.setup ∙ setup1;
      shown = goes.ends.shown;
      powered = goes.ends.powered;
      state = state;
      energy = energy;
      fits = fits;
      going = refl;
    }

    pub steps_turn_by : GoesOn k.slots setup p event answer (StandsAt told_then k2 setup) p.disks cs
    steps_turn_by = (
      q,
      answered going not_bad (record {
        fit = λ asked. fit;
        machine = machine;
        moments = subst (λ (u : Watch). Each (HoldsWhileServing k.slots p.history p.low (bounds_of setup p event)) (IsAllowed setup (replaced_by event)) u cs) (sym starts) (each_of goes.calls);
        once = let a = goes.calls.attaches in omega (arith, a);
        attached = λ is. absurd (false≢true (sym no_attach ∙ is));
        ups = λ d below.
            let a = goes.leaves.used d (subst (λ (z : Setup). d < z.geometry.disks) (sym setup1) below) in
            let r = rest d below in
            let m = made_most k2.meta v.disks.power d in
            let l = ap (λ (x : List ℕ). slice_index x d) state.spins in
            omega (arith, a, r, m, l);
        quiet = quiet;
        serving = subst (λ (u : Watch). IsServing (watch_all cs u).down) (sym starts) (only_serving (named_out k2.meta.out) v.down goes.ends.only);
        carried = λ is first. elim goes.carried [
          | inl same ↦ absurd (begins is first same)
          | inr brought ↦ brought ∙ sym state.ticks
        ];
        brought = λ moved. elim goes.carried [
          | inl same ↦ absurd (moved same)
          | inr brought ↦ brought ∙ sym state.ticks
        ];
        named = λ d was is moved. absurd (none_not_gone (sym whole ∙ was));
        mark = subst (λ (n : ℕ). IsMark n setup q) (goes.leaves.slots ∙ slots1) (stands_mark told_then k2 setup q there);
        flushed = λ f. absurd (false≢true (sym not_flush ∙ f));
        disks = watched_disks w0 cs;
        history = sym (append-nil p.history) ∙ ap (λ (more : History). p.history ++ more) (sym none);
        low = sym low;
        energy = refl;
        spun = ap (λ (u : Watch). (watch_all cs u).spun) (sym starts);
        awaited = ap (λ (u : Watch). (watch_all cs u).awaited) (sym starts) ∙ sym (awaits (watch_all cs (watch_of p event answer)).awaited);
        going = refl;
      }),
      there,
    )

  -- where its answer says that calls are made
  module _ (k2 : Service) (goes : GoesInSteps k1 k2 p.history p.low most (IsUnderway k2 p.history p.low) p.meta w0 cs) (answer : Answer) (new : PowerState) (starts : watch_of p event answer ≡ w0) (tells : (t : Trail) → told_then ≡ Some t → now t ≡ run p.disks cs)
      (machine : IsEventStep setup p.history p.energy p.state event (first_lost cs) answer new) (state : IsStateOf k2 new) (synced : AreCopiesSynced k2.meta.setup.geometry.disks k2.copied)
      (energy : energy_after setup p.energy p.state answer ≡ k2.energy) (fits : k2.energy ≤ 18446744073709551615) (busy : makes_no_call answer ≡ false) (awaits : (a : Option ℕ) → awaited_by answer a ≡ a)
      (none : accepted_write event answer ≡ []) (low : with_flush p.low answer ≡ p.low) (not_flush : is_flush answer ≡ false) (no_attach : tells_attach answer ≡ false) (begins : tells_begin answer ≡ true → first_lost cs ≡ None → goes.base_then ≢ p.meta)
      (rest : (d : ℕ) → d < setup.geometry.disks → slice_index p.state.spins d ≤ made_by k1.meta p.disks.power d) (whole : p.state.out ≡ No) where
    pub steps_turn : GoesOn k.slots setup p event answer (StandsAt told_then k2 setup) p.disks cs
    steps_turn = steps_turn_by k2 goes answer new starts tells machine state synced energy fits (λ still first. absurd (false≢true (sym busy ∙ still))) awaits none low not_flush no_attach begins rest whole

-- From where an array stands an event is underway.
pub event_underway : (told : Option Trail) (k : Service) (setup : Setup) (p : Point) → StandsAt told k setup p → IsUnderway k p.history p.low p.meta (watch_at p)
event_underway told k setup p at = record {
  midway = record { stands = at.stands; named = absent_named told k setup p at; low = out_low told k setup p at; fresh = fresh_there told k setup p at };
  only = subst (λ (o : Out). IsOnly (named_out o) (watch_at p).down) at.state.out (only_from (named_out p.state.out));
  shown = at.shown;
  powered = at.powered;
}
