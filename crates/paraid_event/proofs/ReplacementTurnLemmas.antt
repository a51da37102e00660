-- A replacement is answered, with a fresh disk or with none; or a second disk is lost in it.
use Rattle.std.proofs.Common.{◌≡◌, ◌≢◌, ℕ, ◌+◌, ◌<◌, ◌≤◌, ◌⊎◌, Bool, true, false, List, [], ◌++◌, Option, Some, None, refl, sym, ap, ◌∙◌, inl, inr, subst, arith, min, if◌then◌else◌}
use Rattle.std.specs.Prelude.{◌==◌, nat_lt, Contains}
use Rattle.std.proofs.lemmas.Bool.{false≢true}
use Rattle.std.proofs.lemmas.Bool.Decides.{nat_tests}
use Rattle.std.proofs.lemmas.List.{append-nil}
use Rattle.paraid_base.specs.declared.event.Answer.{Answer}
use Rattle.paraid_base.specs.declared.event.Answer.TheVariants.{NoDisk, NoFresh, NotOut, Replaced}
use Rattle.paraid_base.specs.declared.event.Event.TheVariants.{Replace}
use Rattle.paraid_base.specs.declared.fault.Halt.TheVariants.{Two as HaltTwo}
use Rattle.paraid_base.specs.declared.fault.Two.{Two}
use Rattle.paraid_base.specs.declared.state.Out.{Out}
use Rattle.paraid_base.specs.declared.state.Out.TheVariants.{No, Gone, Fresh}
use Rattle.paraid_base.specs.History.{History}
use Rattle.paraid_base.specs.Log.{worn_at}
use Rattle.paraid_base.specs.States.{named_out}
use Rattle.paraid_base.specs.BlockAnswers.{accepted_write}
use Rattle.paraid_rack.specs.declared.call.Call.{Call}
use Rattle.paraid_rack.specs.Trail.{Trail, now, run}
use Rattle.paraid_record.specs.declared.meta.Meta.{Meta}
use Rattle.paraid_record.specs.declared.meta.Setup.{Setup}
use Rattle.paraid_image.specs.Power.{PowerState}
use Rattle.paraid_image.specs.Shown.{with_flush}
use Rattle.paraid_core.specs.CoreInvariant.{AreCopiesSynced}
use Rattle.paraid_machine.specs.Energy.{energy_of}
use Rattle.paraid_machine.specs.Machine.{IsEventStep, outcomes, put_in, quietly, refresh, with_fresh_disk, without_fresh_disk}
use Rattle.paraid_session.specs.Turn.{GoesOn, IsFirstDown, IsMark, IsUnhurt, LosesSecondDisk, Point, awaited_by, bounds_at, is_flush, makes_no_call, point_wear, watch_of, tells_begin}
use Rattle.paraid_session.specs.Turn.IsFirstDown.{out as first_out}
use Rattle.paraid_session.specs.Turn.IsSecondLossEnergy.{own}
use Rattle.paraid_session.specs.Turn.IsSecondLossGear.{same}
use Rattle.paraid_session.specs.Turn.IsTurn.{answered}
use Rattle.paraid_session.specs.Watch.{Bounds, Down, Each, HoldsWhileServing, IsAllowed, IsServing, Watch, attach_count, down_from_out, first_lost, only, watch_all}
use Rattle.paraid_session.specs.Resting.{watch_at}
use Rattle.paraid_recover.proofs.DownLemmas.{watched_disks}
use Rattle.paraid_event.proofs.ApartLemmas.{no_one, replace_not_bad}
use Rattle.paraid_event.specs.Marks.{ArePoweredByGear, ShowsMeta}
use Rattle.paraid_session.specs.Ups.{spin_up_count}
use Rattle.paraid_event.specs.Service.{IsStateOf, Service}
use Rattle.paraid_image.specs.Lost.{EndsBySecond}
use Rattle.paraid_event.specs.Stands.{IsMidway, StandsAt, StandsIn}
use Rattle.paraid_event.proofs.EndLemmas.{IsOnly, only_is, only_serving}
use Rattle.paraid_event.proofs.LastCallLemmas.{ends_event}
use Rattle.paraid_event.proofs.LostLemmas.{capped_own, one_outcome}
use Rattle.paraid_event.proofs.PointLemmas.{stands_mark}

below_test : (a b : ℕ) → a < b → nat_lt a b ≡ true
below_test a b l = grind (arith, nat_tests)

equal_test : (a b : ℕ) → a ≡ b → (a == b) ≡ true
equal_test a b same_disk = grind (arith, nat_tests)

-- so it is answered, with a fresh disk or with none
abbrev pub answer_of : ℕ → Bool → Answer
answer_of d true = Replaced d
answer_of d false = NoFresh d

abbrev pub state_of : PowerState → ℕ → Bool → PowerState
state_of s d true = with_fresh_disk s d
state_of s d false = without_fresh_disk s d

-- the disk that failed first, or none
abbrev pub loss_of : ℕ → Bool → Option ℕ
loss_of d true = None
loss_of d false = Some d

module _ (told : Option Trail) (k : Service) (setup : Setup) (p : Point) (at : StandsAt told k setup p) (d : ℕ) (below : d < setup.geometry.disks) (is_out : named_out p.state.out ≡ Some d) (fit : point_wear p < worn_at) where
  abbrev b : Bounds
  b = bounds_at setup p p.state

  abbrev w0 : Watch
  w0 = record { disks = p.disks; down = only d; spun = p.spun; awaited = p.awaited }

  abbrev Held : Watch → List Call → Type 0
  Held = Each (HoldsWhileServing k.slots p.history p.low b) (IsAllowed setup (Some d))

  pub starts : watch_at p ≡ w0
  starts = ap (λ (o : Option ℕ). record { disks = p.disks; down = down_from_out o; spun = p.spun; awaited = p.awaited }) is_out

  -- The event is answered, and the array stands after it.
  module _ (fresh_came : Bool) (kf : Service) (base : Meta) (all : List Call) (vf : Watch) (watched_all : watch_all all w0 ≡ vf) (mid : IsMidway kf p.history p.low base vf) (is_only : IsOnly (Some d) vf.down) (copies : AreCopiesSynced kf.meta.setup.geometry.disks kf.copied)
      (setup_is : kf.meta.setup ≡ setup) (shown : ShowsMeta vf.disks.power base kf.meta) (powered : ArePoweredByGear vf.disks.power kf.meta) (state : IsStateOf kf (state_of p.state d fresh_came))
      (energy : kf.energy ≡ k.energy) (slots : kf.slots ≡ k.slots) (each : Held w0 all) (one : attach_count all ≡ 1) (none_up : (e : ℕ) → spin_up_count e all ≡ 0) (loss : first_lost all ≡ loss_of d fresh_came)
      (brought : base.ticks ≡ kf.meta.ticks) (names : (base.out ≡ Gone d) ⊎ (base.out ≡ Fresh d 0)) where
    abbrev answer : Answer
    answer = answer_of d fresh_came

    abbrev s_then : PowerState
    s_then = state_of p.state d fresh_came

    abbrev q : Point
    q = record { disks = vf.disks; history = p.history; low = p.low; meta = base; state = s_then; energy = p.energy; spun = vf.spun; awaited = vf.awaited; halt = None }

    out_then : named_out s_then.out ≡ Some d
    out_then = by fresh_came
      where
        by : (t : Bool) → named_out (state_of p.state d t).out ≡ Some d
        by true = refl
        by false = refl

    down_then : vf.down ≡ down_from_out (named_out s_then.out)
    down_then = only_is (Some d) vf.down is_only (λ e is. mid.stands.named_down e (sym (ap named_out state.out) ∙ out_then ∙ is)) ∙ ap down_from_out (sym out_then)

    after : (told_then : Option Trail) → ((t : Trail) → told_then ≡ Some t → now t ≡ vf.disks) → StandsAt told_then kf setup q
    after told_then tells = record {
      disks = tells;
      stands = subst (λ (x : Down). StandsIn kf p.history p.low base (record { disks = vf.disks; down = x; spun = vf.spun; awaited = vf.awaited })) down_then mid.stands;
      copies_synced = copies;
      same_setup = setup_is;
      shown = shown;
      powered = powered;
      state = state;
      energy = at.energy ∙ sym energy;
      fits = let f = at.fits in omega (arith, energy, f);
      going = refl;
    }

    among : Contains (put_in (loss_of d fresh_came) p.state d p.state.out) (answer, s_then)
    among = by fresh_came p.state.out is_out
      where
        by : (t : Bool) (o : Out) → named_out o ≡ Some d → Contains {X = Answer × PowerState} (put_in (loss_of d t) p.state d o) (answer_of d t, state_of p.state d t)
        by t No is = absurd (no_one is)
        by true (Gone e) is = let same_disk : (d == e) ≡ true = equal_test d e (let z : Some e ≡ Some d = is in cc) in rw same_disk (0, omega arith, refl)
        by false (Gone e) is =
            let same_disk : (d == e) ≡ true = equal_test d e (let z : Some e ≡ Some d = is in cc) in
            let self : (d == d) ≡ true = equal_test d d refl in
            rw (same_disk, self) (0, omega arith, refl)
        by true (Fresh e u) is = let same_disk : (d == e) ≡ true = equal_test d e (let z : Some e ≡ Some d = is in cc) in rw same_disk (0, omega arith, refl)
        by false (Fresh e u) is =
            let same_disk : (d == e) ≡ true = equal_test d e (let z : Some e ≡ Some d = is in cc) in
            let self : (d == d) ≡ true = equal_test d d refl in
            rw (same_disk, self) (0, omega arith, refl)

    machine : IsEventStep setup p.history p.energy p.state (Replace d) (first_lost all) answer s_then
    unfolding outcomes
    machine = record {
      among = rw (below_test d setup.geometry.disks below) (subst (λ (o : Option ℕ). Contains {X = Answer × PowerState} (put_in o p.state d p.state.out) (answer, s_then)) (sym loss) among);
    }

    watched : watch_of p (Replace d) answer ≡ w0
    watched = by fresh_came
      where
        by : (t : Bool) → watch_of p (Replace d) (answer_of d t) ≡ w0
        by true = starts
        by false = starts

    busy : makes_no_call answer ≡ false
    busy = by fresh_came
      where
        by : (t : Bool) → makes_no_call (answer_of d t) ≡ false
        by true = refl
        by false = refl

    not_begun : tells_begin answer ≡ false
    not_begun = by fresh_came
      where
        by : (t : Bool) → tells_begin (answer_of d t) ≡ false
        by true = refl
        by false = refl

    no_flush : is_flush answer ≡ false
    no_flush = by fresh_came
      where
        by : (t : Bool) → is_flush (answer_of d t) ≡ false
        by true = refl
        by false = refl

    no_write : accepted_write (Replace d) answer ≡ []
    no_write = by fresh_came
      where
        by : (t : Bool) → accepted_write (Replace d) (answer_of d t) ≡ []
        by true = refl
        by false = refl

    same_low : with_flush p.low answer ≡ p.low
    same_low = by fresh_came
      where
        by : (t : Bool) → with_flush p.low (answer_of d t) ≡ p.low
        by true = refl
        by false = refl

    no_energy : energy_of setup p.state answer ≡ 0
    no_energy = by fresh_came
      where
        by : (t : Bool) → energy_of setup p.state (answer_of d t) ≡ 0
        by true = refl
        by false = refl

    same_awaited : awaited_by answer vf.awaited ≡ vf.awaited
    same_awaited = by fresh_came
      where
        by : (t : Bool) → awaited_by (answer_of d t) vf.awaited ≡ vf.awaited
        by true = refl
        by false = refl

    said : (base.out ≡ Gone d) ⊎ ((base.out ≡ Fresh d 0) × (attach_count all ≡ 1))
    said = elim names [ inl gone ↦ inl gone | inr fresh ↦ inr (fresh, one) ]

    whole : watch_all all (watch_of p (Replace d) answer) ≡ vf
    whole = ap (watch_all all) watched ∙ watched_all

    pub replaced_turn : (told_then : Option Trail) → ((t : Trail) → told_then ≡ Some t → now t ≡ vf.disks) → GoesOn k.slots setup p (Replace d) answer (StandsAt told_then kf setup) p.disks all
    replaced_turn told_then tells = let there = after told_then tells in (
      q,
      answered at.going (λ e. replace_not_bad e) (record {
        fit = λ asked. fit;
        machine = machine;
        moments = subst (λ (z : Watch). Held z all) (sym watched) each;
        once = omega (arith, one);
        attached = λ is. one;
        ups = λ e low. let z = none_up e in omega (arith, z);
        quiet = λ still none. absurd (false≢true (sym busy ∙ still));
        serving = subst (λ (z : Watch). IsServing z.down) (sym whole) (only_serving (Some d) vf.down is_only);
        mark = subst (λ (m : ℕ). IsMark m setup q) slots (stands_mark told_then kf setup q there);
        carried = λ is none. absurd (false≢true (sym not_begun ∙ is));
        brought = λ moved. brought ∙ sym state.ticks;
        named = λ e was is moved. subst (λ (x : ℕ). (base.out ≡ Gone x) ⊎ ((base.out ≡ Fresh x 0) × (attach_count all ≡ 1))) (let z : Some d ≡ Some e = sym is_out ∙ ap named_out was in let same_disk : d ≡ e = cc in same_disk) said;
        flushed = λ f. absurd (false≢true (sym no_flush ∙ f));
        disks = ap (λ (z : Watch). z.disks) (sym watched_all) ∙ watched_disks w0 all;
        history = sym (append-nil p.history) ∙ ap (λ (more : History). p.history ++ more) (sym no_write);
        low = sym same_low;
        energy = capped_own p.energy k.energy at.energy at.fits ∙ ap (λ (e : ℕ). min (p.energy + e) 18446744073709551615) (sym no_energy);
        spun = ap (λ (z : Watch). z.spun) (sym whole);
        awaited = sym same_awaited ∙ ap (λ (z : Watch). awaited_by answer z.awaited) (sym whole);
        going = refl;
      }),
      there,
    )

  -- A second disk is lost.
  replace_busy : (answer : Answer) (new : PowerState) → IsUnhurt setup p (Replace d) answer new → makes_no_call answer ≡ false
  unfolding outcomes
  replace_busy answer new is =
      let low = subst (λ (t : Bool). Contains (if t then put_in None p.state d p.state.out else quietly None (NoDisk d) p.state) (answer, new)) (below_test d setup.geometry.disks below) is.among in
      by p.state.out is_out low
    where
      by : (o : Out) → named_out o ≡ Some d → Contains (put_in None p.state d o) (answer, new) → makes_no_call answer ≡ false
      by No named found = absurd (no_one named)
      by (Gone e) named found =
          let same_disk : (d == e) ≡ true = equal_test d e (let z : Some e ≡ Some d = named in cc) in
          let one = subst (λ (t : Bool). Contains (if t then refresh None p.state d else quietly None (NotOut d) p.state) (answer, new)) same_disk found in
          ap makes_no_call (sym (one_outcome (Replaced d, with_fresh_disk p.state d) answer new one))
      by (Fresh e u) named found =
          let same_disk : (d == e) ≡ true = equal_test d e (let z : Some e ≡ Some d = named in cc) in
          let one = subst (λ (t : Bool). Contains (if t then refresh None p.state d else quietly None (NotOut d) p.state) (answer, new)) same_disk found in
          ap makes_no_call (sym (one_outcome (Replaced d, with_fresh_disk p.state d) answer new one))

  first_by : (two : Two) (all : List Call) → two.first ≡ d → IsFirstDown k.slots setup p (Replace d) all two.first
  first_by two all first_is = first_out (is_out ∙ ap (λ (x : ℕ). Some x) (sym first_is))

  pub loses_second : (two : Two) (all : List Call) → two.first ≡ d → EndsBySecond two all → two.first ≢ two.second → Held w0 all → attach_count all ≤ 1
      → LosesSecondDisk k.slots setup p (Replace d) two all (record p { disks = run p.disks all; halt = Some (HaltTwo two) })
  loses_second two all first_is ends apart moments once = record {
    fit = fit;
    first = first_by two all first_is;
    apart = apart;
    ends = ends_event k.slots setup p (Replace d) two all (first_by two all first_is) ends;
    busy = replace_busy;
    moments = subst (λ (w : Watch). Held w all) (sym starts) moments;
    once = once;
    disks = refl;
    history = refl;
    gear = same refl;
    energy = own (capped_own p.energy k.energy at.energy at.fits);
    halted = refl;
  }
