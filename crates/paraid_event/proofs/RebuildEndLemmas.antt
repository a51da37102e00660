-- The tick with which a rebuild ends.
use Rattle.std.proofs.Common.{◌≡◌, ℕ, ◌+◌, ◌^◌, ◌<◌, ◌≤◌, Bool, true, false, List, [], ◌∷◌, Option, Some, None, refl, sym, ap, ◌∙◌, inl, inr, subst, arith, min, if◌then◌else◌}
use Rattle.std.specs.Prelude.{◌==◌, Contains, slice_index}
use Rattle.std.proofs.lemmas.Bool.{false≢true}
use Rattle.std.proofs.lemmas.List.{append-nil}
use Rattle.paraid_base.specs.declared.event.Answer.{Answer}
use Rattle.paraid_base.specs.declared.event.Event.TheVariants.{Tick}
use Rattle.paraid_base.specs.declared.state.Out.{Out}
use Rattle.paraid_base.specs.declared.state.Out.TheVariants.{No, Fresh}
use Rattle.paraid_base.specs.declared.state.TickEvent.TheVariants.{Moving, Rebuilt}
use Rattle.paraid_base.specs.Log.{worn_at}
use Rattle.paraid_base.specs.States.{named_out}
use Rattle.paraid_dirty.specs.Table.{is_dirty}
use Rattle.paraid_rack.specs.declared.call.Call.{Call}
use Rattle.paraid_rack.specs.Trail.{Trail, now}
use Rattle.paraid_record.specs.declared.meta.Meta.{Meta}
use Rattle.paraid_record.specs.declared.meta.Setup.{Setup}
use Rattle.paraid_image.specs.Power.{PowerState}
use Rattle.paraid_machine.specs.Energy.{energy_after, tick_energy}
use Rattle.paraid_machine.specs.Machine.{IsEventStep, outcomes, rebuild, report, tick_by_out}
use Rattle.paraid_machine.specs.Moves.{state_with_tick, units_to_rebuild}
use Rattle.paraid_session.specs.Turn.{GoesOn, IsMark, Point, bounds_at, makes_no_call, point_wear}
use Rattle.paraid_session.specs.Turn.IsTurn.{answered}
use Rattle.paraid_session.specs.Watch.{Bounds, Each, HoldsWhileServing, IsAllowed, IsServing, Watch, down_from_out, fails_on, first_lost, watch, watch_all}
use Rattle.paraid_session.proofs.LayerLemmas.{first_fails}
use Rattle.paraid_session.specs.Resting.{watch_at}
use Rattle.paraid_recover.proofs.DownLemmas.{watched_disks}
use Rattle.paraid_event.proofs.ApartLemmas.{gone_not_fresh, no_one, tick_not_bad}
use Rattle.paraid_event.specs.RebuildEnds.{MarksRejoined}
use Rattle.paraid_event.specs.RebuildTicks.{CountsRebuild}
use Rattle.paraid_session.specs.Ups.{spin_up_count}
use Rattle.paraid_event.specs.Steps.{made_by, AreStepCalls}
use Rattle.paraid_event.proofs.UsedLemmas.{counted_made}
use Rattle.paraid_event.specs.Service.{IsStateOf, Service}
use Rattle.paraid_event.specs.Stands.{IsMidway, StandsAt, StandsIn}
use Rattle.paraid_event.specs.Ticks.{CountsTick}
use Rattle.paraid_event.proofs.EndLemmas.{fails_split, only_serving}
use Rattle.paraid_event.proofs.ParkBackLemmas.{IsEnded}
use Rattle.paraid_event.proofs.PointLemmas.{stands_mark}
use Rattle.paraid_event.proofs.RebuildTickLemmas.{capped_sum, counted_energy, equal_test, failed_off, moments, setup1, slots1, state1, under_cap}

min_is : (a b : ℕ) → a ≤ b → min b a ≡ a
min_is a b l = grind (arith)

-- a disk on which a call failed is of the array
pub failed_low : (P : Watch → Type 0) (setup : Setup) (asked : Option ℕ) (w : Watch) (cs : List Call) (e : ℕ) → Each P (IsAllowed setup asked) w cs → fails_on e cs ≡ true → e < setup.geometry.disks
failed_low P setup asked w [] e each is = absurd (false≢true is)
failed_low P setup asked w (c ∷ cs) e each is = elim (fails_split c cs e is) [
  | inl here ↦ subst (λ (x : ℕ). x < setup.geometry.disks) here.1 each.1.disk
  | inr later ↦ failed_low P setup asked (watch c w) cs e each.2 later
]

module _ (told : Option Trail) (k k1 : Service) (setup : Setup) (p : Point) (at : StandsAt told k setup p) (d rebuilt : ℕ) (is_fresh : p.state.out ≡ Fresh d rebuilt) (counts : CountsTick k k1) (fit : point_wear p < worn_at) (bound : ℕ) (few : bound ≤ 2 ^ 20) where
  abbrev w0 : Watch
  w0 = watch_at p

  abbrev s1 : PowerState
  s1 = state_with_tick p.state

  abbrev b : Bounds
  b = bounds_at setup p s1

  abbrev left : ℕ
  left = units_to_rebuild setup s1 d rebuilt

  abbrev Held : List Call → Type 0
  Held = Each (HoldsWhileServing k.slots p.history p.low b) (IsAllowed setup None) w0

  abbrev end_outcome : ℕ → ℕ → Answer × PowerState
  end_outcome units c = if c == units then report (record s1 { out = No }) c (Rebuilt d) else report (record s1 { out = Fresh d (rebuilt + c) }) c Moving

  ends_left : (units : ℕ) → Contains {X = Answer × PowerState} (end_outcome units units ∷ []) ((report p.state units (Rebuilt d)).0, record s1 { out = No })
  ends_left units = let test = equal_test units units refl in rw test (0, omega arith, refl)

  ends_some : left ≤ setup.rate → Contains {X = Answer × PowerState} (rebuild setup None s1 d rebuilt) ((report p.state left (Rebuilt d)).0, record s1 { out = No })
  ends_some few_left = subst (λ (c : ℕ). Contains {X = Answer × PowerState} (end_outcome left c ∷ []) ((report p.state left (Rebuilt d)).0, record s1 { out = No })) (sym (min_is left setup.rate few_left)) (ends_left left)

  -- The event has ended: the disk is back.
  module _ (k2 : Service) (counts2 : CountsRebuild k k1 k2) (few_left : left ≤ setup.rate) (cs : List Call) (calls : AreStepCalls k1 p.history p.low bound p.meta w0 cs) (base : Meta) (brought2 : base.ticks ≡ k2.meta.ticks) (ended : IsEnded k1 k2 p.history p.low d base (watch_all cs w0))
      (none_out : k2.meta.out ≡ No) (state2 : IsStateOf k2 (record s1 { out = No }))
      (used2 : (e : ℕ) → e < k1.meta.setup.geometry.disks → spin_up_count e cs + made_by k1.meta p.disks.power e ≤ slice_index k2.meta.spins e) where
    abbrev v : Watch
    v = watch_all cs w0

    abbrev s2 : PowerState
    s2 = record s1 { out = No }

    abbrev answer : Answer
    answer = (report p.state left (Rebuilt d)).0

    mid2 : IsMidway k2 p.history p.low base v
    mid2 = ended.midway

    held : Held cs
    held = moments told k k1 setup p at d rebuilt is_fresh counts fit bound few cs calls

    setup2 : k2.meta.setup ≡ setup
    setup2 = ended.setup ∙ setup1 told k k1 setup p at d rebuilt is_fresh counts fit bound few

    serving2 : IsServing v.down
    serving2 = only_serving (Some d) v.down ended.only

    -- each disk on which a call failed is the one that is out
    failed2 : (e : ℕ) → fails_on e cs ≡ true → named_out k2.meta.out ≡ Some e
    failed2 e fails = mid2.named e (subst (λ (z : Setup). e < z.geometry.disks) (sym setup2) (failed_low (HoldsWhileServing k.slots p.history p.low b) setup None w0 cs e held fails))
        (failed_off (HoldsWhileServing k.slots p.history p.low b) setup None w0 cs e held calls.attaches fails)

    -- so none has
    loss2 : first_lost cs ≡ None
    loss2 = by (first_lost cs) refl
      where
        by : (o : Option ℕ) → first_lost cs ≡ o → first_lost cs ≡ None
        by None none = none
        by (Some e) some = absurd (no_one (sym (ap named_out none_out) ∙ failed2 e (first_fails cs e some)))

    -- no disk is down
    down2 : StandsIn k2 p.history p.low base (record { disks = v.disks; down = down_from_out (named_out s2.out); spun = v.spun; awaited = v.awaited })
    down2 = record {
      keeps = mid2.stands.keeps;
      is_base = mid2.stands.is_base;
      absent_down = λ e low gone. absurd (no_one (sym (ap named_out none_out) ∙ mid2.named e low gone));
      named_down = λ e named. absurd (no_one (sym (ap named_out none_out) ∙ named));
      stays = mid2.stands.stays;
      recorded = mid2.stands.recorded;
      recorded_next = mid2.stands.recorded_next;
      awaited = mid2.stands.awaited;
      ticks = mid2.stands.ticks;
    }

    abbrev q : Point
    q = record {
      disks = v.disks;
      history = p.history;
      low = p.low;
      meta = base;
      state = s2;
      energy = energy_after setup p.energy p.state answer;
      spun = v.spun;
      awaited = v.awaited;
      halt = None;
    }

    counted : k1.energy ≡ min (k.energy + tick_energy setup p.state) 18446744073709551615
    counted = counted_energy told k k1 setup p at d rebuilt is_fresh counts fit bound few

    energy2 : energy_after setup p.energy p.state answer ≡ k2.energy
    energy2 = capped_sum p.energy k.energy (tick_energy setup p.state) k1.energy k2.energy at.energy counted counts2.energy

    after : (told_then : Option Trail) → ((t : Trail) → told_then ≡ Some t → now t ≡ v.disks) → StandsAt told_then k2 setup q
    after told_then tells = record {
      disks = tells;
      stands = down2;
      copies_synced = counts2.copies_synced;
      same_setup = setup2;
      shown = ended.shown;
      powered = ended.powered;
      state = state2;
      energy = energy2;
      fits = under_cap k1.energy k2.energy (k.energy + tick_energy setup p.state) counted counts2.energy;
      going = refl;
    }

    among : Contains {X = Answer × PowerState} (rebuild setup None s1 d rebuilt) (answer, s2)
    among = ends_some few_left

    machine : IsEventStep setup p.history p.energy p.state Tick (first_lost cs) answer s2
    unfolding outcomes
    machine = record {
      among = subst (λ (o : Out). Contains {X = Answer × PowerState} (tick_by_out setup (first_lost cs) s1 o) (answer, s2)) (sym is_fresh)
          (subst (λ (o : Option ℕ). Contains {X = Answer × PowerState} (rebuild setup o s1 d rebuilt) (answer, s2)) (sym loss2) among);
    }

    busy : makes_no_call answer ≡ false
    busy = refl

    -- So it is a turn.
    pub ended_turn : (told_then : Option Trail) → ((t : Trail) → told_then ≡ Some t → now t ≡ v.disks) → GoesOn k.slots setup p Tick answer (StandsAt told_then k2 setup) p.disks cs
    ended_turn told_then tells = let there = after told_then tells in (
      q,
      answered at.going (λ e. tick_not_bad e) (record {
        fit = λ asked. fit;
        machine = machine;
        moments = held;
        once = let a = calls.attaches in omega (arith, a);
        attached = λ is. absurd (false≢true is);
        ups = λ e low.
            let a = used2 e (subst (λ (z : Setup). e < z.geometry.disks) (sym (setup1 told k k1 setup p at d rebuilt is_fresh counts fit bound few)) low) in
            let r = counted_made told k k1 setup p at counts e low in
            let l : slice_index p.state.spins e ≡ slice_index k2.meta.spins e = ap (λ (x : List ℕ). slice_index x e) state2.spins in
            omega (arith, a, r, l);
        quiet = λ still none. absurd (false≢true (sym busy ∙ still));
        serving = serving2;
        carried = λ is none. absurd (false≢true is);
        brought = λ moved. brought2 ∙ sym state2.ticks;
        named = λ e was is moved. absurd (gone_not_fresh (sym was ∙ is_fresh));
        mark = subst (λ (m : ℕ). IsMark m setup q) (ended.slots ∙ slots1 told k k1 setup p at d rebuilt is_fresh counts fit bound few) (stands_mark told_then k2 setup q there);
        flushed = λ f. absurd (false≢true f);
        disks = watched_disks w0 cs;
        history = sym (append-nil p.history);
        low = refl;
        energy = refl;
        spun = refl;
        awaited = refl;
        going = refl;
      }),
      there,
    )

  -- the meta that is marked is that of the state
  pub back_state : (k2 : Service) → CountsRebuild k k1 k2 → MarksRejoined k1 k2 → IsStateOf k2 (record s1 { out = No })
  back_state k2 counts2 marks = let state = state1 told k k1 setup p at d rebuilt is_fresh counts fit bound few in record {
    gear = state.gear ∙ sym (ap (λ (m : Meta). m.gear) marks.is);
    phase = state.phase ∙ sym (ap (λ (m : Meta). m.phase) marks.is);
    fill = state.fill ∙ sym (ap (λ (m : Meta). m.fill) marks.is);
    out = sym (ap (λ (m : Meta). m.out) marks.is);
    spins = state.spins ∙ sym (ap (λ (m : Meta). m.spins) marks.is);
    ticks = state.ticks ∙ sym (ap (λ (m : Meta). m.ticks) marks.is);
    dirty = λ r e low. state.dirty r e (subst (λ (m : Meta). r < m.setup.geometry.rows) marks.is low) ∙ ap (λ (t : List (List Bool)). is_dirty t r e) (sym counts2.counts_then.table);
    samples = state.samples ∙ sym counts2.counts_then.samples;
    served = state.served ∙ sym counts2.counts_then.served;
  }
