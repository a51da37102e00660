-- A tick in which a shift down begins.
use Rattle.std.proofs.Common.{inl, inr, zero, suc, false, [], ◌∷◌, ◌≡◌, ℕ, ◌+◌, ◌-◌, ◌*◌, ◌<◌, ◌≤◌, Bool, List, Option, Some, None, refl, sym, ap, ◌∙◌, subst, arith, min, if◌then◌else◌}
use Rattle.std.specs.Prelude.{Contains, slice_index_or}
use Rattle.std.proofs.lemmas.Bool.{false≢true}
use Rattle.std.proofs.lemmas.List.{append-nil}
use Rattle.paraid_base.specs.declared.event.Answer.{Answer}
use Rattle.paraid_base.specs.declared.event.Answer.TheVariants.{Halted}
use Rattle.paraid_base.specs.declared.event.Event.TheVariants.{Tick}
use Rattle.paraid_base.specs.declared.fault.Halt.TheVariants.{Two as HaltTwo}
use Rattle.paraid_base.specs.declared.fault.Two.{Two}
use Rattle.paraid_base.specs.declared.state.Out.{Out}
use Rattle.paraid_base.specs.declared.state.Out.TheVariants.{No}
use Rattle.paraid_base.specs.declared.state.Phase.{Phase}
use Rattle.paraid_base.specs.declared.state.Phase.TheVariants.{Steady, Down}
use Rattle.paraid_base.specs.declared.state.TickEvent.TheVariants.{Begun}
use Rattle.paraid_base.specs.Log.{worn_at}
use Rattle.paraid_base.specs.States.{has_out, named_out, phase_beside, rising_to}
use Rattle.paraid_dirty.specs.Table.{is_dirty}
use Rattle.paraid_gear.specs.declared.decision.Decision.{Decision}
use Rattle.paraid_gear.specs.declared.decision.Decision.TheVariants.{Down as DecideDown}
use Rattle.paraid_gear.specs.Decision.{decision}
use Rattle.paraid_rack.specs.declared.call.Call.{Call}
use Rattle.paraid_rack.specs.declared.call.Power.{Power}
use Rattle.paraid_rack.specs.Disks.{Disks}
use Rattle.paraid_rack.specs.Told.{Ran}
use Rattle.paraid_rack.specs.Trail.{Trail, now, run}
use Rattle.paraid_rack.proofs.TrailsLemmas.{now-extend}
use Rattle.paraid_record.specs.declared.meta.Meta.{Meta}
use Rattle.paraid_record.specs.declared.meta.Setup.{Setup}
use Rattle.paraid_image.specs.Power.{PowerState, power_by_gear}
use Rattle.paraid_image.specs.Spins.{made_spin_ups}
use Rattle.paraid_machine.specs.Energy.{begun_energy, energy_after, tick_energy}
use Rattle.paraid_machine.specs.Machine.{IsEventStep, begin_by_tick, decide, outcomes, report, shift_down, tick_by_out, tick_by_phase}
use Rattle.paraid_machine.specs.Moves.{begun_down, first_used_up, state_with_tick}
use Rattle.paraid_moves.specs.MoveMetas.{meta_after_begin}
use Rattle.paraid_session.specs.Turn.{GoesOn, IsFirstDown, IsMark, IsUnhurt, LosesSecondDisk, Point, bounds_at, makes_no_call, point_wear}
use Rattle.paraid_session.specs.Turn.IsFirstDown.{lost}
use Rattle.paraid_session.specs.Turn.IsSecondLossEnergy.{own}
use Rattle.paraid_session.specs.Turn.IsSecondLossGear.{same}
use Rattle.paraid_session.specs.Turn.IsTurn.{answered, two as second_loss}
use Rattle.paraid_session.specs.Watch.{Bounds, Down as DownDisks, Each, HoldsWhileServing, IsAllowed, IsServing, Watch, down_from_out, first_lost, nobody, only, several, watch_all}
use Rattle.paraid_session.specs.Resting.{watch_at}
use Rattle.paraid_recover.proofs.DownLemmas.{watched_disks}
use Rattle.paraid_event.proofs.ApartLemmas.{no_one, none_not_gone, tick_not_bad}
use Rattle.paraid_event.specs.Lost.{TellsTwo}
use Rattle.paraid_event.specs.Marks.{ArePoweredByGear, ShowsMeta}
use Rattle.paraid_event.specs.Parts.{AreEventCalls, EndsEvent, LosesInEvent, ServesEvent, committed_meta}
use Rattle.paraid_event.proofs.UsedLemmas.{part_ups}
use Rattle.paraid_event.specs.Service.{IsStateOf, Service}
use Rattle.paraid_event.specs.Stands.{IsMidway, ServiceStandsFor, StandsAt, StandsIn}
use Rattle.paraid_event.specs.Ticks.{BeginsDownByTick, CountsTick, IsHaltedWith}
use Rattle.paraid_event.proofs.EndLemmas.{IsOnly, only_is, only_serving}
use Rattle.paraid_event.proofs.IdleLemmas.{stands_in, state_then, used}
use Rattle.paraid_event.proofs.LastCallLemmas.{ends_event}
use Rattle.paraid_event.proofs.MarksLemmas.{marked_setup, same_ticks}
use Rattle.paraid_event.proofs.PartLemmas.{IsSettled, part_attaches, part_committed, part_each, part_epoch, part_marks, part_only, part_powered, part_stands, part_state}
use Rattle.paraid_event.proofs.PointLemmas.{stands_mark}
use Rattle.paraid_event.proofs.TurnLemmas.{absent_named, fresh_there, out_low, state_after}
use Rattle.paraid_event.proofs.PreludeLemmas.{same_base, some_trail}

only_more : (o : Option ℕ) (down : DownDisks) → IsOnly None down → IsOnly o down
only_more o nobody is = tt
only_more o (only d) is = absurd (no_one is)
only_more o several is = is

begun_used : (m : Meta) (to : ℕ) (p : ℕ → Power) (d : ℕ) → rising_to m.phase ≡ 0 → made_spin_ups (meta_after_begin m (Down to) m.spins) p d ≡ made_spin_ups m p d
begun_used m to p d steady = rw steady refl

begun_gear : (m : Meta) (to d : ℕ) → rising_to m.phase ≡ 0 → power_by_gear m.gear (Down to) d ≡ power_by_gear m.gear m.phase d
begun_gear m to d steady = rw steady refl

capped_sum : (a b t z x y : ℕ) → a ≡ b → z ≡ 0 → x ≡ min (b + t) 18446744073709551615 → y ≡ x → min (a + (t + z)) 18446744073709551615 ≡ y
capped_sum a b t z x y equal none is last = grind (arith)

under_cap : (x y a : ℕ) → x ≡ min a 18446744073709551615 → y ≡ x → y ≤ 18446744073709551615
under_cap x y a is last = grind (arith)

no_spin_ups : (mj to gear : ℕ) → to < gear → mj * (to - gear) ≡ 0
no_spin_ups mj to gear l = let e : to - gear ≡ 0 = omega (arith, l) in rw e (zero_times mj)
  where
    zero_times : (a : ℕ) → a * 0 ≡ 0
    zero_times a = grind (arith)

one_outcome : (outcome : Answer × PowerState) (answer : Answer) (new : PowerState) → Contains (outcome ∷ []) (answer, new) → outcome.0 ≡ answer
one_outcome outcome answer new is = by is.0 is.1 is.2
  where
    by : (x : ℕ) → x < 1 → slice_index_or (outcome ∷ []) x (answer, new) ≡ (answer, new) → outcome.0 ≡ answer
    by zero low at = ap (λ (z : Answer × PowerState). z.0) at
    by (suc x) low at = absurd (omega arith)

module _ (told : Option Trail) (k k1 k2 : Service) (setup : Setup) (p : Point) (at : StandsAt told k setup p) (to : ℕ) (counts : CountsTick k k1) (mark : k2 ≡ record k1 { meta = meta_after_begin k1.meta (Down to) k1.meta.spins }) (fit : point_wear p < worn_at) (lower : to < p.state.gear)
    (steady : p.state.phase ≡ Steady) (no_out : p.state.out ≡ No) (down : decision setup p.state.gear (state_with_tick p.state).samples ≡ DecideDown to) (unworn : first_used_up setup (state_with_tick p.state) to ≡ None) where
  abbrev w0 : Watch
  w0 = watch_at p

  abbrev s1 : PowerState
  s1 = state_with_tick p.state

  abbrev b : Bounds
  b = bounds_at setup p s1

  abbrev answer : Answer
  answer = (report p.state 0 (Begun to)).0

  only0 : IsOnly None w0.down
  only0 = subst (λ (o : Out). IsOnly None (down_from_out (named_out o))) (sym no_out) tt

  -- the tick is counted
  mid1 : IsMidway k1 p.history p.low p.meta w0
  mid1 = subst (λ (z : Service). IsMidway z p.history p.low p.meta w0) (sym counts.is)
      (record { stands = stands_in told k k1 setup p at counts fit; named = absent_named told k setup p at; low = out_low told k setup p at; fresh = fresh_there told k setup p at })

  state1 : IsStateOf k1 s1
  state1 = subst (λ (z : Service). IsStateOf z s1) (sym counts.is) (state_then told k k1 setup p at counts fit)

  powered1 : ArePoweredByGear p.disks.power k1.meta
  powered1 = subst (λ (z : Service). ArePoweredByGear p.disks.power z.meta) (sym counts.is) (record { by_gear = at.powered.by_gear; fresh = at.powered.fresh })

  setup1 : k1.meta.setup ≡ setup
  setup1 = ap (λ (z : Service). z.meta.setup) counts.is ∙ at.same_setup

  out1 : k1.meta.out ≡ No
  out1 = sym state1.out ∙ no_out

  rising1 : rising_to k1.meta.phase ≡ 0
  rising1 = ap rising_to (sym state1.phase ∙ steady)

  module _ (keeps : ServiceStandsFor k2 p.history p.low p.disks) where
    meta2 : k2.meta ≡ meta_after_begin k1.meta (Down to) k1.meta.spins
    meta2 = ap (λ (z : Service). z.meta) mark

    midway_with : (j : Service) → j ≡ record k1 { meta = meta_after_begin k1.meta (Down to) k1.meta.spins } → ServiceStandsFor j p.history p.low p.disks → IsMidway j p.history p.low p.meta w0
    midway_with j is z = subst (λ (y : Service). IsMidway y p.history p.low p.meta w0) (sym is) (record {
      stands = record {
        keeps = subst (λ (y : Service). ServiceStandsFor y p.history p.low p.disks) is z;
        is_base = same_base k1 (record k1 { meta = meta_after_begin k1.meta (Down to) k1.meta.spins }) p.history p.history p.low p.low p.disks mid1.stands.keeps (subst (λ (y : Service). ServiceStandsFor y p.history p.low p.disks) is z) ∙ mid1.stands.is_base;
        absent_down = mid1.stands.absent_down;
        named_down = mid1.stands.named_down;
        stays = mid1.stands.stays;
        recorded = mid1.stands.recorded;
        recorded_next = λ e low here not. let before = mid1.stands.recorded_next e low here not in let same = begun_used k1.meta to p.disks.power e rising1 in omega (arith, before, same);
        awaited = mid1.stands.awaited;
        ticks = mid1.stands.ticks;
      };
      named = mid1.named;
      low = mid1.low;
      fresh = mid1.fresh;
    })

    mid2 : IsMidway k2 p.history p.low p.meta w0
    mid2 = midway_with k2 mark keeps

    powered2 : ArePoweredByGear p.disks.power k2.meta
    powered2 = subst (ArePoweredByGear p.disks.power) (sym meta2) (record {
      by_gear = λ e low not. powered1.by_gear e low not ∙ sym (begun_gear k1.meta to e rising1);
      fresh = powered1.fresh;
    })

    settled2 : IsSettled k2.meta
    settled2 = subst IsSettled (sym meta2) (record {
      phase = ap (λ (o : Out). phase_beside (has_out o) (Down to)) out1;
      fill = ap (λ (o : Out). if has_out o then 0 else 0) out1;
    })

    state2 : IsStateOf k2 (begun_down to s1)
    state2 = record {
      gear = state1.gear ∙ sym (ap (λ (m : Meta). m.gear) meta2);
      phase = sym (ap (λ (m : Meta). m.phase) meta2);
      fill = sym (ap (λ (m : Meta). m.fill) meta2);
      out = state1.out ∙ sym (ap (λ (m : Meta). m.out) meta2);
      spins = state1.spins ∙ sym (ap (λ (m : Meta). m.spins) meta2);
      ticks = state1.ticks ∙ sym (ap (λ (m : Meta). m.ticks) meta2);
      dirty = λ r e low. state1.dirty r e (subst (λ (m : Meta). r < m.setup.geometry.rows) meta2 low) ∙ ap (λ (t : List (List Bool)). is_dirty t r e) (sym (ap (λ (z : Service). z.table) mark));
      samples = state1.samples ∙ sym (ap (λ (z : Service). z.samples) mark);
      served = state1.served ∙ sym (ap (λ (z : Service). z.served) mark);
    }

    slots2 : k2.slots ≡ k.slots
    slots2 = ap (λ (z : Service). z.slots) mark ∙ ap (λ (z : Service). z.slots) counts.is

    each2 : (ds : List Call) → AreEventCalls k2 p.history p.low p.meta p.disks ds → Each (HoldsWhileServing k.slots p.history p.low b) (IsAllowed setup None) w0 ds
    each2 ds part = subst (λ (n : ℕ). Each (HoldsWhileServing n p.history p.low b) (IsAllowed setup None) w0 ds) slots2
        (part_each k2 p.history p.low p.meta w0 mid2 ds part b (ap (λ (m : Meta). m.setup) meta2 ∙ setup1) (let e = ap (λ (m : Meta). m.ticks) meta2 in let f = state1.ticks in omega (arith, e, f)) (omega arith) None)

    -- where a second disk is lost in the commit
    tick_busy : (answer : Answer) (new : PowerState) → IsUnhurt setup p Tick answer new → makes_no_call answer ≡ false
    unfolding outcomes
    tick_busy other new is =
        let none_out = subst (λ (o : Out). Contains {X = Answer × PowerState} (tick_by_out setup None s1 o) (other, new)) no_out is.among in
        let in_phase = subst (λ (x : Phase). Contains {X = Answer × PowerState} (tick_by_phase setup None s1 x) (other, new)) steady none_out in
        let decided = subst (λ (x : Decision). Contains {X = Answer × PowerState} (decide setup None s1 x) (other, new)) down in_phase in
        let free = subst (λ (o : Option ℕ). Contains {X = Answer × PowerState} (shift_down setup None s1 to o) (other, new)) unworn decided in
        ap makes_no_call (sym (one_outcome (report (begun_down to s1) 0 (Begun to)) other new free))

    no_name2 : (e : ℕ) → named_out k2.meta.out ≡ Some e → ⊥
    no_name2 e named = absurd (no_one (sym (ap (λ (m : Meta). named_out m.out) meta2 ∙ ap named_out out1) ∙ named))

    abbrev halted_point : Two → List Call → Point
    halted_point two ds = record p { disks = run p.disks ds; energy = k1.energy; halt = Some (HaltTwo two) }

    first_down : (two : Two) (ds : List Call) → TellsTwo k2 two p.disks ds → IsFirstDown k.slots setup p Tick ds two.first
    first_down two ds tells = elim tells.first [ inl named ↦ absurd (no_name2 two.first named) | inr none ↦ lost (ap named_out no_out) none.1 ]

    tick_lost : (two : Two) (ds : List Call) → AreEventCalls k2 p.history p.low p.meta p.disks ds → TellsTwo k2 two p.disks ds → LosesSecondDisk k.slots setup p Tick two ds (halted_point two ds)
    tick_lost two ds part tells = record {
      fit = fit;
      first = first_down two ds tells;
      apart = tells.apart;
      ends = ends_event k.slots setup p Tick two ds (first_down two ds tells) tells.ends;
      busy = tick_busy;
      moments = each2 ds part;
      once = let a = part_attaches k2 p.history p.low p.meta w0 mid2 ds part in omega (arith, a);
      disks = refl;
      history = refl;
      gear = same refl;
      energy = own (used told k k1 setup p at counts fit ∙ ap (λ (e : ℕ). min (e + tick_energy setup p.state) 18446744073709551615) (sym at.energy));
      halted = refl;
    }

    module _ (k3 : Service) (begins : BeginsDownByTick k k1 k2 k3 to) (lo3 : ℕ) (le3 : p.low ≤ lo3) (ds : List Call) (part : AreEventCalls k2 p.history p.low p.meta p.disks ds) (ends : EndsEvent k2 k3 p.history lo3 p.disks ds) where
      abbrev v : Watch
      v = watch_all ds w0

      only3 : IsOnly (named_out k3.meta.out) v.down
      only3 = part_only k2 p.history p.low p.meta w0 mid2 ds part k3 p.history lo3 ends (named_out k3.meta.out) (only_more (named_out k3.meta.out) w0.down only0) (λ e named. named)

      serving3 : IsServing v.down
      serving3 = only_serving (named_out k3.meta.out) v.down only3

      mid3 : IsMidway k3 p.history p.low ends.keeps.base v
      mid3 = part_stands k2 p.history p.low p.meta w0 mid2 ds part k3 p.history lo3 ends p.low le3 serving3

      base3 : ends.keeps.base ≡ committed_meta k2
      base3 = part_epoch k2 p.history p.low p.meta w0 mid2 ds part k3 p.history lo3 ends serving3 begins.epoch

      shown3 : ShowsMeta v.disks.power ends.keeps.base k3.meta
      shown3 = subst (λ (m : Meta). ShowsMeta v.disks.power m k3.meta) (sym base3) (part_committed k2 p.history p.low p.meta w0 mid2 ds part k3 p.history lo3 ends settled2)

      setup3 : k3.meta.setup ≡ setup
      setup3 = marked_setup v.disks.power k2.meta k3.meta (part_marks k2 p.history p.low p.meta w0 mid2 ds part k3 p.history lo3 ends) ∙ ap (λ (m : Meta). m.setup) meta2 ∙ setup1

      abbrev s3 : PowerState
      s3 = state_after (begun_down to s1) (first_lost ds)

      counted3 : IsStateOf (record k3 { table = k2.table; samples = k2.samples; served = k2.served }) s3
      counted3 = part_state k2 p.history p.low p.meta w0 mid2 ds part k3 p.history lo3 ends (begun_down to s1) state2 settled2

      state3 : IsStateOf k3 s3
      state3 = record {
        gear = counted3.gear;
        phase = counted3.phase;
        fill = counted3.fill;
        out = counted3.out;
        spins = counted3.spins;
        ticks = counted3.ticks;
        dirty = λ r e low. counted3.dirty r e low ∙ ap (λ (t : List (List Bool)). is_dirty t r e) (ap (λ (z : Service). z.table) mark ∙ sym begins.table);
        samples = counted3.samples ∙ ap (λ (z : Service). z.samples) mark ∙ sym begins.samples;
        served = counted3.served ∙ ap (λ (z : Service). z.served) mark ∙ sym begins.served;
      }

      abbrev begun_point : Point
      begun_point = record {
        disks = v.disks;
        history = p.history;
        low = p.low;
        meta = ends.keeps.base;
        state = s3;
        energy = energy_after setup p.energy p.state answer;
        spun = v.spun;
        awaited = v.awaited;
        halt = None;
      }

      counted_energy : k1.energy ≡ min (k.energy + tick_energy setup p.state) 18446744073709551615
      counted_energy = used told k k1 setup p at counts fit

      energy3 : energy_after setup p.energy p.state answer ≡ k3.energy
      energy3 = capped_sum p.energy k.energy (tick_energy setup p.state) (begun_energy setup p.state.gear (Begun to)) k1.energy k3.energy at.energy (no_spin_ups setup.spinup_mj to p.state.gear lower) counted_energy begins.energy

      down3 : v.down ≡ down_from_out (named_out s3.out)
      down3 = only_is (named_out k3.meta.out) v.down only3 mid3.stands.named_down ∙ ap (λ (o : Out). down_from_out (named_out o)) (sym state3.out)

      begun_stands : (told_then : Option Trail) → ((t : Trail) → told_then ≡ Some t → now t ≡ v.disks) → StandsAt told_then k3 setup begun_point
      begun_stands told_then tells = record {
        disks = tells;
        stands = subst (λ (dn : DownDisks). StandsIn k3 p.history p.low ends.keeps.base (record { disks = v.disks; down = dn; spun = v.spun; awaited = v.awaited })) down3 mid3.stands;
        copies_synced = begins.copies_synced;
        same_setup = setup3;
        shown = shown3;
        powered = part_powered k2 p.history p.low p.meta w0 mid2 ds part k3 p.history lo3 ends powered2;
        state = state3;
        energy = energy3;
        fits = under_cap k1.energy k3.energy (k.energy + tick_energy setup p.state) counted_energy begins.energy;
        going = refl;
      }

      begun_among : (loss : Option ℕ) → Contains {X = Answer × PowerState} (begin_by_tick loss (begun_down to s1) to) (answer, state_after (begun_down to s1) loss)
      begun_among None = (0, omega arith, refl)
      begun_among (Some e) = (0, omega arith, refl)

      begun_step : IsEventStep setup p.history p.energy p.state Tick (first_lost ds) answer s3
      unfolding outcomes
      begun_step = record {
        among = subst (λ (o : Out). Contains {X = Answer × PowerState} (tick_by_out setup (first_lost ds) s1 o) (answer, s3)) (sym no_out)
            (subst (λ (x : Phase). Contains {X = Answer × PowerState} (tick_by_phase setup (first_lost ds) s1 x) (answer, s3)) (sym steady)
            (subst (λ (x : Decision). Contains {X = Answer × PowerState} (decide setup (first_lost ds) s1 x) (answer, s3)) (sym down)
            (subst (λ (o : Option ℕ). Contains {X = Answer × PowerState} (shift_down setup (first_lost ds) s1 to o) (answer, s3)) (sym unworn) (begun_among (first_lost ds)))));
      }

      -- the commit has brought all ticks
      all_ticks : ends.keeps.base.ticks ≡ s3.ticks
      all_ticks = ap (λ (m : Meta). m.ticks) base3 ∙ sym (same_ticks v.disks.power k2.meta k3.meta (part_marks k2 p.history p.low p.meta w0 mid2 ds part k3 p.history lo3 ends)) ∙ sym state3.ticks

      begun_turn : (told_then : Option Trail) → ((t : Trail) → told_then ≡ Some t → now t ≡ v.disks) → GoesOn k.slots setup p Tick answer (StandsAt told_then k3 setup) p.disks ds
      begun_turn told_then tells = let there = begun_stands told_then tells in (
        begun_point,
        answered at.going (λ e. tick_not_bad e) (record {
          fit = λ asked. fit;
          machine = begun_step;
          moments = each2 ds part;
          once = let a = part_attaches k2 p.history p.low p.meta w0 mid2 ds part in omega (arith, a);
          attached = λ is. absurd (false≢true is);
          ups = λ e low. let z = part_ups k2 p.history p.low p.meta w0 mid2 ds part e in omega (arith, z);
          quiet = λ still none. absurd (false≢true still);
          serving = serving3;
          carried = λ is none. all_ticks;
          brought = λ moved. all_ticks;
          named = λ e was is moved. absurd (none_not_gone (sym no_out ∙ was));
          mark = subst (λ (m : ℕ). IsMark m setup begun_point) (begins.slots ∙ ap (λ (z : Service). z.slots) counts.is) (stands_mark told_then k3 setup begun_point there);
          flushed = λ f. absurd (false≢true f);
          disks = watched_disks w0 ds;
          history = sym (append-nil p.history);
          low = refl;
          energy = refl;
          spun = refl;
          awaited = refl;
          going = refl;
        }),
        there,
      )

  pub tick_told : (k3 : Service) → BeginsDownByTick k k1 k2 k3 to → (lo3 : ℕ) → p.low ≤ lo3 → (told_then : Option Trail) → ((t : Trail) → told ≡ Some t → ServiceStandsFor k1 p.history p.low (now t) → ServiceStandsFor k2 p.history p.low (now t))
      → Ran told told_then (ServesEvent k2 k3 p.history p.low p.history lo3) → Ran told told_then (GoesOn k.slots setup p Tick answer (StandsAt told_then k3 setup))
  tick_told k3 begins lo3 le3 told_then marks ran t tells =
      let r = ran t tells in
      let from : now r.from ≡ p.disks = at.disks r.from r.was in
      let keeps = subst (ServiceStandsFor k2 p.history p.low) from (marks r.from r.was (subst (ServiceStandsFor k1 p.history p.low) (sym from) mid1.stands.keeps)) in
      let same_meta : keeps.base ≡ p.meta = same_base k1 k2 p.history p.history p.low p.low p.disks mid1.stands.keeps keeps ∙ mid1.stands.is_base in
      let holds = subst (λ (s : Disks). ServesEvent k2 k3 p.history p.low p.history lo3 s r.calls) from r.holds keeps in
      let part = subst (λ (m : Meta). AreEventCalls k2 p.history p.low m p.disks r.calls) same_meta holds.0 in
      let end : now t ≡ (watch_all r.calls w0).disks = ap now r.is ∙ now-extend r.from r.calls ∙ ap (λ (s : Disks). run s r.calls) from ∙ sym (watched_disks w0 r.calls) in
      record {
        from = r.from;
        was = r.was;
        calls = r.calls;
        is = r.is;
        holds = begun_turn keeps k3 begins lo3 le3 r.calls part holds.1 told_then (λ u u_tells. ap now (some_trail u t (sym u_tells ∙ tells)) ∙ end);
      }

  pub tick_loses : (two : Two) (told_then : Option Trail) → ((t : Trail) → told ≡ Some t → ServiceStandsFor k1 p.history p.low (now t) → ServiceStandsFor k2 p.history p.low (now t))
      → Ran told told_then (λ s cs. LosesInEvent k2 p.history p.low s cs × TellsTwo k2 two s cs) → Ran told told_then (GoesOn k.slots setup p Tick (Halted (HaltTwo two)) (IsHaltedWith p (HaltTwo two) k1.energy))
  tick_loses two told_then marks ran t tells =
      let r = ran t tells in
      let from : now r.from ≡ p.disks = at.disks r.from r.was in
      let keeps = subst (ServiceStandsFor k2 p.history p.low) from (marks r.from r.was (subst (ServiceStandsFor k1 p.history p.low) (sym from) mid1.stands.keeps)) in
      let same_meta : keeps.base ≡ p.meta = same_base k1 k2 p.history p.history p.low p.low p.disks mid1.stands.keeps keeps ∙ mid1.stands.is_base in
      let holds = subst (λ (s : Disks). LosesInEvent k2 p.history p.low s r.calls × TellsTwo k2 two s r.calls) from r.holds in
      let part = subst (λ (m : Meta). AreEventCalls k2 p.history p.low m p.disks r.calls) same_meta (holds.0 keeps) in
      record {
        from = r.from;
        was = r.was;
        calls = r.calls;
        is = r.is;
        holds = (halted_point keeps two r.calls, second_loss two at.going (λ e. tick_not_bad e) refl (tick_lost keeps two r.calls part holds.1), refl);
      }
