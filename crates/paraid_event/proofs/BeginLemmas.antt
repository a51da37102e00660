-- A shift down that begins: a commit, its mark, and a commit of that.
use Rattle.std.proofs.Common.{◌≡◌, ℕ, ◌+◌, ◌-◌, ◌*◌, ◌<◌, ◌≤◌, ◌⊎◌, Bool, true, false, List, [], ◌∷◌, ◌++◌, Option, Some, None, refl, sym, ap, ◌∙◌, inl, inr, subst, arith, min, if◌then◌else◌}
use Rattle.std.specs.Prelude.{Contains}
use Rattle.std.proofs.lemmas.Bool.{false≢true}
use Rattle.std.proofs.lemmas.List.{append-nil}
use Rattle.paraid_base.specs.declared.event.Answer.{Answer}
use Rattle.paraid_base.specs.declared.event.Answer.TheVariants.{Halted, Shift}
use Rattle.paraid_base.specs.declared.event.Event.TheVariants.{Down as AskDown, Up as AskUp}
use Rattle.paraid_base.specs.declared.fault.Halt.TheVariants.{Two as HaltTwo}
use Rattle.paraid_base.specs.declared.fault.Two.{Two}
use Rattle.paraid_base.specs.declared.state.Out.{Out}
use Rattle.paraid_base.specs.declared.state.Out.TheVariants.{No}
use Rattle.paraid_base.specs.declared.state.Phase.{Phase}
use Rattle.paraid_base.specs.declared.state.Phase.TheVariants.{Steady, Down, Up}
use Rattle.paraid_base.specs.Gears.{next_higher, next_lower}
use Rattle.paraid_base.specs.Log.{worn_at}
use Rattle.paraid_base.specs.States.{has_out, named_out, phase_beside, rising_to}
use Rattle.paraid_dirty.specs.Table.{is_dirty}
use Rattle.paraid_rack.specs.declared.call.Call.{Call}
use Rattle.paraid_rack.specs.declared.call.Power.{Power}
use Rattle.paraid_rack.specs.Told.{Ran}
use Rattle.paraid_rack.specs.Trail.{Trail, now, run}
use Rattle.paraid_record.specs.declared.meta.Meta.{Meta}
use Rattle.paraid_record.specs.declared.meta.Setup.{Setup}
use Rattle.paraid_image.specs.Calls.{disk_of, is_done}
use Rattle.paraid_image.specs.Power.{PowerState, power_by_gear}
use Rattle.paraid_image.specs.Spins.{made_spin_ups}
use Rattle.paraid_machine.specs.Energy.{energy_after, spin_up_energy}
use Rattle.paraid_machine.specs.Machine.{IsEventStep, begin, go_down, go_up, outcomes, refusal_else, ration_refusal, shift_refusal}
use Rattle.paraid_machine.specs.Moves.{begun_down, begun_up, first_used_up}
use Rattle.paraid_moves.specs.MoveMetas.{meta_after_begin}
use Rattle.paraid_session.specs.Turn.{GoesOn, IsFirstDown, IsMark, IsUnhurt, LosesSecondDisk, Point, bounds_at, makes_no_call, point_wear, watch_of}
use Rattle.paraid_session.specs.Turn.IsFirstDown.{lost}
use Rattle.paraid_session.specs.Turn.IsSecondLossEnergy.{own}
use Rattle.paraid_session.specs.Turn.IsSecondLossGear.{same}
use Rattle.paraid_session.specs.Turn.IsTurn.{answered, two as second_loss}
use Rattle.paraid_session.specs.Watch.{Bounds, Down as DownDisks, Each, HoldsWhileServing, IsAllowed, IsServing, Watch, down_from_out, first_lost, nobody, only, several, watch_all}
use Rattle.paraid_session.proofs.LayerLemmas.{first_fails}
use Rattle.paraid_session.specs.Resting.{watch_at}
use Rattle.paraid_recover.proofs.BaseLemmas.{each_append}
use Rattle.paraid_recover.proofs.DownLemmas.{watched_disks}
use Rattle.paraid_event.proofs.ApartLemmas.{down_not_bad, no_one, none_not_gone, up_not_bad}
use Rattle.paraid_event.specs.Begins.{BeginsDown, MarksShiftDown}
use Rattle.paraid_event.specs.Lost.{IsHaltedFrom, TellsTwo}
use Rattle.paraid_event.specs.Marks.{ArePoweredByGear, IsMarkedBy, ShowsMeta}
use Rattle.paraid_event.specs.Parts.{AreEventCalls, EndsEvent, LosesInEvent, ServesEvent, committed_meta}
use Rattle.paraid_event.proofs.UpLemmas.{up_append}
use Rattle.paraid_event.proofs.UsedLemmas.{part_ups}
use Rattle.paraid_event.specs.Service.{IsStateOf, Service}
use Rattle.paraid_event.specs.Stands.{IsMidway, ServiceStandsFor, StandsAt, StandsIn}
use Rattle.paraid_event.proofs.EndLemmas.{IsOnly, only_is, only_serving}
use Rattle.paraid_event.proofs.FailLemmas.{attach_append, watch_append}
use Rattle.paraid_event.proofs.LastCallLemmas.{alone_unhurt, ends_event}
use Rattle.paraid_image.proofs.LostLemmas.{ends_later}
use Rattle.paraid_event.proofs.LostLemmas.{capped_own, loses_told, one_outcome}
use Rattle.paraid_event.proofs.MarksLemmas.{marked_setup, same_ticks}
use Rattle.paraid_event.proofs.PartLemmas.{IsSettled, part_attaches, part_committed, part_each, part_epoch, part_failed, part_marks, part_only, part_powered, part_stands, part_state, part_room}
use Rattle.paraid_event.proofs.PointLemmas.{stands_mark}
use Rattle.paraid_event.proofs.TurnLemmas.{absent_named, fresh_there, out_low, state_after}
use Rattle.paraid_event.proofs.PreludeLemmas.{after_mark, same_base}

-- where none failed in the first of some calls, the first that failed is that of the others
pub first_append : (cs ds : List Call) → first_lost cs ≡ None → first_lost (cs ++ ds) ≡ first_lost ds
first_append [] ds none = refl
first_append (c ∷ cs) ds none = by (is_done c) none (λ rest. first_append cs ds rest)
  where
    by : (t : Bool) → (if t then first_lost cs else Some (disk_of c)) ≡ None → (first_lost cs ≡ None → first_lost (cs ++ ds) ≡ first_lost ds) → (if t then first_lost (cs ++ ds) else Some (disk_of c)) ≡ first_lost ds
    by true z f = f z
    by false z f = let y : Some (disk_of c) ≡ None = z in cc

only_more : (o : Option ℕ) (down : DownDisks) → IsOnly None down → IsOnly o down
only_more o nobody is = tt
only_more o (only d) is = absurd (no_one is)
only_more o several is = is

-- no spin-up is pending in a shift down, or in none
begun_used : (m : Meta) (to : ℕ) (p : ℕ → Power) (d : ℕ) → rising_to m.phase ≡ 0 → made_spin_ups (meta_after_begin m (Down to) m.spins) p d ≡ made_spin_ups m p d
begun_used m to p d steady = rw steady refl

begun_gear : (m : Meta) (to d : ℕ) → rising_to m.phase ≡ 0 → power_by_gear m.gear (Down to) d ≡ power_by_gear m.gear m.phase d
begun_gear m to d steady = rw steady refl

capped_more : (u k a : ℕ) → u ≡ k → a ≡ 0 → k ≤ 18446744073709551615 → k ≡ min (u + a) 18446744073709551615
capped_more u k a e none fits = grind (arith)

no_spin_ups : (mj to gear : ℕ) → to < gear → mj * (to - gear) ≡ 0
no_spin_ups mj to gear l = let e : to - gear ≡ 0 = omega (arith, l) in rw e (zero_times mj)
  where
    zero_times : (a : ℕ) → a * 0 ≡ 0
    zero_times a = grind (arith)

module _ (told : Option Trail) (k k1 k2 : Service) (setup : Setup) (p : Point) (at : StandsAt told k setup p) (to : ℕ) (shift : MarksShiftDown k k1 k2 to) (some : next_lower setup.geometry p.state.gear ≡ Some to)
    (steady : p.state.phase ≡ Steady) (no_out : p.state.out ≡ No) (unworn : first_used_up setup p.state to ≡ None) (lo1 : ℕ) (le1 : p.low ≤ lo1) where
  abbrev w0 : Watch
  w0 = watch_at p

  abbrev b : Bounds
  b = bounds_at setup p p.state

  mid0 : IsMidway k p.history p.low p.meta w0
  mid0 = record { stands = at.stands; named = absent_named told k setup p at; low = out_low told k setup p at; fresh = fresh_there told k setup p at }

  only0 : IsOnly None w0.down
  only0 = subst (λ (o : Out). IsOnly None (down_from_out (named_out o))) (sym no_out) tt

  ticks_fit : k.meta.ticks ≤ b.ticks
  ticks_fit = let e = at.state.ticks in omega (arith, e)

  module _ (cs : List Call) (part : AreEventCalls k p.history p.low p.meta p.disks cs) (ends : EndsEvent k k1 p.history lo1 p.disks cs) where
    abbrev v1 : Watch
    v1 = watch_all cs w0

    no_named1 : (e : ℕ) → named_out k1.meta.out ≡ Some e → ⊥
    no_named1 e named = absurd (no_one (sym (ap named_out shift.whole) ∙ named))

    only1 : IsOnly None v1.down
    only1 = part_only k p.history p.low p.meta w0 mid0 cs part k1 p.history lo1 ends None only0 (λ e named. absurd (no_named1 e named))

    serving1 : IsServing v1.down
    serving1 = only_serving None v1.down only1

    mid1 : IsMidway k1 p.history p.low ends.keeps.base v1
    mid1 = part_stands k p.history p.low p.meta w0 mid0 cs part k1 p.history lo1 ends p.low le1 serving1

    powered1 : ArePoweredByGear v1.disks.power k1.meta
    powered1 = part_powered k p.history p.low p.meta w0 mid0 cs part k1 p.history lo1 ends at.powered

    marks1 : IsMarkedBy v1.disks.power k.meta k1.meta
    marks1 = part_marks k p.history p.low p.meta w0 mid0 cs part k1 p.history lo1 ends

    setup1 : k1.meta.setup ≡ setup
    setup1 = marked_setup v1.disks.power k.meta k1.meta marks1 ∙ at.same_setup

    each1 : Each (HoldsWhileServing k.slots p.history p.low b) (IsAllowed setup None) w0 cs
    each1 = part_each k p.history p.low p.meta w0 mid0 cs part b at.same_setup ticks_fit (omega arith) None

    none_lost : first_lost cs ≡ None
    none_lost = by (first_lost cs) refl
      where
        by : (o : Option ℕ) → first_lost cs ≡ o → first_lost cs ≡ None
        by None is = is
        by (Some e) is = absurd (no_named1 e (part_failed k p.history p.low p.meta w0 mid0 cs part k1 p.history lo1 ends e (first_fails cs e is)))

    settled0 : IsSettled k.meta
    settled0 = record {
      phase = ap (λ (o : Out). phase_beside (has_out o) k.meta.phase) (sym at.state.out ∙ no_out) ∙ same_phase k.meta.phase;
      fill = ap (λ (o : Out). if has_out o then 0 else k.meta.fill) (sym at.state.out ∙ no_out);
    }
      where
        same_phase : (z : Phase) → phase_beside false z ≡ z
        same_phase Steady = refl
        same_phase (Down x) = refl
        same_phase (Up x) = refl

    state1 : IsStateOf (record k1 { table = k.table; samples = k.samples; served = k.served }) p.state
    state1 = subst (λ (o : Option ℕ). IsStateOf (record k1 { table = k.table; samples = k.samples; served = k.served }) (state_after p.state o)) none_lost
        (part_state k p.history p.low p.meta w0 mid0 cs part k1 p.history lo1 ends p.state at.state settled0)

    rising1 : rising_to k1.meta.phase ≡ 0
    rising1 = ap rising_to (sym state1.phase ∙ steady)

    module _ (keeps : ServiceStandsFor k2 p.history p.low v1.disks) where
      meta2 : k2.meta ≡ meta_after_begin k1.meta (Down to) k1.meta.spins
      meta2 = ap (λ (z : Service). z.meta) shift.mark

      midway_with : (j : Service) → j ≡ record k1 { meta = meta_after_begin k1.meta (Down to) k1.meta.spins } → ServiceStandsFor j p.history p.low v1.disks → IsMidway j p.history p.low ends.keeps.base v1
      midway_with j is z = subst (λ (y : Service). IsMidway y p.history p.low ends.keeps.base v1) (sym is) (record {
        stands = record {
          keeps = subst (λ (y : Service). ServiceStandsFor y p.history p.low v1.disks) is z;
          is_base = same_base k1 (record k1 { meta = meta_after_begin k1.meta (Down to) k1.meta.spins }) p.history p.history p.low p.low v1.disks mid1.stands.keeps (subst (λ (y : Service). ServiceStandsFor y p.history p.low v1.disks) is z) ∙ mid1.stands.is_base;
          absent_down = mid1.stands.absent_down;
          named_down = mid1.stands.named_down;
          stays = mid1.stands.stays;
          recorded = mid1.stands.recorded;
          recorded_next = λ e low here not. let before = mid1.stands.recorded_next e low here not in let used = begun_used k1.meta to v1.disks.power e rising1 in omega (arith, before, used);
          awaited = mid1.stands.awaited;
          ticks = mid1.stands.ticks;
        };
        named = mid1.named;
        low = mid1.low;
        fresh = mid1.fresh;
      })

      mid2 : IsMidway k2 p.history p.low ends.keeps.base v1
      mid2 = midway_with k2 shift.mark keeps

      powered2 : ArePoweredByGear v1.disks.power k2.meta
      powered2 = subst (ArePoweredByGear v1.disks.power) (sym meta2) (record {
        by_gear = λ e low not. powered1.by_gear e low not ∙ sym (begun_gear k1.meta to e rising1);
        fresh = powered1.fresh;
      })

      settled2 : IsSettled k2.meta
      settled2 = subst IsSettled (sym meta2) (record {
        phase = ap (λ (o : Out). phase_beside (has_out o) (Down to)) shift.whole;
        fill = ap (λ (o : Out). if has_out o then 0 else 0) shift.whole;
      })

      state2 : IsStateOf k2 (begun_down to p.state)
      state2 = record {
        gear = state1.gear ∙ sym (ap (λ (m : Meta). m.gear) meta2);
        phase = sym (ap (λ (m : Meta). m.phase) meta2);
        fill = sym (ap (λ (m : Meta). m.fill) meta2);
        out = state1.out ∙ sym (ap (λ (m : Meta). m.out) meta2);
        spins = state1.spins ∙ sym (ap (λ (m : Meta). m.spins) meta2);
        ticks = state1.ticks ∙ sym (ap (λ (m : Meta). m.ticks) meta2);
        dirty = λ r e low. state1.dirty r e (subst (λ (m : Meta). r < m.setup.geometry.rows) meta2 low) ∙ ap (λ (t : List (List Bool)). is_dirty t r e) (sym shift.table ∙ sym (ap (λ (z : Service). z.table) shift.mark));
        samples = state1.samples ∙ sym shift.samples ∙ sym (ap (λ (z : Service). z.samples) shift.mark);
        served = state1.served ∙ sym shift.served ∙ sym (ap (λ (z : Service). z.served) shift.mark);
      }

      slots2 : k2.slots ≡ k.slots
      slots2 = ap (λ (z : Service). z.slots) shift.mark ∙ shift.slots

      each2 : (ds : List Call) → AreEventCalls k2 p.history p.low ends.keeps.base v1.disks ds → Each (HoldsWhileServing k.slots p.history p.low b) (IsAllowed setup None) v1 ds
      each2 ds part2 = subst (λ (n : ℕ). Each (HoldsWhileServing n p.history p.low b) (IsAllowed setup None) v1 ds) slots2
          (part_each k2 p.history p.low ends.keeps.base v1 mid2 ds part2 b (ap (λ (m : Meta). m.setup) meta2 ∙ setup1) ticks2 epoch2 None)
        where
          ticks2 : k2.meta.ticks ≤ b.ticks
          ticks2 = let e = ap (λ (m : Meta). m.ticks) meta2 in let f = same_ticks v1.disks.power k.meta k1.meta marks1 in let g = ticks_fit in omega (arith, e, f, g)

          epoch1 : ends.keeps.base.epoch ≤ p.meta.epoch + 1
          epoch1 = part_room k p.history p.low p.meta w0 mid0 cs part k1 p.history lo1 ends serving1

          epoch2 : ends.keeps.base.epoch + 1 ≤ b.epoch
          epoch2 = let e = epoch1 in omega (arith, e)

      module _ (k3 : Service) (begins : BeginsDown k k1 k2 k3 to) (lower : to < p.state.gear) (lo3 : ℕ) (le3 : p.low ≤ lo3) (ds : List Call) (part2 : AreEventCalls k2 p.history p.low ends.keeps.base v1.disks ds) (ends2 : EndsEvent k2 k3 p.history lo3 v1.disks ds) where
        abbrev v3 : Watch
        v3 = watch_all ds v1

        only3 : IsOnly (named_out k3.meta.out) v3.down
        only3 = part_only k2 p.history p.low ends.keeps.base v1 mid2 ds part2 k3 p.history lo3 ends2 (named_out k3.meta.out) (only_more (named_out k3.meta.out) v1.down only1) (λ e named. named)

        serving3 : IsServing v3.down
        serving3 = only_serving (named_out k3.meta.out) v3.down only3

        mid3 : IsMidway k3 p.history p.low ends2.keeps.base v3
        mid3 = part_stands k2 p.history p.low ends.keeps.base v1 mid2 ds part2 k3 p.history lo3 ends2 p.low le3 serving3

        base3 : ends2.keeps.base ≡ committed_meta k2
        base3 = part_epoch k2 p.history p.low ends.keeps.base v1 mid2 ds part2 k3 p.history lo3 ends2 serving3 begins.epoch

        shown3 : ShowsMeta v3.disks.power ends2.keeps.base k3.meta
        shown3 = subst (λ (m : Meta). ShowsMeta v3.disks.power m k3.meta) (sym base3) (part_committed k2 p.history p.low ends.keeps.base v1 mid2 ds part2 k3 p.history lo3 ends2 settled2)

        powered3 : ArePoweredByGear v3.disks.power k3.meta
        powered3 = part_powered k2 p.history p.low ends.keeps.base v1 mid2 ds part2 k3 p.history lo3 ends2 powered2

        setup3 : k3.meta.setup ≡ setup
        setup3 = marked_setup v3.disks.power k2.meta k3.meta (part_marks k2 p.history p.low ends.keeps.base v1 mid2 ds part2 k3 p.history lo3 ends2) ∙ ap (λ (m : Meta). m.setup) meta2 ∙ setup1

        abbrev s3 : PowerState
        s3 = state_after (begun_down to p.state) (first_lost ds)

        counted3 : IsStateOf (record k3 { table = k2.table; samples = k2.samples; served = k2.served }) s3
        counted3 = part_state k2 p.history p.low ends.keeps.base v1 mid2 ds part2 k3 p.history lo3 ends2 (begun_down to p.state) state2 settled2

        state3 : IsStateOf k3 s3
        state3 = record {
          gear = counted3.gear;
          phase = counted3.phase;
          fill = counted3.fill;
          out = counted3.out;
          spins = counted3.spins;
          ticks = counted3.ticks;
          dirty = λ r e low. counted3.dirty r e low ∙ ap (λ (t : List (List Bool)). is_dirty t r e) (ap (λ (z : Service). z.table) shift.mark ∙ shift.table ∙ sym begins.table);
          samples = counted3.samples ∙ ap (λ (z : Service). z.samples) shift.mark ∙ shift.samples ∙ sym begins.samples;
          served = counted3.served ∙ ap (λ (z : Service). z.served) shift.mark ∙ shift.served ∙ sym begins.served;
        }

        abbrev begun_point : Point
        begun_point = record {
          disks = v3.disks;
          history = p.history;
          low = p.low;
          meta = ends2.keeps.base;
          state = s3;
          energy = energy_after setup p.energy p.state (Shift p.state.gear to);
          spun = v3.spun;
          awaited = v3.awaited;
          halt = None;
        }

        energy3 : k3.energy ≡ energy_after setup p.energy p.state (Shift p.state.gear to)
        energy3 = begins.energy ∙ capped_more p.energy k.energy (spin_up_energy setup p.state.gear to) at.energy (no_spin_ups setup.spinup_mj to p.state.gear lower) at.fits

        down3 : v3.down ≡ down_from_out (named_out s3.out)
        down3 = only_is (named_out k3.meta.out) v3.down only3 mid3.stands.named_down ∙ ap (λ (o : Out). down_from_out (named_out o)) (sym state3.out)

        begun_stands : (told_then : Option Trail) → ((t : Trail) → told_then ≡ Some t → now t ≡ v3.disks) → StandsAt told_then k3 setup begun_point
        begun_stands told_then tells = record {
          disks = tells;
          stands = subst (λ (dn : DownDisks). StandsIn k3 p.history p.low ends2.keeps.base (record { disks = v3.disks; down = dn; spun = v3.spun; awaited = v3.awaited })) down3 mid3.stands;
          copies_synced = begins.copies_synced;
          same_setup = setup3;
          shown = shown3;
          powered = powered3;
          state = state3;
          energy = sym energy3;
          fits = let e = begins.energy in let f = at.fits in omega (arith, e, f);
          going = refl;
        }

        begun_among : (loss : Option ℕ) → Contains {X = Answer × PowerState} (begin None loss p.state to (begun_down to p.state)) (Shift p.state.gear to, state_after (begun_down to p.state) loss)
        begun_among None = (0, omega arith, refl)
        begun_among (Some e) = (1, omega arith, refl)

        begun_step : IsEventStep setup p.history p.energy p.state AskDown (first_lost ds) (Shift p.state.gear to) s3
        unfolding outcomes
        begun_step = record {
          among = subst (λ (o : Option ℕ). Contains {X = Answer × PowerState} (go_down setup (first_lost ds) p.state o) (Shift p.state.gear to, s3)) (sym some)
              (subst (λ (o : Option Answer). Contains {X = Answer × PowerState} (begin o (first_lost ds) p.state to (begun_down to p.state)) (Shift p.state.gear to, s3))
              (sym (ap (λ (o : Option Answer). refusal_else o (ration_refusal (first_used_up setup p.state to))) (ap (λ (x : Phase). shift_refusal x p.state.out) steady ∙ ap (λ (o : Out). shift_refusal Steady o) no_out) ∙ ap ration_refusal unworn))
              (begun_among (first_lost ds)));
        }

        watched : watch_all (cs ++ ds) (watch_of p AskDown (Shift p.state.gear to)) ≡ v3
        watched = watch_append cs ds w0

        -- the commit has brought all ticks
        all_ticks : ends2.keeps.base.ticks ≡ s3.ticks
        all_ticks = ap (λ (m : Meta). m.ticks) base3 ∙ sym (same_ticks v3.disks.power k2.meta k3.meta (part_marks k2 p.history p.low ends.keeps.base v1 mid2 ds part2 k3 p.history lo3 ends2)) ∙ sym state3.ticks

        begun_turn : point_wear p < worn_at → (told_then : Option Trail) → ((t : Trail) → told_then ≡ Some t → now t ≡ v3.disks) → GoesOn k.slots setup p AskDown (Shift p.state.gear to) (StandsAt told_then k3 setup) p.disks (cs ++ ds)
        begun_turn fit told_then tells = let there = begun_stands told_then tells in (
          begun_point,
          answered at.going (λ e. down_not_bad e) (record {
            fit = λ asked. fit;
            machine = subst (λ (o : Option ℕ). IsEventStep setup p.history p.energy p.state AskDown o (Shift p.state.gear to) s3) (sym (first_append cs ds none_lost)) begun_step;
            moments = each_append (HoldsWhileServing k.slots p.history p.low b) (IsAllowed setup None) w0 cs ds each1 (each2 ds part2);
            once = let a = attach_append cs ds (part_attaches k p.history p.low p.meta w0 mid0 cs part) (part_attaches k2 p.history p.low ends.keeps.base v1 mid2 ds part2) in omega (arith, a);
            attached = λ is. absurd (false≢true is);
            ups = λ e low.
                let a = up_append e cs ds in
                let x = part_ups k p.history p.low p.meta w0 mid0 cs part e in
                let y = part_ups k2 p.history p.low ends.keeps.base v1 mid2 ds part2 e in
                omega (arith, a, x, y);
            quiet = λ still none. absurd (false≢true still);
            serving = subst (λ (z : Watch). IsServing z.down) (sym watched) serving3;
            mark = subst (λ (m : ℕ). IsMark m setup begun_point) begins.slots (stands_mark told_then k3 setup begun_point there);
            carried = λ is none. all_ticks;
            brought = λ moved. all_ticks;
            named = λ e was is moved. absurd (none_not_gone (sym no_out ∙ was));
            flushed = λ f. absurd (false≢true f);
            disks = ap (λ (z : Watch). z.disks) (sym (watch_append cs ds w0)) ∙ watched_disks w0 (cs ++ ds);
            history = sym (append-nil p.history);
            low = refl;
            energy = refl;
            spun = ap (λ (z : Watch). z.spun) (sym watched);
            awaited = ap (λ (z : Watch). z.awaited) (sym watched);
            going = refl;
          }),
          there,
        )

  pub begun_told : (k3 : Service) → BeginsDown k k1 k2 k3 to → to < p.state.gear → (lo3 : ℕ) → p.low ≤ lo3 → point_wear p < worn_at → (mid told_then : Option Trail) → Ran told mid (ServesEvent k k1 p.history p.low p.history lo1) → ((t : Trail) → mid ≡ Some t → ServiceStandsFor k1 p.history p.low (now t) → ServiceStandsFor k2 p.history p.low (now t))
      → Ran mid told_then (ServesEvent k2 k3 p.history p.low p.history lo3) → Ran told told_then (GoesOn k.slots setup p AskDown (Shift p.state.gear to) (StandsAt told_then k3 setup))
  begun_told k3 begins lower lo3 le3 fit mid told_then first marks second =
      after_mark told k k1 k2 setup p at (down_from_out (named_out p.state.out)) lo1 p.low mid1 mid told_then (ServesEvent k2 k3 p.history p.low p.history lo3) (GoesOn k.slots setup p AskDown (Shift p.state.gear to) (StandsAt told_then k3 setup)) first marks second
      (λ cs part ends keeps same_meta ds holds end.
      let served = holds keeps in
      begun_turn cs part ends keeps k3 begins lower lo3 le3 ds (subst (λ (m : Meta). AreEventCalls k2 p.history p.low m (watch_all cs w0).disks ds) same_meta served.0) served.1 fit told_then end)

-- a shift that may begin makes calls
module _ (told : Option Trail) (k : Service) (setup : Setup) (p : Point) (at : StandsAt told k setup p) (to : ℕ) (steady : p.state.phase ≡ Steady) (no_out : p.state.out ≡ No) where
  pub free : shift_refusal p.state.phase p.state.out ≡ None
  free = ap (λ (x : Phase). shift_refusal x p.state.out) steady ∙ ap (λ (o : Out). shift_refusal Steady o) no_out

  pub down_busy : next_lower setup.geometry p.state.gear ≡ Some to → first_used_up setup p.state to ≡ None → (answer : Answer) (new : PowerState) → IsUnhurt setup p AskDown answer new → makes_no_call answer ≡ false
  unfolding outcomes
  down_busy some unworn answer new is =
      let one = subst (λ (o : Option ℕ). Contains {X = Answer × PowerState} (go_down setup None p.state o) (answer, new)) some is.among in
      let two = subst (λ (o : Option Answer). Contains {X = Answer × PowerState} (begin o None p.state to (begun_down to p.state)) (answer, new))
      (ap (λ (o : Option Answer). refusal_else o (ration_refusal (first_used_up setup p.state to))) free ∙ ap ration_refusal unworn) one in
      ap makes_no_call (sym (one_outcome (Shift p.state.gear to, begun_down to p.state) answer new two))

  pub up_busy : next_higher setup.geometry p.state.gear ≡ Some to → (answer : Answer) (new : PowerState) → IsUnhurt setup p AskUp answer new → makes_no_call answer ≡ false
  unfolding outcomes
  up_busy some answer new is =
      let one = subst (λ (o : Option ℕ). Contains {X = Answer × PowerState} (go_up setup None p.state o) (answer, new)) some is.among in
      let two = subst (λ (o : Option Answer). Contains {X = Answer × PowerState} (begin o None p.state to (begun_up to p.state)) (answer, new)) free one in
      ap makes_no_call (sym (one_outcome (Shift p.state.gear to, begun_up to p.state) answer new two))

  module _ (told_then : Option Trail) (two : Two) (fit : point_wear p < worn_at) (ran : Ran told told_then (λ s cs. LosesInEvent k p.history p.low s cs × TellsTwo k two s cs)) where
    pub down_loses : next_lower setup.geometry p.state.gear ≡ Some to → first_used_up setup p.state to ≡ None → Ran told told_then (GoesOn k.slots setup p AskDown (Halted (HaltTwo two)) (IsHaltedFrom p (HaltTwo two)))
    down_loses some unworn = loses_told told told_then k setup p at two AskDown refl refl refl (λ e. down_not_bad e) (down_busy some unworn) fit ran

    pub up_loses : next_higher setup.geometry p.state.gear ≡ Some to → Ran told told_then (GoesOn k.slots setup p AskUp (Halted (HaltTwo two)) (IsHaltedFrom p (HaltTwo two)))
    up_loses some = loses_told told told_then k setup p at two AskUp refl refl refl (λ e. up_not_bad e) (up_busy some) fit ran

module _ (told : Option Trail) (k k1 k2 : Service) (setup : Setup) (p : Point) (at : StandsAt told k setup p) (to : ℕ) (shift : MarksShiftDown k k1 k2 to) (some : next_lower setup.geometry p.state.gear ≡ Some to)
    (steady : p.state.phase ≡ Steady) (no_out : p.state.out ≡ No) (unworn : first_used_up setup p.state to ≡ None) (lo1 : ℕ) (le1 : p.low ≤ lo1) (two : Two) (fit : point_wear p < worn_at) where
  abbrev w_first : Watch
  w_first = watch_at p

  loses_marked : (cs : List Call) (part : AreEventCalls k p.history p.low p.meta p.disks cs) (ends : EndsEvent k k1 p.history lo1 p.disks cs) (keeps : ServiceStandsFor k2 p.history p.low (watch_all cs w_first).disks)
      (ds : List Call) → AreEventCalls k2 p.history p.low ends.keeps.base (watch_all cs w_first).disks ds → TellsTwo k2 two (watch_all cs w_first).disks ds
      → LosesSecondDisk k.slots setup p AskDown two (cs ++ ds) (record p { disks = run p.disks (cs ++ ds); halt = Some (HaltTwo two) })
  loses_marked cs part ends keeps ds part2 tells = record {
    fit = fit;
    first = first_down;
    apart = tells.apart;
    ends = ends_event k.slots setup p AskDown two (cs ++ ds) first_down (ends_later two cs ds (alone_unhurt two.first cs unhurt) tells.ends);
    busy = down_busy told k setup p at to steady no_out some unworn;
    moments = each_append (HoldsWhileServing k.slots p.history p.low (bounds_at setup p p.state)) (IsAllowed setup None) w_first cs ds
        (each1 told k k1 k2 setup p at to shift some steady no_out unworn lo1 le1 cs part ends)
        (each2 told k k1 k2 setup p at to shift some steady no_out unworn lo1 le1 cs part ends keeps ds part2);
    once = let a = attach_append cs ds
        (part_attaches k p.history p.low p.meta w_first (mid0 told k k1 k2 setup p at to shift some steady no_out unworn lo1 le1) cs part)
        (part_attaches k2 p.history p.low ends.keeps.base (watch_all cs w_first) (mid2 told k k1 k2 setup p at to shift some steady no_out unworn lo1 le1 cs part ends keeps) ds part2) in omega (arith, a);
    disks = refl;
    history = refl;
    gear = same refl;
    energy = own (capped_own p.energy k.energy at.energy at.fits);
    halted = refl;
  }
    where
      no_name : (d : ℕ) → named_out k2.meta.out ≡ Some d → ⊥
      no_name d named = absurd (no_one (sym (ap (λ (s : Service). named_out s.meta.out) shift.mark ∙ ap named_out shift.whole) ∙ named))

      first_of : (named_out k2.meta.out ≡ Some two.first) ⊎ ((named_out k2.meta.out ≡ None) × (first_lost ds ≡ Some two.first)) → first_lost ds ≡ Some two.first
      first_of (inl named) = absurd (no_name two.first named)
      first_of (inr none) = none.1

      unhurt : first_lost cs ≡ None
      unhurt = none_lost told k k1 k2 setup p at to shift some steady no_out unworn lo1 le1 cs part ends

      first_down : IsFirstDown k.slots setup p AskDown (cs ++ ds) two.first
      first_down = lost (ap named_out no_out) (first_append cs ds unhurt ∙ first_of tells.first)

  pub begun_loses : (mid told_then : Option Trail) → Ran told mid (ServesEvent k k1 p.history p.low p.history lo1) → ((t : Trail) → mid ≡ Some t → ServiceStandsFor k1 p.history p.low (now t) → ServiceStandsFor k2 p.history p.low (now t))
      → Ran mid told_then (λ s cs. LosesInEvent k2 p.history p.low s cs × TellsTwo k2 two s cs) → Ran told told_then (GoesOn k.slots setup p AskDown (Halted (HaltTwo two)) (IsHaltedFrom p (HaltTwo two)))
  begun_loses mid told_then first marks second =
      after_mark told k k1 k2 setup p at (down_from_out (named_out p.state.out)) lo1 p.low (mid1 told k k1 k2 setup p at to shift some steady no_out unworn lo1 le1) mid told_then
      (λ s cs. LosesInEvent k2 p.history p.low s cs × TellsTwo k2 two s cs) (GoesOn k.slots setup p AskDown (Halted (HaltTwo two)) (IsHaltedFrom p (HaltTwo two))) first marks second
      (λ cs part ends keeps same_meta ds holds end. (
        record p { disks = run p.disks (cs ++ ds); halt = Some (HaltTwo two) },
        second_loss two at.going (λ e. down_not_bad e) refl
            (loses_marked cs part ends keeps ds (subst (λ (m : Meta). AreEventCalls k2 p.history p.low m (watch_all cs w_first).disks ds) same_meta (holds.0 keeps)) holds.1),
        refl,
      ))
