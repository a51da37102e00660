-- A shift up that begins: a commit, its mark, a commit of that, and the spin-ups.
use Rattle.paraid_event.proofs.ServingLemmas.{spins_only}
use Rattle.std.proofs.Common.{◌≡◌, ◌≢◌, zero, suc, ℕ, ◌+◌, ◌-◌, ◌<◌, ◌≤◌, ◌⊎◌, Bool, true, false, List, [], ◌∷◌, ◌++◌, Option, Some, None, refl, sym, ap, ◌∙◌, inl, inr, subst, arith, min, if◌then◌else◌}
use Rattle.std.specs.Prelude.{◌&&◌, nat_le, nat_lt, Contains, slice_index, slice_index_or}
use Rattle.std.proofs.lemmas.Bool.{false≢true}
use Rattle.std.proofs.lemmas.Bool.Decides.{nat_tests}
use Rattle.std.proofs.lemmas.List.{append-nil}
use Rattle.paraid_base.specs.declared.event.Answer.{Answer}
use Rattle.paraid_base.specs.declared.event.Answer.TheVariants.{Halted, Shift}
use Rattle.paraid_base.specs.declared.event.Event.TheVariants.{Up as AskUp}
use Rattle.paraid_base.specs.declared.fault.Halt.TheVariants.{Two as HaltTwo}
use Rattle.paraid_base.specs.declared.fault.Two.{Two}
use Rattle.paraid_base.specs.declared.state.Out.{Out}
use Rattle.paraid_base.specs.declared.state.Out.TheVariants.{No}
use Rattle.paraid_base.specs.declared.state.Phase.{Phase}
use Rattle.paraid_base.specs.declared.state.Phase.TheVariants.{Steady, Down, Up}
use Rattle.paraid_base.specs.Gears.{next_higher}
use Rattle.paraid_base.specs.Log.{worn_at}
use Rattle.paraid_base.specs.States.{gone_out, has_out, named_out, phase_beside, rising_to}
use Rattle.paraid_dirty.specs.Table.{is_dirty}
use Rattle.paraid_rack.specs.declared.call.Call.{Call}
use Rattle.paraid_rack.specs.declared.call.Power.{Power}
use Rattle.paraid_rack.specs.Disks.{Disks, is_parked, is_present}
use Rattle.paraid_rack.specs.Told.{Ran}
use Rattle.paraid_rack.specs.Trail.{Trail, now, run}
use Rattle.paraid_record.specs.declared.meta.Meta.{Meta}
use Rattle.paraid_record.specs.declared.meta.Setup.{Setup}
use Rattle.paraid_image.specs.Calls.{disk_of, is_done}
use Rattle.paraid_image.specs.Power.{PowerState}
use Rattle.paraid_image.specs.Spins.{made_spin_ups}
use Rattle.paraid_machine.specs.Energy.{energy_after, spin_up_energy}
use Rattle.paraid_machine.specs.Machine.{IsEventStep, begin, go_up, outcomes, shift_refusal}
use Rattle.paraid_machine.specs.Moves.{begun_up, with_spin_ups}
use Rattle.paraid_moves.specs.MoveMetas.{meta_after_begin}
use Rattle.paraid_session.specs.Turn.{GoesOn, IsMark, IsUnhurt, LosesSecondDisk, Point, bounds_at, makes_no_call, point_wear, watch_of}
use Rattle.paraid_session.specs.Turn.IsFirstDown.{lost}
use Rattle.paraid_session.specs.Turn.IsSecondLossEnergy.{own}
use Rattle.paraid_session.specs.Turn.IsSecondLossGear.{same}
use Rattle.paraid_session.specs.Turn.IsTurn.{answered, two as second_loss}
use Rattle.paraid_session.specs.Watch.{Bounds, Down as DownDisks, Each, HoldsWhileServing, IsAllowed, IsServing, Watch, attach_count, down_from_out, fails_on, first_lost, nobody, only, several, watch_all}
use Rattle.paraid_session.proofs.LayerLemmas.{absent_failed, fails_first, first_fails}
use Rattle.paraid_session.specs.Resting.{watch_at}
use Rattle.paraid_recover.proofs.BaseLemmas.{each_append}
use Rattle.paraid_recover.proofs.DownLemmas.{watched_disks}
use Rattle.paraid_event.proofs.ApartLemmas.{no_one, none_not_gone, up_not_bad}
use Rattle.paraid_event.specs.Marks.{ArePoweredByGear, IsMarkedBy, ShowsMeta}
use Rattle.paraid_event.specs.Parts.{AreEventCalls, EndsEvent, LosesInEvent, ServesEvent, committed_meta}
use Rattle.paraid_event.specs.Powering.{AreDisksPowered, EndsPowered, PowersInEvent}
use Rattle.paraid_event.proofs.ShiftMarkLemmas.{up_mark}
use Rattle.paraid_event.proofs.UpLemmas.{made_most, stands_made, up_append}
use Rattle.paraid_event.proofs.UsedLemmas.{mark_used, part_used, power_used}
use Rattle.paraid_event.specs.Service.{IsStateOf, Service}
use Rattle.paraid_event.specs.Stands.{IsMidway, ServiceStandsFor, StandsAt, StandsIn}
use Rattle.paraid_event.specs.Upshift.{EndsShiftUp, MarksShiftUp, OpensShiftUp}
use Rattle.paraid_event.specs.Lost.{IsHaltedFrom, TellsTwo}
use Rattle.paraid_image.specs.Lost.{EndsBySecond}
use Rattle.paraid_event.proofs.BeginLemmas.{first_append}
use Rattle.paraid_event.proofs.EndLemmas.{IsOnly, failed_absent, only_is, only_serving}
use Rattle.paraid_event.proofs.FailLemmas.{attach_append, watch_append}
use Rattle.paraid_event.proofs.LastCallLemmas.{alone_named, alone_unhurt, ends_event}
use Rattle.paraid_image.proofs.LostLemmas.{ends_later}
use Rattle.paraid_event.proofs.MarksLemmas.{marked_setup, newly_named, same_ticks, still_named}
use Rattle.paraid_event.proofs.PartLemmas.{IsSettled, part_attaches, part_awaited, part_calls, part_committed, part_each, part_epoch, part_failed, part_marks, part_only, part_stands, part_state, part_room}
use Rattle.paraid_event.proofs.PointLemmas.{stands_mark}
use Rattle.paraid_event.proofs.PowerLemmas.{power_attaches, power_each, power_marks, power_named, power_only, power_powered, power_setup, power_shown, power_stands, power_state, power_there, settled_by}
use Rattle.paraid_event.proofs.TurnLemmas.{absent_named, fresh_there, out_low, state_after}
use Rattle.paraid_event.proofs.PreludeLemmas.{after_mark, both_parts, BothParts, same_base}

-- the first call that failed of some calls is that of those and others
first_before : (cs ds : List Call) (e : ℕ) → first_lost cs ≡ Some e → first_lost (cs ++ ds) ≡ Some e
first_before [] ds e is = absurd (no_one is)
first_before (c ∷ cs) ds e is = by (is_done c) is (λ z. first_before cs ds e z)
  where
    by : (t : Bool) → (if t then first_lost cs else Some (disk_of c)) ≡ Some e → (first_lost cs ≡ Some e → first_lost (cs ++ ds) ≡ Some e) → (if t then first_lost (cs ++ ds) else Some (disk_of c)) ≡ Some e
    by true z f = f z
    by false z f = z

only_more : (o : Option ℕ) (down : DownDisks) → IsOnly None down → IsOnly o down
only_more o nobody is = tt
only_more o (only d) is = absurd (no_one is)
only_more o several is = is

-- a shift up that begins has one more spin-up recorded of each disk of which one is to be made
begun_used : (m : Meta) (spins : List ℕ) (to : ℕ) (p : ℕ → Power) (d : ℕ) → (m.gear ≤ d → d < to → slice_index spins d ≡ slice_index m.spins d + 1) → ((d < m.gear) ⊎ (to ≤ d) → slice_index spins d ≡ slice_index m.spins d)
    → made_spin_ups m p d ≤ made_spin_ups (meta_after_begin m (Up to) spins) p d
begun_used m spins to p d raised others = by (nat_le m.gear d) (nat_lt d to) (is_parked (p d)) refl refl
  where
    at_least : (a b : ℕ) → nat_le a b ≡ true → a ≤ b
    at_least a b t = grind (arith, nat_tests)

    less : (a b : ℕ) → nat_le a b ≡ false → b < a
    less a b t = grind (arith, nat_tests)

    below : (a b : ℕ) → nat_lt a b ≡ true → a < b
    below a b t = grind (arith, nat_tests)

    past : (a b : ℕ) → nat_lt a b ≡ false → b ≤ a
    past a b t = grind (arith, nat_tests)

    by : (x y z : Bool) → nat_le m.gear d ≡ x → nat_lt d to ≡ y → made_spin_ups m p d ≤ slice_index spins d - (if (x && y && z) then 1 else 0)
    by true true true f g = let r = raised (at_least m.gear d f) (below d to g) in omega (arith, r)
    by true true false f g = let r = raised (at_least m.gear d f) (below d to g) in omega (arith, r)
    by true false z f g = let r = others (inr (past d to g)) in omega (arith, r)
    by false y z f g = let r = others (inl (less m.gear d f)) in omega (arith, r)

capped_begin : (u k a c e : ℕ) → u ≡ k → a ≡ c → e ≡ min (k + c) 18446744073709551615 → e ≡ min (u + a) 18446744073709551615
capped_begin u k a c e equal one is = grind (arith)

under_cap : (x a : ℕ) → x ≡ min a 18446744073709551615 → x ≤ 18446744073709551615
under_cap x a is = grind (arith)

capped_own : (u k : ℕ) → u ≡ k → k ≤ 18446744073709551615 → u ≡ min (u + 0) 18446744073709551615
capped_own u k e fits = grind (arith)

one_outcome : (outcome : Answer × PowerState) (answer : Answer) (new : PowerState) → Contains (outcome ∷ []) (answer, new) → outcome.0 ≡ answer
one_outcome outcome answer new is = by is.0 is.1 is.2
  where
    by : (x : ℕ) → x < 1 → slice_index_or (outcome ∷ []) x (answer, new) ≡ (answer, new) → outcome.0 ≡ answer
    by zero low at = ap (λ (z : Answer × PowerState). z.0) at
    by (suc x) low at = absurd (omega arith)

module _ (told : Option Trail) (k k1 k2 : Service) (setup : Setup) (p : Point) (at : StandsAt told k setup p) (to : ℕ) (up : MarksShiftUp k k1 k2 to) (some : next_higher setup.geometry p.state.gear ≡ Some to)
    (steady : p.state.phase ≡ Steady) (no_out : p.state.out ≡ No) (lo1 : ℕ) (le1 : p.low ≤ lo1) (fit : point_wear p < worn_at) where
  abbrev w0 : Watch
  w0 = watch_at p

  abbrev b : Bounds
  b = bounds_at setup p p.state

  mid0 : IsMidway k p.history p.low p.meta w0
  mid0 = record { stands = at.stands; named = absent_named told k setup p at; low = out_low told k setup p at; fresh = fresh_there told k setup p at }

  out0 : k.meta.out ≡ No
  out0 = sym at.state.out ∙ no_out

  only0 : IsOnly None w0.down
  only0 = subst (λ (o : Out). IsOnly None (down_from_out (named_out o))) (sym no_out) tt

  ticks_fit : k.meta.ticks ≤ b.ticks
  ticks_fit = let e = at.state.ticks in omega (arith, e)

  none_awaited : (d : ℕ) → p.awaited ≡ Some d → ⊥
  none_awaited d is = absurd (no_one (sym (ap gone_out out0) ∙ at.stands.awaited d is))

  raise_busy : (answer : Answer) (new : PowerState) → IsUnhurt setup p AskUp answer new → makes_no_call answer ≡ false
  unfolding outcomes
  raise_busy answer new is =
      let there = subst (λ (o : Option ℕ). Contains (go_up setup None p.state o) (answer, new)) some is.among in
      let free = subst (λ (o : Option Answer). Contains (begin o None p.state to (begun_up to p.state)) (answer, new)) (ap (λ (x : Phase). shift_refusal x p.state.out) steady ∙ ap (λ (o : Out). shift_refusal Steady o) no_out) there in
      ap makes_no_call (sym (one_outcome (Shift p.state.gear to, begun_up to p.state) answer new free))

  begins_lost : (two : Two) (cs : List Call) → first_lost cs ≡ Some two.first → EndsBySecond two cs → two.first ≢ two.second → Each (HoldsWhileServing k.slots p.history p.low b) (IsAllowed setup None) w0 cs → attach_count cs ≡ 0
      → LosesSecondDisk k.slots setup p AskUp two cs (record p { disks = run p.disks cs; halt = Some (HaltTwo two) })
  begins_lost two cs first ends apart moments attaches = record {
    fit = fit;
    first = lost (ap named_out no_out) first;
    apart = apart;
    ends = ends_event k.slots setup p AskUp two cs (lost (ap named_out no_out) first) ends;
    busy = raise_busy;
    moments = moments;
    once = omega (arith, attaches);
    disks = refl;
    history = refl;
    gear = same refl;
    energy = own (capped_own p.energy k.energy at.energy at.fits);
    halted = refl;
  }

  module _ (cs : List Call) (part : AreEventCalls k p.history p.low p.meta p.disks cs) (ends : EndsEvent k k1 p.history lo1 p.disks cs) where
    abbrev v1 : Watch
    v1 = watch_all cs w0

    no_named1 : (e : ℕ) → named_out k1.meta.out ≡ Some e → ⊥
    no_named1 e named = absurd (no_one (sym (ap named_out up.whole) ∙ named))

    only1 : IsOnly None v1.down
    only1 = part_only k p.history p.low p.meta w0 mid0 cs part k1 p.history lo1 ends None only0 (λ e named. absurd (no_named1 e named))

    serving1 : IsServing v1.down
    serving1 = only_serving None v1.down only1

    mid1 : IsMidway k1 p.history p.low ends.keeps.base v1
    mid1 = part_stands k p.history p.low p.meta w0 mid0 cs part k1 p.history lo1 ends p.low le1 serving1

    marks1 : IsMarkedBy v1.disks.power k.meta k1.meta
    marks1 = part_marks k p.history p.low p.meta w0 mid0 cs part k1 p.history lo1 ends

    setup1 : k1.meta.setup ≡ setup
    setup1 = marked_setup v1.disks.power k.meta k1.meta marks1 ∙ at.same_setup

    each1 : Each (HoldsWhileServing k.slots p.history p.low b) (IsAllowed setup None) w0 cs
    each1 = part_each k p.history p.low p.meta w0 mid0 cs part b at.same_setup ticks_fit (omega arith) None

    none_lost : first_lost cs ≡ None
    none_lost = by (first_lost cs) refl
      where
        by : (o : Option ℕ) → first_lost cs ≡ o → first_lost cs ≡ None
        by None is = is
        by (Some e) is = absurd (no_named1 e (part_failed k p.history p.low p.meta w0 mid0 cs part k1 p.history lo1 ends e (first_fails cs e is)))

    settled0 : IsSettled k.meta
    settled0 = record {
      phase = ap (λ (o : Out). phase_beside (has_out o) k.meta.phase) out0 ∙ same_phase k.meta.phase;
      fill = ap (λ (o : Out). if has_out o then 0 else k.meta.fill) out0;
    }
      where
        same_phase : (z : Phase) → phase_beside false z ≡ z
        same_phase Steady = refl
        same_phase (Down x) = refl
        same_phase (Up x) = refl

    state1 : IsStateOf (record k1 { table = k.table; samples = k.samples; served = k.served }) p.state
    state1 = subst (λ (o : Option ℕ). IsStateOf (record k1 { table = k.table; samples = k.samples; served = k.served }) (state_after p.state o)) none_lost
        (part_state k p.history p.low p.meta w0 mid0 cs part k1 p.history lo1 ends p.state at.state settled0)

    epoch1 : ends.keeps.base.epoch ≤ p.meta.epoch + 1
    epoch1 = part_room k p.history p.low p.meta w0 mid0 cs part k1 p.history lo1 ends serving1

    module _ (keeps : ServiceStandsFor k2 p.history p.low v1.disks) where
      abbrev meta_up : Meta
      meta_up = meta_after_begin k1.meta (Up to) k2.meta.spins

      meta2 : k2.meta ≡ meta_up
      meta2 = ap (λ (z : Service). z.meta) up.mark

      midway_with : (j : Service) (spins : List ℕ) → ((d : ℕ) → k1.meta.gear ≤ d → d < to → slice_index spins d ≡ slice_index k1.meta.spins d + 1) → ((d : ℕ) → (d < k1.meta.gear) ⊎ (to ≤ d) → slice_index spins d ≡ slice_index k1.meta.spins d)
          → j ≡ record k1 { meta = meta_after_begin k1.meta (Up to) spins } → ServiceStandsFor j p.history p.low v1.disks → IsMidway j p.history p.low ends.keeps.base v1
      midway_with j spins raised others is z = subst (λ (y : Service). IsMidway y p.history p.low ends.keeps.base v1) (sym is) (record {
        stands = record {
          keeps = subst (λ (y : Service). ServiceStandsFor y p.history p.low v1.disks) is z;
          is_base = same_base k1 (record k1 { meta = meta_after_begin k1.meta (Up to) spins }) p.history p.history p.low p.low v1.disks mid1.stands.keeps (subst (λ (y : Service). ServiceStandsFor y p.history p.low v1.disks) is z) ∙ mid1.stands.is_base;
          absent_down = mid1.stands.absent_down;
          named_down = mid1.stands.named_down;
          stays = mid1.stands.stays;
          recorded = mid1.stands.recorded;
          recorded_next = λ e low here not. let before = mid1.stands.recorded_next e low here not in let used = begun_used k1.meta spins to v1.disks.power e (raised e) (others e) in omega (arith, before, used);
          awaited = mid1.stands.awaited;
          ticks = mid1.stands.ticks;
        };
        named = mid1.named;
        low = mid1.low;
        fresh = mid1.fresh;
      })

      mid2 : IsMidway k2 p.history p.low ends.keeps.base v1
      mid2 = midway_with k2 k2.meta.spins up.raised up.others up.mark keeps

      settled2 : IsSettled k2.meta
      settled2 = subst IsSettled (sym meta2) (record {
        phase = ap (λ (o : Out). phase_beside (has_out o) (Up to)) up.whole;
        fill = ap (λ (o : Out). if has_out o then 0 else 0) up.whole;
      })

      spins2 : with_spin_ups p.state.gear to p.state.spins ≡ k2.meta.spins
      spins2 = ap (λ (g : ℕ). with_spin_ups g to p.state.spins) state1.gear ∙ ap (with_spin_ups k1.meta.gear to) state1.spins ∙ sym up.spins

      state2 : IsStateOf (record k2 { table = k.table; samples = k.samples; served = k.served }) (begun_up to p.state)
      state2 = record {
        gear = state1.gear ∙ sym (ap (λ (m : Meta). m.gear) meta2);
        phase = sym (ap (λ (m : Meta). m.phase) meta2);
        fill = sym (ap (λ (m : Meta). m.fill) meta2);
        out = state1.out ∙ sym (ap (λ (m : Meta). m.out) meta2);
        spins = spins2;
        ticks = state1.ticks ∙ sym (ap (λ (m : Meta). m.ticks) meta2);
        dirty = λ r e low. state1.dirty r e (subst (λ (m : Meta). r < m.setup.geometry.rows) meta2 low);
        samples = state1.samples;
        served = state1.served;
      }

      slots2 : k2.slots ≡ k.slots
      slots2 = ap (λ (z : Service). z.slots) up.mark ∙ up.counts.slots

      -- the counts are as they were
      state2_own : IsStateOf k2 (begun_up to p.state)
      state2_own = record {
        gear = state2.gear;
        phase = state2.phase;
        fill = state2.fill;
        out = state2.out;
        spins = state2.spins;
        ticks = state2.ticks;
        dirty = λ r e low. state2.dirty r e low ∙ ap (λ (t : List (List Bool)). is_dirty t r e) (sym up.counts.table ∙ sym (ap (λ (z : Service). z.table) up.mark));
        samples = state2.samples ∙ sym up.counts.samples ∙ sym (ap (λ (z : Service). z.samples) up.mark);
        served = state2.served ∙ sym up.counts.served ∙ sym (ap (λ (z : Service). z.served) up.mark);
      }

      ticks2 : k2.meta.ticks ≤ b.ticks
      ticks2 = let e = ap (λ (m : Meta). m.ticks) meta2 in let f = same_ticks v1.disks.power k.meta k1.meta marks1 in let g = ticks_fit in omega (arith, e, f, g)

      module _ (ds : List Call) (part2 : AreEventCalls k2 p.history p.low ends.keeps.base v1.disks ds) where
        abbrev v3 : Watch
        v3 = watch_all ds v1

        each2 : Each (HoldsWhileServing k.slots p.history p.low b) (IsAllowed setup None) v1 ds
        each2 = subst (λ (n : ℕ). Each (HoldsWhileServing n p.history p.low b) (IsAllowed setup None) v1 ds) slots2
            (part_each k2 p.history p.low ends.keeps.base v1 mid2 ds part2 b (ap (λ (m : Meta). m.setup) meta2 ∙ setup1) ticks2 (let e = epoch1 in omega (arith, e)) None)

        -- where a second disk is lost in that commit
        module _ (two : Two) (tells : TellsTwo k2 two v1.disks ds) where
          no_name2 : (e : ℕ) → named_out k2.meta.out ≡ Some e → ⊥
          no_name2 e named = absurd (no_one (sym (ap (λ (m : Meta). named_out m.out) meta2 ∙ ap named_out up.whole) ∙ named))

          opened_lost : LosesSecondDisk k.slots setup p AskUp two (cs ++ ds) (record p { disks = run p.disks (cs ++ ds); halt = Some (HaltTwo two) })
          opened_lost = begins_lost two (cs ++ ds) (first_append cs ds none_lost ∙ elim tells.first [ inl named ↦ absurd (no_name2 two.first named) | inr none ↦ none.1 ])
              (ends_later two cs ds (alone_unhurt two.first cs none_lost) tells.ends) tells.apart
              (each_append (HoldsWhileServing k.slots p.history p.low b) (IsAllowed setup None) w0 cs ds each1 each2)
              (attach_append cs ds (part_attaches k p.history p.low p.meta w0 mid0 cs part) (part_attaches k2 p.history p.low ends.keeps.base v1 mid2 ds part2))

        module _ (k3 : Service) (lo3 : ℕ) (le3 : p.low ≤ lo3) (opens : OpensShiftUp k k2 k3) (ends2 : EndsEvent k2 k3 p.history lo3 v1.disks ds) where
          only3_by : (o : Option ℕ) → ((e : ℕ) → named_out k3.meta.out ≡ Some e → o ≡ Some e) → IsOnly o v3.down
          only3_by o named = part_only k2 p.history p.low ends.keeps.base v1 mid2 ds part2 k3 p.history lo3 ends2 o (only_more o v1.down only1) named

          serving3 : IsServing v3.down
          serving3 = only_serving (named_out k3.meta.out) v3.down (only3_by (named_out k3.meta.out) (λ e named. named))

          mid3 : IsMidway k3 p.history p.low ends2.keeps.base v3
          mid3 = part_stands k2 p.history p.low ends.keeps.base v1 mid2 ds part2 k3 p.history lo3 ends2 p.low le3 serving3

          base3 : ends2.keeps.base ≡ committed_meta k2
          base3 = part_epoch k2 p.history p.low ends.keeps.base v1 mid2 ds part2 k3 p.history lo3 ends2 serving3 opens.epoch

          shown3 : ShowsMeta v3.disks.power ends2.keeps.base k3.meta
          shown3 = subst (λ (m : Meta). ShowsMeta v3.disks.power m k3.meta) (sym base3) (part_committed k2 p.history p.low ends.keeps.base v1 mid2 ds part2 k3 p.history lo3 ends2 settled2)

          marks3 : IsMarkedBy v3.disks.power k2.meta k3.meta
          marks3 = part_marks k2 p.history p.low ends.keeps.base v1 mid2 ds part2 k3 p.history lo3 ends2

          settled3 : IsSettled k3.meta
          settled3 = settled_by v3.disks.power k2.meta k3.meta marks3 settled2

          setup3 : k3.meta.setup ≡ setup
          setup3 = marked_setup v3.disks.power k2.meta k3.meta marks3 ∙ ap (λ (m : Meta). m.setup) meta2 ∙ setup1

          abbrev s3 : PowerState
          s3 = state_after (begun_up to p.state) (first_lost ds)

          counted3 : IsStateOf (record k3 { table = k2.table; samples = k2.samples; served = k2.served }) s3
          counted3 = part_state k2 p.history p.low ends.keeps.base v1 mid2 ds part2 k3 p.history lo3 ends2 (begun_up to p.state) state2_own settled2

          state3 : IsStateOf k3 s3
          state3 = record {
            gear = counted3.gear;
            phase = counted3.phase;
            fill = counted3.fill;
            out = counted3.out;
            spins = counted3.spins;
            ticks = counted3.ticks;
            dirty = λ r e low. counted3.dirty r e low ∙ ap (λ (t : List (List Bool)). is_dirty t r e) (ap (λ (z : Service). z.table) up.mark ∙ up.counts.table ∙ sym opens.counts.table);
            samples = counted3.samples ∙ ap (λ (z : Service). z.samples) up.mark ∙ up.counts.samples ∙ sym opens.counts.samples;
            served = counted3.served ∙ ap (λ (z : Service). z.served) up.mark ∙ up.counts.served ∙ sym opens.counts.served;
          }

          none_awaited3 : (d : ℕ) → v3.awaited ≡ Some d → ⊥
          none_awaited3 d is = none_awaited d (
              sym (part_awaited k p.history p.low p.meta w0 mid0 cs part k1 p.history lo1 ends) ∙ sym (part_awaited k2 p.history p.low ends.keeps.base v1 mid2 ds part2 k3 p.history lo3 ends2) ∙ is
              )

          -- each spin-up is recorded by the meta that stands
          has_up : (m : Meta) → m ≡ meta_up → (d : ℕ) → m.gear ≤ d → d < rising_to m.phase → 1 ≤ slice_index m.spins d
          has_up m is d from low =
              let g = ap (λ (z : Meta). z.gear) is in
              let r = ap (λ (z : Meta). rising_to z.phase) is in
              let s = ap (λ (z : Meta). slice_index z.spins d) is in
              let one = up.raised d (omega (arith, g, from)) (omega (arith, r, low)) in
              omega (arith, s, one)

          has3 : (d : ℕ) → ends2.keeps.base.gear ≤ d → d < rising_to ends2.keeps.base.phase → 1 ≤ slice_index ends2.keeps.base.spins d
          has3 = subst (λ (m : Meta). (d : ℕ) → m.gear ≤ d → d < rising_to m.phase → 1 ≤ slice_index m.spins d) (sym base3) (λ d from low. has_up k2.meta meta2 d from low)

          -- the disks come up
          module _ (es : List Call) (part3 : AreDisksPowered k3 p.history p.low v3.disks es) where
            abbrev v4 : Watch
            v4 = watch_all es v3

            each3 : Each (HoldsWhileServing k.slots p.history p.low b) (IsAllowed setup None) v3 es
            each3 = subst (λ (n : ℕ). Each (HoldsWhileServing n p.history p.low b) (IsAllowed setup None) v3 es) opens.counts.slots
                (power_each k3 p.history p.low ends2.keeps.base v3 mid3 shown3 none_awaited3 es part3 (λ e raised. has3 e) b setup3 ticks3 epoch3 (spins_only (named_out k3.meta.out) v3.down es (only3_by (named_out k3.meta.out) (λ e named. named)) part3.serving) None)
              where
                ticks3 : ends2.keeps.base.ticks ≤ b.ticks
                ticks3 = let e = ap (λ (m : Meta). m.ticks) base3 in let f = ticks2 in omega (arith, e, f)

                epoch3 : ends2.keeps.base.epoch ≤ b.epoch
                epoch3 =
                    let e = ap (λ (m : Meta). m.epoch) base3 in
                    let f = ap (λ (m : Meta). m.epoch) meta2 in
                    let g = ends.keeps.epoch in
                    let l = epoch1 in
                    omega (arith, e, f, g, l)

            each_all : Each (HoldsWhileServing k.slots p.history p.low b) (IsAllowed setup None) w0 (cs ++ (ds ++ es))
            each_all = each_append (HoldsWhileServing k.slots p.history p.low b) (IsAllowed setup None) w0 cs (ds ++ es) each1
                (each_append (HoldsWhileServing k.slots p.history p.low b) (IsAllowed setup None) v1 ds es each2 each3)

            none_attached : attach_count (cs ++ (ds ++ es)) ≡ 0
            none_attached = attach_append cs (ds ++ es) (part_attaches k p.history p.low p.meta w0 mid0 cs part)
                (attach_append ds es (part_attaches k2 p.history p.low ends.keeps.base v1 mid2 ds part2) (power_attaches k3.meta v3.disks es part3.calls))

            -- where a second disk is lost among the spin-ups
            module _ (two : Two) (tells : TellsTwo k3 two v3.disks es) where
              -- the first was lost in the commit
              lost_opening : (d : ℕ) → named_out k3.meta.out ≡ Some d → first_lost ds ≡ Some d
              lost_opening d named = elim (newly_named v3.disks.power k2.meta k3.meta marks3 d named) [
                | inl was ↦ absurd (no_one (sym (ap (λ (m : Meta). named_out m.out) meta2 ∙ ap named_out up.whole) ∙ was))
                | inr gone ↦ elim (absent_failed v1.disks ds d (subst (λ (s : Disks). is_present (s.power d) ≡ false) (watched_disks v1 ds) gone.1)) [
                  | inl before ↦ absurd (no_one (sym (ap (λ (m : Meta). named_out m.out) meta2 ∙ ap named_out up.whole) ∙ mid2.named d gone.0 before))
                  | inr failed ↦
                      let x = fails_first ds d failed in
                      let also = part_failed k2 p.history p.low ends.keeps.base v1 mid2 ds part2 k3 p.history lo3 ends2 x.0 (first_fails ds x.0 x.1) in
                      let z : Some x.0 ≡ Some d = sym also ∙ named in
                      x.1 ∙ z
                ]
              ]

              none_opening : named_out k3.meta.out ≡ None → first_lost ds ≡ None
              none_opening none = by (first_lost ds) refl
                where
                  by : (o : Option ℕ) → first_lost ds ≡ o → first_lost ds ≡ None
                  by None is = is
                  by (Some d) is = absurd (no_one (sym none ∙ part_failed k2 p.history p.low ends.keeps.base v1 mid2 ds part2 k3 p.history lo3 ends2 d (first_fails ds d is)))

              first_of : first_lost (ds ++ es) ≡ Some two.first
              first_of = elim tells.first [
                | inl named ↦ first_before ds es two.first (lost_opening two.first named)
                | inr none ↦ first_append ds es (none_opening none.0) ∙ none.1
              ]

              alone : (e : ℕ) → fails_on e ds ≡ true → e ≡ two.first
              alone e fails = alone_named (named_out k3.meta.out) (first_lost es) two.first tells.first e
                  (part_failed k2 p.history p.low ends.keeps.base v1 mid2 ds part2 k3 p.history lo3 ends2 e fails)

              raised_lost : LosesSecondDisk k.slots setup p AskUp two (cs ++ (ds ++ es)) (record p { disks = run p.disks (cs ++ (ds ++ es)); halt = Some (HaltTwo two) })
              raised_lost = begins_lost two (cs ++ (ds ++ es)) (first_append cs (ds ++ es) none_lost ∙ first_of)
                  (ends_later two cs (ds ++ es) (alone_unhurt two.first cs none_lost) (ends_later two ds es alone tells.ends)) tells.apart each_all none_attached

            module _ (k4 : Service) (ends_up : EndsShiftUp k k4 to) (ends3 : EndsPowered k3 k4 p.history p.low v3.disks es) where
              marks4 : IsMarkedBy v4.disks.power k3.meta k4.meta
              marks4 = power_marks k3 p.history p.low ends2.keeps.base v3 mid3 shown3 none_awaited3 es part3 (λ e raised. has3 e) k4 ends3

              only4 : IsOnly (named_out k4.meta.out) v4.down
              only4 = power_only k3 p.history p.low ends2.keeps.base v3 mid3 shown3 none_awaited3 es part3 (λ e raised. has3 e) k4 ends3 (named_out k4.meta.out)
                  (only3_by (named_out k4.meta.out) (λ e named. still_named v4.disks.power k3.meta k4.meta marks4 e named)) (λ e named. named)

              serving4 : IsServing v4.down
              serving4 = only_serving (named_out k4.meta.out) v4.down only4

              mid4 : IsMidway k4 p.history p.low ends2.keeps.base v4
              mid4 = power_stands k3 p.history p.low ends2.keeps.base v3 mid3 shown3 none_awaited3 es part3 (λ e raised. has3 e) k4 ends3 serving4

              shown4 : ShowsMeta v4.disks.power ends2.keeps.base k4.meta
              shown4 = power_shown k3 p.history p.low ends2.keeps.base v3 mid3 shown3 none_awaited3 es part3 (λ e raised. has3 e) k4 ends3

              powered4 : ArePoweredByGear v4.disks.power k4.meta
              powered4 = power_powered k3 p.history p.low ends2.keeps.base v3 mid3 shown3 none_awaited3 es part3 (λ e raised. has3 e) k4 ends3

              setup4 : k4.meta.setup ≡ setup
              setup4 = power_setup k3 p.history p.low ends2.keeps.base v3 mid3 shown3 none_awaited3 es part3 (λ e raised. has3 e) k4 ends3 ∙ setup3

              -- after a disk was lost no call fails
              none_later : (d : ℕ) → first_lost ds ≡ Some d → first_lost es ≡ None
              none_later d is = by (first_lost es) refl
                where
                  by : (o : Option ℕ) → first_lost es ≡ o → first_lost es ≡ None
                  by None none = none
                  by (Some e) first =
                      let fails = first_fails es e first in
                      let failed = first_fails ds d is in
                      let named_now = power_named k3 p.history p.low ends2.keeps.base v3 mid3 shown3 none_awaited3 es part3 (λ e raised. has3 e) k4 ends3 e fails in
                      let named_was = still_named v4.disks.power k3.meta k4.meta marks4 d (part_failed k2 p.history p.low ends.keeps.base v1 mid2 ds part2 k3 p.history lo3 ends2 d failed) in
                      let same_disk : d ≡ e = (let z : Some d ≡ Some e = sym named_was ∙ named_now in cc) in
                      let off = failed_absent k2.meta.setup.geometry.disks (gone_out k2.meta.out) v1 ds d (part_calls k2 p.history p.low ends.keeps.base v1 mid2 ds part2) failed in
                      absurd (false≢true (sym off ∙ ap (λ (x : ℕ). is_present (v3.disks.power x)) same_disk ∙ power_there k3.meta v3.disks es e part3.calls fails))

              abbrev s4 : PowerState
              s4 = state_after (begun_up to p.state) (first_lost (ds ++ es))

              same_state : state_after s3 (first_lost es) ≡ s4
              same_state = by (first_lost ds) refl
                where
                  by : (o : Option ℕ) → first_lost ds ≡ o → state_after s3 (first_lost es) ≡ s4
                  by None none = ap (λ (o : Option ℕ). state_after (state_after (begun_up to p.state) o) (first_lost es)) none ∙ ap (state_after (begun_up to p.state)) (sym (first_append ds es none))
                  by (Some d) is = ap (state_after s3) (none_later d is) ∙ ap (state_after (begun_up to p.state)) (is ∙ sym (first_before ds es d is))

              counted4 : IsStateOf (record k4 { table = k3.table; samples = k3.samples; served = k3.served }) s4
              counted4 = subst (IsStateOf (record k4 { table = k3.table; samples = k3.samples; served = k3.served })) same_state
                  (power_state k3 p.history p.low ends2.keeps.base v3 mid3 shown3 none_awaited3 es part3 (λ e raised. has3 e) k4 ends3 s3 state3 settled3)

              state4 : IsStateOf k4 s4
              state4 = record {
                gear = counted4.gear;
                phase = counted4.phase;
                fill = counted4.fill;
                out = counted4.out;
                spins = counted4.spins;
                ticks = counted4.ticks;
                dirty = λ r e low. counted4.dirty r e low ∙ ap (λ (t : List (List Bool)). is_dirty t r e) (opens.counts.table ∙ sym ends_up.counts.table);
                samples = counted4.samples ∙ opens.counts.samples ∙ sym ends_up.counts.samples;
                served = counted4.served ∙ opens.counts.served ∙ sym ends_up.counts.served;
              }

              abbrev raised_point : Point
              raised_point = record {
                disks = v4.disks;
                history = p.history;
                low = p.low;
                meta = ends2.keeps.base;
                state = s4;
                energy = energy_after setup p.energy p.state (Shift p.state.gear to);
                spun = v4.spun;
                awaited = v4.awaited;
                halt = None;
              }

              same_energy : spin_up_energy setup p.state.gear to ≡ spin_up_energy k.meta.setup k.meta.gear to
              same_energy = ap (λ (g : ℕ). spin_up_energy setup g to) at.state.gear ∙ ap (λ (z : Setup). spin_up_energy z k.meta.gear to) (sym at.same_setup)

              energy4 : k4.energy ≡ energy_after setup p.energy p.state (Shift p.state.gear to)
              energy4 = capped_begin p.energy k.energy (spin_up_energy setup p.state.gear to) (spin_up_energy k.meta.setup k.meta.gear to) k4.energy at.energy same_energy ends_up.energy

              down4 : v4.down ≡ down_from_out (named_out s4.out)
              down4 = only_is (named_out k4.meta.out) v4.down only4 mid4.stands.named_down ∙ ap (λ (o : Out). down_from_out (named_out o)) (sym state4.out)

              raised_stands : (told_then : Option Trail) → ((t : Trail) → told_then ≡ Some t → now t ≡ v4.disks) → StandsAt told_then k4 setup raised_point
              raised_stands told_then tells = record {
                disks = tells;
                stands = subst (λ (dn : DownDisks). StandsIn k4 p.history p.low ends2.keeps.base (record { disks = v4.disks; down = dn; spun = v4.spun; awaited = v4.awaited })) down4 mid4.stands;
                copies_synced = ends_up.copies_synced;
                same_setup = setup4;
                shown = shown4;
                powered = powered4;
                state = state4;
                energy = sym energy4;
                fits = under_cap k4.energy (k.energy + spin_up_energy k.meta.setup k.meta.gear to) ends_up.energy;
                going = refl;
              }

              raised_among : (loss : Option ℕ) → Contains {X = Answer × PowerState} (begin None loss p.state to (begun_up to p.state)) (Shift p.state.gear to, state_after (begun_up to p.state) loss)
              raised_among None = (0, omega arith, refl)
              raised_among (Some e) = (1, omega arith, refl)

              raised_step : IsEventStep setup p.history p.energy p.state AskUp (first_lost (ds ++ es)) (Shift p.state.gear to) s4
              unfolding outcomes
              raised_step = record {
                among = subst (λ (o : Option ℕ). Contains {X = Answer × PowerState} (go_up setup (first_lost (ds ++ es)) p.state o) (Shift p.state.gear to, s4)) (sym some)
                    (subst (λ (o : Option Answer). Contains {X = Answer × PowerState} (begin o (first_lost (ds ++ es)) p.state to (begun_up to p.state)) (Shift p.state.gear to, s4))
                    (sym (ap (λ (x : Phase). shift_refusal x p.state.out) steady ∙ ap (λ (o : Out). shift_refusal Steady o) no_out))
                    (raised_among (first_lost (ds ++ es))));
              }

              abbrev all : List Call
              all = cs ++ (ds ++ es)

              watched : watch_all all (watch_of p AskUp (Shift p.state.gear to)) ≡ v4
              watched = watch_append cs (ds ++ es) w0 ∙ watch_append ds es v1

              -- the commit has brought all ticks
              all_ticks : ends2.keeps.base.ticks ≡ s4.ticks
              all_ticks = ap (λ (m : Meta). m.ticks) base3 ∙ sym (same_ticks v3.disks.power k2.meta k3.meta marks3) ∙ sym (same_ticks v4.disks.power k3.meta k4.meta marks4) ∙ sym state4.ticks

              raised_turn : (told_then : Option Trail) → ((t : Trail) → told_then ≡ Some t → now t ≡ v4.disks) → GoesOn k.slots setup p AskUp (Shift p.state.gear to) (StandsAt told_then k4 setup) p.disks all
              raised_turn told_then tells = let there = raised_stands told_then tells in (
                raised_point,
                answered at.going (λ e. up_not_bad e) (record {
                  fit = λ asked. fit;
                  machine = subst (λ (o : Option ℕ). IsEventStep setup p.history p.energy p.state AskUp o (Shift p.state.gear to) s4) (sym (first_append cs (ds ++ es) none_lost)) raised_step;
                  moments = each_all;
                  once = let a = none_attached in omega (arith, a);
                  attached = λ is. absurd (false≢true is);
                  ups = λ e low.
                      let r = stands_made told k setup p at e low in
                      let a = part_used k p.history p.low p.meta w0 mid0 cs part k1 p.history lo1 ends e in
                      let mark = up_mark k1 k2 (ap (λ (z : Service). z.slots) up.mark) (ap (λ (z : Service). z.named) up.mark) to k2.meta.spins up.whole (ap (λ (z : Service). z.meta) up.mark) up.raised up.others in
                      let f = mark_used k1 k2 mark v1.disks.power e (subst (λ (z : Setup). e < z.geometry.disks) (sym setup1) low) in
                      let b2 = part_used k2 p.history p.low ends.keeps.base v1 mid2 ds part2 k3 p.history lo3 ends2 e in
                      let c = power_used k3 ends2.keeps.base v3 shown3 has3 es part3.calls k4 marks4 e in
                      let m = made_most k4.meta v4.disks.power e in
                      let l = ap (λ (x : List ℕ). slice_index x e) state4.spins in
                      let x = up_append e cs (ds ++ es) in
                      let y = up_append e ds es in
                      omega (arith, r, a, f, b2, c, m, l, x, y);
                  quiet = λ still none. absurd (false≢true still);
                  serving = subst (λ (z : Watch). IsServing z.down) (sym watched) serving4;
                  carried = λ is none. all_ticks;
                  brought = λ moved. all_ticks;
                  named = λ e was is moved. absurd (none_not_gone (sym no_out ∙ was));
                  mark = subst (λ (m : ℕ). IsMark m setup raised_point) ends_up.counts.slots (stands_mark told_then k4 setup raised_point there);
                  flushed = λ f. absurd (false≢true f);
                  disks = ap (λ (z : Watch). z.disks) (sym watched) ∙ watched_disks w0 all;
                  history = sym (append-nil p.history);
                  low = refl;
                  energy = refl;
                  spun = ap (λ (z : Watch). z.spun) (sym watched);
                  awaited = ap (λ (z : Watch). z.awaited) (sym watched);
                  going = refl;
                }),
                there,
              )

  pub raised_told : (k3 k4 : Service) (opens : OpensShiftUp k k2 k3) (ends_up : EndsShiftUp k k4 to) (lo3 : ℕ) (le3 : p.low ≤ lo3) → (mid opened told_then : Option Trail) → Ran told mid (ServesEvent k k1 p.history p.low p.history lo1) → ((t : Trail) → mid ≡ Some t → ServiceStandsFor k1 p.history p.low (now t) → ServiceStandsFor k2 p.history p.low (now t))
      → Ran mid opened (ServesEvent k2 k3 p.history p.low p.history lo3) → Ran opened told_then (PowersInEvent k3 k4 p.history p.low) → Ran told told_then (GoesOn k.slots setup p AskUp (Shift p.state.gear to) (StandsAt told_then k4 setup))
  raised_told k3 k4 opens ends_up lo3 le3 mid opened told_then first marks second third =
      after_mark told k k1 k2 setup p at (down_from_out (named_out p.state.out)) lo1 p.low mid1 mid told_then
      (BothParts (ServesEvent k2 k3 p.history p.low p.history lo3) (PowersInEvent k3 k4 p.history p.low)) (GoesOn k.slots setup p AskUp (Shift p.state.gear to) (StandsAt told_then k4 setup)) first marks
      (both_parts mid opened told_then (ServesEvent k2 k3 p.history p.low p.history lo3) (PowersInEvent k3 k4 p.history p.low) second third)
      (λ cs part ends keeps same_meta all parts end.
      let ds = parts.first in
      let es = parts.later in
      let v = watch_all ds (watch_all cs w0) in
      let served = parts.holds keeps in
      let part2 = subst (λ (m : Meta). AreEventCalls k2 p.history p.low m (watch_all cs w0).disks ds) same_meta served.0 in
      let m3 = mid3 cs part ends keeps ds part2 k3 lo3 le3 opens served.1 in
      let holds3 = subst (λ (s : Disks). PowersInEvent k3 k4 p.history p.low s es) (sym (watched_disks (watch_all cs w0) ds)) parts.then_holds m3.stands.keeps in
      let last : watch_all all (watch_all cs w0) ≡ watch_all es v = ap (λ (l : List Call). watch_all l (watch_all cs w0)) parts.split ∙ watch_append ds es (watch_all cs w0) in
      subst (λ (l : List Call). GoesOn k.slots setup p AskUp (Shift p.state.gear to) (StandsAt told_then k4 setup) p.disks (cs ++ l)) (sym parts.split)
      (raised_turn cs part ends keeps ds part2 k3 lo3 le3 opens served.1 es holds3.0 k4 ends_up holds3.1 told_then (λ u u_tells. end u u_tells ∙ ap (λ (z : Watch). z.disks) last)))

  abbrev Ends : Two → Option Trail → Type 0
  Ends two told_then = Ran told told_then (GoesOn k.slots setup p AskUp (Halted (HaltTwo two)) (IsHaltedFrom p (HaltTwo two)))

  pub opened_told : (two : Two) (mid told_then : Option Trail) → Ran told mid (ServesEvent k k1 p.history p.low p.history lo1) → ((t : Trail) → mid ≡ Some t → ServiceStandsFor k1 p.history p.low (now t) → ServiceStandsFor k2 p.history p.low (now t))
      → Ran mid told_then (λ s cs. LosesInEvent k2 p.history p.low s cs × TellsTwo k2 two s cs) → Ends two told_then
  opened_told two mid told_then first marks second =
      after_mark told k k1 k2 setup p at (down_from_out (named_out p.state.out)) lo1 p.low mid1 mid told_then
      (λ s cs. LosesInEvent k2 p.history p.low s cs × TellsTwo k2 two s cs) (GoesOn k.slots setup p AskUp (Halted (HaltTwo two)) (IsHaltedFrom p (HaltTwo two))) first marks second
      (λ cs part ends keeps same_meta ds holds end. (
        record p { disks = run p.disks (cs ++ ds); halt = Some (HaltTwo two) },
        second_loss two at.going (λ e. up_not_bad e) refl
            (opened_lost cs part ends keeps ds (subst (λ (m : Meta). AreEventCalls k2 p.history p.low m (watch_all cs w0).disks ds) same_meta (holds.0 keeps)) two holds.1),
        refl,
      ))

  pub spun_told : (two : Two) (k3 : Service) (opens : OpensShiftUp k k2 k3) (lo3 : ℕ) (le3 : p.low ≤ lo3) (mid opened told_then : Option Trail) → Ran told mid (ServesEvent k k1 p.history p.low p.history lo1)
      → ((t : Trail) → mid ≡ Some t → ServiceStandsFor k1 p.history p.low (now t) → ServiceStandsFor k2 p.history p.low (now t)) → Ran mid opened (ServesEvent k2 k3 p.history p.low p.history lo3)
      → Ran opened told_then (λ s cs. (ServiceStandsFor k3 p.history p.low s → AreDisksPowered k3 p.history p.low s cs) × TellsTwo k3 two s cs) → Ends two told_then
  spun_told two k3 opens lo3 le3 mid opened told_then first marks second third =
      after_mark told k k1 k2 setup p at (down_from_out (named_out p.state.out)) lo1 p.low mid1 mid told_then (BothParts (ServesEvent k2 k3 p.history p.low p.history lo3) LosesSpun)
      (GoesOn k.slots setup p AskUp (Halted (HaltTwo two)) (IsHaltedFrom p (HaltTwo two))) first marks
      (both_parts mid opened told_then (ServesEvent k2 k3 p.history p.low p.history lo3) LosesSpun second third)
      (λ cs part ends keeps same_meta all parts end.
      let ds = parts.first in
      let es = parts.later in
      let served = parts.holds keeps in
      let part2 = subst (λ (m : Meta). AreEventCalls k2 p.history p.low m (watch_all cs w0).disks ds) same_meta served.0 in
      let m3 = mid3 cs part ends keeps ds part2 k3 lo3 le3 opens served.1 in
      let holds3 = subst (λ (s : Disks). LosesSpun s es) (sym (watched_disks (watch_all cs w0) ds)) parts.then_holds in
      subst (λ (l : List Call). GoesOn k.slots setup p AskUp (Halted (HaltTwo two)) (IsHaltedFrom p (HaltTwo two)) p.disks (cs ++ l)) (sym parts.split) (
        record p { disks = run p.disks (cs ++ (ds ++ es)); halt = Some (HaltTwo two) },
        second_loss two at.going (λ e. up_not_bad e) refl (raised_lost cs part ends keeps ds part2 k3 lo3 le3 opens served.1 es (holds3.0 m3.stands.keeps) two holds3.1),
        refl,
      ))
    where
      LosesSpun : Disks → List Call → Type 0
      LosesSpun s cs = (ServiceStandsFor k3 p.history p.low s → AreDisksPowered k3 p.history p.low s cs) × TellsTwo k3 two s cs
