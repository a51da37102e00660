-- Marks in memory between the parts of an event, the commits that bring them, and disks that are powered then.
use Rattle.paraid_event.proofs.ServingLemmas.{spins_only}
use Rattle.std.proofs.Common.{◌≡◌, ℕ, ◌+◌, ◌<◌, ◌≤◌, ◌⊎◌, Bool, true, false, List, [], ◌∷◌, ◌++◌, Option, Some, None, refl, sym, ap, ◌∙◌, inl, inr, subst, arith}
use Rattle.std.specs.Prelude.{slice_index}
use Rattle.paraid_base.specs.declared.fault.Two.{Two}
use Rattle.paraid_base.specs.declared.state.Out.{Out}
use Rattle.paraid_base.specs.declared.state.Out.TheVariants.{No, Gone, Fresh}
use Rattle.paraid_base.specs.History.{History}
use Rattle.paraid_base.specs.States.{gone_out, named_out, rising_to}
use Rattle.paraid_rack.specs.declared.call.Call.{Call}
use Rattle.paraid_rack.specs.Disks.{Disks, is_present}
use Rattle.paraid_rack.specs.Trail.{run}
use Rattle.paraid_record.specs.declared.meta.Meta.{Meta}
use Rattle.paraid_record.specs.declared.meta.Setup.{Setup}
use Rattle.paraid_image.specs.Power.{power_by_gear}
use Rattle.paraid_core.specs.Calls.{IsDataCall}
use Rattle.paraid_session.specs.Watch.{IsServing, Watch, awaited_after, first_lost, watch, watch_all}
use Rattle.paraid_session.proofs.LayerLemmas.{absent_failed, fails_first, first_fails}
use Rattle.paraid_recover.proofs.DownLemmas.{watched_disks}
use Rattle.paraid_txn.specs.Uses.{EachCall}
use Rattle.paraid_event.proofs.ApartLemmas.{no_one}
use Rattle.paraid_event.specs.Lost.{TellsTwo}
use Rattle.paraid_event.specs.Marks.{ArePoweredByGear, IsMarkedBy, ShowsMeta}
use Rattle.paraid_event.specs.Parts.{AreEventCalls, EndsEvent, LosesInEvent, committed_meta}
use Rattle.paraid_event.specs.Powering.{AreDisksPowered, EndsPowered}
use Rattle.paraid_session.specs.Ups.{spin_up_count}
use Rattle.paraid_event.proofs.UsedLemmas.{mark_used, power_used}
use Rattle.paraid_event.specs.Service.{Service}
use Rattle.paraid_event.specs.Stands.{IsMidway, ServiceStandsFor}
use Rattle.paraid_event.specs.Steps.{AreStepCalls, AwaitsCommit, GoesInSteps, IsOnly, IsUnderway, LeavesService, LosesInSteps, LosesPowered, MarksInMemory, PowersFrom, ServesAndMarks, ServesMarked, StepsInEvent, StepsToMark, made_by}
use Rattle.paraid_event.proofs.EndLemmas.{end_follows, only_serving}
use Rattle.paraid_event.proofs.MarksLemmas.{newly_named, same_ticks, still_named}
use Rattle.paraid_event.proofs.PartLemmas.{part_attaches, part_calls, part_committed, part_each, part_epoch, part_marks, part_powered}
use Rattle.paraid_event.proofs.PowerLemmas.{power_attaches, power_each, power_marks, power_named, power_only, power_powered, power_setup, power_shown, power_stands}
use Rattle.paraid_event.proofs.ShownLemmas.{shown_shift}
use Rattle.paraid_event.proofs.StepLemmas.{both_go, both_lose, data_steps, one_calls, one_leaves, one_midway, one_only, one_room, one_serving, only_grows}
use Rattle.paraid_event.proofs.PreludeLemmas.{same_base}

-- the disk that is being rebuilt by a meta with a mark was so before it
pub fresh_of : (o : Out) (d : ℕ) → named_out o ≡ Some d → gone_out o ≡ None → (u : ℕ) × (o ≡ Fresh d u)
fresh_of No d named gone = absurd (no_one named)
fresh_of (Gone e) d named gone = let z : Some e ≡ None = gone in cc
fresh_of (Fresh e u) d named gone = let z : Some e ≡ Some d = named in (u, ap (λ (x : ℕ). Fresh x u) (let same : e ≡ d = cc in same))

-- A mark is made in the middle of an event.
module _ (k j : Service) (mark : MarksInMemory k j) (h : History) (lo : ℕ) (base : Meta) (w : Watch) (at : IsMidway k h lo base w) where
  fresh_was : (d u : ℕ) → j.meta.out ≡ Fresh d u → (v : ℕ) × (k.meta.out ≡ Fresh d v)
  fresh_was d u is = fresh_of k.meta.out d (sym mark.names ∙ ap named_out is) (sym mark.gone ∙ ap gone_out is)

  below : (d : ℕ) → d < j.meta.setup.geometry.disks → d < k.meta.setup.geometry.disks
  below d low = subst (λ (z : Setup). d < z.geometry.disks) mark.setup low

  pub marked_midway : ServiceStandsFor j h lo w.disks → IsMidway j h lo base w
  marked_midway keeps = record {
    stands = record {
      keeps = keeps;
      is_base = same_base k j h h lo lo w.disks at.stands.keeps keeps ∙ at.stands.is_base;
      absent_down = λ d low gone. at.stands.absent_down d (below d low) gone;
      named_down = λ d is. at.stands.named_down d (sym mark.names ∙ is);
      stays = λ d said. mark.names ∙ at.stands.stays d (sym mark.named ∙ said);
      recorded = λ d low here not. at.stands.recorded d (below d low) here not;
      recorded_next = λ d low here not. let before = at.stands.recorded_next d (below d low) here (λ gone. not (mark.gone ∙ gone)) in let used = mark.used w.disks.power d (below d low) in omega (arith, before, used);
      awaited = λ d is. mark.gone ∙ at.stands.awaited d is;
      ticks = let l = at.stands.ticks in let e = mark.ticks in omega (arith, l, e);
    };
    named = λ d low gone. mark.names ∙ at.named d (below d low) gone;
    low = λ d is. subst (λ (z : Setup). d < z.geometry.disks) (sym mark.setup) (at.low d (sym mark.names ∙ is));
    fresh = λ d u is. let was = fresh_was d u is in at.fresh d was.0 was.1;
  }

  pub marked_powered : (powers : Meta) → ArePoweredByGear w.disks.power (record k.meta { gear = powers.gear; phase = powers.phase }) → ArePoweredByGear w.disks.power (record j.meta { gear = powers.gear; phase = powers.phase })
  marked_powered powers powered = record {
    by_gear = λ d low not. powered.by_gear d (below d low) (λ named. not (mark.names ∙ named));
    fresh = λ d u is. let was = fresh_was d u is in powered.fresh d was.0 was.1;
  }

  pub marked_only : IsOnly (named_out k.meta.out) w.down → IsOnly (named_out j.meta.out) w.down
  marked_only only = subst (λ (o : Option ℕ). IsOnly o w.down) (sym mark.names) only

  pub marked_leaves : (i : Service) (u : Watch) (cs : List Call) → LeavesService i k u cs → LeavesService i j u cs
  marked_leaves i u cs leaves = record {
    slots = mark.slots ∙ leaves.slots;
    setup = mark.setup ∙ leaves.setup;
    ticks = mark.ticks ∙ leaves.ticks;
    failed = λ e is. mark.names ∙ leaves.failed e is;
    still = λ e is. mark.names ∙ leaves.still e is;
    newly = λ e is. leaves.newly e (sym mark.names ∙ is);
    awaited = leaves.awaited;
    used = λ d low.
        let a = leaves.used d low in
        let b = mark_used k j mark (watch_all cs u).disks.power d (subst (λ (z : Setup). d < z.geometry.disks) (sym leaves.setup) low) in
        omega (arith, a, b);
  }

-- what is told of parts and a mark after them, where the core stands with the mark too
pub mark_after : (i k j : Service) (mark : MarksInMemory k j) (h : History) (lo most : ℕ) (base : Meta) (w : Watch) (cs : List Call) → GoesInSteps i k h lo most (IsUnderway k h lo) base w cs → ServiceStandsFor j h lo (watch_all cs w).disks
    → GoesInSteps i j h lo most (AwaitsCommit j k.meta h lo) base w cs
mark_after i k j mark h lo most base w cs goes keeps = record {
  calls = goes.calls;
  leaves = marked_leaves k j mark h lo goes.base_then (watch_all cs w) goes.ends.midway i w cs goes.leaves;
  base_then = goes.base_then;
  room = goes.room;
  carried = elim goes.carried [ inl same ↦ inl same | inr brought ↦ inr (brought ∙ sym mark.ticks) ];
  ends = record {
    midway = marked_midway k j mark h lo goes.base_then (watch_all cs w) goes.ends.midway keeps;
    only = marked_only k j mark h lo goes.base_then (watch_all cs w) goes.ends.midway goes.ends.only;
    settled = mark.settled;
    powered = marked_powered k j mark h lo goes.base_then (watch_all cs w) goes.ends.midway k.meta (record { by_gear = goes.ends.powered.by_gear; fresh = goes.ends.powered.fresh });
  };
}

-- and of a mark after another one
pub mark_again : (i k j : Service) (powers : Meta) (mark : MarksInMemory k j) (h : History) (lo most : ℕ) (base : Meta) (w : Watch) (cs : List Call) → GoesInSteps i k h lo most (AwaitsCommit k powers h lo) base w cs → ServiceStandsFor j h lo (watch_all cs w).disks
    → GoesInSteps i j h lo most (AwaitsCommit j powers h lo) base w cs
mark_again i k j powers mark h lo most base w cs goes keeps = record {
  calls = goes.calls;
  leaves = marked_leaves k j mark h lo goes.base_then (watch_all cs w) goes.ends.midway i w cs goes.leaves;
  base_then = goes.base_then;
  room = goes.room;
  carried = elim goes.carried [ inl same ↦ inl same | inr brought ↦ inr (brought ∙ sym mark.ticks) ];
  ends = record {
    midway = marked_midway k j mark h lo goes.base_then (watch_all cs w) goes.ends.midway keeps;
    only = marked_only k j mark h lo goes.base_then (watch_all cs w) goes.ends.midway goes.ends.only;
    settled = mark.settled;
    powered = marked_powered k j mark h lo goes.base_then (watch_all cs w) goes.ends.midway powers goes.ends.powered;
  };
}

-- A mark of cells changes the table and the batch alone.
module _ (k j : Service) (meta : j.meta ≡ k.meta) (slots : j.slots ≡ k.slots) (named : j.named ≡ k.named) (h : History) (lo : ℕ) (base : Meta) (w : Watch) (at : IsUnderway k h lo base w) (keeps : ServiceStandsFor j h lo w.disks) where
  cells_midway : IsMidway (record j { meta = k.meta }) h lo base w
  cells_midway = record {
    stands = record {
      keeps = subst (λ (m : Meta). ServiceStandsFor (record j { meta = m }) h lo w.disks) meta keeps;
      is_base = same_base k (record j { meta = k.meta }) h h lo lo w.disks at.midway.stands.keeps (subst (λ (m : Meta). ServiceStandsFor (record j { meta = m }) h lo w.disks) meta keeps) ∙ at.midway.stands.is_base;
      absent_down = at.midway.stands.absent_down;
      named_down = at.midway.stands.named_down;
      stays = λ d said. at.midway.stands.stays d (sym named ∙ said);
      recorded = at.midway.stands.recorded;
      recorded_next = at.midway.stands.recorded_next;
      awaited = at.midway.stands.awaited;
      ticks = at.midway.stands.ticks;
    };
    named = at.midway.named;
    low = at.midway.low;
    fresh = at.midway.fresh;
  }

  pub cells_underway : IsUnderway j h lo base w
  cells_underway = subst (λ (m : Meta). IsUnderway (record j { meta = m }) h lo base w) (sym meta) (record { midway = cells_midway; only = at.only; shown = at.shown; powered = at.powered })

pub cells_after : (i k j : Service) → j.meta ≡ k.meta → j.slots ≡ k.slots → j.named ≡ k.named → (h : History) (lo most : ℕ) (base : Meta) (w : Watch) (cs : List Call) → GoesInSteps i k h lo most (IsUnderway k h lo) base w cs → ServiceStandsFor j h lo (watch_all cs w).disks
    → GoesInSteps i j h lo most (IsUnderway j h lo) base w cs
cells_after i k j meta slots named h lo most base w cs goes keeps = record {
  calls = goes.calls;
  leaves = record {
    slots = slots ∙ goes.leaves.slots;
    setup = ap (λ (m : Meta). m.setup) meta ∙ goes.leaves.setup;
    ticks = ap (λ (m : Meta). m.ticks) meta ∙ goes.leaves.ticks;
    failed = λ e is. ap (λ (m : Meta). named_out m.out) meta ∙ goes.leaves.failed e is;
    still = λ e is. ap (λ (m : Meta). named_out m.out) meta ∙ goes.leaves.still e is;
    newly = λ e is. goes.leaves.newly e (ap (λ (m : Meta). named_out m.out) (sym meta) ∙ is);
    awaited = goes.leaves.awaited;
    used = λ d low. subst (λ (m : Meta). spin_up_count d cs + made_by i.meta w.disks.power d ≤ made_by m (watch_all cs w).disks.power d) (sym meta) (goes.leaves.used d low);
  };
  base_then = goes.base_then;
  room = goes.room;
  carried = elim goes.carried [ inl same ↦ inl same | inr brought ↦ inr (brought ∙ sym (ap (λ (m : Meta). m.ticks) meta)) ];
  ends = cells_underway k j meta slots named h lo goes.base_then (watch_all cs w) goes.ends keeps;
}

-- Where the disks are powered by another meta, it shows the one in memory.
pub record IsOpened (k : Service) (powers : Meta) (h : History) (lo : ℕ) (base : Meta) (w : Watch) : Type 0 where
  pub midway : IsMidway k h lo base w
  pub only : IsOnly (named_out k.meta.out) w.down
  pub shown : ShowsMeta w.disks.power base k.meta
  pub powered : (d : ℕ) → d < k.meta.setup.geometry.disks → (named_out k.meta.out ≡ Some d → ⊥) → w.disks.power d ≡ power_by_gear powers.gear powers.phase d

shown_by : (k : Service) (powers : Meta) (h : History) (lo : ℕ) (base : Meta) (w : Watch) (at : IsOpened k powers h lo base w) → ShowsMeta w.disks.power at.midway.stands.keeps.base k.meta
shown_by k powers h lo base w at = subst (λ (m : Meta). ShowsMeta w.disks.power m k.meta) (sym at.midway.stands.is_base) at.shown

-- A mark is committed.
module _ (k k_then : Service) (powers : Meta) (h : History) (lo lo_then : ℕ) (le : lo ≤ lo_then) (slots : k_then.slots ≡ k.slots) (more : k_then.meta.epoch ≡ k.meta.epoch + 1) (base : Meta) (w : Watch) (at : AwaitsCommit k powers h lo base w) (cs : List Call)
    (part : AreEventCalls k h lo base w.disks cs) (ends : EndsEvent k k_then h lo_then w.disks cs) where
  abbrev v : Watch
  v = watch_all cs w

  serving : IsServing v.down
  serving = one_serving k k_then h lo lo_then le slots base w at.midway at.only cs part ends

  pub opened_base : ends.keeps.base ≡ committed_meta k
  opened_base = part_epoch k h lo base w at.midway cs part k_then h lo_then ends serving more

  shown : ShowsMeta v.disks.power ends.keeps.base k_then.meta
  shown = subst (λ (m : Meta). ShowsMeta v.disks.power m k_then.meta) (sym opened_base) (part_committed k h lo base w at.midway cs part k_then h lo_then ends at.settled)

  midway : IsMidway k_then h lo ends.keeps.base v
  midway = one_midway k k_then h lo lo_then le slots base w at.midway at.only cs part ends

  marks : IsMarkedBy v.disks.power k.meta k_then.meta
  marks = part_marks k h lo base w at.midway cs part k_then h lo_then ends

  kept_power : (d : ℕ) → d < k_then.meta.setup.geometry.disks → (named_out k_then.meta.out ≡ Some d → ⊥) → v.disks.power d ≡ power_by_gear powers.gear powers.phase d
  kept_power d low not = by (is_present (v.disks.power d)) refl
    where
      leaves : LeavesService k k_then w cs
      leaves = one_leaves k k_then h lo lo_then le slots base w at.midway at.only cs part ends

      by : (t : Bool) → is_present (v.disks.power d) ≡ t → v.disks.power d ≡ power_by_gear powers.gear powers.phase d
      by false gone = absurd (not (midway.named d low gone))
      by true here = (end_follows k k_then h h lo lo_then base w at.midway.stands cs (part_calls k h lo base w at.midway cs part)).power d here
          ∙ at.powered.by_gear d (subst (λ (z : Setup). d < z.geometry.disks) leaves.setup low) (λ named. not (leaves.still d named))

  pub opened_goes : GoesInSteps k k_then h lo 1 (IsOpened k_then powers h lo) base w cs
  opened_goes = record {
    calls = one_calls k k_then h lo lo_then le slots base w at.midway at.only cs part ends;
    leaves = one_leaves k k_then h lo lo_then le slots base w at.midway at.only cs part ends;
    base_then = ends.keeps.base;
    room = one_room k k_then h lo lo_then le slots base w at.midway at.only cs part ends;
    carried = inr (ap (λ (m : Meta). m.ticks) opened_base ∙ sym (same_ticks v.disks.power k.meta k_then.meta marks));
    ends = record {
      midway = midway;
      only = one_only k k_then h lo lo_then le slots base w at.midway at.only cs part ends;
      shown = shown;
      powered = kept_power;
    };
  }

  pub opened_both : (y : GoesInSteps k k_then h lo 1 (IsOpened k_then powers h lo) base w cs) × (y.base_then ≡ committed_meta k)
  unfolding opened_goes
  opened_both = (opened_goes, opened_base)

  -- where the disks are powered by it as by the mark
  pub committed_goes : ((d : ℕ) → power_by_gear powers.gear powers.phase d ≡ power_by_gear k.meta.gear k.meta.phase d) → GoesInSteps k k_then h lo 1 (IsUnderway k_then h lo) base w cs
  committed_goes same = record {
    calls = one_calls k k_then h lo lo_then le slots base w at.midway at.only cs part ends;
    leaves = one_leaves k k_then h lo lo_then le slots base w at.midway at.only cs part ends;
    base_then = ends.keeps.base;
    room = one_room k k_then h lo lo_then le slots base w at.midway at.only cs part ends;
    carried = inr (ap (λ (m : Meta). m.ticks) opened_base ∙ sym (same_ticks v.disks.power k.meta k_then.meta marks));
    ends = record {
      midway = midway;
      only = one_only k k_then h lo lo_then le slots base w at.midway at.only cs part ends;
      shown = shown;
      powered = part_powered k h lo base w at.midway cs part k_then h lo_then ends (record { by_gear = λ d low not. at.powered.by_gear d low not ∙ same d; fresh = at.powered.fresh });
    };
  }

-- where no disk is awaited none is later
waits_none : (ds : List Call) (x : Watch) → x.awaited ≡ None → (watch_all ds x).awaited ≡ None
waits_none [] x none = none
waits_none (c ∷ ds) x none = waits_none ds (watch c x) (ap (λ (o : Option ℕ). awaited_after o c) none)

-- Disks are powered then.
module _ (k k_then : Service) (h : History) (lo : ℕ) (slots : k_then.slots ≡ k.slots) (base : Meta) (w : Watch) (mid : IsMidway k h lo base w) (is_only : IsOnly (named_out k.meta.out) w.down) (shown : ShowsMeta w.disks.power base k.meta)
    (none_awaited : (d : ℕ) → w.awaited ≡ Some d → ⊥) (has : (d : ℕ) → base.gear ≤ d → d < rising_to base.phase → 1 ≤ slice_index base.spins d) (cs : List Call) (part : AreDisksPowered k h lo w.disks cs) where
  abbrev u : Watch
  u = watch_all cs w

  pub raised_calls : AreStepCalls k h lo 0 base w cs
  raised_calls = record {
    moments = λ b asked setup ticks room. power_each k h lo base w mid shown none_awaited cs part (λ e raised. has e) b setup (let t = mid.stands.ticks in omega (arith, ticks, t)) (omega (arith, room)) (spins_only (named_out k.meta.out) w.down cs is_only part.serving) asked;
    attaches = power_attaches k.meta w.disks cs part.calls;
  }

  none_after : (o : Option ℕ) → w.awaited ≡ o → (watch_all cs w).awaited ≡ w.awaited
  none_after None is = waits_none cs w is ∙ sym is
  none_after (Some d) is = absurd (none_awaited d is)

  module _ (ends : EndsPowered k k_then h lo w.disks cs) where
    raised_marks : IsMarkedBy u.disks.power k.meta k_then.meta
    raised_marks = power_marks k h lo base w mid shown none_awaited cs part (λ e raised. has e) k_then ends

    raised_only : IsOnly (named_out k_then.meta.out) u.down
    raised_only = power_only k h lo base w mid shown none_awaited cs part (λ e raised. has e) k_then ends (named_out k_then.meta.out)
        (only_grows (named_out k.meta.out) (named_out k_then.meta.out) w.down (λ d is. still_named u.disks.power k.meta k_then.meta raised_marks d is) is_only) (λ e is. is)

    raised_newly : (e : ℕ) → named_out k_then.meta.out ≡ Some e → (named_out k.meta.out ≡ Some e) ⊎ (first_lost cs ≡ Some e)
    raised_newly e named = elim (newly_named u.disks.power k.meta k_then.meta raised_marks e named) [
      | inl was ↦ inl was
      | inr gone ↦ elim (absent_failed w.disks cs e (subst (λ (s : Disks). is_present (s.power e) ≡ false) (watched_disks w cs) gone.1)) [
        | inl before ↦ inl (mid.named e gone.0 before)
        | inr failed ↦
            let x = fails_first cs e failed in
            let also = power_named k h lo base w mid shown none_awaited cs part (λ e raised. has e) k_then ends x.0 (first_fails cs x.0 x.1) in
            let z : Some x.0 ≡ Some e = sym also ∙ named in
            inr (x.1 ∙ z)
      ]
    ]

    pub raised_goes : GoesInSteps k k_then h lo 0 (IsUnderway k_then h lo) base w cs
    raised_goes = record {
      calls = raised_calls;
      leaves = record {
        slots = slots;
        setup = power_setup k h lo base w mid shown none_awaited cs part (λ e raised. has e) k_then ends;
        ticks = same_ticks u.disks.power k.meta k_then.meta raised_marks;
        failed = λ e is. power_named k h lo base w mid shown none_awaited cs part (λ e raised. has e) k_then ends e is;
        still = λ e is. still_named u.disks.power k.meta k_then.meta raised_marks e is;
        newly = raised_newly;
        awaited = none_after w.awaited refl;
        used = λ d low. power_used k base w shown has cs part.calls k_then raised_marks d;
      };
      base_then = base;
      room = omega arith;
      carried = inl refl;
      ends = record {
        midway = power_stands k h lo base w mid shown none_awaited cs part (λ e raised. has e) k_then ends (only_serving (named_out k_then.meta.out) u.down raised_only);
        only = raised_only;
        shown = power_shown k h lo base w mid shown none_awaited cs part (λ e raised. has e) k_then ends;
        powered = power_powered k h lo base w mid shown none_awaited cs part (λ e raised. has e) k_then ends;
      };
    }

module _ (k j : Service) (h : History) (lo most : ℕ) (s : Disks) (cs : List Call) where
  -- the core stands with the mark, at the end of these calls
  stands_end : (w : Watch) → w.disks ≡ s → ServiceStandsFor j h lo (run s cs) → ServiceStandsFor j h lo (watch_all cs w).disks
  stands_end w same z = subst (ServiceStandsFor j h lo) (ap (λ (u : Disks). run u cs) (sym same) ∙ sym (watched_disks w cs)) z

  stands_start : (w : Watch) → w.disks ≡ s → ServiceStandsFor j h lo (watch_all cs w).disks → ServiceStandsFor j h lo (run s cs)
  stands_start w same z = subst (ServiceStandsFor j h lo) (watched_disks w cs ∙ ap (λ (u : Disks). run u cs) same) z

-- marks after parts, where the core stands with them if it stood without
pub mark_steps : (i k j : Service) (mark : MarksInMemory k j) (h : History) (lo most : ℕ) (s : Disks) (cs : List Call) → (ServiceStandsFor k h lo (run s cs) → ServiceStandsFor j h lo (run s cs)) → StepsInEvent i k h lo most s cs → StepsToMark i j k.meta h lo most s cs
mark_steps i k j mark h lo most s cs stands steps base w same at =
    let goes = steps base w same at in
    mark_after i k j mark h lo most base w cs goes (stands_end i j h lo most s cs w same (stands (stands_start i k h lo most s cs w same goes.ends.midway.stands.keeps)))

pub again_steps : (i k j : Service) (powers : Meta) (mark : MarksInMemory k j) (h : History) (lo most : ℕ) (s : Disks) (cs : List Call) → (ServiceStandsFor k h lo (run s cs) → ServiceStandsFor j h lo (run s cs)) → StepsToMark i k powers h lo most s cs → StepsToMark i j powers h lo most s cs
again_steps i k j powers mark h lo most s cs stands steps base w same at =
    let goes = steps base w same at in
    mark_again i k j powers mark h lo most base w cs goes (stands_end i j h lo most s cs w same (stands (stands_start i k h lo most s cs w same goes.ends.midway.stands.keeps)))

pub cells_steps : (i k j : Service) → j.meta ≡ k.meta → j.slots ≡ k.slots → j.named ≡ k.named → (h : History) (lo most : ℕ) (s : Disks) (cs : List Call) → (ServiceStandsFor k h lo (run s cs) → ServiceStandsFor j h lo (run s cs)) → StepsInEvent i k h lo most s cs → StepsInEvent i j h lo most s cs
cells_steps i k j meta slots named h lo most s cs stands steps base w same at =
    let goes = steps base w same at in
    cells_after i k j meta slots named h lo most base w cs goes (stands_end i j h lo most s cs w same (stands (stands_start i k h lo most s cs w same goes.ends.midway.stands.keeps)))

-- copies and a mark of them
pub copied_steps : (k unmarked j : Service) → unmarked.slots ≡ k.slots → MarksInMemory unmarked j → (h : History) (lo : ℕ) (s : Disks) (cs : List Call)
    → ServesAndMarks k unmarked j h lo s cs × EachCall (IsDataCall k.meta.setup.geometry.disks (gone_out k.meta.out)) s cs → StepsToMark k j unmarked.meta h lo 0 s cs
copied_steps k unmarked j slots mark h lo s cs serves base w same at =
    let here = subst (λ (u : Disks). ServesAndMarks k unmarked j h lo u cs) (sym same) serves.0 at.midway.stands.keeps (subst (λ (m : Meta). ShowsMeta w.disks.power m k.meta) (sym at.midway.stands.is_base) at.shown) in
    let goes = data_steps k unmarked h lo lo (omega arith) slots s cs ((λ z shows. let x = serves.0 z shows in (x.0, x.1)), serves.1) base w same at in
    mark_after k unmarked j mark h lo 0 base w cs goes (stands_end k j h lo 0 w.disks cs w refl here.2)

-- a mark after other parts
pub follow_mark : (k j k_then : Service) (powers : Meta) (h : History) (lo most more : ℕ) (s : Disks) (cs ds : List Call) → StepsInEvent k j h lo most s cs → StepsToMark j k_then powers h lo more (run s cs) ds → StepsToMark k k_then powers h lo (most + more) s (cs ++ ds)
follow_mark k j k_then powers h lo most more s cs ds first second base w same at =
    let x = first base w same at in
    let y = second x.base_then (watch_all cs w) (watched_disks w cs ∙ ap (λ (u : Disks). run u cs) same) x.ends in
    both_go k j h lo most more (IsUnderway j h lo) base w cs ds x k_then (AwaitsCommit k_then powers h lo) y

-- what is told of a commit, from where marks await it
module _ (j : Service) (powers : Meta) (h : History) (lo : ℕ) (base : Meta) (w : Watch) (at : AwaitsCommit j powers h lo base w) where
  pub commits_from : (k_then : Service) (lo_then : ℕ) (ds : List Call) → ServesMarked j k_then h lo lo_then w.disks ds → AreEventCalls j h lo base w.disks ds × EndsEvent j k_then h lo_then w.disks ds
  commits_from k_then lo_then ds serves = subst (λ (m : Meta). AreEventCalls j h lo m w.disks ds × EndsEvent j k_then h lo_then w.disks ds) at.midway.stands.is_base (serves at.midway.stands.keeps at.midway.fresh)

  pub loses_from : (ds : List Call) → LosesInEvent j h lo w.disks ds → AreStepCalls j h lo 1 base w ds
  loses_from ds loses =
      let part = subst (λ (m : Meta). AreEventCalls j h lo m w.disks ds) at.midway.stands.is_base (loses at.midway.stands.keeps) in
      record {
        moments = λ b asked setup ticks room. part_each j h lo base w at.midway ds part b setup ticks room asked;
        attaches = part_attaches j h lo base w at.midway ds part;
      }

-- Marks are committed.
module _ (k j : Service) (powers : Meta) (h : History) (lo most : ℕ) (s : Disks) (cs ds : List Call) (first : StepsToMark k j powers h lo most s cs) where
  there : (w : Watch) → w.disks ≡ s → (watch_all cs w).disks ≡ run s cs
  there w same = watched_disks w cs ∙ ap (λ (u : Disks). run u cs) same

  pub commit_steps : (k_then : Service) (lo_then : ℕ) → lo ≤ lo_then → k_then.slots ≡ j.slots → k_then.meta.epoch ≡ j.meta.epoch + 1 → ((d : ℕ) → power_by_gear powers.gear powers.phase d ≡ power_by_gear j.meta.gear j.meta.phase d)
      → ServesMarked j k_then h lo lo_then (run s cs) ds → StepsInEvent k k_then h lo (most + 1) s (cs ++ ds)
  commit_steps k_then lo_then le slots more powered serves base w same at =
      let x = first base w same at in
      let y = commits_from j powers h lo x.base_then (watch_all cs w) x.ends k_then lo_then ds (subst (λ (u : Disks). ServesMarked j k_then h lo lo_then u ds) (sym (there w same)) serves) in
      both_go k j h lo most 1 (AwaitsCommit j powers h lo) base w cs ds x k_then (IsUnderway k_then h lo)
      (committed_goes j k_then powers h lo lo_then le slots more x.base_then (watch_all cs w) x.ends ds y.0 y.1 powered)

  pub commit_loses_steps : (two : Two) → LosesInEvent j h lo (run s cs) ds × TellsTwo j two (run s cs) ds → LosesInSteps k h lo (most + 1) two s (cs ++ ds)
  commit_loses_steps two loses base w same at =
      let x = first base w same at in
      let y = loses_from j powers h lo x.base_then (watch_all cs w) x.ends ds (subst (λ (u : Disks). LosesInEvent j h lo u ds) (sym (there w same)) loses.0) in
      let z = both_lose k j h lo most 1 (AwaitsCommit j powers h lo) base w cs ds x two y (subst (λ (u : Disks). TellsTwo j two u ds) (sym (there w same)) loses.1) in
      (z.0, subst (λ (u : Disks). TellsTwo k two u (cs ++ ds)) same z.1)

  -- and disks are powered after it
  module _ (opened : Service) (lo_then : ℕ) (le : lo ≤ lo_then) (slots : opened.slots ≡ j.slots) (more : opened.meta.epoch ≡ j.meta.epoch + 1) (whole : j.meta.out ≡ No) (has : (d : ℕ) → j.meta.gear ≤ d → d < rising_to j.meta.phase → 1 ≤ slice_index j.meta.spins d)
      (serves : ServesMarked j opened h lo lo_then (run s cs) ds) where
    none_waits : (base : Meta) (v : Watch) → AwaitsCommit j powers h lo base v → (d : ℕ) → v.awaited ≡ Some d → ⊥
    none_waits base v waits d is = absurd (no_one (sym (ap gone_out whole) ∙ waits.midway.stands.awaited d is))

    has_base : (base : Meta) → base ≡ committed_meta j → (d : ℕ) → base.gear ≤ d → d < rising_to base.phase → 1 ≤ slice_index base.spins d
    has_base base is = subst (λ (m : Meta). (d : ℕ) → m.gear ≤ d → d < rising_to m.phase → 1 ≤ slice_index m.spins d) (sym is) (λ d from low. has d from low)

    -- the service after the commit, where disks are still powered as before it
    opens : (base : Meta) (v : Watch) → v.disks ≡ run s cs → AwaitsCommit j powers h lo base v
        → (y : GoesInSteps j opened h lo 1 (IsOpened opened powers h lo) base v ds) × (y.base_then ≡ committed_meta j)
    opens base v same waits =
        let y = commits_from j powers h lo base v waits opened lo_then ds (subst (λ (u : Disks). ServesMarked j opened h lo lo_then u ds) (sym same) serves) in
        opened_both j opened powers h lo lo_then le slots more base v waits ds y.0 y.1

    waits_still : (base : Meta) (v : Watch) (waits : AwaitsCommit j powers h lo base v) (y : GoesInSteps j opened h lo 1 (IsOpened opened powers h lo) base v ds) → (d : ℕ) → (watch_all ds v).awaited ≡ Some d → ⊥
    waits_still base v waits y d is = none_waits base v waits d (sym y.leaves.awaited ∙ is)

    pub powered_steps : (k_then : Service) (es : List Call) → k_then.slots ≡ opened.slots → PowersFrom powers opened k_then h lo (run (run s cs) ds) es → StepsInEvent k k_then h lo (most + (1 + 0)) s (cs ++ (ds ++ es))
    powered_steps k_then es same_slots powering base w same at =
        let x = first base w same at in
        let y = opens x.base_then (watch_all cs w) (there w same) x.ends in
        let end : (watch_all ds (watch_all cs w)).disks ≡ run (run s cs) ds = watched_disks (watch_all cs w) ds ∙ ap (λ (u : Disks). run u ds) (there w same) in
        let both = subst (λ (u : Disks). PowersFrom powers opened k_then h lo u es) (sym end) powering y.0.ends.midway.stands.keeps (shown_by opened powers h lo y.0.base_then (watch_all ds (watch_all cs w)) y.0.ends) y.0.ends.powered in
        let z = raised_goes opened k_then h lo same_slots y.0.base_then (watch_all ds (watch_all cs w)) y.0.ends.midway y.0.ends.only y.0.ends.shown (waits_still x.base_then (watch_all cs w) x.ends y.0) (has_base y.0.base_then y.1) es both.0 both.1 in
        both_go k j h lo most (1 + 0) (AwaitsCommit j powers h lo) base w cs (ds ++ es) x k_then (IsUnderway k_then h lo)
        (both_go j opened h lo 1 0 (IsOpened opened powers h lo) x.base_then (watch_all cs w) ds es y.0 k_then (IsUnderway k_then h lo) z)

    pub powered_loses : (two : Two) (es : List Call) → LosesPowered opened h lo (run (run s cs) ds) es × TellsTwo opened two (run (run s cs) ds) es → LosesInSteps k h lo (most + (1 + 0)) two s (cs ++ (ds ++ es))
    powered_loses two es loses base w same at =
        let x = first base w same at in
        let y = opens x.base_then (watch_all cs w) (there w same) x.ends in
        let end : (watch_all ds (watch_all cs w)).disks ≡ run (run s cs) ds = watched_disks (watch_all cs w) ds ∙ ap (λ (u : Disks). run u ds) (there w same) in
        let part = subst (λ (u : Disks). LosesPowered opened h lo u es) (sym end) loses.0 y.0.ends.midway.stands.keeps (shown_by opened powers h lo y.0.base_then (watch_all ds (watch_all cs w)) y.0.ends) in
        let tells = subst (λ (u : Disks). TellsTwo opened two u es) (sym end) loses.1 in
        let calls = raised_calls opened opened h lo refl y.0.base_then (watch_all ds (watch_all cs w)) y.0.ends.midway y.0.ends.only y.0.ends.shown (waits_still x.base_then (watch_all cs w) x.ends y.0) (has_base y.0.base_then y.1) es part in
        let inner = both_lose j opened h lo 1 0 (IsOpened opened powers h lo) x.base_then (watch_all cs w) ds es y.0 two calls tells in
        let z = both_lose k j h lo most (1 + 0) (AwaitsCommit j powers h lo) base w cs (ds ++ es) x two inner.0 inner.1 in
        (z.0, subst (λ (u : Disks). TellsTwo k two u (cs ++ (ds ++ es))) same z.1)

-- Disks are powered where no mark awaits a commit.
module _ (k : Service) (none_gone : gone_out k.meta.out ≡ None) (has : (d : ℕ) → k.meta.gear ≤ d → d < rising_to k.meta.phase → 1 ≤ slice_index k.meta.spins d) (h : History) (lo : ℕ) (base : Meta) (w : Watch) (at : IsUnderway k h lo base w) where
  no_waits : (d : ℕ) → w.awaited ≡ Some d → ⊥
  no_waits d is = absurd (no_one (sym none_gone ∙ at.midway.stands.awaited d is))

  has_base_shown : (d : ℕ) → base.gear ≤ d → d < rising_to base.phase → 1 ≤ slice_index base.spins d
  has_base_shown d from low =
      let shift = shown_shift w.disks.power base k.meta at.shown in
      let g = shift.gear in
      let r = shift.rises in
      let s = ap (λ (z : List ℕ). slice_index z d) at.shown.spins in
      let one = has d (omega (arith, g, from)) (omega (arith, r, low)) in
      omega (arith, s, one)

  pub powers_go : (k_then : Service) → k_then.slots ≡ k.slots → (cs : List Call) → AreDisksPowered k h lo w.disks cs × EndsPowered k k_then h lo w.disks cs → GoesInSteps k k_then h lo 0 (IsUnderway k_then h lo) base w cs
  powers_go k_then slots cs both = raised_goes k k_then h lo slots base w at.midway at.only at.shown no_waits has_base_shown cs both.0 both.1

  pub powers_calls : (cs : List Call) → AreDisksPowered k h lo w.disks cs → AreStepCalls k h lo 0 base w cs
  powers_calls cs part = raised_calls k k h lo refl base w at.midway at.only at.shown no_waits has_base_shown cs part

shown_here : (k : Service) (h : History) (lo : ℕ) (base : Meta) (w : Watch) (at : IsUnderway k h lo base w) → ShowsMeta w.disks.power at.midway.stands.keeps.base k.meta
shown_here k h lo base w at = subst (λ (m : Meta). ShowsMeta w.disks.power m k.meta) (sym at.midway.stands.is_base) at.shown

pub powers_steps : (k k_then : Service) → gone_out k.meta.out ≡ None → ((d : ℕ) → k.meta.gear ≤ d → d < rising_to k.meta.phase → 1 ≤ slice_index k.meta.spins d) → k_then.slots ≡ k.slots → (h : History) (lo : ℕ) (s : Disks) (cs : List Call)
    → PowersFrom k.meta k k_then h lo s cs → StepsInEvent k k_then h lo 0 s cs
powers_steps k k_then none_gone has slots h lo s cs powers base w same at =
    powers_go k none_gone has h lo base w at k_then slots cs (subst (λ (u : Disks). PowersFrom k.meta k k_then h lo u cs) (sym same) powers at.midway.stands.keeps (shown_here k h lo base w at) at.powered.by_gear)

pub powers_lose : (k : Service) → gone_out k.meta.out ≡ None → ((d : ℕ) → k.meta.gear ≤ d → d < rising_to k.meta.phase → 1 ≤ slice_index k.meta.spins d) → (h : History) (lo : ℕ) (two : Two) (s : Disks) (cs : List Call)
    → LosesPowered k h lo s cs × TellsTwo k two s cs → LosesInSteps k h lo 0 two s cs
powers_lose k none_gone has h lo two s cs loses base w same at =
    (powers_calls k none_gone has h lo base w at cs (subst (λ (u : Disks). LosesPowered k h lo u cs) (sym same) loses.0 at.midway.stands.keeps (shown_here k h lo base w at)), loses.1)
