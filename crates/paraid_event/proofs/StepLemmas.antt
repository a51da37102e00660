-- Parts of an event, one after the other.
use Rattle.std.proofs.Common.{◌≡◌, ℕ, ◌+◌, ◌<◌, ◌≤◌, ◌⊎◌, Bool, true, false, List, [], ◌∷◌, ◌++◌, Option, Some, None, refl, sym, ap, ◌∙◌, inl, inr, subst, arith, if◌then◌else◌}
use Rattle.std.proofs.lemmas.Bool.{false≢true}
use Rattle.paraid_base.specs.declared.fault.Two.{Two}
use Rattle.paraid_base.specs.History.{History}
use Rattle.paraid_base.specs.States.{gone_out, named_out}
use Rattle.paraid_rack.specs.declared.call.Call.{Call}
use Rattle.paraid_rack.specs.Disks.{Disks, is_present}
use Rattle.paraid_rack.specs.Told.{Ran}
use Rattle.paraid_rack.specs.Trail.{Trail, extend, now, run}
use Rattle.paraid_rack.proofs.TrailsLemmas.{extend-extend, now-extend}
use Rattle.paraid_record.specs.declared.meta.Meta.{Meta}
use Rattle.paraid_image.specs.Calls.{disk_of, is_done}
use Rattle.paraid_core.specs.Calls.{IsDataCall}
use Rattle.paraid_core.proofs.CallLemmas.{keeps_held}
use Rattle.paraid_session.specs.Watch.{Bounds, Down, Each, HoldsWhileServing, IsAllowed, IsAmongDown, IsServing, Watch, first_lost, nobody, only, several, watch_all}
use Rattle.paraid_session.proofs.LayerLemmas.{absent_failed, fails_first, first_fails}
use Rattle.paraid_recover.proofs.BaseLemmas.{each_append}
use Rattle.paraid_recover.proofs.DownLemmas.{watched_disks}
use Rattle.paraid_txn.specs.Uses.{EachCall}
use Rattle.paraid_event.proofs.ApartLemmas.{no_one}
use Rattle.paraid_event.specs.Lost.{TellsTwo}
use Rattle.paraid_event.specs.Marks.{ArePoweredByGear, IsMarkedBy, ShowsMeta}
use Rattle.paraid_event.specs.Parts.{AreEventCalls, EndsEvent, LosesInEvent}
use Rattle.paraid_session.specs.Ups.{spin_up_count}
use Rattle.paraid_event.proofs.UpLemmas.{up_append}
use Rattle.paraid_event.proofs.UsedLemmas.{part_used}
use Rattle.paraid_record.specs.declared.meta.Setup.{Setup}
use Rattle.paraid_event.specs.Service.{Service}
use Rattle.paraid_event.specs.Stands.{IsMidway, ServiceStandsFor}
use Rattle.paraid_event.specs.Steps.{AreStepCalls, GoesInSteps, IsOnly, IsUnderway, LeavesService, LosesInSteps, LosesShown, ServesShown, StepsInEvent, made_by}
use Rattle.paraid_event.proofs.BeginLemmas.{first_append}
use Rattle.paraid_event.proofs.ChainLemmas.{data_within, transfer_each}
use Rattle.paraid_event.proofs.EndLemmas.{only_serving}
use Rattle.paraid_event.proofs.LastCallLemmas.{alone_named}
use Rattle.paraid_image.proofs.LostLemmas.{ends_later}
use Rattle.paraid_event.proofs.FailLemmas.{attach_append, fails_append, watch_append}
use Rattle.paraid_event.proofs.MarksLemmas.{newly_named, same_ticks, still_named}
use Rattle.paraid_event.proofs.PartLemmas.{part_attaches, part_awaited, part_base, part_calls, part_data, part_each, part_failed, part_marks, part_only, part_powered, part_setup, part_shown, part_stands, part_room}

-- the first call that failed of some calls is that of those and others
pub first_before : (cs ds : List Call) (e : ℕ) → first_lost cs ≡ Some e → first_lost (cs ++ ds) ≡ Some e
first_before [] ds e is = absurd (no_one is)
first_before (c ∷ cs) ds e is = by (is_done c) is (λ z. first_before cs ds e z)
  where
    by : (t : Bool) → (if t then first_lost cs else Some (disk_of c)) ≡ Some e → (first_lost cs ≡ Some e → first_lost (cs ++ ds) ≡ Some e) → (if t then first_lost (cs ++ ds) else Some (disk_of c)) ≡ Some e
    by true z f = f z
    by false z f = z

-- where one more disk may be down, at most that one is
pub only_grows : (o p : Option ℕ) (down : Down) → ((d : ℕ) → o ≡ Some d → p ≡ Some d) → IsOnly o down → IsOnly p down
only_grows o p nobody more is = tt
only_grows o p (only d) more is = more d is
only_grows o p several more is = is

-- what is told of two parts of the program is told of both
pub ran_both : (P Q R : Disks → List Call → Type 0) → ((s : Disks) (cs ds : List Call) → P s cs → Q (run s cs) ds → R s (cs ++ ds)) → (old mid new : Option Trail) → Ran old mid P → Ran mid new Q → Ran old new R
ran_both P Q R both old mid new first second t tells =
    let y = second t tells in
    let x = first y.from y.was in
    let from : now y.from ≡ run (now x.from) x.calls = ap now x.is ∙ now-extend x.from x.calls in
    record {
      from = x.from;
      was = x.was;
      calls = x.calls ++ y.calls;
      is = y.is ∙ ap (λ (u : Trail). extend u y.calls) x.is ∙ extend-extend x.from x.calls y.calls;
      holds = both (now x.from) x.calls y.calls x.holds (subst (λ (s : Disks). Q s y.calls) from y.holds);
    }

-- and what is told of one leads on
pub ran_then : (P Q : Disks → List Call → Type 0) → ((s : Disks) (cs : List Call) → P s cs → Q s cs) → (old new : Option Trail) → Ran old new P → Ran old new Q
ran_then P Q leads old new ran t tells = let x = ran t tells in record { from = x.from; was = x.was; calls = x.calls; is = x.is; holds = leads (now x.from) x.calls x.holds }

-- One part after the other.
module _ (k j : Service) (h : History) (lo most more : ℕ) (Mid : Meta → Watch → Type 0) (base : Meta) (w : Watch) (cs ds : List Call) (first : GoesInSteps k j h lo most Mid base w cs) where
  both_calls : AreStepCalls j h lo more first.base_then (watch_all cs w) ds → AreStepCalls k h lo (most + more) base w (cs ++ ds)
  both_calls second = record {
    moments = λ b asked setup ticks room. each_append (HoldsWhileServing k.slots h lo b) (IsAllowed b.setup asked) w cs ds
        (first.calls.moments b asked setup ticks (omega (arith, room)))
        (subst (λ (n : ℕ). Each (HoldsWhileServing n h lo b) (IsAllowed b.setup asked) (watch_all cs w) ds) first.leaves.slots
        (second.moments b asked (first.leaves.setup ∙ setup) (let e = first.leaves.ticks in omega (arith, ticks, e)) (let r = first.room in omega (arith, room, r))));
    attaches = attach_append cs ds first.calls.attaches second.attaches;
  }

  -- a disk that is named out after the first part was so before, or is the first that failed
  first_named : (two : Two) → TellsTwo j two (watch_all cs w).disks ds → TellsTwo k two w.disks (cs ++ ds)
  first_named two tells = record {
    apart = tells.apart;
    first = elim tells.first [
      | inl named ↦ elim (first.leaves.newly two.first named) [
        | inl was ↦ inl was
        | inr lost ↦ by_name lost (named_out k.meta.out) refl
      ]
      | inr none ↦ inr (none_before (named_out k.meta.out) refl none.0, first_append cs ds (none_lost (first_lost cs) refl none.0) ∙ none.1)
    ];
    ends = ends_later two cs ds (λ e fails. alone_named (named_out j.meta.out) (first_lost ds) two.first tells.first e (first.leaves.failed e fails)) tells.ends;
  }
    where
      by_name : first_lost cs ≡ Some two.first → (o : Option ℕ) → named_out k.meta.out ≡ o → (named_out k.meta.out ≡ Some two.first) ⊎ ((named_out k.meta.out ≡ None) × (first_lost (cs ++ ds) ≡ Some two.first))
      by_name lost None is = inr (is, first_before cs ds two.first lost)
      by_name lost (Some e) is =
          let a = first.leaves.still e is in
          let b = first.leaves.failed two.first (first_fails cs two.first lost) in
          inl (is ∙ sym a ∙ b)

      none_before : (o : Option ℕ) → named_out k.meta.out ≡ o → named_out j.meta.out ≡ None → named_out k.meta.out ≡ None
      none_before None is none = is
      none_before (Some e) is none = absurd (no_one (sym none ∙ first.leaves.still e is))

      none_lost : (o : Option ℕ) → first_lost cs ≡ o → named_out j.meta.out ≡ None → first_lost cs ≡ None
      none_lost None is none = is
      none_lost (Some e) is none = absurd (no_one (sym none ∙ first.leaves.failed e (first_fails cs e is)))

  pub both_lose : (two : Two) → AreStepCalls j h lo more first.base_then (watch_all cs w) ds → TellsTwo j two (watch_all cs w).disks ds → AreStepCalls k h lo (most + more) base w (cs ++ ds) × TellsTwo k two w.disks (cs ++ ds)
  both_lose two calls tells = (both_calls calls, first_named two tells)

  pub both_go : (k_then : Service) (Ends : Meta → Watch → Type 0) → GoesInSteps j k_then h lo more Ends first.base_then (watch_all cs w) ds → GoesInSteps k k_then h lo (most + more) Ends base w (cs ++ ds)
  both_go k_then Ends second = record {
    calls = both_calls second.calls;
    leaves = record {
      slots = second.leaves.slots ∙ first.leaves.slots;
      setup = second.leaves.setup ∙ first.leaves.setup;
      ticks = second.leaves.ticks ∙ first.leaves.ticks;
      failed = λ e is. elim (fails_append cs ds e is) [
        | inl here ↦ second.leaves.still e (first.leaves.failed e here)
        | inr later ↦ second.leaves.failed e later
      ];
      still = λ e is. second.leaves.still e (first.leaves.still e is);
      newly = λ e is. elim (second.leaves.newly e is) [
        | inl named ↦ elim (first.leaves.newly e named) [
          | inl was ↦ inl was
          | inr lost ↦ inr (first_before cs ds e lost)
        ]
        | inr lost ↦ inr (by_first e is lost (first_lost cs) refl)
      ];
      awaited = ap (λ (z : Watch). z.awaited) (watch_append cs ds w) ∙ second.leaves.awaited ∙ first.leaves.awaited;
      used = λ d low. subst (λ (z : Watch). spin_up_count d (cs ++ ds) + made_by k.meta w.disks.power d ≤ made_by k_then.meta z.disks.power d) (sym (watch_append cs ds w))
          (let a = first.leaves.used d low in let b = second.leaves.used d (subst (λ (z : Setup). d < z.geometry.disks) (sym first.leaves.setup) low) in let e = up_append d cs ds in omega (arith, a, b, e));
    };
    base_then = second.base_then;
    room = let r = first.room in let s = second.room in omega (arith, r, s);
    carried = elim second.carried [
      | inl same ↦ elim first.carried [
        | inl still ↦ inl (same ∙ still)
        | inr brought ↦ inr (ap (λ (m : Meta). m.ticks) same ∙ brought ∙ sym second.leaves.ticks)
      ]
      | inr brought ↦ inr brought
    ];
    ends = subst (Ends second.base_then) (sym (watch_append cs ds w)) second.ends;
  }
    where
      by_first : (e : ℕ) → named_out k_then.meta.out ≡ Some e → first_lost ds ≡ Some e → (o : Option ℕ) → first_lost cs ≡ o → first_lost (cs ++ ds) ≡ Some e
      by_first e is lost None none = first_append cs ds none ∙ lost
      by_first e is lost (Some x) here =
          let a = second.leaves.still x (first.leaves.failed x (first_fails cs x here)) in
          first_before cs ds e (here ∙ sym a ∙ is)

-- one call of a core
module _ (k k_then : Service) (h : History) (lo lo_then : ℕ) (le : lo ≤ lo_then) (slots : k_then.slots ≡ k.slots) (base : Meta) (w : Watch) (mid : IsMidway k h lo base w) (is_only : IsOnly (named_out k.meta.out) w.down) (cs : List Call)
    (part : AreEventCalls k h lo base w.disks cs) (ends : EndsEvent k k_then h lo_then w.disks cs) where
  abbrev v : Watch
  v = watch_all cs w

  marks : IsMarkedBy v.disks.power k.meta k_then.meta
  marks = part_marks k h lo base w mid cs part k_then h lo_then ends

  pub one_only : IsOnly (named_out k_then.meta.out) v.down
  one_only = part_only k h lo base w mid cs part k_then h lo_then ends (named_out k_then.meta.out)
      (only_grows (named_out k.meta.out) (named_out k_then.meta.out) w.down (λ d is. still_named v.disks.power k.meta k_then.meta marks d is) is_only) (λ e is. is)

  pub one_serving : IsServing v.down
  one_serving = only_serving (named_out k_then.meta.out) v.down one_only

  pub one_midway : IsMidway k_then h lo ends.keeps.base v
  one_midway = part_stands k h lo base w mid cs part k_then h lo_then ends lo le one_serving

  newly : (e : ℕ) → named_out k_then.meta.out ≡ Some e → (named_out k.meta.out ≡ Some e) ⊎ (first_lost cs ≡ Some e)
  newly e named = elim (newly_named v.disks.power k.meta k_then.meta marks e named) [
    | inl was ↦ inl was
    | inr gone ↦ elim (absent_failed w.disks cs e (subst (λ (s : Disks). is_present (s.power e) ≡ false) (watched_disks w cs) gone.1)) [
      | inl before ↦ inl (mid.named e gone.0 before)
      | inr failed ↦
          let x = fails_first cs e failed in
          let also = part_failed k h lo base w mid cs part k_then h lo_then ends x.0 (first_fails cs x.0 x.1) in
          let z : Some x.0 ≡ Some e = sym also ∙ named in
          inr (x.1 ∙ z)
    ]
  ]

  pub one_leaves : LeavesService k k_then w cs
  one_leaves = record {
    slots = slots;
    setup = part_setup k h lo base w mid cs part k_then h lo_then ends;
    ticks = same_ticks v.disks.power k.meta k_then.meta marks;
    failed = λ e is. part_failed k h lo base w mid cs part k_then h lo_then ends e is;
    still = λ e is. still_named v.disks.power k.meta k_then.meta marks e is;
    newly = newly;
    awaited = part_awaited k h lo base w mid cs part k_then h lo_then ends;
    used = λ d low. part_used k h lo base w mid cs part k_then h lo_then ends d;
  }

  pub one_calls : AreStepCalls k h lo 1 base w cs
  one_calls = record {
    moments = λ b asked setup ticks room. part_each k h lo base w mid cs part b setup ticks room asked;
    attaches = part_attaches k h lo base w mid cs part;
  }

  pub one_room : ends.keeps.base.epoch ≤ base.epoch + 1
  one_room = part_room k h lo base w mid cs part k_then h lo_then ends one_serving

  one_carried : (ends.keeps.base ≡ base) ⊎ (ends.keeps.base.ticks ≡ k_then.meta.ticks)
  one_carried = elim (part_base k h lo base w mid cs part k_then h lo_then ends one_serving) [
    | inl old ↦ inl old
    | inr new ↦ inr (ap (λ (m : Meta). m.ticks) new ∙ sym (same_ticks v.disks.power k.meta k_then.meta marks))
  ]

  module _ (shown : ShowsMeta w.disks.power base k.meta) (powered : ArePoweredByGear w.disks.power k.meta) where
    one_underway : IsUnderway k_then h lo ends.keeps.base v
    one_underway = record {
      midway = one_midway;
      only = one_only;
      shown = part_shown k h lo base w mid cs part k_then h lo_then ends one_serving shown;
      powered = part_powered k h lo base w mid cs part k_then h lo_then ends powered;
    }

    -- It is a part of an event with at most one commit.
    pub one_goes : GoesInSteps k k_then h lo 1 (IsUnderway k_then h lo) base w cs
    one_goes = record { calls = one_calls; leaves = one_leaves; base_then = ends.keeps.base; room = one_room; carried = one_carried; ends = one_underway }

    module _ (past : EachCall (IsDataCall k.meta.setup.geometry.disks (gone_out k.meta.out)) w.disks cs) where
      outs : (d : ℕ) → part.out ≡ Some d → (d < k.meta.setup.geometry.disks) × IsAmongDown w.down d
      outs d is =
          let named : named_out k.meta.out ≡ Some d = elim (part.is_out d is) [ inl was ↦ mid.stands.stays d was | inr now_named ↦ now_named ] in
          (mid.low d named, mid.stands.named_down d named)

      -- And where no block of the log is written, with none.
      pub one_between : GoesInSteps k k_then h lo 0 (IsUnderway k_then h lo) base w cs
      one_between = record {
        calls = record {
          moments = λ b asked setup ticks room. transfer_each k h lo base w mid.stands b setup ticks asked cs part.out h lo outs (part_calls k h lo base w mid cs part) part.held
              (data_within k h lo base w mid.stands b setup ticks cs (omega (arith, room)) past);
          attaches = part_attaches k h lo base w mid cs part;
        };
        leaves = one_leaves;
        base_then = ends.keeps.base;
        room = let e = ap (λ (m : Meta). m.epoch) (part_data k h lo base w mid cs part k_then h lo_then ends past one_serving) in omega (arith, e);
        carried = inl (part_data k h lo base w mid cs part k_then h lo_then ends past one_serving);
        ends = one_underway;
      }

-- What is told of one call, from where it stood, at the watch.
module _ (k : Service) (h : History) (lo : ℕ) (base : Meta) (w : Watch) (at : IsUnderway k h lo base w) where
  pub own_base : at.midway.stands.keeps.base ≡ base
  own_base = at.midway.stands.is_base

  shown_own : ShowsMeta w.disks.power at.midway.stands.keeps.base k.meta
  shown_own = subst (λ (m : Meta). ShowsMeta w.disks.power m k.meta) (sym own_base) at.shown

  pub served_from : (k_then : Service) (lo_then : ℕ) (cs : List Call) → ServesShown k k_then h lo lo_then w.disks cs → AreEventCalls k h lo base w.disks cs × EndsEvent k k_then h lo_then w.disks cs
  served_from k_then lo_then cs serves =
      subst (λ (m : Meta). AreEventCalls k h lo m w.disks cs × EndsEvent k k_then h lo_then w.disks cs) own_base (serves at.midway.stands.keeps shown_own)

pub part_steps : (k k_then : Service) (h : History) (lo lo_then : ℕ) → lo ≤ lo_then → k_then.slots ≡ k.slots → (s : Disks) (cs : List Call) → ServesShown k k_then h lo lo_then s cs → StepsInEvent k k_then h lo 1 s cs
part_steps k k_then h lo lo_then le slots s cs serves base w same at =
    let both = served_from k h lo base w at k_then lo_then cs (subst (λ (u : Disks). ServesShown k k_then h lo lo_then u cs) (sym same) serves) in
    one_goes k k_then h lo lo_then le slots base w at.midway at.only cs both.0 both.1 at.shown at.powered

pub data_steps : (k k_then : Service) (h : History) (lo lo_then : ℕ) → lo ≤ lo_then → k_then.slots ≡ k.slots → (s : Disks) (cs : List Call)
    → ServesShown k k_then h lo lo_then s cs × EachCall (IsDataCall k.meta.setup.geometry.disks (gone_out k.meta.out)) s cs → StepsInEvent k k_then h lo 0 s cs
data_steps k k_then h lo lo_then le slots s cs serves base w same at =
    let both = served_from k h lo base w at k_then lo_then cs (subst (λ (u : Disks). ServesShown k k_then h lo lo_then u cs) (sym same) serves.0) in
    one_between k k_then h lo lo_then le slots base w at.midway at.only cs both.0 both.1 at.shown at.powered
    (subst (λ (u : Disks). EachCall (IsDataCall k.meta.setup.geometry.disks (gone_out k.meta.out)) u cs) (sym same) serves.1)

-- with another bound on the commits
pub calls_within : (k : Service) (h : History) (lo most bound : ℕ) → most ≤ bound → (base : Meta) (w : Watch) (cs : List Call) → AreStepCalls k h lo most base w cs → AreStepCalls k h lo bound base w cs
calls_within k h lo most bound le base w cs calls = record {
  moments = λ b asked setup ticks room. calls.moments b asked setup ticks (omega (arith, le, room));
  attaches = calls.attaches;
}

pub goes_within : (k k_then : Service) (h : History) (lo most bound : ℕ) → most ≤ bound → (Ends : Meta → Watch → Type 0) (base : Meta) (w : Watch) (cs : List Call) → GoesInSteps k k_then h lo most Ends base w cs → GoesInSteps k k_then h lo bound Ends base w cs
goes_within k k_then h lo most bound le Ends base w cs goes = record {
  calls = calls_within k h lo most bound le base w cs goes.calls;
  leaves = goes.leaves;
  base_then = goes.base_then;
  room = let r = goes.room in omega (arith, r, le);
  carried = goes.carried;
  ends = goes.ends;
}

pub follow : (k j k_then : Service) (h : History) (lo most more : ℕ) (s : Disks) (cs ds : List Call) → StepsInEvent k j h lo most s cs → StepsInEvent j k_then h lo more (run s cs) ds → StepsInEvent k k_then h lo (most + more) s (cs ++ ds)
follow k j k_then h lo most more s cs ds first second base w same at =
    let x = first base w same at in
    let y = second x.base_then (watch_all cs w) (watched_disks w cs ∙ ap (λ (u : Disks). run u cs) same) x.ends in
    both_go k j h lo most more (IsUnderway j h lo) base w cs ds x k_then (IsUnderway k_then h lo) y

pub lose_then : (k j : Service) (h : History) (lo most more : ℕ) (two : Two) (s : Disks) (cs ds : List Call) → StepsInEvent k j h lo most s cs → LosesInSteps j h lo more two (run s cs) ds → LosesInSteps k h lo (most + more) two s (cs ++ ds)
lose_then k j h lo most more two s cs ds first second base w same at =
    let x = first base w same at in
    let there : (watch_all cs w).disks ≡ run s cs = watched_disks w cs ∙ ap (λ (u : Disks). run u cs) same in
    let y = second x.base_then (watch_all cs w) there x.ends in
    let z = both_lose k j h lo most more (IsUnderway j h lo) base w cs ds x two y.0 (subst (λ (u : Disks). TellsTwo j two u ds) (sym there) y.1) in
    (z.0, subst (λ (u : Disks). TellsTwo k two u (cs ++ ds)) same z.1)

-- a second disk is lost in one call
pub part_loses : (k : Service) (h : History) (lo : ℕ) (two : Two) (s : Disks) (cs : List Call) → LosesInEvent k h lo s cs × TellsTwo k two s cs → LosesInSteps k h lo 1 two s cs
part_loses k h lo two s cs loses base w same at =
    let part = subst (λ (m : Meta). AreEventCalls k h lo m w.disks cs) at.midway.stands.is_base (subst (λ (u : Disks). LosesInEvent k h lo u cs) (sym same) loses.0 at.midway.stands.keeps) in (
      record {
        moments = λ b asked setup ticks room. part_each k h lo base w at.midway cs part b setup ticks room asked;
        attaches = part_attaches k h lo base w at.midway cs part;
      },
      loses.1,
    )

pub goes_bound : (k k_then : Service) (h : History) (lo most bound : ℕ) → most ≤ bound → (s : Disks) (cs : List Call) → StepsInEvent k k_then h lo most s cs → StepsInEvent k k_then h lo bound s cs
goes_bound k k_then h lo most bound le s cs steps base w same at = goes_within k k_then h lo most bound le (IsUnderway k_then h lo) base w cs (steps base w same at)

pub loses_bound : (k : Service) (h : History) (lo most bound : ℕ) → most ≤ bound → (two : Two) (s : Disks) (cs : List Call) → LosesInSteps k h lo most two s cs → LosesInSteps k h lo bound two s cs
loses_bound k h lo most bound le two s cs loses base w same at = let x = loses base w same at in (calls_within k h lo most bound le base w cs x.0, x.1)

-- what holds where it is underway
holds_here : (k : Service) (h : History) (lo : ℕ) (base : Meta) (w : Watch) → IsMidway k h lo base w → (b : Bounds) (asked : Option ℕ) → k.meta.setup ≡ b.setup → k.meta.ticks ≤ b.ticks → base.epoch ≤ b.epoch
    → Each (HoldsWhileServing k.slots h lo b) (IsAllowed b.setup asked) w []
holds_here k h lo base w mid b asked setup ticks room = transfer_each k h lo base w mid.stands b setup ticks asked [] k.named h lo outs tt
    (keeps_held k.slots k.named k.meta k.table k.batch k.copied h lo w.disks mid.stands.keeps) (data_within k h lo base w mid.stands b setup ticks [] room tt)
  where
    outs : (d : ℕ) → k.named ≡ Some d → (d < k.meta.setup.geometry.disks) × IsAmongDown w.down d
    outs d is = (mid.low d (mid.stands.stays d is), mid.stands.named_down d (mid.stands.stays d is))

-- no part at all
pub no_steps : (k : Service) (h : History) (lo : ℕ) (s : Disks) → StepsInEvent k k h lo 0 s []
no_steps k h lo s base w same at = record {
  calls = record {
    moments = λ b asked setup ticks room. holds_here k h lo base w at.midway b asked setup ticks (omega (arith, room));
    attaches = refl;
  };
  leaves = record {
    slots = refl;
    setup = refl;
    ticks = refl;
    failed = λ e is. absurd (false≢true is);
    still = λ e is. is;
    newly = λ e is. inl is;
    awaited = refl;
    used = λ d low. omega arith;
  };
  base_then = base;
  room = omega arith;
  carried = inl refl;
  ends = at;
}

-- three parts of the program
pub ran_three : (P Q R S : Disks → List Call → Type 0) → ((s : Disks) (cs ds es : List Call) → P s cs → Q (run s cs) ds → R (run (run s cs) ds) es → S s (cs ++ (ds ++ es))) → (old mid next new : Option Trail) → Ran old mid P → Ran mid next Q → Ran next new R → Ran old new S
ran_three P Q R S all old mid next new first second third =
    ran_both P (λ s fs. (ds : List Call) × (es : List Call) × (fs ≡ ds ++ es) × Q s ds × R (run s ds) es) S
    (λ s cs fs p both. subst (λ (gs : List Call). S s (cs ++ gs)) (sym both.2) (all s cs both.0 both.1 p both.3 both.4)) old mid new first
    (ran_both Q R (λ s fs. (ds : List Call) × (es : List Call) × (fs ≡ ds ++ es) × Q s ds × R (run s ds) es) (λ s ds es q r. (ds, es, refl, q, r)) mid next new second third)

-- what is told at the end of a part
pub ran_end : (k j : Service) (h : History) (lo : ℕ) (P Q : Disks → List Call → Type 0) → ((s : Disks) (cs : List Call) → (ServiceStandsFor k h lo (run s cs) → ServiceStandsFor j h lo (run s cs)) → P s cs → Q s cs) → (old new : Option Trail)
    → ((t : Trail) → new ≡ Some t → ServiceStandsFor k h lo (now t) → ServiceStandsFor j h lo (now t)) → Ran old new P → Ran old new Q
ran_end k j h lo P Q leads old new stands ran t tells =
    let x = ran t tells in
    let end : now t ≡ run (now x.from) x.calls = ap now x.is ∙ now-extend x.from x.calls in
    record {
      from = x.from;
      was = x.was;
      calls = x.calls;
      is = x.is;
      holds = leads (now x.from) x.calls (subst (λ (s : Disks). ServiceStandsFor k h lo s → ServiceStandsFor j h lo s) end (stands t tells)) x.holds;
    }

-- from where the disks show its meta
pub shown_loses : (k : Service) (h : History) (lo : ℕ) (two : Two) (s : Disks) (cs : List Call) → LosesShown k h lo s cs × TellsTwo k two s cs → LosesInSteps k h lo 1 two s cs
shown_loses k h lo two s cs loses base w same at =
    let part = subst (λ (m : Meta). AreEventCalls k h lo m w.disks cs) at.midway.stands.is_base
    (subst (λ (u : Disks). LosesShown k h lo u cs) (sym same) loses.0 at.midway.stands.keeps (subst (λ (m : Meta). ShowsMeta w.disks.power m k.meta) (sym at.midway.stands.is_base) at.shown)) in (
      record {
        moments = λ b asked setup ticks room. part_each k h lo base w at.midway cs part b setup ticks room asked;
        attaches = part_attaches k h lo base w at.midway cs part;
      },
      loses.1,
    )
