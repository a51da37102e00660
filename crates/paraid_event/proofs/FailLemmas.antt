-- A disk that is taken out: a commit, its mark, and a commit of that.
use Rattle.std.proofs.Common.{◌≡◌, ℕ, ◌+◌, ◌<◌, ◌≤◌, ◌⊎◌, Bool, true, false, List, [], ◌∷◌, ◌++◌, Option, Some, None, refl, sym, ap, ◌∙◌, inl, inr, subst, arith, min, if◌then◌else◌}
use Rattle.std.specs.Prelude.{◌==◌, nat_lt, Contains}
use Rattle.std.proofs.lemmas.Bool.{false≢true}
use Rattle.std.proofs.lemmas.Bool.Decides.{nat_tests}
use Rattle.std.proofs.lemmas.List.{append-nil}
use Rattle.paraid_base.specs.declared.event.Answer.{Answer}
use Rattle.paraid_base.specs.declared.event.Answer.TheVariants.{Failed}
use Rattle.paraid_base.specs.declared.event.Event.TheVariants.{Fail}
use Rattle.paraid_base.specs.declared.state.Out.{Out}
use Rattle.paraid_base.specs.declared.state.Out.TheVariants.{No, Gone}
use Rattle.paraid_base.specs.declared.state.Phase.{Phase}
use Rattle.paraid_base.specs.declared.state.Phase.TheVariants.{Steady, Down as PhaseDown, Up}
use Rattle.paraid_base.specs.History.{History}
use Rattle.paraid_base.specs.Log.{worn_at}
use Rattle.paraid_base.specs.States.{gone_out, named_out, phase_beside, rising_to}
use Rattle.paraid_dirty.specs.Table.{is_dirty}
use Rattle.paraid_rack.specs.declared.call.Call.{Call}
use Rattle.paraid_rack.specs.declared.call.Power.{Power}
use Rattle.paraid_rack.specs.Told.{Ran}
use Rattle.paraid_rack.specs.Trail.{Trail, now}
use Rattle.paraid_record.specs.declared.meta.Meta.{Meta}
use Rattle.paraid_record.specs.declared.meta.Setup.{Setup}
use Rattle.paraid_image.specs.Calls.{is_attach}
use Rattle.paraid_image.specs.Mark.{meta_after_loss}
use Rattle.paraid_image.specs.Power.{PowerState, power_by_gear}
use Rattle.paraid_image.specs.Spins.{made_spin_ups}
use Rattle.paraid_machine.specs.Machine.{IsEventStep, outcomes, take_out}
use Rattle.paraid_machine.specs.Moves.{after_loss}
use Rattle.paraid_session.specs.Turn.{GoesOn, IsMark, Point, bounds_at, point_wear, watch_of}
use Rattle.paraid_session.specs.Turn.IsTurn.{answered}
use Rattle.paraid_session.specs.Watch.{Bounds, Down, Each, HoldsWhileServing, IsAllowed, IsAmongDown, IsServing, Watch, attach_count, down_from_out, fails_on, first_lost, only, watch_all, with_down}
use Rattle.paraid_session.proofs.LayerLemmas.{first_fails}
use Rattle.paraid_recover.proofs.BaseLemmas.{each_append}
use Rattle.paraid_recover.proofs.DownLemmas.{in_stays, watched_disks}
use Rattle.paraid_event.proofs.ApartLemmas.{fail_not_bad, gone_not_fresh, no_one, none_not_gone}
use Rattle.paraid_event.specs.Fails.{TakesOut}
use Rattle.paraid_event.specs.Marks.{ArePoweredByGear, IsMarkedBy, ShowsMeta}
use Rattle.paraid_event.specs.Parts.{AreEventCalls, EndsEvent, ServesEvent, committed_meta}
use Rattle.paraid_event.proofs.UpLemmas.{up_append}
use Rattle.paraid_event.proofs.UsedLemmas.{part_ups}
use Rattle.paraid_event.specs.Service.{IsStateOf, Service}
use Rattle.paraid_event.specs.Stands.{IsMidway, ServiceStandsFor, StandsAt, StandsIn}
use Rattle.paraid_event.proofs.EndLemmas.{IsOnly, fails_head, fails_split, fails_tail, only_is, only_serving}
use Rattle.paraid_event.proofs.MarksLemmas.{gone_is_named, kept_fill, kept_out, kept_phase, lost_fill, lost_out, lost_phase, marked_setup, same_gear, same_spins, same_ticks, still_named, twice}
use Rattle.paraid_event.proofs.PartLemmas.{IsSettled, part_attaches, part_committed, part_each, part_epoch, part_failed, part_marks, part_only, part_powered, part_stands, part_room}
use Rattle.paraid_event.proofs.PointLemmas.{stands_mark}
use Rattle.paraid_event.proofs.TurnLemmas.{absent_named, fresh_there, out_low}
use Rattle.paraid_event.proofs.PreludeLemmas.{after_mark, same_base}

pub watch_append : (cs ds : List Call) (w : Watch) → watch_all (cs ++ ds) w ≡ watch_all ds (watch_all cs w)
watch_append [] ds w = refl
watch_append (c ∷ cs) ds w = watch_append cs ds _

pub attach_append : (cs ds : List Call) → attach_count cs ≡ 0 → attach_count ds ≡ 0 → attach_count (cs ++ ds) ≡ 0
attach_append [] ds a b = b
attach_append (c ∷ cs) ds a b = by (is_attach c) a (λ rest. attach_append cs ds rest b)
  where
    by : (t : Bool) → (if t then attach_count cs + 1 else attach_count cs) ≡ 0 → (attach_count cs ≡ 0 → attach_count (cs ++ ds) ≡ 0) → (if t then attach_count (cs ++ ds) + 1 else attach_count (cs ++ ds)) ≡ 0
    by true z f = absurd (omega (arith, z))
    by false z f = f z

pub fails_append : (cs ds : List Call) (e : ℕ) → fails_on e (cs ++ ds) ≡ true → (fails_on e cs ≡ true) ⊎ (fails_on e ds ≡ true)
fails_append [] ds e is = inr is
fails_append (c ∷ cs) ds e is = elim (fails_split c (cs ++ ds) e is) [
  | inl here ↦ inl (subst (λ (x : ℕ). fails_on x (c ∷ cs) ≡ true) here.1 (fails_head c cs here.0))
  | inr later ↦ elim (fails_append cs ds e later) [
    | inl first ↦ inl (fails_tail c cs e first)
    | inr second ↦ inr second
  ]
]

rising_beside : (phase : Phase) → rising_to (phase_beside true phase) ≡ rising_to phase
rising_beside Steady = refl
rising_beside (PhaseDown to) = refl
rising_beside (Up to) = refl

-- a disk that is taken out leaves the spin-ups and the powers
taken_used : (m : Meta) (d : ℕ) (p : ℕ → Power) (e : ℕ) → made_spin_ups (meta_after_loss m d) p e ≡ made_spin_ups m p e
taken_used m d p e = rw (rising_beside m.phase) refl

taken_gear : (m : Meta) (d e : ℕ) → power_by_gear (meta_after_loss m d).gear (meta_after_loss m d).phase e ≡ power_by_gear m.gear m.phase e
taken_gear m d e = rw (rising_beside m.phase) refl

taken_settled : (m : Meta) (d : ℕ) → IsSettled (meta_after_loss m d)
taken_settled m d = record { phase = twice true m.phase; fill = refl }

-- marks the disk that is taken out, in the middle of an event
pub taken_midway : (k j : Service) (h : History) (lo : ℕ) (base : Meta) (v : Watch) (d : ℕ) → IsMidway k h lo base v → j ≡ record k { meta = meta_after_loss k.meta d } → ((e : ℕ) → named_out k.meta.out ≡ Some e → e ≡ d) → d < k.meta.setup.geometry.disks
    → IsAmongDown v.down d → ServiceStandsFor (record k { meta = meta_after_loss k.meta d }) h lo v.disks → IsMidway j h lo base v
taken_midway k j h lo base v d at is alone low down keeps = subst (λ (z : Service). IsMidway z h lo base v) (sym is) (record {
  stands = record {
    keeps = keeps;
    is_base = same_base k (record k { meta = meta_after_loss k.meta d }) h h lo lo v.disks at.stands.keeps keeps ∙ at.stands.is_base;
    absent_down = at.stands.absent_down;
    named_down = λ e named. let z : Some d ≡ Some e = named in let same_disk : d ≡ e = cc in subst (IsAmongDown v.down) same_disk down;
    stays = λ e named. ap (λ (x : ℕ). Some x) (sym (alone e (at.stands.stays e named)));
    recorded = at.stands.recorded;
    recorded_next = λ e e_low here not.
        let before = at.stands.recorded_next e e_low here (λ gone. not (ap (λ (x : ℕ). Some x) (sym (alone e (gone_is_named k.meta.out e gone))))) in
        let used = taken_used k.meta d v.disks.power e in
        omega (arith, before, used);
    awaited = λ e waits. ap (λ (x : ℕ). Some x) (sym (alone e (gone_is_named k.meta.out e (at.stands.awaited e waits))));
    ticks = at.stands.ticks;
  };
  named = λ e e_low gone. ap (λ (x : ℕ). Some x) (sym (alone e (at.named e e_low gone)));
  low = λ e named. let z : Some d ≡ Some e = named in let same_disk : d ≡ e = cc in subst (λ (x : ℕ). x < k.meta.setup.geometry.disks) same_disk low;
  fresh = λ e u named. absurd (gone_not_fresh named);
})

one_or_same : (o : Option ℕ) (d e : ℕ) → (o ≡ Some e → e ≡ d) → o ≡ Some e → Some d ≡ Some e
one_or_same o d e alone is = ap (λ (x : ℕ). Some x) (sym (alone is))

capped_same : (e u k : ℕ) → u ≡ k → e ≡ k → k ≤ 18446744073709551615 → e ≡ min (u + 0) 18446744073709551615
capped_same e u k same is fits = grind (arith)

module _ (told : Option Trail) (k k1 k2 k3 : Service) (setup : Setup) (p : Point) (at : StandsAt told k setup p) (d : ℕ) (takes : TakesOut k k1 k2 k3 d) (below : d < setup.geometry.disks) (no_out : p.state.out ≡ No) (lo1 lo3 : ℕ) (le1 : p.low ≤ lo1) (le3 : p.low ≤ lo3) where
  abbrev w0 : Watch
  w0 = record { disks = p.disks; down = only d; spun = p.spun; awaited = p.awaited }

  abbrev b : Bounds
  b = bounds_at setup p p.state

  none_named : (e : ℕ) → named_out k.meta.out ≡ Some e → ⊥
  none_named e named = absurd (no_one (sym (ap named_out (sym at.state.out ∙ no_out)) ∙ named))

  mid0 : IsMidway k p.history p.low p.meta w0
  mid0 = record {
    stands = record {
      keeps = at.stands.keeps;
      is_base = at.stands.is_base;
      absent_down = λ e low gone. absurd (none_named e (absent_named told k setup p at e low gone));
      named_down = λ e named. absurd (none_named e named);
      stays = at.stands.stays;
      recorded = at.stands.recorded;
      recorded_next = at.stands.recorded_next;
      awaited = at.stands.awaited;
      ticks = at.stands.ticks;
    };
    named = absent_named told k setup p at;
    low = out_low told k setup p at;
    fresh = fresh_there told k setup p at;
  }

  ticks_fit : k.meta.ticks ≤ b.ticks
  ticks_fit = let e = at.state.ticks in omega (arith, e)

  -- what was staged is committed
  module _ (cs : List Call) (part : AreEventCalls k p.history p.low p.meta p.disks cs) (ends : EndsEvent k k1 p.history lo1 p.disks cs) where
    abbrev v1 : Watch
    v1 = watch_all cs w0

    only1 : IsOnly (Some d) v1.down
    only1 = part_only k p.history p.low p.meta w0 mid0 cs part k1 p.history lo1 ends (Some d) refl (λ e named. ap (λ (x : ℕ). Some x) (sym (takes.alone e named)))

    mid1 : IsMidway k1 p.history p.low ends.keeps.base v1
    mid1 = part_stands k p.history p.low p.meta w0 mid0 cs part k1 p.history lo1 ends p.low le1 (only_serving (Some d) v1.down only1)

    powered1 : ArePoweredByGear v1.disks.power k1.meta
    powered1 = part_powered k p.history p.low p.meta w0 mid0 cs part k1 p.history lo1 ends at.powered

    marks1 : IsMarkedBy v1.disks.power k.meta k1.meta
    marks1 = part_marks k p.history p.low p.meta w0 mid0 cs part k1 p.history lo1 ends

    setup1 : k1.meta.setup ≡ setup
    setup1 = marked_setup v1.disks.power k.meta k1.meta marks1 ∙ at.same_setup

    each1 : Each (HoldsWhileServing k.slots p.history p.low b) (IsAllowed setup None) w0 cs
    each1 = part_each k p.history p.low p.meta w0 mid0 cs part b at.same_setup ticks_fit (omega arith) None

    -- the disk is marked
    module _ (keeps : ServiceStandsFor k2 p.history p.low v1.disks) where
      meta2 : k2.meta ≡ meta_after_loss k1.meta d
      meta2 = ap (λ (z : Service). z.meta) takes.mark

      mid2 : IsMidway k2 p.history p.low ends.keeps.base v1
      mid2 = taken_midway k1 k2 p.history p.low ends.keeps.base v1 d mid1 takes.mark takes.alone (subst (λ (z : Setup). d < z.geometry.disks) (sym setup1) below) (in_stays w0 cs d refl)
          (subst (λ (z : Service). ServiceStandsFor z p.history p.low v1.disks) takes.mark keeps)

      powered2 : ArePoweredByGear v1.disks.power k2.meta
      powered2 = subst (ArePoweredByGear v1.disks.power) (sym meta2) (record {
        by_gear = λ e low not. powered1.by_gear e low (λ named. not (ap (λ (x : ℕ). Some x) (sym (takes.alone e named)))) ∙ sym (taken_gear k1.meta d e);
        fresh = λ e u is. absurd (gone_not_fresh is);
      })

      named2 : named_out k2.meta.out ≡ Some d
      named2 = ap (λ (m : Meta). named_out m.out) meta2

      -- and the mark is committed
      module _ (ds : List Call) (part2 : AreEventCalls k2 p.history p.low ends.keeps.base v1.disks ds) (ends2 : EndsEvent k2 k3 p.history lo3 v1.disks ds) where
        abbrev v3 : Watch
        v3 = watch_all ds v1

        marks3 : IsMarkedBy v3.disks.power k2.meta k3.meta
        marks3 = part_marks k2 p.history p.low ends.keeps.base v1 mid2 ds part2 k3 p.history lo3 ends2

        named3 : named_out k3.meta.out ≡ Some d
        named3 = still_named v3.disks.power k2.meta k3.meta marks3 d named2

        only3 : IsOnly (Some d) v3.down
        only3 = part_only k2 p.history p.low ends.keeps.base v1 mid2 ds part2 k3 p.history lo3 ends2 (Some d) only1 (λ e named. sym named3 ∙ named)

        serving3 : IsServing v3.down
        serving3 = only_serving (Some d) v3.down only3

        mid3 : IsMidway k3 p.history p.low ends2.keeps.base v3
        mid3 = part_stands k2 p.history p.low ends.keeps.base v1 mid2 ds part2 k3 p.history lo3 ends2 p.low le3 serving3

        base3 : ends2.keeps.base ≡ committed_meta k2
        base3 = part_epoch k2 p.history p.low ends.keeps.base v1 mid2 ds part2 k3 p.history lo3 ends2 serving3 takes.epoch

        shown3 : ShowsMeta v3.disks.power ends2.keeps.base k3.meta
        shown3 = subst (λ (m : Meta). ShowsMeta v3.disks.power m k3.meta) (sym base3)
            (part_committed k2 p.history p.low ends.keeps.base v1 mid2 ds part2 k3 p.history lo3 ends2 (subst IsSettled (sym meta2) (taken_settled k1.meta d)))

        powered3 : ArePoweredByGear v3.disks.power k3.meta
        powered3 = part_powered k2 p.history p.low ends.keeps.base v1 mid2 ds part2 k3 p.history lo3 ends2 powered2

        by_lost1 : (A : Type 0) → (marks1.lost ≡ None → A) → ((x : ℕ) → marks1.lost ≡ Some x → A) → A
        by_lost1 A none some = go marks1.lost refl
          where
            go : (o : Option ℕ) → marks1.lost ≡ o → A
            go None e = none e
            go (Some x) e = some x e

        by_lost3 : (A : Type 0) → (marks3.lost ≡ None → A) → ((x : ℕ) → marks3.lost ≡ Some x → A) → A
        by_lost3 A none some = go marks3.lost refl
          where
            go : (o : Option ℕ) → marks3.lost ≡ o → A
            go None e = none e
            go (Some x) e = some x e

        phase1 : phase_beside true k1.meta.phase ≡ phase_beside true k.meta.phase
        phase1 = by_lost1 _ (λ none. ap (phase_beside true) (kept_phase v1.disks.power k.meta k1.meta marks1 none))
            (λ x some. ap (phase_beside true) (lost_phase v1.disks.power k.meta k1.meta marks1 x some) ∙ twice true k.meta.phase)

        phase2 : k2.meta.phase ≡ phase_beside true k1.meta.phase
        phase2 = ap (λ (m : Meta). m.phase) meta2

        out3 : k3.meta.out ≡ Gone d
        out3 = by_lost3 _ (λ none. kept_out v3.disks.power k2.meta k3.meta marks3 none ∙ ap (λ (m : Meta). m.out) meta2)
            (λ x some. lost_out v3.disks.power k2.meta k3.meta marks3 x some ∙ ap Gone (sym (marks3.alone x d some named2)))

        phase3 : k3.meta.phase ≡ phase_beside true k.meta.phase
        phase3 = by_lost3 _ (λ none. kept_phase v3.disks.power k2.meta k3.meta marks3 none ∙ phase2 ∙ phase1)
            (λ x some. lost_phase v3.disks.power k2.meta k3.meta marks3 x some ∙ ap (phase_beside true) phase2 ∙ twice true k1.meta.phase ∙ phase1)

        fill3 : ◌≡◌ {A = ℕ} k3.meta.fill 0
        fill3 = by_lost3 _ (λ none. kept_fill v3.disks.power k2.meta k3.meta marks3 none ∙ ap (λ (m : Meta). m.fill) meta2)
            (λ x some. lost_fill v3.disks.power k2.meta k3.meta marks3 x some)

        setup3 : k3.meta.setup ≡ setup
        setup3 = marked_setup v3.disks.power k2.meta k3.meta marks3 ∙ ap (λ (m : Meta). m.setup) meta2 ∙ setup1

        pub failed_state : IsStateOf k3 (after_loss p.state d)
        failed_state = record {
          gear = at.state.gear ∙ sym (same_gear v1.disks.power k.meta k1.meta marks1) ∙ sym (ap (λ (m : Meta). m.gear) meta2) ∙ sym (same_gear v3.disks.power k2.meta k3.meta marks3);
          phase = ap (phase_beside true) at.state.phase ∙ sym phase3;
          fill = sym fill3;
          out = sym out3;
          spins = at.state.spins ∙ sym (same_spins v1.disks.power k.meta k1.meta marks1) ∙ sym (ap (λ (m : Meta). m.spins) meta2) ∙ sym (same_spins v3.disks.power k2.meta k3.meta marks3);
          ticks = at.state.ticks ∙ sym (same_ticks v1.disks.power k.meta k1.meta marks1) ∙ sym (ap (λ (m : Meta). m.ticks) meta2) ∙ sym (same_ticks v3.disks.power k2.meta k3.meta marks3);
          dirty = λ r e low. at.state.dirty r e (subst (λ (z : Setup). r < z.geometry.rows) (setup3 ∙ sym at.same_setup) low) ∙ ap (λ (t : List (List Bool)). is_dirty t r e) (sym takes.table);
          samples = at.state.samples ∙ sym takes.samples;
          served = at.state.served ∙ sym takes.served;
        }

        -- the point after it
        abbrev failed_point : Point
        failed_point = record {
          disks = v3.disks;
          history = p.history;
          low = p.low;
          meta = ends2.keeps.base;
          state = after_loss p.state d;
          energy = p.energy;
          spun = v3.spun;
          awaited = Some d;
          halt = None;
        }

        stands3 : StandsIn k3 p.history p.low ends2.keeps.base (record { disks = v3.disks; down = only d; spun = v3.spun; awaited = v3.awaited })
        stands3 = subst (λ (dn : Down). StandsIn k3 p.history p.low ends2.keeps.base (record { disks = v3.disks; down = dn; spun = v3.spun; awaited = v3.awaited }))
            (only_is (Some d) v3.down only3 (λ e is. let z : Some d ≡ Some e = is in let same_disk : d ≡ e = cc in subst (IsAmongDown v3.down) same_disk (in_stays v1 ds d (in_stays w0 cs d refl)))) mid3.stands

        pub failed_stands : (told_then : Option Trail) → ((t : Trail) → told_then ≡ Some t → now t ≡ v3.disks) → StandsAt told_then k3 setup failed_point
        failed_stands told_then tells = record {
          disks = tells;
          stands = record {
            keeps = stands3.keeps;
            is_base = stands3.is_base;
            absent_down = stands3.absent_down;
            named_down = stands3.named_down;
            stays = stands3.stays;
            recorded = stands3.recorded;
            recorded_next = stands3.recorded_next;
            awaited = λ e waits. ap gone_out out3 ∙ waits;
            ticks = stands3.ticks;
          };
          copies_synced = takes.copies_synced;
          same_setup = setup3;
          shown = shown3;
          powered = powered3;
          state = failed_state;
          energy = at.energy ∙ sym takes.energy;
          fits = let e = takes.energy in let f = at.fits in omega (arith, e, f);
          going = refl;
        }

        slots1 : k2.slots ≡ k.slots
        slots1 = ap (λ (z : Service). z.slots) takes.mark ∙ takes.slots

        each2 : Each (HoldsWhileServing k.slots p.history p.low b) (IsAllowed setup None) v1 ds
        each2 = subst (λ (n : ℕ). Each (HoldsWhileServing n p.history p.low b) (IsAllowed setup None) v1 ds) slots1
            (part_each k2 p.history p.low ends.keeps.base v1 mid2 ds part2 b (ap (λ (m : Meta). m.setup) meta2 ∙ setup1) ticks2 epoch2 None)
          where
            ticks2 : k2.meta.ticks ≤ b.ticks
            ticks2 = let e = ap (λ (m : Meta). m.ticks) meta2 in let f = same_ticks v1.disks.power k.meta k1.meta marks1 in let g = ticks_fit in omega (arith, e, f, g)

            epoch1 : ends.keeps.base.epoch ≤ p.meta.epoch + 1
            epoch1 = part_room k p.history p.low p.meta w0 mid0 cs part k1 p.history lo1 ends (only_serving (Some d) v1.down only1)

            epoch2 : ends.keeps.base.epoch + 1 ≤ b.epoch
            epoch2 = let e = epoch1 in omega (arith, e)

        lost_here : (e : ℕ) → first_lost (cs ++ ds) ≡ Some e → d ≡ e
        lost_here e first = elim (fails_append cs ds e (first_fails (cs ++ ds) e first)) [
          | inl before ↦ sym (takes.alone e (part_failed k p.history p.low p.meta w0 mid0 cs part k1 p.history lo1 ends e before))
          | inr after ↦ let z : Some d ≡ Some e = sym named3 ∙ part_failed k2 p.history p.low ends.keeps.base v1 mid2 ds part2 k3 p.history lo3 ends2 e after in cc
        ]

        taken_among : (loss : Option ℕ) → ((e : ℕ) → loss ≡ Some e → d ≡ e) → Contains (take_out loss p.state d No) (Failed d, after_loss p.state d)
        taken_among None alone = (0, omega arith, refl)
        taken_among (Some e) alone = rw (equal d e (alone e refl)) (0, omega arith, refl)
          where
            equal : (x y : ℕ) → x ≡ y → (x == y) ≡ true
            equal x y z = grind (arith, nat_tests)

        below_test : (x y : ℕ) → x < y → nat_lt x y ≡ true
        below_test x y l = grind (arith, nat_tests)

        failed_step : IsEventStep setup p.history p.energy p.state (Fail d) (first_lost (cs ++ ds)) (Failed d) (after_loss p.state d)
        unfolding outcomes
        failed_step = record {
          among = rw (below_test d setup.geometry.disks below)
              (subst (λ (o : Out). Contains {X = Answer × PowerState} (take_out (first_lost (cs ++ ds)) p.state d o) (Failed d, after_loss p.state d)) (sym no_out) (taken_among (first_lost (cs ++ ds)) lost_here));
        }

        starts : watch_of p (Fail d) (Failed d) ≡ w0
        starts = ap (λ (o : Out). record { disks = p.disks; down = with_down d (down_from_out (named_out o)); spun = p.spun; awaited = p.awaited }) no_out

        watched : watch_all (cs ++ ds) (watch_of p (Fail d) (Failed d)) ≡ v3
        watched = ap (watch_all (cs ++ ds)) starts ∙ watch_append cs ds w0

        pub failed_turn : point_wear p < worn_at → (told_then : Option Trail) → ((t : Trail) → told_then ≡ Some t → now t ≡ v3.disks) → GoesOn k.slots setup p (Fail d) (Failed d) (StandsAt told_then k3 setup) p.disks (cs ++ ds)
        failed_turn fit told_then tells = let there = failed_stands told_then tells in (
          failed_point,
          answered at.going (λ e. fail_not_bad e) (record {
            fit = λ asked. fit;
            machine = failed_step;
            moments = subst (λ (z : Watch). Each (HoldsWhileServing k.slots p.history p.low b) (IsAllowed setup None) z (cs ++ ds)) (sym starts)
                (each_append (HoldsWhileServing k.slots p.history p.low b) (IsAllowed setup None) w0 cs ds each1 each2);
            once = let a = attach_append cs ds (part_attaches k p.history p.low p.meta w0 mid0 cs part) (part_attaches k2 p.history p.low ends.keeps.base v1 mid2 ds part2) in omega (arith, a);
            attached = λ is. absurd (false≢true is);
            ups = λ e low.
                let a = up_append e cs ds in
                let x = part_ups k p.history p.low p.meta w0 mid0 cs part e in
                let y = part_ups k2 p.history p.low ends.keeps.base v1 mid2 ds part2 e in
                omega (arith, a, x, y);
            quiet = λ still none. absurd (false≢true still);
            serving = subst (λ (z : Watch). IsServing z.down) (sym watched) serving3;
            carried = λ is none. absurd (false≢true is);
            brought = λ moved. ap (λ (m : Meta). m.ticks) base3 ∙ sym (same_ticks v3.disks.power k2.meta k3.meta marks3) ∙ sym failed_state.ticks;
            named = λ e was is moved. absurd (none_not_gone (sym no_out ∙ was));
            mark = subst (λ (m : ℕ). IsMark m setup failed_point) takes.slots_then (stands_mark told_then k3 setup failed_point there);
            flushed = λ f. absurd (false≢true f);
            disks = ap (λ (z : Watch). z.disks) (sym (watch_append cs ds w0)) ∙ watched_disks w0 (cs ++ ds);
            history = sym (append-nil p.history);
            low = refl;
            energy = capped_same p.energy p.energy k.energy at.energy at.energy at.fits;
            spun = ap (λ (z : Watch). z.spun) (sym watched);
            awaited = refl;
            going = refl;
          }),
          there,
        )

  -- what is told from one record to the next, to the one after it
  pub failed_told : point_wear p < worn_at → (mid told_then : Option Trail) → Ran told mid (ServesEvent k k1 p.history p.low p.history lo1) → ((t : Trail) → mid ≡ Some t → ServiceStandsFor k1 p.history p.low (now t) → ServiceStandsFor k2 p.history p.low (now t))
      → Ran mid told_then (ServesEvent k2 k3 p.history p.low p.history lo3) → Ran told told_then (GoesOn k.slots setup p (Fail d) (Failed d) (StandsAt told_then k3 setup))
  failed_told fit mid told_then first marks second =
      after_mark told k k1 k2 setup p at (only d) lo1 p.low mid1 mid told_then (ServesEvent k2 k3 p.history p.low p.history lo3) (GoesOn k.slots setup p (Fail d) (Failed d) (StandsAt told_then k3 setup)) first marks second
      (λ cs part ends keeps same_meta ds holds end.
      let served = holds keeps in
      failed_turn cs part ends keeps ds (subst (λ (m : Meta). AreEventCalls k2 p.history p.low m (watch_all cs w0).disks ds) same_meta served.0) served.1 fit told_then end)
