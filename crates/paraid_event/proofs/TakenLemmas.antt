-- A second disk is lost as one is taken out.
use Rattle.std.proofs.Common.{◌≡◌, ◌≢◌, ℕ, ◌+◌, ◌<◌, ◌≤◌, Bool, true, false, List, [], ◌∷◌, ◌++◌, length, Option, Some, None, refl, sym, ap, ◌∙◌, inl, inr, subst, arith, min, zero, suc, if◌then◌else◌}
use Rattle.std.specs.Prelude.{◌==◌, nat_lt, slice_index_or, Contains}
use Rattle.std.proofs.lemmas.Bool.{false≢true}
use Rattle.std.proofs.lemmas.Bool.Decides.{nat_tests}
use Rattle.std.proofs.lemmas.List.{append-nil}
use Rattle.paraid_base.specs.declared.event.Answer.{Answer}
use Rattle.paraid_base.specs.declared.event.Answer.TheVariants.{Failed, Halted, NoDisk}
use Rattle.paraid_base.specs.declared.event.Event.TheVariants.{Fail}
use Rattle.paraid_base.specs.declared.fault.Halt.TheVariants.{Two as HaltTwo}
use Rattle.paraid_base.specs.declared.fault.Two.{Two}
use Rattle.paraid_base.specs.declared.state.Out.{Out}
use Rattle.paraid_base.specs.declared.state.Out.TheVariants.{No}
use Rattle.paraid_base.specs.History.{History}
use Rattle.paraid_base.specs.Log.{worn_at}
use Rattle.paraid_base.specs.States.{named_out}
use Rattle.paraid_rack.specs.declared.call.Call.{Call}
use Rattle.paraid_rack.specs.Disks.{Disks, is_present, step}
use Rattle.paraid_rack.specs.Told.{Ran, Through}
use Rattle.paraid_rack.specs.Trail.{Trail, now, run}
use Rattle.paraid_record.specs.declared.meta.Meta.{Meta}
use Rattle.paraid_record.specs.declared.meta.Setup.{Setup}
use Rattle.paraid_image.specs.Calls.{disk_of, is_done}
use Rattle.paraid_image.specs.HeldAt.{IsHeld}
use Rattle.paraid_image.specs.Mark.{meta_after_loss}
use Rattle.paraid_image.specs.Power.{PowerState}
use Rattle.paraid_image.proofs.HeldLemmas.{IsHeld-more}
use Rattle.paraid_core.specs.CoreInvariant.{IsHeldWithOneMissing}
use Rattle.paraid_machine.specs.Machine.{outcomes, quietly, take_out}
use Rattle.paraid_machine.specs.Moves.{after_loss}
use Rattle.paraid_session.specs.Turn.{GoesOn, IsFirstDown, IsUnhurt, LosesSecondDisk, Point, bounds_at, makes_no_call, point_wear}
use Rattle.paraid_session.specs.Turn.IsFirstDown.{lost, taken}
use Rattle.paraid_session.specs.Turn.IsSecondLossEnergy.{own}
use Rattle.paraid_session.specs.Turn.IsSecondLossGear.{same}
use Rattle.paraid_session.specs.Turn.IsTurn.{two as second_loss}
use Rattle.paraid_session.specs.Watch.{Bounds, Down, Each, HoldsWhileServing, IsAllowed, IsHeldWhileServing, Watch, attach_count, before_loss, down_from_out, fails_on, first_lost, nobody, only, several, watch_all, with_down}
use Rattle.paraid_session.proofs.LayerLemmas.{absent_failed, each_map, first_fails}
use Rattle.paraid_recover.proofs.BaseLemmas.{each_append}
use Rattle.paraid_recover.proofs.DownLemmas.{in_stays, watched_disks}
use Rattle.paraid_event.proofs.ApartLemmas.{fail_not_bad, no_one}
use Rattle.paraid_event.specs.Lost.{IsHaltedFrom, TellsTwo}
use Rattle.paraid_event.specs.Marked.{MarksTakenOut}
use Rattle.paraid_event.specs.Parts.{AreEventCalls, EndsEvent, LosesInEvent, ServesEvent}
use Rattle.paraid_event.specs.Service.{Service}
use Rattle.paraid_image.specs.Lost.{EndsBySecond}
use Rattle.paraid_event.specs.Stands.{IsMidway, ServiceStandsFor, StandsAt}
use Rattle.paraid_event.proofs.EndLemmas.{IsOnly, only_serving}
use Rattle.paraid_event.proofs.FailLemmas.{attach_append, taken_midway}
use Rattle.paraid_event.proofs.LastCallLemmas.{ends_event}
use Rattle.paraid_image.proofs.LostLemmas.{ends_later}
use Rattle.paraid_event.proofs.MarksLemmas.{marked_setup, same_ticks}
use Rattle.paraid_event.proofs.PartLemmas.{part_attaches, part_each, part_failed, part_marks, part_only, part_stands, part_room}
use Rattle.paraid_event.proofs.TurnLemmas.{absent_named, each, fresh_there, once, out_low}
use Rattle.paraid_event.proofs.PreludeLemmas.{after_mark}

-- the calls before the first one that fails
run_append : (s : Disks) (cs ds : List Call) → run s (cs ++ ds) ≡ run (run s cs) ds
run_append s [] ds = refl
run_append s (c ∷ cs) ds = run_append (step c s) cs ds

before_append : (cs ds : List Call) → first_lost cs ≡ None → before_loss (cs ++ ds) ≡ cs ++ before_loss ds
before_append [] ds none = refl
before_append (c ∷ cs) ds none = by (is_done c) none (λ z. before_append cs ds z)
  where
    by : (t : Bool) → (if t then first_lost cs else Some (disk_of c)) ≡ None → (first_lost cs ≡ None → before_loss (cs ++ ds) ≡ cs ++ before_loss ds) → (if t then c ∷ before_loss (cs ++ ds) else []) ≡ c ∷ (cs ++ before_loss ds)
    by true z f = ap (λ (xs : List Call). c ∷ xs) (f z)
    by false z f = let y : Some (disk_of c) ≡ None = z in cc

first_append : (cs ds : List Call) (e : ℕ) → first_lost cs ≡ Some e → first_lost (cs ++ ds) ≡ Some e
first_append [] ds e is = absurd (no_one is)
first_append (c ∷ cs) ds e is = by (is_done c) is (λ z. first_append cs ds e z)
  where
    by : (t : Bool) → (if t then first_lost cs else Some (disk_of c)) ≡ Some e → (first_lost cs ≡ Some e → first_lost (cs ++ ds) ≡ Some e) → (if t then first_lost (cs ++ ds) else Some (disk_of c)) ≡ Some e
    by true z f = f z
    by false z f = z

none_fails : (ds : List Call) (e : ℕ) → fails_on e (before_loss ds) ≡ true → ⊥
none_fails [] e is = false≢true is
none_fails (c ∷ ds) e is = by (is_done c) refl is (λ z. none_fails ds e z)
  where
    inner : (t : Bool) → t ≡ true → (if t then fails_on e (before_loss ds) else (if disk_of c == e then true else fails_on e (before_loss ds))) ≡ true → (fails_on e (before_loss ds) ≡ true → ⊥) → ⊥
    inner true d z f = f z
    inner false d z f = false≢true d

    by : (t : Bool) → is_done c ≡ t → fails_on e (if t then c ∷ before_loss ds else []) ≡ true → (fails_on e (before_loss ds) ≡ true → ⊥) → ⊥
    by true d z f = inner (is_done c) d z f
    by false d z f = false≢true z

through_before : (P : Disks → Type 0) (s : Disks) (ds : List Call) → Through P s ds → P (run s (before_loss ds))
through_before P s [] at = at
through_before P s (c ∷ ds) at = by (is_done c) at.0 (through_before P (step c s) ds at.1)
  where
    by : (t : Bool) → P s → P (run (step c s) (before_loss ds)) → P (run s (if t then c ∷ before_loss ds else []))
    by true here there = there
    by false here there = here

-- fewer writes are kept by a stop
held_less : (slots : ℕ) (s : Disks) (h : History) (lo less : ℕ) (down : Option ℕ) → less ≤ lo → IsHeld slots s h lo down → IsHeld slots s h less down
held_less slots s h lo less down le held = subst (λ (g : History). IsHeld slots s g less down) (append-nil h) (IsHeld-more slots s h [] lo less down le held)

serving_less : (slots : ℕ) (s : Disks) (h : History) (lo less : ℕ) (down : Down) → less ≤ lo → IsHeldWhileServing slots s h lo down → IsHeldWhileServing slots s h less down
serving_less slots s h lo less nobody le held = held_less slots s h lo less None le held
serving_less slots s h lo less (only d) le held = held_less slots s h lo less (Some d) le held
serving_less slots s h lo less several le held = tt

each_less : (slots : ℕ) (h : History) (lo less : ℕ) (b : Bounds) (A : Watch → Call → Type 0) (w : Watch) (cs : List Call) → less ≤ lo → Each (HoldsWhileServing slots h lo b) A w cs → Each (HoldsWhileServing slots h less b) A w cs
each_less slots h lo less b A w cs le all = each_map (HoldsWhileServing slots h lo b) (HoldsWhileServing slots h less b) A A
    (λ v is. record { held = serving_less slots v.disks h lo less v.down le is.held; within = is.within }) (λ v c a. a) w cs all

one_outcome : (outcome : Answer × PowerState) (answer : Answer) (new : PowerState) → Contains (outcome ∷ []) (answer, new) → outcome.0 ≡ answer
one_outcome outcome answer new is = by is.0 is.1 is.2
  where
    by : (x : ℕ) → x < 1 → slice_index_or (outcome ∷ []) x (answer, new) ≡ (answer, new) → outcome.0 ≡ answer
    by zero low at = ap (λ (z : Answer × PowerState). z.0) at
    by (suc x) low at = absurd (omega arith)

capped_own : (u k : ℕ) → u ≡ k → k ≤ 18446744073709551615 → u ≡ min (u + 0) 18446744073709551615
capped_own u k e fits = grind (arith)

below_test : (a b : ℕ) → a < b → nat_lt a b ≡ true
below_test a b l = grind (arith, nat_tests)

equal_test : (a b : ℕ) → a ≡ b → (a == b) ≡ true
equal_test a b same_disk = grind (arith, nat_tests)

module _ (told : Option Trail) (k : Service) (setup : Setup) (p : Point) (at : StandsAt told k setup p) (d : ℕ) (below : d < setup.geometry.disks) (no_out : p.state.out ≡ No) (two : Two) (fit : point_wear p < worn_at) where
  abbrev w0 : Watch
  w0 = record { disks = p.disks; down = only d; spun = p.spun; awaited = p.awaited }

  abbrev b : Bounds
  b = bounds_at setup p p.state

  abbrev all : ℕ
  all = length p.history

  none_named : (e : ℕ) → named_out k.meta.out ≡ Some e → ⊥
  none_named e named = absurd (no_one (sym (ap named_out (sym at.state.out ∙ no_out)) ∙ named))

  mid0 : IsMidway k p.history p.low p.meta w0
  mid0 = record {
    stands = record {
      keeps = at.stands.keeps;
      is_base = at.stands.is_base;
      absent_down = λ e low gone. absurd (none_named e (absent_named told k setup p at e low gone));
      named_down = λ e named. absurd (none_named e named);
      stays = at.stands.stays;
      recorded = at.stands.recorded;
      recorded_next = at.stands.recorded_next;
      awaited = at.stands.awaited;
      ticks = at.stands.ticks;
    };
    named = absent_named told k setup p at;
    low = out_low told k setup p at;
    fresh = fresh_there told k setup p at;
  }

  ticks_fit : k.meta.ticks ≤ b.ticks
  ticks_fit = let e = at.state.ticks in omega (arith, e)

  short : p.low ≤ all
  short = let l = at.stands.keeps.copies.low in let m = at.stands.keeps.copies.high in omega (arith, l, m)

  taken_busy : (answer : Answer) (new : PowerState) → IsUnhurt setup p (Fail d) answer new → makes_no_call answer ≡ false
  unfolding outcomes
  taken_busy answer new is =
      let low = subst (λ (t : Bool). Contains (if t then take_out None p.state d p.state.out else quietly None (NoDisk d) p.state) (answer, new)) (below_test d setup.geometry.disks below) is.among in
      let free = subst (λ (o : Out). Contains (take_out None p.state d o) (answer, new)) no_out low in
      ap makes_no_call (sym (one_outcome (Failed d, after_loss p.state d) answer new free))

  -- the disk is down from the start where it is the first of the two
  abbrev watched_if : Bool → Watch
  watched_if first = record { disks = p.disks; down = if first then with_down d (down_from_out (named_out p.state.out)) else down_from_out (named_out p.state.out); spun = p.spun; awaited = p.awaited }

  asked_first : watched_if true ≡ w0
  asked_first = ap (λ (o : Out). record { disks = p.disks; down = with_down d (down_from_out (named_out o)); spun = p.spun; awaited = p.awaited }) no_out

  abbrev Held : Watch → List Call → Type 0
  Held = Each (HoldsWhileServing k.slots p.history p.low b) (IsAllowed setup None)

  asked_each : (cs : List Call) → AreEventCalls k p.history p.low p.meta p.disks cs → Held w0 cs
  asked_each cs part = part_each k p.history p.low p.meta w0 mid0 cs part b at.same_setup ticks_fit (omega arith) None

  ends_session : (cs : List Call) → IsFirstDown k.slots setup p (Fail d) cs two.first → EndsBySecond two cs → two.first ≢ two.second → Held (watched_if (two.first == d)) cs → attach_count cs ≤ 1
      → LosesSecondDisk k.slots setup p (Fail d) two cs (record p { disks = run p.disks cs; halt = Some (HaltTwo two) })
  ends_session cs first ends apart moments attaches = record {
    fit = fit;
    first = first;
    apart = apart;
    ends = ends_event k.slots setup p (Fail d) two cs first ends;
    busy = taken_busy;
    moments = moments;
    once = attaches;
    disks = refl;
    history = refl;
    gear = same refl;
    energy = own (capped_own p.energy k.energy at.energy at.fits);
    halted = refl;
  }

  -- in the commit of what is staged
  staged_turn : (cs : List Call) → AreEventCalls k p.history p.low p.meta p.disks cs → TellsTwo k two p.disks cs
      → LosesSecondDisk k.slots setup p (Fail d) two cs (record p { disks = run p.disks cs; halt = Some (HaltTwo two) })
  staged_turn cs part tells = ends_session cs first tells.ends tells.apart (moments (two.first == d)) (once told k setup p at cs part)
    where
      first : IsFirstDown k.slots setup p (Fail d) cs two.first
      first = elim tells.first [ inl was ↦ absurd (none_named two.first was) | inr none ↦ lost (ap named_out no_out) none.1 ]

      moments : (t : Bool) → Held (watched_if t) cs
      moments true = subst (λ (w : Watch). Held w cs) (sym asked_first) (asked_each cs part)
      moments false = each told k setup p at cs part None (omega arith)

  pub staged_lost : (told_then : Option Trail) → Ran told told_then (λ s cs. LosesInEvent k p.history p.low s cs × TellsTwo k two s cs)
      → Ran told told_then (GoesOn k.slots setup p (Fail d) (Halted (HaltTwo two)) (IsHaltedFrom p (HaltTwo two)))
  staged_lost told_then ran t tells =
      let r = ran t tells in
      let from : now r.from ≡ p.disks = at.disks r.from r.was in
      let holds = subst (λ (s : Disks). LosesInEvent k p.history p.low s r.calls × TellsTwo k two s r.calls) from r.holds in
      let part = subst (λ (m : Meta). AreEventCalls k p.history p.low m p.disks r.calls) at.stands.is_base (holds.0 at.stands.keeps) in
      record {
        from = r.from;
        was = r.was;
        calls = r.calls;
        is = r.is;
        holds = (
          record p { disks = run p.disks r.calls; halt = Some (HaltTwo two) },
          second_loss two at.going (λ e. fail_not_bad e) refl (staged_turn r.calls part holds.1),
          refl,
        );
      }

  -- in the commit of the mark
  module _ (k1 k2 : Service) (marks : MarksTakenOut k k1 k2 d) where
    module _ (cs : List Call) (part : AreEventCalls k p.history p.low p.meta p.disks cs) (ends : EndsEvent k k1 p.history all p.disks cs) where
      abbrev v1 : Watch
      v1 = watch_all cs w0

      only1 : IsOnly (Some d) v1.down
      only1 = part_only k p.history p.low p.meta w0 mid0 cs part k1 p.history all ends (Some d) refl (λ e named. ap (λ (x : ℕ). Some x) (sym (marks.alone e named)))

      mid1 : IsMidway k1 p.history all ends.keeps.base v1
      mid1 = part_stands k p.history p.low p.meta w0 mid0 cs part k1 p.history all ends all (omega arith) (only_serving (Some d) v1.down only1)

      setup1 : k1.meta.setup ≡ setup
      setup1 = marked_setup v1.disks.power k.meta k1.meta (part_marks k p.history p.low p.meta w0 mid0 cs part k1 p.history all ends) ∙ at.same_setup

      module _ (keeps : ServiceStandsFor k2 p.history all v1.disks) where
        meta2 : k2.meta ≡ meta_after_loss k1.meta d
        meta2 = ap (λ (z : Service). z.meta) marks.mark

        mid2 : IsMidway k2 p.history all ends.keeps.base v1
        mid2 = taken_midway k1 k2 p.history all ends.keeps.base v1 d mid1 marks.mark marks.alone (subst (λ (z : Setup). d < z.geometry.disks) (sym setup1) below) (in_stays w0 cs d refl)
            (subst (λ (z : Service). ServiceStandsFor z p.history all v1.disks) marks.mark keeps)

        named2 : named_out k2.meta.out ≡ Some d
        named2 = ap (λ (m : Meta). named_out m.out) meta2

        slots2 : k2.slots ≡ k.slots
        slots2 = ap (λ (z : Service). z.slots) marks.mark ∙ marks.slots

        module _ (ds : List Call) (part2 : AreEventCalls k2 p.history all ends.keeps.base v1.disks ds) (tells : TellsTwo k2 two v1.disks ds) where
          first_is : two.first ≡ d
          first_is = elim tells.first [
            | inl was ↦ let z : Some two.first ≡ Some d = sym was ∙ named2 in let same_disk : two.first ≡ d = cc in same_disk
            | inr none ↦ absurd (no_one (sym none.0 ∙ named2))
          ]

          each2 : Held v1 ds
          each2 = subst (λ (n : ℕ). Each (HoldsWhileServing n p.history p.low b) (IsAllowed setup None) v1 ds) slots2
              (each_less k2.slots p.history all p.low b (IsAllowed setup None) v1 ds short
              (part_each k2 p.history all ends.keeps.base v1 mid2 ds part2 b (ap (λ (m : Meta). m.setup) meta2 ∙ setup1) ticks2 epoch2 None))
            where
              ticks2 : k2.meta.ticks ≤ b.ticks
              ticks2 =
                  let e = ap (λ (m : Meta). m.ticks) meta2 in
                  let f = same_ticks v1.disks.power k.meta k1.meta (part_marks k p.history p.low p.meta w0 mid0 cs part k1 p.history all ends) in
                  let g = ticks_fit in
                  omega (arith, e, f, g)

              epoch1 : ends.keeps.base.epoch ≤ p.meta.epoch + 1
              epoch1 = part_room k p.history p.low p.meta w0 mid0 cs part k1 p.history all ends (only_serving (Some d) v1.down only1)

              epoch2 : ends.keeps.base.epoch + 1 ≤ b.epoch
              epoch2 = let e = epoch1 in omega (arith, e)

          -- all writes are kept before a call fails
          held_before : first_lost cs ≡ None → IsHeld k.slots (run p.disks (before_loss (cs ++ ds))) p.history all (Some d)
          held_before none = subst (λ (s : Disks). IsHeld k.slots s p.history all (Some d)) (sym there)
              (subst (λ (n : ℕ). IsHeld n (run v1.disks (before_loss ds)) p.history all (Some d)) slots2
              ((through_before (IsHeldWithOneMissing k2.slots k2.meta.setup.geometry.disks part2.out p.history all) v1.disks ds part2.held).held (Some d) absent_is out_is))
            where
              there : run p.disks (before_loss (cs ++ ds)) ≡ run v1.disks (before_loss ds)
              there = ap (run p.disks) (before_append cs ds none) ∙ run_append p.disks cs (before_loss ds) ∙ ap (λ (s : Disks). run s (before_loss ds)) (sym (watched_disks w0 cs))

              absent_is : (e : ℕ) → e < k2.meta.setup.geometry.disks → is_present ((run v1.disks (before_loss ds)).power e) ≡ false → Some d ≡ Some e
              absent_is e low gone = elim (absent_failed v1.disks (before_loss ds) e gone) [
                | inl before ↦ sym named2 ∙ mid2.named e low before
                | inr failed ↦ absurd (none_fails ds e failed)
              ]

              out_is : (e : ℕ) → part2.out ≡ Some e → Some d ≡ Some e
              out_is e is = sym named2 ∙ elim (part2.is_out e is) [ inl was ↦ mid2.stands.stays e was | inr now_named ↦ now_named ]

          first : IsFirstDown k.slots setup p (Fail d) (cs ++ ds) d
          first = by (first_lost cs) refl
            where
              by : (o : Option ℕ) → first_lost cs ≡ o → IsFirstDown k.slots setup p (Fail d) (cs ++ ds) d
              by None is = taken (ap named_out no_out) refl below (held_before is)
              by (Some e) is =
                  let one : e ≡ d = marks.alone e (part_failed k p.history p.low p.meta w0 mid0 cs part k1 p.history all ends e (first_fails cs e is)) in
                  lost (ap named_out no_out) (first_append cs ds d (is ∙ ap (λ (x : ℕ). Some x) one))

          moments : Held (watched_if (two.first == d)) (cs ++ ds)
          moments = subst (λ (w : Watch). Held w (cs ++ ds)) (sym (ap watched_if (equal_test two.first d first_is) ∙ asked_first))
              (each_append (HoldsWhileServing k.slots p.history p.low b) (IsAllowed setup None) w0 cs ds (asked_each cs part) each2)

          marked_turn : LosesSecondDisk k.slots setup p (Fail d) two (cs ++ ds) (record p { disks = run p.disks (cs ++ ds); halt = Some (HaltTwo two) })
          marked_turn = ends_session (cs ++ ds) (subst (IsFirstDown k.slots setup p (Fail d) (cs ++ ds)) (sym first_is) first)
              (ends_later two cs ds (λ e fails. marks.alone e (part_failed k p.history p.low p.meta w0 mid0 cs part k1 p.history all ends e fails) ∙ sym first_is) tells.ends) tells.apart moments
              (let a = attach_append cs ds (part_attaches k p.history p.low p.meta w0 mid0 cs part) (part_attaches k2 p.history all ends.keeps.base v1 mid2 ds part2) in omega (arith, a))

    pub marked_lost : (mid told_then : Option Trail) → Ran told mid (ServesEvent k k1 p.history p.low p.history all) → ((t : Trail) → mid ≡ Some t → ServiceStandsFor k1 p.history all (now t) → ServiceStandsFor k2 p.history all (now t))
        → Ran mid told_then (λ s cs. LosesInEvent k2 p.history all s cs × TellsTwo k2 two s cs) → Ran told told_then (GoesOn k.slots setup p (Fail d) (Halted (HaltTwo two)) (IsHaltedFrom p (HaltTwo two)))
    marked_lost mid told_then first_ran mark second_ran =
        after_mark told k k1 k2 setup p at (only d) all all mid1 mid told_then (λ s cs. LosesInEvent k2 p.history all s cs × TellsTwo k2 two s cs) (GoesOn k.slots setup p (Fail d) (Halted (HaltTwo two)) (IsHaltedFrom p (HaltTwo two)))
        first_ran mark second_ran
        (λ cs part ends keeps same_meta ds holds end. (
          record p { disks = run p.disks (cs ++ ds); halt = Some (HaltTwo two) },
          second_loss two at.going (λ e. fail_not_bad e) refl
              (marked_turn cs part ends keeps ds (subst (λ (m : Meta). AreEventCalls k2 p.history all m (watch_all cs w0).disks ds) same_meta (holds.0 keeps)) holds.1),
          refl,
        ))
