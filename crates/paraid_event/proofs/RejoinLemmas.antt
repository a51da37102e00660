-- A disk that is rebuilt comes back by a commit, in the middle of an event in which it is down.
use Rattle.std.proofs.Common.{◌≡◌, ◌≢◌, ℕ, ◌+◌, ◌<◌, ◌≤◌, ◌⊎◌, Bool, true, false, List, [], ◌∷◌, ◌++◌, Option, Some, None, refl, sym, ap, ◌∙◌, inl, inr, subst, arith, if◌then◌else◌}
use Rattle.std.proofs.lemmas.Bool.{false≢true}
use Rattle.paraid_base.specs.declared.state.Out.TheVariants.{No, Fresh}
use Rattle.paraid_base.specs.declared.state.Phase.{Phase}
use Rattle.paraid_base.specs.declared.state.Phase.TheVariants.{Steady, Down as PhaseDown, Up}
use Rattle.paraid_base.specs.History.{History}
use Rattle.paraid_base.specs.States.{gone_out, named_out, phase_beside}
use Rattle.paraid_rack.specs.declared.call.Call.{Call}
use Rattle.paraid_rack.specs.declared.call.Power.TheVariants.{Spinning}
use Rattle.paraid_rack.specs.Disks.{Disks, IsPresent, is_present, step}
use Rattle.paraid_rack.specs.Trail.{run}
use Rattle.paraid_record.specs.declared.meta.Meta.{Meta}
use Rattle.paraid_record.specs.declared.meta.Setup.{Setup}
use Rattle.paraid_image.specs.Calls.{is_attach}
use Rattle.paraid_image.specs.Looked.IsLooked.{whole}
use Rattle.paraid_image.specs.Power.{power_by_gear}
use Rattle.paraid_image.specs.Spins.{made_spin_ups}
use Rattle.paraid_image.specs.Sides.{closed_over}
use Rattle.paraid_core.specs.Calls.{IsDataCall, IsTransferCall}
use Rattle.paraid_moves.specs.MoveMetas.{meta_with_out}
use Rattle.paraid_session.specs.Watch.{Bounds, Each, HoldsWhileServing, IsAllowed, IsAmongDown, IsServing, Watch, attach_count, fails_on, watch_all}
use Rattle.paraid_recover.specs.RecordedSpins.{StaysWithinAt}
use Rattle.paraid_recover.proofs.BaseLemmas.{each_append}
use Rattle.paraid_recover.proofs.CallsLemmas.{each_map as each_call_map}
use Rattle.paraid_recover.proofs.DownLemmas.{watched_disks}
use Rattle.paraid_recover.proofs.SpinsLemmas.{same_used}
use Rattle.paraid_txn.specs.Commit.{IsOldOrNew}
use Rattle.paraid_rack.specs.Told.{Through}
use Rattle.paraid_txn.specs.Uses.{EachCall}
use Rattle.paraid_event.proofs.ApartLemmas.{no_one, none_not_fresh}
use Rattle.paraid_event.specs.Marks.{IsMarkedBy, ShowsMeta}
use Rattle.paraid_event.specs.Parts.{AreEventCalls, BringsMeta, EndsEvent, committed_meta}
use Rattle.paraid_event.specs.Parts.BringsMeta.{commit, nothing}
use Rattle.paraid_session.specs.Ups.{spin_up_count}
use Rattle.std.specs.Prelude.{slice_index}
use Rattle.paraid_event.proofs.UpLemmas.{made_most, none_up, up_append}
use Rattle.paraid_event.specs.Service.{Service}
use Rattle.paraid_event.specs.Stands.{IsMidway, IsRecordedBy, ServiceStandsFor, StandsIn}
use Rattle.paraid_event.specs.Steps.{AreStepCalls, GoesInSteps, IsOnly, IsUnderway, made_by}
use Rattle.paraid_event.proofs.ChainLemmas.{Follows, FollowsLog, commit_within_by, data_transfer, data_within, follows_log_step, kept_end, next_stands, no_attach, only_base, start_follows_log, transfer_each}
use Rattle.paraid_event.proofs.EndLemmas.{end_follows, failed_absent, fails_below, only_end, only_serving, self_image, stays_off, through_last}
use Rattle.paraid_event.proofs.FailLemmas.{attach_append, watch_append}
use Rattle.paraid_event.proofs.MarksLemmas.{marked_gear, marked_setup, marked_used, out_named, same_ticks, still_shown, same_spins}
use Rattle.paraid_event.proofs.TurnLemmas.{moved_less}
use Rattle.paraid_event.proofs.PreludeLemmas.{same_base}

beside_none : (phase : Phase) → phase_beside false phase ≡ phase
beside_none Steady = refl
beside_none (PhaseDown to) = refl
beside_none (Up to) = refl

attached : (is_it : Bool) (count : ℕ) → is_it ≡ false → (if is_it then count + 1 else count) ≡ count
attached true count is = let z : true ≡ false = is in cc
attached false count is = refl

no_attaches : (n : ℕ) (o : Option ℕ) (s : Disks) (cs : List Call) → EachCall (IsTransferCall n o) s cs → attach_count cs ≡ 0
no_attaches n o s [] made = refl
no_attaches n o s (c ∷ cs) made = attached (is_attach c) (attach_count cs) (no_attach c made.1.2) ∙ no_attaches n o (step c s) cs made.2

-- calls of parts of an event, and more of them under the meta that stands then
pub calls_then : (k j : Service) (h : History) (lo most more : ℕ) (base base_then : Meta) (w : Watch) (cs ds : List Call) → j.slots ≡ k.slots → j.meta.setup ≡ k.meta.setup → j.meta.ticks ≡ k.meta.ticks → base_then.epoch ≤ base.epoch + most → AreStepCalls k h lo most base w cs
    → AreStepCalls j h lo more base_then (watch_all cs w) ds → AreStepCalls k h lo (most + more) base w (cs ++ ds)
calls_then k j h lo most more base base_then w cs ds slots setup_is ticks_are room one two = record {
  moments = λ b asked setup ticks within. each_append (HoldsWhileServing k.slots h lo b) (IsAllowed b.setup asked) w cs ds
      (one.moments b asked setup ticks (omega (arith, within)))
      (subst (λ (n : ℕ). Each (HoldsWhileServing n h lo b) (IsAllowed b.setup asked) (watch_all cs w) ds) slots
      (two.moments b asked (setup_is ∙ setup) (omega (arith, ticks, ticks_are)) (omega (arith, within, room))));
  attaches = attach_append cs ds one.attaches two.attaches;
}

-- In the middle of an event disk `d` alone is down, and no other one is out; while it is there it spins, and the disks show the
-- meta in memory.
pub record IsBack (k : Service) (h : History) (lo d : ℕ) (base : Meta) (w : Watch) : Type 0 where
  pub midway : IsMidway k h lo base w
  pub only : IsOnly (Some d) w.down
  pub shown : ShowsMeta w.disks.power base k.meta
  pub low : d < k.meta.setup.geometry.disks
  pub alone : (e : ℕ) → named_out k.meta.out ≡ Some e → e ≡ d
  pub powers : (e : ℕ) → e < k.meta.setup.geometry.disks → e ≢ d → w.disks.power e ≡ power_by_gear k.meta.gear k.meta.phase e
  pub spins : IsPresent w.disks d → w.disks.power d ≡ Spinning

-- Parts of an event go from a watch on to where disk `d` is back, or lost again.
pub record GoesBack (k back : Service) (h : History) (lo most d : ℕ) (base : Meta) (w : Watch) (cs : List Call) : Type 0 where
  pub calls : AreStepCalls k h lo most base w cs
  pub slots : back.slots ≡ k.slots
  pub setup : back.meta.setup ≡ k.meta.setup
  pub ticks : back.meta.ticks ≡ k.meta.ticks
  pub base_then : Meta
  pub room : base_then.epoch ≤ base.epoch + most
  pub brought : base_then.ticks ≡ back.meta.ticks
  pub ends : IsBack back h lo d base_then (watch_all cs w)
  pub used : (e : ℕ) → e < k.meta.setup.geometry.disks → spin_up_count e cs + made_by k.meta w.disks.power e ≤ slice_index back.meta.spins e

-- so do others before them
pub back_after : (i k back : Service) (h : History) (lo most more d : ℕ) (base : Meta) (w : Watch) (cs ds : List Call) (first : GoesInSteps i k h lo most (IsUnderway k h lo) base w cs) → GoesBack k back h lo more d first.base_then (watch_all cs w) ds
    → GoesBack i back h lo (most + more) d base w (cs ++ ds)
back_after i k back h lo most more d base w cs ds first second = record {
  calls = calls_then i k h lo most more base first.base_then w cs ds first.leaves.slots first.leaves.setup first.leaves.ticks first.room first.calls second.calls;
  slots = second.slots ∙ first.leaves.slots;
  setup = second.setup ∙ first.leaves.setup;
  ticks = second.ticks ∙ first.leaves.ticks;
  base_then = second.base_then;
  room = let r = first.room in let s = second.room in omega (arith, r, s);
  brought = second.brought;
  ends = subst (IsBack back h lo d second.base_then) (sym (watch_append cs ds w)) second.ends;
  used = λ e low.
      let a = first.leaves.used e low in
      let b = second.used e (subst (λ (z : Setup). e < z.geometry.disks) (sym first.leaves.setup) low) in
      let f = up_append e cs ds in
      omega (arith, a, b, f);
}

-- From where the event is underway the disk is back in memory.
module _ (copied : Service) (d u : ℕ) (h : History) (lo : ℕ) (base : Meta) (w : Watch) (at : IsUnderway copied h lo base w) (is_fresh : copied.meta.out ≡ Fresh d u) where
  abbrev j : Service
  j = record copied { meta = meta_with_out copied.meta No }

  abbrev n : ℕ
  n = copied.meta.setup.geometry.disks

  abbrev next : Meta
  next = committed_meta j

  stands : StandsIn copied h lo base w
  stands = at.midway.stands

  named : named_out copied.meta.out ≡ Some d
  named = ap named_out is_fresh

  none_gone : gone_out copied.meta.out ≡ None
  none_gone = ap gone_out is_fresh

  low : d < n
  low = at.midway.low d named

  there : IsPresent w.disks d
  there = at.midway.fresh d u is_fresh

  next_down : (e : ℕ) → named_out next.out ≡ Some e → IsAmongDown w.down e
  next_down e is = absurd (no_one is)

  -- the spin-ups of each disk are recorded, also of the one that is back
  next_recorded : (e : ℕ) → e < n → IsRecordedBy next w e
  next_recorded e below here not = stands.recorded_next e below here (λ gone. absurd (no_one (sym none_gone ∙ gone)))

  next_epoch : next.epoch ≤ base.epoch + 1
  next_epoch = let e = stands.keeps.epoch in let z = ap (λ (m : Meta). m.epoch) stands.is_base in omega (arith, e, z)

  -- no disk is absent
  none_absent : (e : ℕ) → e < n → is_present (w.disks.power e) ≡ false → ⊥
  none_absent e below off =
      let z : Some d ≡ Some e = sym named ∙ at.midway.named e below off in
      let same_disk : d ≡ e = cc in
      false≢true (sym off ∙ subst (IsPresent w.disks) same_disk there)

  -- That is committed.
  module _ (keeps : ServiceStandsFor j h lo w.disks) (cs : List Call) (part : AreEventCalls j h lo keeps.base w.disks cs) where
    same : keeps.base ≡ base
    same = same_base copied j h h lo lo w.disks stands.keeps keeps ∙ stands.is_base

    calls_by : BringsMeta j keeps.base w.disks cs → EachCall (IsTransferCall n None) w.disks cs
    calls_by (nothing data_calls) = each_call_map (IsDataCall n None) (IsTransferCall n None) (λ c is. data_transfer n None c is) w.disks cs data_calls
    calls_by (commit all through) = all

    calls : EachCall (IsTransferCall n (gone_out copied.meta.out)) w.disks cs
    calls = subst (λ (o : Option ℕ). EachCall (IsTransferCall n o) w.disks cs) (sym none_gone) (calls_by part.brings)

    outs : (e : ℕ) → part.out ≡ Some e → (e < n) × IsAmongDown w.down e
    outs e is = elim (part.is_out e is) [
      | inl was ↦ let is_named = stands.stays e was in (at.midway.low e is_named, stands.named_down e is_named)
      | inr now_named ↦ absurd (no_one now_named)
    ]

    within : (b : Bounds) → copied.meta.setup ≡ b.setup → copied.meta.ticks ≤ b.ticks → base.epoch + 1 ≤ b.epoch → BringsMeta j keeps.base w.disks cs → Each (StaysWithinAt b w.spun w.disks) (λ (v : Watch) (c : Call). Unit {0}) w cs
    within b setup ticks room (nothing data_calls) = data_within copied h lo base w stands b setup ticks cs (omega (arith, room)) (subst (λ (o : Option ℕ). EachCall (IsDataCall n o) w.disks cs) (sym none_gone) data_calls)
    within b setup ticks room (commit all through) = commit_within_by copied h lo base w stands next copied.batch refl next_down next_recorded b setup ticks ticks next_epoch cs room calls
        (subst (λ (m : Meta). Through (IsOldOrNew w.disks m next copied.batch) w.disks cs) same through)

    -- what a session asks of each moment of it
    pub rejoin_calls : AreStepCalls copied h lo 1 base w cs
    rejoin_calls = record {
      moments = λ b asked setup ticks room. transfer_each copied h lo base w stands b setup ticks asked cs part.out h lo outs calls part.held (within b setup ticks room part.brings);
      attaches = no_attaches n (gone_out copied.meta.out) w.disks cs calls;
    }

    module _ (back : Service) (lo_then : ℕ) (le : lo ≤ lo_then) (ends : EndsEvent j back h lo_then w.disks cs) (alone : (e : ℕ) → named_out back.meta.out ≡ Some e → e ≡ d) (slots : back.slots ≡ copied.slots) (more : back.meta.epoch ≡ copied.meta.epoch + 1) where
      abbrev v : Watch
      v = watch_all cs w

      marks : IsMarkedBy v.disks.power j.meta back.meta
      marks = subst (λ (s : Disks). IsMarkedBy s.power j.meta back.meta) (sym (watched_disks w cs)) ends.marks

      follows : Follows n w v
      follows = end_follows copied back h h lo lo_then base w stands cs calls

      setup_is : back.meta.setup ≡ copied.meta.setup
      setup_is = marked_setup v.disks.power j.meta back.meta marks

      below : (e : ℕ) → e < back.meta.setup.geometry.disks → e < n
      below e is = subst (λ (z : Setup). e < z.geometry.disks) setup_is is

      failed : (e : ℕ) → fails_on e cs ≡ true → e ≡ d
      failed e is = alone e (marks.named e (fails_below n (gone_out copied.meta.out) w.disks cs e calls is) (failed_absent n (gone_out copied.meta.out) w cs e calls is))

      only_w : IsOnly (Some d) w.down
      only_w = subst (λ (o : Option ℕ). IsOnly o w.down) named at.only

      only_v : IsOnly (Some d) v.down
      only_v = only_end (Some d) w cs only_w (λ e is. ap (λ (x : ℕ). Some x) (sym (failed e is)))

      serving : IsServing v.down
      serving = only_serving (Some d) v.down only_v

      off : (e : ℕ) → is_present (w.disks.power e) ≡ false → is_present (v.disks.power e) ≡ false
      off e is = stays_off n (gone_out copied.meta.out) w cs e calls is

      moved_keeps : (y : ServiceStandsFor back h lo v.disks) × (y.base ≡ ends.keeps.base)
      moved_keeps = moved_less back h lo_then lo (run w.disks cs) v.disks (sym (watched_disks w cs)) le ends.keeps

      abbrev image : Disks
      image = record v.disks { loose = λ e p. false }

      -- which meta stands
      stood_by : BringsMeta j keeps.base w.disks cs → (moved_keeps.0.base ≡ base) ⊎ (moved_keeps.0.base ≡ next)
      stood_by (nothing data_calls) =
          let f = kept_end (IsDataCall n None) (FollowsLog n w) (λ x c lawful is g. follows_log_step n w x c is.2 g) w cs data_calls (start_follows_log copied h lo base w stands) in
          let i = moved_keeps.0.copies.copying image (self_image v.disks) in
          inl (only_base copied h lo base w stands v f serving i.disk image (closed_over moved_keeps.0.base) (whole (self_image v.disks)) i.log.stands)
      stood_by (commit all through) =
          let old = subst (IsOldOrNew w.disks base next copied.batch) (sym (watched_disks w cs))
          (through_last (IsOldOrNew w.disks base next copied.batch) w.disks cs (subst (λ (m : Meta). Through (IsOldOrNew w.disks m next copied.batch) w.disks cs) same through)) in
          let i = moved_keeps.0.copies.copying image (self_image v.disks) in
          next_stands copied h lo base w stands next copied.batch refl next_down v follows old serving i.disk image (closed_over moved_keeps.0.base) (whole (self_image v.disks)) i.log.stands

      base_is : moved_keeps.0.base ≡ next
      base_is = elim (stood_by part.brings) [
        | inl was ↦ absurd (let a = moved_keeps.0.epoch in let b = stands.keeps.epoch in let c = ap (λ (m : Meta). m.epoch) stands.is_base in let e = ap (λ (m : Meta). m.epoch) was in omega (arith, a, b, c, e, more))
        | inr new ↦ new
      ]

      after_spun : (e : ℕ) → e < n → IsPresent v.disks e → v.spun e ≤ made_spin_ups j.meta v.disks.power e
      after_spun e is here =
          let power = follows.power e here in
          let count = follows.spun e in
          let was : w.spun e ≤ made_spin_ups j.meta w.disks.power e = next_recorded e is (ap is_present (sym power) ∙ here) (λ gone. absurd (no_one gone)) in
          let used = same_used j.meta v.disks.power w.disks.power e power in
          omega (arith, count, was, used)

      midway : IsMidway back h lo moved_keeps.0.base v
      midway = record {
        stands = record {
          keeps = moved_keeps.0;
          is_base = refl;
          absent_down = λ e is gone. follows.absent e (below e is) gone;
          named_down = λ e is. subst (IsAmongDown v.down) (sym (alone e is)) (follows.down d (stands.named_down d named));
          stays = λ e said. absurd (no_one (ap (λ (m : Meta). named_out m.out) (sym base_is) ∙ moved_keeps.0.named_by ∙ said));
          recorded = λ e is here not.
              let was = after_spun e (below e is) here in
              let used : made_spin_ups moved_keeps.0.base v.disks.power e ≡ made_spin_ups j.meta v.disks.power e = ap (λ (m : Meta). made_spin_ups m v.disks.power e) base_is in
              omega (arith, was, used);
          recorded_next = λ e is here not.
              let was = after_spun e (below e is) here in
              let used = marked_used v.disks.power j.meta back.meta marks v.disks.power e in
              omega (arith, was, used);
          awaited = λ e is. absurd (no_one (sym none_gone ∙ stands.awaited e (sym follows.awaited ∙ is)));
          ticks =
              let e : moved_keeps.0.base.ticks ≡ copied.meta.ticks = ap (λ (m : Meta). m.ticks) base_is in
              let f : back.meta.ticks ≡ copied.meta.ticks = same_ticks v.disks.power j.meta back.meta marks in
              omega (arith, e, f);
        };
        named = λ e is gone. marks.named e (below e is) gone;
        low = λ e is. subst (λ (x : ℕ). x < back.meta.setup.geometry.disks) (sym (alone e is)) (subst (λ (z : Setup). d < z.geometry.disks) (sym setup_is) low);
        fresh = λ e r is. marks.fresh e r is;
      }

      next_shown : ShowsMeta w.disks.power next j.meta
      next_shown = record {
        gear = refl;
        out = out_named w.disks.power next No refl (λ e is gone. absurd (none_absent e is gone)) (λ e r is. absurd (none_not_fresh is));
        phase = beside_none copied.meta.phase;
        fill = refl;
        spins = refl;
      }

      shown : ShowsMeta v.disks.power moved_keeps.0.base back.meta
      shown = subst (λ (m : Meta). ShowsMeta v.disks.power m back.meta) (sym base_is) (still_shown v.disks.power j.meta back.meta marks next w.disks.power refl next_shown off)

      powers : (e : ℕ) → e < back.meta.setup.geometry.disks → e ≢ d → v.disks.power e ≡ power_by_gear back.meta.gear back.meta.phase e
      powers e is apart = by (is_present (v.disks.power e)) refl
        where
          by : (t : Bool) → is_present (v.disks.power e) ≡ t → v.disks.power e ≡ power_by_gear back.meta.gear back.meta.phase e
          by false gone = absurd (apart (alone e (marks.named e (below e is) gone)))
          by true here = follows.power e here
              ∙ at.powered.by_gear e (below e is) (λ e_named. let z : Some d ≡ Some e = sym named ∙ e_named in apart (let same_disk : e ≡ d = cc in same_disk))
              ∙ sym (marked_gear v.disks.power j.meta back.meta marks e)

      pub rejoined : GoesBack copied back h lo 1 d base w cs
      rejoined = record {
        calls = rejoin_calls;
        slots = slots;
        setup = setup_is;
        ticks = same_ticks v.disks.power j.meta back.meta marks;
        base_then = moved_keeps.0.base;
        room = let e = ap (λ (m : Meta). m.epoch) base_is in let f = next_epoch in omega (arith, e, f);
        brought = ap (λ (m : Meta). m.ticks) base_is ∙ sym (same_ticks v.disks.power j.meta back.meta marks);
        used = λ e below_n.
            let a = none_up n (gone_out copied.meta.out) w.disks cs e calls in
            let b = made_most copied.meta w.disks.power e in
            let f : slice_index back.meta.spins e ≡ slice_index copied.meta.spins e = ap (λ (l : List ℕ). slice_index l e) (same_spins v.disks.power j.meta back.meta marks) in
            omega (arith, a, b, f);
        ends = record {
          midway = midway;
          only = only_v;
          shown = shown;
          low = subst (λ (z : Setup). d < z.geometry.disks) (sym setup_is) low;
          alone = alone;
          powers = powers;
          spins = λ here. follows.power d here ∙ at.powered.fresh d u is_fresh;
        };
      }
