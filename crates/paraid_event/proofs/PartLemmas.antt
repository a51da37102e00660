-- One part of an event after another: calls of the core between marks.
use Rattle.std.proofs.Common.{◌≡◌, ℕ, ◌+◌, ◌<◌, ◌≤◌, ◌⊎◌, Bool, true, false, List, [], ◌∷◌, Option, Some, None, refl, sym, ap, ◌∙◌, inl, inr, subst, arith, if◌then◌else◌}
use Rattle.paraid_base.specs.declared.state.Out.{Out}
use Rattle.paraid_base.specs.declared.state.Out.TheVariants.{No, Gone, Fresh}
use Rattle.paraid_base.specs.History.{History}
use Rattle.paraid_base.specs.States.{gone_out, has_out, named_out, phase_beside}
use Rattle.paraid_rack.specs.declared.call.Call.{Call}
use Rattle.paraid_rack.specs.Disks.{Disks, is_present, step}
use Rattle.paraid_rack.specs.Trail.{run}
use Rattle.paraid_record.specs.declared.meta.Meta.{Meta}
use Rattle.paraid_record.specs.declared.meta.Setup.{Setup}
use Rattle.paraid_image.specs.Calls.{is_attach}
use Rattle.std.proofs.lemmas.Bool.{false≢true}
use Rattle.paraid_image.specs.Power.{PowerState}
use Rattle.paraid_machine.specs.Moves.{after_loss}
use Rattle.paraid_core.specs.Calls.{IsDataCall, IsTransferCall}
use Rattle.paraid_session.specs.Watch.{Bounds, Each, HoldsWhileServing, IsAllowed, IsAmongDown, IsServing, Watch, attach_count, fails_on, first_lost, watch_all}
use Rattle.paraid_session.proofs.LayerLemmas.{absent_failed, fails_first, first_fails}
use Rattle.paraid_recover.specs.RecordedSpins.{StaysWithinAt}
use Rattle.paraid_recover.proofs.CallsLemmas.{each_map as each_call_map}
use Rattle.paraid_recover.proofs.DownLemmas.{watched_disks}
use Rattle.paraid_txn.specs.Uses.{EachCall}
use Rattle.paraid_event.proofs.ApartLemmas.{no_one}
use Rattle.paraid_event.specs.Marks.{ArePoweredByGear, IsMarkedBy, ShowsMeta}
use Rattle.paraid_event.specs.Parts.{AreEventCalls, BringsMeta, EndsEvent, committed_meta}
use Rattle.paraid_event.specs.Parts.BringsMeta.{commit, nothing}
use Rattle.paraid_event.specs.Service.{IsStateOf, Service}
pub use Rattle.paraid_event.specs.Steps.{IsSettled}
use Rattle.paraid_event.specs.Stands.{IsMidway, ServiceStandsFor, StandsIn}
use Rattle.paraid_event.proofs.ChainLemmas.{base_setup, commit_within, data_transfer, data_within, no_attach, transfer_each}
use Rattle.paraid_event.proofs.EndLemmas.{IsOnly, data_base, end_base, end_follows, end_stands, failed_absent, fails_below, only_end, stays_off}
use Rattle.paraid_event.proofs.MarksLemmas.{again, if_again, kept_fill, kept_out, kept_phase, lost_fill, lost_out, lost_phase, marked_setup, same_gear, same_spins, same_ticks, newly_named, out_named, still_powered, still_shown}
use Rattle.paraid_event.proofs.TurnLemmas.{moved_less, state_after}

attached : (is_it : Bool) (count : ℕ) → is_it ≡ false → (if is_it then count + 1 else count) ≡ count
attached true count is = let z : true ≡ false = is in cc
attached false count is = refl

module _ (k : Service) (h : History) (lo : ℕ) (base : Meta) (w : Watch) (at : IsMidway k h lo base w) (cs : List Call) (part : AreEventCalls k h lo base w.disks cs) where
  abbrev v : Watch
  v = watch_all cs w

  abbrev n : ℕ
  n = k.meta.setup.geometry.disks

  calls_by : BringsMeta k base w.disks cs → EachCall (IsTransferCall n (gone_out k.meta.out)) w.disks cs
  calls_by (nothing data_calls) = each_call_map (IsDataCall n (gone_out k.meta.out)) (IsTransferCall n (gone_out k.meta.out)) (λ c is. data_transfer n (gone_out k.meta.out) c is) w.disks cs data_calls
  calls_by (commit all through) = all

  pub part_calls : EachCall (IsTransferCall n (gone_out k.meta.out)) w.disks cs
  part_calls = calls_by part.brings

  outs : (d : ℕ) → part.out ≡ Some d → (d < n) × IsAmongDown w.down d
  outs d is =
      let named : named_out k.meta.out ≡ Some d = elim (part.is_out d is) [ inl was ↦ at.stands.stays d was | inr now_named ↦ now_named ] in
      (at.low d named, at.stands.named_down d named)

  -- what a session asks of each moment of it
  pub part_each : (b : Bounds) → k.meta.setup ≡ b.setup → k.meta.ticks ≤ b.ticks → base.epoch + 1 ≤ b.epoch → (asked : Option ℕ) → Each (HoldsWhileServing k.slots h lo b) (IsAllowed b.setup asked) w cs
  part_each b setup ticks room asked = transfer_each k h lo base w at.stands b setup ticks asked cs part.out h lo outs part_calls part.held (within part.brings)
    where
      within : BringsMeta k base w.disks cs → Each (StaysWithinAt b w.spun w.disks) (λ (v : Watch) (c : Call). Unit {0}) w cs
      within (nothing data_calls) = data_within k h lo base w at.stands b setup ticks cs (omega (arith, room)) data_calls
      within (commit all through) = commit_within k h lo base w at.stands b setup ticks cs room all through

  no_attaches : (s : Disks) (ds : List Call) → EachCall (IsTransferCall n (gone_out k.meta.out)) s ds → attach_count ds ≡ 0
  no_attaches s [] made = refl
  no_attaches s (c ∷ ds) made = attached (is_attach c) (attach_count ds) (no_attach c made.1.2) ∙ no_attaches (step c s) ds made.2

  pub part_attaches : attach_count cs ≡ 0
  part_attaches = no_attaches w.disks cs part_calls

  module _ (k_then : Service) (h_then : History) (lo_then : ℕ) (ends : EndsEvent k k_then h_then lo_then w.disks cs) where
    disks_are : v.disks ≡ run w.disks cs
    disks_are = watched_disks w cs

    pub part_marks : IsMarkedBy v.disks.power k.meta k_then.meta
    part_marks = subst (λ (s : Disks). IsMarkedBy s.power k.meta k_then.meta) (sym disks_are) ends.marks

    pub part_setup : k_then.meta.setup ≡ k.meta.setup
    part_setup = marked_setup v.disks.power k.meta k_then.meta part_marks

    -- a disk that failed is the one that is out
    pub part_failed : (e : ℕ) → fails_on e cs ≡ true → named_out k_then.meta.out ≡ Some e
    part_failed e failed = part_marks.named e (fails_below n (gone_out k.meta.out) w.disks cs e part_calls failed) (failed_absent n (gone_out k.meta.out) w cs e part_calls failed)

    -- where that one may be down, it alone is
    pub part_only : (o : Option ℕ) → IsOnly o w.down → ((e : ℕ) → named_out k_then.meta.out ≡ Some e → o ≡ Some e) → IsOnly o v.down
    part_only o is only_out = only_end o w cs is (λ e failed. only_out e (part_failed e failed))

    off : (d : ℕ) → is_present (w.disks.power d) ≡ false → is_present (v.disks.power d) ≡ false
    off d gone = stays_off n (gone_out k.meta.out) w cs d part_calls gone

    moved_keeps : (less : ℕ) → less ≤ lo_then → (y : ServiceStandsFor k_then h_then less v.disks) × (y.base ≡ ends.keeps.base)
    moved_keeps less le = moved_less k_then h_then lo_then less (run w.disks cs) v.disks (sym disks_are) le ends.keeps

    -- which meta stands after it
    pub part_base : IsServing v.down → (ends.keeps.base ≡ base) ⊎ (ends.keeps.base ≡ committed_meta k)
    part_base serving = subst (λ (m : Meta). (m ≡ base) ⊎ (m ≡ committed_meta k)) (moved_keeps lo_then (omega arith)).1
        (end_base k k_then h h_then lo lo_then base w at.stands cs part_calls part_marks (moved_keeps lo_then (omega arith)).0 part.brings serving)

    -- with one commit at most
    pub part_room : IsServing v.down → ends.keeps.base.epoch ≤ base.epoch + 1
    part_room serving = elim (part_base serving) [
      | inl old ↦ let e = ap (λ (m : Meta). m.epoch) old in omega (arith, e)
      | inr new ↦ let e = ap (λ (m : Meta). m.epoch) new in let f = at.stands.keeps.epoch in let g = ap (λ (m : Meta). m.epoch) at.stands.is_base in omega (arith, e, f, g)
    ]

    -- that of before, after calls between two commits
    pub part_data : EachCall (IsDataCall n (gone_out k.meta.out)) w.disks cs → IsServing v.down → ends.keeps.base ≡ base
    part_data past serving = sym (moved_keeps lo_then (omega arith)).1
        ∙ data_base k k_then h h_then lo lo_then base w at.stands cs part_calls part_marks (moved_keeps lo_then (omega arith)).0 past serving

    -- The core stands after it.
    pub part_stands : (less : ℕ) → less ≤ lo_then → IsServing v.down → IsMidway k_then h_then less ends.keeps.base v
    part_stands less le serving = record {
      stands = subst (λ (m : Meta). StandsIn k_then h_then less m v) (moved_keeps less le).1
          (end_stands k k_then h h_then lo less base w at.stands cs part_calls part_marks (moved_keeps less le).0 (subst (λ (m : Meta). (m ≡ base) ⊎ (m ≡ committed_meta k)) (sym (moved_keeps less le).1) (part_base serving)));
      named = λ d low gone. part_marks.named d (low_was d low) gone;
      low = λ d named. low_now d (part_low d named);
      fresh = λ d u is. part_marks.fresh d u is;
    }
      where
        low_was : (d : ℕ) → d < k_then.meta.setup.geometry.disks → d < n
        low_was d low = subst (λ (z : Setup). d < z.geometry.disks) part_setup low

        low_now : (d : ℕ) → d < n → d < k_then.meta.setup.geometry.disks
        low_now d low = subst (λ (z : Setup). d < z.geometry.disks) (sym part_setup) low

        part_low : (d : ℕ) → named_out k_then.meta.out ≡ Some d → d < n
        part_low d named = elim (newly_named v.disks.power k.meta k_then.meta part_marks d named) [ inl was ↦ at.low d was | inr gone ↦ gone.0 ]

    -- after a commit the disks show its meta
    pub part_committed : IsSettled k.meta → ShowsMeta v.disks.power (committed_meta k) k_then.meta
    part_committed settled = still_shown v.disks.power k.meta k_then.meta part_marks (committed_meta k) w.disks.power refl (record {
      gear = refl;
      out = out_named w.disks.power k.meta k.meta.out refl at.named at.fresh;
      phase = settled.phase;
      fill = settled.fill;
      spins = refl;
    }) off

    -- and where they showed the meta before, they show it in any case
    pub part_shown : IsServing v.down → ShowsMeta w.disks.power base k.meta → ShowsMeta v.disks.power ends.keeps.base k_then.meta
    part_shown serving shows = elim (part_base serving) [
      | inl old ↦ subst (λ (m : Meta). ShowsMeta v.disks.power m k_then.meta) (sym old) (still_shown v.disks.power k.meta k_then.meta part_marks base w.disks.power (base_setup k h lo base w at.stands) shows off)
      | inr new ↦ subst (λ (m : Meta). ShowsMeta v.disks.power m k_then.meta) (sym new) (part_committed (record {
        phase = ap (phase_beside (has_out k.meta.out)) (sym shows.phase) ∙ again (has_out k.meta.out) base.phase ∙ shows.phase;
        fill = ap (λ (f : ℕ). if has_out k.meta.out then 0 else f) (sym shows.fill) ∙ if_again (has_out k.meta.out) base.fill ∙ shows.fill;
      }))
    ]

    -- by the number of commits it is known which meta stands
    pub part_epoch : IsServing v.down → k_then.meta.epoch ≡ k.meta.epoch + 1 → ends.keeps.base ≡ committed_meta k
    part_epoch serving more = elim (part_base serving) [
      | inl old ↦ absurd (let a = ends.keeps.epoch in let b = at.stands.keeps.epoch in let c = ap (λ (m : Meta). m.epoch) at.stands.is_base in let d = ap (λ (m : Meta). m.epoch) old in omega (arith, a, b, c, d, more))
      | inr new ↦ new
    ]

    pub part_powered : ArePoweredByGear w.disks.power k.meta → ArePoweredByGear v.disks.power k_then.meta
    part_powered powered = still_powered v.disks.power k.meta k_then.meta part_marks w.disks.power powered (λ d here. (end_follows k k_then h h_then lo lo_then base w at.stands cs part_calls).power d here)

    pub part_spun : (d : ℕ) → v.spun d ≡ w.spun d
    part_spun d = (end_follows k k_then h h_then lo lo_then base w at.stands cs part_calls).spun d

    pub part_awaited : v.awaited ≡ w.awaited
    part_awaited = (end_follows k k_then h h_then lo lo_then base w at.stands cs part_calls).awaited

    -- The meta after it is that of the state after the loss, or the same.
    module _ (s : PowerState) (of : IsStateOf k s) (settled : IsSettled k.meta) where
      abbrev with_counts : Service
      with_counts = record k_then { table = k.table; samples = k.samples; served = k.served }

      gone_already : (d : ℕ) → k.meta.out ≡ Gone d → (phase_beside true k.meta.phase ≡ k.meta.phase) × (◌≡◌ {A = ℕ} k.meta.fill 0)
      gone_already d is = (
        ap (λ (o : Out). phase_beside (has_out o) k.meta.phase) (sym is) ∙ settled.phase,
        sym settled.fill ∙ ap (λ (o : Out). if has_out o then 0 else k.meta.fill) is,
      )

      of_loss : (d : ℕ) → k_then.meta.out ≡ Gone d → k_then.meta.phase ≡ phase_beside true k.meta.phase → ◌≡◌ {A = ℕ} k_then.meta.fill 0 → IsStateOf with_counts (after_loss s d)
      of_loss d out phase fill = record {
        gear = of.gear ∙ sym (same_gear v.disks.power k.meta k_then.meta part_marks);
        phase = ap (phase_beside true) of.phase ∙ sym phase;
        fill = sym fill;
        out = sym out;
        spins = of.spins ∙ sym (same_spins v.disks.power k.meta k_then.meta part_marks);
        ticks = of.ticks ∙ sym (same_ticks v.disks.power k.meta k_then.meta part_marks);
        dirty = λ r e low. of.dirty r e (subst (λ (z : Setup). r < z.geometry.rows) part_setup low);
        samples = of.samples;
        served = of.served;
      }

      of_none : k_then.meta.out ≡ k.meta.out → k_then.meta.phase ≡ k.meta.phase → k_then.meta.fill ≡ k.meta.fill → IsStateOf with_counts s
      of_none out phase fill = record {
        gear = of.gear ∙ sym (same_gear v.disks.power k.meta k_then.meta part_marks);
        phase = of.phase ∙ sym phase;
        fill = of.fill ∙ sym fill;
        out = of.out ∙ sym out;
        spins = of.spins ∙ sym (same_spins v.disks.power k.meta k_then.meta part_marks);
        ticks = of.ticks ∙ sym (same_ticks v.disks.power k.meta k_then.meta part_marks);
        dirty = λ r e low. of.dirty r e (subst (λ (z : Setup). r < z.geometry.rows) part_setup low);
        samples = of.samples;
        served = of.served;
      }

      was_out : (d : ℕ) (o : Out) → k.meta.out ≡ o → named_out o ≡ Some d → ((u : ℕ) → o ≡ Fresh d u → ⊥) → k.meta.out ≡ Gone d
      was_out d No is named fresh = absurd (no_one named)
      was_out d (Gone e) is named fresh = is ∙ ap Gone (let z : Some e ≡ Some d = named in let same_disk : e ≡ d = cc in same_disk)
      was_out d (Fresh e u) is named fresh = let z : Some e ≡ Some d = named in let same_disk : e ≡ d = cc in absurd (fresh u (ap (λ (x : ℕ). Fresh x u) same_disk))

      lost_marks : (x : ℕ) → part_marks.lost ≡ Some x → (k_then.meta.out ≡ Gone x) × (k_then.meta.phase ≡ phase_beside true k.meta.phase) × (◌≡◌ {A = ℕ} k_then.meta.fill 0)
      lost_marks x some = (lost_out v.disks.power k.meta k_then.meta part_marks x some, lost_phase v.disks.power k.meta k_then.meta part_marks x some, lost_fill v.disks.power k.meta k_then.meta part_marks x some)

      with_none : first_lost cs ≡ None → (l : Option ℕ) → part_marks.lost ≡ l → IsStateOf with_counts s
      with_none first None none = of_none (kept_out v.disks.power k.meta k_then.meta part_marks none) (kept_phase v.disks.power k.meta k_then.meta part_marks none) (kept_fill v.disks.power k.meta k_then.meta part_marks none)
      with_none first (Some x) some =
          let gone = subst (λ (t : Disks). is_present (t.power x) ≡ false) disks_are (part_marks.absent x some) in
          elim (absent_failed w.disks cs x gone) [
            | inl before ↦
                let is = was_out x k.meta.out refl (at.named x (part_marks.disk x some) before) (λ u f. false≢true (sym before ∙ at.fresh x u f)) in
                let same_marks = gone_already x is in
                let now_marks = lost_marks x some in
                of_none (now_marks.0 ∙ sym is) (now_marks.1 ∙ same_marks.0) (now_marks.2 ∙ sym same_marks.1)
            | inr failed ↦ let it = fails_first cs x failed in absurd (no_one (sym first ∙ it.1))
          ]

      with_some : (d : ℕ) → first_lost cs ≡ Some d → (l : Option ℕ) → part_marks.lost ≡ l → IsStateOf with_counts (after_loss s d)
      with_some d first None none =
          let out = kept_out v.disks.power k.meta k_then.meta part_marks none in
          let failed = first_fails cs d first in
          let is = was_out d k.meta.out refl (ap named_out (sym out) ∙ part_failed d failed) (λ u f. false≢true (sym (failed_absent n (gone_out k.meta.out) w cs d part_calls failed) ∙ part_marks.fresh d u (out ∙ f))) in
          let same_marks = gone_already d is in
          of_loss d (out ∙ is) (kept_phase v.disks.power k.meta k_then.meta part_marks none ∙ sym same_marks.0) (kept_fill v.disks.power k.meta k_then.meta part_marks none ∙ same_marks.1)
      with_some d first (Some x) some =
          let now_marks = lost_marks x some in
          let same_disk : x ≡ d = (let z : Some x ≡ Some d = ap named_out (sym now_marks.0) ∙ part_failed d (first_fails cs d first) in cc) in
          of_loss d (now_marks.0 ∙ ap Gone same_disk) now_marks.1 now_marks.2

      pub part_state : IsStateOf with_counts (state_after s (first_lost cs))
      part_state = by (first_lost cs) refl
        where
          by : (o : Option ℕ) → first_lost cs ≡ o → IsStateOf with_counts (state_after s o)
          by None first = with_none first part_marks.lost refl
          by (Some d) first = with_some d first part_marks.lost refl
