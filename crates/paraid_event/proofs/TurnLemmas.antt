-- From the calls of a core in an event to the turn of a session.
use Rattle.std.proofs.Common.{◌≡◌, ◌≢◌, ℕ, ◌+◌, ◌*◌, ◌/◌, ◌<◌, ◌≤◌, ◌⊎◌, Bool, true, false, List, [], ◌∷◌, ◌++◌, Option, Some, None, refl, sym, ap, ◌∙◌, inl, inr, subst, arith, min, if◌then◌else◌}
use Rattle.std.specs.Prelude.{◌==◌, Contains}
use Rattle.std.proofs.lemmas.Bool.{false≢true}
use Rattle.std.proofs.lemmas.Bool.Decides.{nat_tests}
use Rattle.paraid_base.specs.declared.event.Answer.{Answer}
use Rattle.paraid_base.specs.declared.event.Event.{Event}
use Rattle.paraid_base.specs.declared.event.Event.TheVariants.{Bad}
use Rattle.paraid_base.specs.declared.state.Out.{Out}
use Rattle.paraid_base.specs.declared.state.Out.TheVariants.{No, Gone, Fresh}
use Rattle.paraid_base.specs.History.{History}
use Rattle.paraid_base.specs.Log.{worn_at}
use Rattle.paraid_base.specs.States.{gone_out, has_out, named_out, phase_beside}
use Rattle.paraid_dirty.specs.Table.{is_dirty}
use Rattle.paraid_rack.specs.declared.call.Call.{Call}
use Rattle.paraid_rack.specs.Disks.{Disks, is_present, step}
use Rattle.paraid_rack.specs.Trail.{Trail, now, run}
use Rattle.paraid_record.specs.declared.meta.Meta.{Meta}
use Rattle.paraid_record.specs.declared.meta.Setup.{Setup}
use Rattle.paraid_image.specs.Calls.{is_attach}
use Rattle.paraid_base.specs.Regions.{map_count}
use Rattle.paraid_base.specs.BlockAnswers.{accepted_write}
use Rattle.paraid_image.specs.Content.{view_by}
use Rattle.paraid_image.specs.Sides.{Batch, closed_over}
use Rattle.paraid_image.specs.Spot.{map_bit, map_disk}
use Rattle.paraid_image.specs.Standing.{contents}
use Rattle.paraid_image.specs.Power.{PowerState, initial_state, state_by}
use Rattle.paraid_image.specs.Out.{out_disk}
use Rattle.paraid_image.specs.Shown.{with_flush}
use Rattle.paraid_image.proofs.HeldLemmas.{IsHeld-more}
use Rattle.paraid_image.proofs.OutLemmas.{out_missing}
use Rattle.paraid_core.proofs.MomentLemmas.{base_in_range}
use Rattle.paraid_record.specs.Range.{IsInRange}
use Rattle.paraid_core.specs.Calls.{IsDataCall, IsTransferCall}
use Rattle.paraid_core.specs.CoreInvariant.{AreCopiesSynced}
use Rattle.paraid_machine.specs.Energy.{energy_after}
use Rattle.paraid_machine.specs.Machine.{IsEventStep, around, around_loss, if_alone}
use Rattle.paraid_machine.specs.Moves.{after_loss}
use Rattle.paraid_session.specs.Turn.{AreDirtyShown, GoesOn, IsMark, Point, awaited_by, bounds_at, bounds_of, is_flush, makes_no_call, point_wear, replaced_by, watch_of, tells_attach, tells_begin}
use Rattle.paraid_session.specs.Turn.IsTurn.{answered}
use Rattle.paraid_session.specs.Watch.{Bounds, Down, Each, HoldsWhileServing, IsAllowed, IsAmongDown, IsHeldWhileServing, IsServing, Watch, attach_count, down_from_out, first_lost, nobody, only, several, watch_all}
use Rattle.paraid_session.proofs.LayerLemmas.{absent_failed, each_map, fails_first, first_fails}
use Rattle.paraid_session.specs.Resting.{watch_at}
use Rattle.paraid_recover.specs.RecordedSpins.{StaysWithinAt}
use Rattle.paraid_recover.proofs.CallsLemmas.{each_map as each_call_map}
use Rattle.paraid_recover.proofs.DownLemmas.{watched_disks}
use Rattle.paraid_txn.specs.Uses.{EachCall}
use Rattle.paraid_event.proofs.ApartLemmas.{no_one}
use Rattle.paraid_event.specs.Marks.{ArePoweredByGear, IsMarkedBy, ShowsMeta}
use Rattle.paraid_event.specs.Parts.{AreEventCalls, BringsMeta, EndsEvent, committed_meta}
use Rattle.paraid_event.specs.Parts.BringsMeta.{commit, nothing}
use Rattle.paraid_event.proofs.UpLemmas.{none_up}
use Rattle.paraid_event.specs.Service.{IsStateOf, Service}
use Rattle.paraid_event.specs.Stands.{ServiceStandsFor, StandsAt, StandsIn}
use Rattle.paraid_event.proofs.ChainLemmas.{base_setup, commit_within, data_transfer, data_within, no_attach, transfer_each}
use Rattle.paraid_event.proofs.EndLemmas.{IsOnly, end_base, end_follows, end_stands, failed_absent, fails_below, one_failed, only_is, only_serving, stays_off}
use Rattle.paraid_event.proofs.PointLemmas.{stands_mark}
use Rattle.paraid_event.proofs.MarksLemmas.{kept_fill, kept_out, kept_phase, lost_fill, lost_phase, named_state, twice, lost_out, marked_setup, out_named, own_shown, same_gear, same_spins, same_ticks, still_named, still_powered, still_shown}

-- an answer that tells neither an attach nor the begin of a shift
abbrev pub TellsNeither : Answer → Type 0
TellsNeither answer = (tells_attach answer ≡ false) × (tells_begin answer ≡ false)

more_held : (slots : ℕ) (s : Disks) (h more : History) (lo : ℕ) (down : Down) → IsHeldWhileServing slots s h lo down → IsHeldWhileServing slots s (h ++ more) lo down
more_held slots s h more lo nobody held = IsHeld-more slots s h more lo lo None (omega arith) held
more_held slots s h more lo (only d) held = IsHeld-more slots s h more lo lo (Some d) (omega arith) held
more_held slots s h more lo several held = tt

-- what is held of some writes is held of more
pub more_each : (slots : ℕ) (h more : History) (lo : ℕ) (b : Bounds) (A : Watch → Call → Type 0) (w : Watch) (cs : List Call) → Each (HoldsWhileServing slots h lo b) A w cs → Each (HoldsWhileServing slots (h ++ more) lo b) A w cs
more_each slots h more lo b A w cs each = each_map (HoldsWhileServing slots h lo b) (HoldsWhileServing slots (h ++ more) lo b) A A
    (λ v is. record { held = more_held slots v.disks h more lo v.down is.held; within = is.within }) (λ v c a. a) w cs each

-- fewer writes are kept by a stop
pub keeps_less : (k : Service) (h : History) (lo less : ℕ) (s : Disks) → less ≤ lo → ServiceStandsFor k h lo s → ServiceStandsFor k h less s
keeps_less k h lo less s le z = record {
  base = z.base;
  held = z.held;
  copies = record { copying = z.copies.copying; low = let l = z.copies.low in omega (arith, l, le); high = z.copies.high; content = z.copies.content };
  synced = z.synced;
  named_by = z.named_by;
  borne = z.borne;
  epoch = z.epoch;
  next = z.next;
  writes = z.writes;
  brought = z.brought;
  staged = z.staged;
  dirty = z.dirty;
}

-- the core stands by the same meta on the same disks
pub moved : (k : Service) (h : History) (lo : ℕ) (s t : Disks) → s ≡ t → (z : ServiceStandsFor k h lo s) → (y : ServiceStandsFor k h lo t) × (y.base ≡ z.base)
moved k h lo s t e z = subst (λ (u : Disks). (y : ServiceStandsFor k h lo u) × (y.base ≡ z.base)) e (z, refl)

-- with fewer writes that are kept
pub moved_less : (k : Service) (h : History) (lo less : ℕ) (s t : Disks) → s ≡ t → less ≤ lo → (z : ServiceStandsFor k h lo s) → (y : ServiceStandsFor k h less t) × (y.base ≡ z.base)
unfolding keeps_less
moved_less k h lo less s t e le z = moved k h less s t e (keeps_less k h lo less s le z)

-- the state after a loss, or none
abbrev pub state_after : PowerState → Option ℕ → PowerState
state_after s None = s
state_after s (Some d) = after_loss s d

module _ (told : Option Trail) (k : Service) (setup : Setup) (p : Point) (at : StandsAt told k setup p) where
  abbrev w : Watch
  w = watch_at p

  abbrev b : Bounds
  b = bounds_at setup p p.state

  abbrev n : ℕ
  n = k.meta.setup.geometry.disks

  base_is : at.stands.keeps.base ≡ p.meta
  base_is = at.stands.is_base

  ticks_fit : k.meta.ticks ≤ b.ticks
  ticks_fit = let e = at.state.ticks in omega (arith, e)

  down_named : (d : ℕ) → IsAmongDown (down_from_out (named_out p.state.out)) d → named_out k.meta.out ≡ Some d
  down_named d is = by (named_out p.state.out) refl is
    where
      by : (o : Option ℕ) → named_out p.state.out ≡ o → IsAmongDown (down_from_out o) d → named_out k.meta.out ≡ Some d
      by None e i = absurd i
      by (Some x) e i = sym (ap named_out at.state.out) ∙ e ∙ ap (λ (z : ℕ). Some z) (sym i)

  pub absent_named : (d : ℕ) → d < n → is_present (p.disks.power d) ≡ false → named_out k.meta.out ≡ Some d
  absent_named d low gone = down_named d (at.stands.absent_down d low gone)

  pub fresh_there : (d u : ℕ) → k.meta.out ≡ Fresh d u → is_present (p.disks.power d) ≡ true
  fresh_there d u is = ap is_present (at.powered.fresh d u is)

  pub out_low : (d : ℕ) → named_out k.meta.out ≡ Some d → d < n
  out_low d named =
      let z = at.stands.keeps in
      let range : IsInRange p.meta = subst IsInRange base_is (base_in_range k.slots z.base z.held p.history p.low p.disks z.copies) in
      let missing = out_missing p.disks.power p.meta d range (sym (named_state p.disks.power p.meta) ∙ ap named_out at.shown.out ∙ named) in
      subst (λ (z : Setup). d < z.geometry.disks) (base_setup k p.history p.low p.meta w at.stands) missing.disk

  calls_of : (s : Disks) (cs : List Call) → BringsMeta k p.meta s cs → EachCall (IsTransferCall n (gone_out k.meta.out)) s cs
  calls_of s cs (nothing calls) = each_call_map (IsDataCall n (gone_out k.meta.out)) (IsTransferCall n (gone_out k.meta.out)) (λ c is. data_transfer n (gone_out k.meta.out) c is) s cs calls
  calls_of s cs (commit calls through) = calls

  module _ (cs : List Call) (part : AreEventCalls k p.history p.low p.meta p.disks cs) where
    abbrev v : Watch
    v = watch_all cs w

    pub calls : EachCall (IsTransferCall n (gone_out k.meta.out)) p.disks cs
    calls = calls_of p.disks cs part.brings

    outs : (d : ℕ) → part.out ≡ Some d → (d < n) × IsAmongDown w.down d
    outs d is =
        let named : named_out k.meta.out ≡ Some d = elim (part.is_out d is) [ inl was ↦ at.stands.stays d was | inr now_named ↦ now_named ] in
        (out_low d named, at.stands.named_down d named)

    -- What a session asks of each moment, for these writes.
    pub each : (asked : Option ℕ) → p.meta.epoch + 1 ≤ b.epoch → Each (HoldsWhileServing k.slots p.history p.low b) (IsAllowed setup asked) w cs
    each asked room =
        subst (λ (z : Setup). Each (HoldsWhileServing k.slots p.history p.low b) (IsAllowed z asked) w cs) refl
        (transfer_each k p.history p.low p.meta w at.stands b at.same_setup ticks_fit asked cs part.out p.history p.low outs calls part.held (within part.brings))
      where
        within : BringsMeta k p.meta p.disks cs → Each (StaysWithinAt b w.spun w.disks) (λ (v : Watch) (c : Call). Unit {0}) w cs
        within (nothing data_calls) = data_within k p.history p.low p.meta w at.stands b at.same_setup ticks_fit cs (omega (arith, room)) data_calls
        within (commit all through) = commit_within k p.history p.low p.meta w at.stands b at.same_setup ticks_fit cs room all through

    no_attaches : (s : Disks) (ds : List Call) → EachCall (IsTransferCall n (gone_out k.meta.out)) s ds → attach_count ds ≤ 1
    no_attaches s [] made = omega arith
    no_attaches s (c ∷ ds) made = ap_le (no_attach c made.1.2) (no_attaches (step c s) ds made.2)
      where
        ap_le : is_attach c ≡ false → attach_count ds ≤ 1 → (if is_attach c then attach_count ds + 1 else attach_count ds) ≤ 1
        ap_le is le = rw is le

    pub once : attach_count cs ≤ 1
    once = no_attaches p.disks cs calls

    module _ (k_then : Service) (h_then : History) (lo_then : ℕ) (ends : EndsEvent k k_then h_then lo_then p.disks cs) where
      disks_are : v.disks ≡ run p.disks cs
      disks_are = watched_disks w cs

      pub marks : IsMarkedBy v.disks.power k.meta k_then.meta
      marks = subst (λ (s : Disks). IsMarkedBy s.power k.meta k_then.meta) (sym disks_are) ends.marks

      start_only : IsOnly (named_out k_then.meta.out) w.down
      start_only = by (named_out p.state.out) refl
        where
          by : (o : Option ℕ) → named_out p.state.out ≡ o → IsOnly (named_out k_then.meta.out) (down_from_out o)
          by None e = tt
          by (Some d) e = still_named v.disks.power k.meta k_then.meta marks d (sym (ap named_out at.state.out) ∙ e)

      pub one_only : IsOnly (named_out k_then.meta.out) v.down
      one_only = one_failed k k_then p.history h_then p.low lo_then p.meta w at.stands cs calls marks start_only

      pub serving : IsServing v.down
      serving = only_serving (named_out k_then.meta.out) v.down one_only

      moved_keeps : (less : ℕ) → less ≤ lo_then → (y : ServiceStandsFor k_then h_then less v.disks) × (y.base ≡ ends.keeps.base)
      moved_keeps less le = moved_less k_then h_then lo_then less (run p.disks cs) v.disks (sym disks_are) le ends.keeps

      keeps_then : (less : ℕ) → less ≤ lo_then → ServiceStandsFor k_then h_then less v.disks
      keeps_then less le = (moved_keeps less le).0

      -- which meta stands
      pub which_then : (ends.keeps.base ≡ p.meta) ⊎ (ends.keeps.base ≡ committed_meta k)
      which_then = subst (λ (m : Meta). (m ≡ p.meta) ⊎ (m ≡ committed_meta k)) (moved_keeps lo_then (omega arith)).1
          (end_base k k_then p.history h_then p.low lo_then p.meta w at.stands cs calls marks (moved_keeps lo_then (omega arith)).0 part.brings serving)

      -- the core stands
      pub stands_then : (less : ℕ) → less ≤ lo_then → StandsIn k_then h_then less ends.keeps.base v
      stands_then less le = subst (λ (m : Meta). StandsIn k_then h_then less m v) (moved_keeps less le).1
          (end_stands k k_then p.history h_then p.low less p.meta w at.stands cs calls marks (moved_keeps less le).0 (subst (λ (m : Meta). (m ≡ p.meta) ⊎ (m ≡ committed_meta k)) (sym (moved_keeps less le).1) which_then))

      off : (d : ℕ) → is_present (p.disks.power d) ≡ false → is_present (v.disks.power d) ≡ false
      off d gone = stays_off n (gone_out k.meta.out) w cs d calls gone

      setup_then : k_then.meta.setup ≡ k.meta.setup
      setup_then = marked_setup v.disks.power k.meta k_then.meta marks

      -- and the disks show its meta
      pub shown_then : ShowsMeta v.disks.power ends.keeps.base k_then.meta
      shown_then = elim which_then [
        | inl old ↦ subst (λ (m : Meta). ShowsMeta v.disks.power m k_then.meta) (sym old)
            (still_shown v.disks.power k.meta k_then.meta marks p.meta p.disks.power (base_setup k p.history p.low p.meta w at.stands) at.shown off)
        | inr new ↦ subst (λ (m : Meta). ShowsMeta v.disks.power m k_then.meta) (sym new)
            (still_shown v.disks.power k.meta k_then.meta marks (committed_meta k) p.disks.power refl (own_shown p.disks.power p.meta k.meta (committed_meta k) at.shown absent_named fresh_there refl) off)
      ]

      pub powered_then : ArePoweredByGear v.disks.power k_then.meta
      powered_then = still_powered v.disks.power k.meta k_then.meta marks p.disks.power at.powered (λ d here. (end_follows k k_then p.history h_then p.low lo_then p.meta w at.stands cs calls).power d here)

      -- a disk that failed is the one that is out now
      pub lost_named : (d : ℕ) → first_lost cs ≡ Some d → named_out k_then.meta.out ≡ Some d
      lost_named d first =
          let failed = first_fails cs d first in
          marks.named d (fails_below n (gone_out k.meta.out) p.disks cs d calls failed) (failed_absent n (gone_out k.meta.out) w cs d calls failed)

      gone_already : (d : ℕ) → k.meta.out ≡ Gone d → (phase_beside true k.meta.phase ≡ k.meta.phase) × (◌≡◌ {A = ℕ} k.meta.fill 0)
      gone_already d is = (
        ap (phase_beside true) (sym at.shown.phase) ∙ twice (has_out k.meta.out) p.meta.phase ∙ ap (λ (o : Out). phase_beside (has_out o) p.meta.phase) (sym is) ∙ at.shown.phase,
        sym at.shown.fill ∙ ap (λ (o : Out). if has_out o then 0 else p.meta.fill) is,
      )

      -- The meta is that of the state after the loss.
      pub state_then : IsStateOf (record k_then { table = k.table; samples = k.samples; served = k.served }) (state_after p.state (first_lost cs))
      state_then = by (first_lost cs) refl
        where
          of_loss : (d : ℕ) → k_then.meta.out ≡ Gone d → k_then.meta.phase ≡ phase_beside true k.meta.phase → ◌≡◌ {A = ℕ} k_then.meta.fill 0
              → IsStateOf (record k_then { table = k.table; samples = k.samples; served = k.served }) (after_loss p.state d)
          of_loss d out phase fill = record {
            gear = at.state.gear ∙ sym (same_gear v.disks.power k.meta k_then.meta marks);
            phase = ap (phase_beside true) at.state.phase ∙ sym phase;
            fill = sym fill;
            out = sym out;
            spins = at.state.spins ∙ sym (same_spins v.disks.power k.meta k_then.meta marks);
            ticks = at.state.ticks ∙ sym (same_ticks v.disks.power k.meta k_then.meta marks);
            dirty = λ r e low. at.state.dirty r e (subst (λ (z : Setup). r < z.geometry.rows) setup_then low);
            samples = at.state.samples;
            served = at.state.served;
          }

          of_none : k_then.meta.out ≡ k.meta.out → k_then.meta.phase ≡ k.meta.phase → k_then.meta.fill ≡ k.meta.fill
              → IsStateOf (record k_then { table = k.table; samples = k.samples; served = k.served }) p.state
          of_none out phase fill = record {
            gear = at.state.gear ∙ sym (same_gear v.disks.power k.meta k_then.meta marks);
            phase = at.state.phase ∙ sym phase;
            fill = at.state.fill ∙ sym fill;
            out = at.state.out ∙ sym out;
            spins = at.state.spins ∙ sym (same_spins v.disks.power k.meta k_then.meta marks);
            ticks = at.state.ticks ∙ sym (same_ticks v.disks.power k.meta k_then.meta marks);
            dirty = λ r e low. at.state.dirty r e (subst (λ (z : Setup). r < z.geometry.rows) setup_then low);
            samples = at.state.samples;
            served = at.state.served;
          }

          -- a disk that was out already and is gone
          was_out : (d : ℕ) (o : Out) → k.meta.out ≡ o → named_out o ≡ Some d → ((u : ℕ) → o ≡ Fresh d u → ⊥) → k.meta.out ≡ Gone d
          was_out d No is named fresh = absurd (no_one named)
          was_out d (Gone e) is named fresh = is ∙ ap Gone (let z : Some e ≡ Some d = named in let same : e ≡ d = cc in same)
          was_out d (Fresh e u) is named fresh = let z : Some e ≡ Some d = named in let same : e ≡ d = cc in absurd (fresh u (ap (λ (x : ℕ). Fresh x u) same))

          lost_marks : (x : ℕ) → marks.lost ≡ Some x → (k_then.meta.out ≡ Gone x) × (k_then.meta.phase ≡ phase_beside true k.meta.phase) × (◌≡◌ {A = ℕ} k_then.meta.fill 0)
          lost_marks x some = (lost_out v.disks.power k.meta k_then.meta marks x some, lost_phase v.disks.power k.meta k_then.meta marks x some, lost_fill v.disks.power k.meta k_then.meta marks x some)

          by : (o : Option ℕ) → first_lost cs ≡ o → IsStateOf (record k_then { table = k.table; samples = k.samples; served = k.served }) (state_after p.state o)
          by None first = mark marks.lost refl
            where
              mark : (l : Option ℕ) → marks.lost ≡ l → IsStateOf (record k_then { table = k.table; samples = k.samples; served = k.served }) p.state
              mark None none = of_none (kept_out v.disks.power k.meta k_then.meta marks none) (kept_phase v.disks.power k.meta k_then.meta marks none) (kept_fill v.disks.power k.meta k_then.meta marks none)
              mark (Some x) some =
                  let gone = subst (λ (s : Disks). is_present (s.power x) ≡ false) disks_are (marks.absent x some) in
                  elim (absent_failed p.disks cs x gone) [
                    | inl before ↦
                        let is = was_out x k.meta.out refl (absent_named x (marks.disk x some) before) (λ u f. false≢true (sym before ∙ fresh_there x u f)) in
                        let same_marks = gone_already x is in
                        let now_marks = lost_marks x some in
                        of_none (now_marks.0 ∙ sym is) (now_marks.1 ∙ same_marks.0) (now_marks.2 ∙ sym same_marks.1)
                    | inr failed ↦ let it = fails_first cs x failed in absurd (no_one (sym first ∙ it.1))
                  ]
          by (Some d) first = mark marks.lost refl
            where
              mark : (l : Option ℕ) → marks.lost ≡ l → IsStateOf (record k_then { table = k.table; samples = k.samples; served = k.served }) (after_loss p.state d)
              mark None none =
                  let out = kept_out v.disks.power k.meta k_then.meta marks none in
                  let is = was_out d k.meta.out refl (ap named_out (sym out) ∙ lost_named d first) (λ u f. false≢true (sym (failed_absent n (gone_out k.meta.out) w cs d calls (first_fails cs d first)) ∙ marks.fresh d u (out ∙ f))) in
                  let same_marks = gone_already d is in
                  of_loss d (out ∙ is) (kept_phase v.disks.power k.meta k_then.meta marks none ∙ sym same_marks.0) (kept_fill v.disks.power k.meta k_then.meta marks none ∙ same_marks.1)
              mark (Some x) some =
                  let now_marks = lost_marks x some in
                  let same_disk : x ≡ d = (let z : Some x ≡ Some d = ap named_out (sym now_marks.0) ∙ lost_named d first in cc) in
                  of_loss d (now_marks.0 ∙ ap Gone same_disk) now_marks.1 now_marks.2

      -- where another meta stands it is that of a commit
      new_base : ends.keeps.base ≢ p.meta → ends.keeps.base ≡ committed_meta k
      new_base moved = elim which_then [ inl old ↦ absurd (moved old) | inr new ↦ new ]

      -- the point after the event
      abbrev point_then : Answer → Event → PowerState → Point
      point_then answer event s = record {
        disks = v.disks;
        history = p.history ++ accepted_write event answer;
        low = with_flush p.low answer;
        meta = ends.keeps.base;
        state = s;
        energy = energy_after setup p.energy p.state answer;
        spun = v.spun;
        awaited = v.awaited;
        halt = None;
      }

      down_is : (s : PowerState) → IsStateOf k_then s → v.down ≡ down_from_out (named_out s.out)
      down_is s of = only_is (named_out k_then.meta.out) v.down one_only (λ d named. (stands_then lo_then (omega arith)).named_down d named) ∙ ap (λ (o : Out). down_from_out (named_out o)) (sym of.out)

      -- at which the array stands
      stands_at : (answer : Answer) (event : Event) (s : PowerState) (told_then : Option Trail) → IsStateOf k_then s → h_then ≡ p.history ++ accepted_write event answer → with_flush p.low answer ≤ lo_then
          → ((t : Trail) → told_then ≡ Some t → now t ≡ run p.disks cs) → AreCopiesSynced k_then.meta.setup.geometry.disks k_then.copied → k_then.energy ≡ energy_after setup p.energy p.state answer
          → StandsAt told_then k_then setup (point_then answer event s)
      stands_at answer event s told_then of longer low tells copies energy = record {
        disks = λ t is. tells t is ∙ sym disks_are;
        stands = subst (λ (dn : Down). StandsIn k_then (p.history ++ accepted_write event answer) (with_flush p.low answer) ends.keeps.base (record { disks = v.disks; down = dn; spun = v.spun; awaited = v.awaited })) (down_is s of)
            (subst (λ (g : History). StandsIn k_then g (with_flush p.low answer) ends.keeps.base v) longer (stands_then (with_flush p.low answer) low));
        copies_synced = copies;
        same_setup = setup_then ∙ at.same_setup;
        shown = shown_then;
        powered = powered_then;
        state = of;
        energy = sym energy;
        fits = capped _ k_then.energy energy;
        going = refl;
      }
        where
          capped : (a e : ℕ) → e ≡ min a 18446744073709551615 → e ≤ 18446744073709551615
          capped a e is = grind (arith)

      -- The event is answered.
      pub turn_by : (event : Event) (answer : Answer) (told_then : Option Trail) (s : PowerState) → watch_of p event answer ≡ w → bounds_of setup p event ≡ b → ((a : Option ℕ) → awaited_by answer a ≡ a)
          → event ≢ Bad → point_wear p < worn_at → IsEventStep setup p.history p.energy p.state event (first_lost cs) answer s → IsStateOf k_then s → h_then ≡ p.history ++ accepted_write event answer → with_flush p.low answer ≤ lo_then
          → (makes_no_call answer ≡ true → first_lost cs ≡ None → cs ≡ []) → (is_flush answer ≡ true → AreDirtyShown setup (point_then answer event s))
          → ((t : Trail) → told_then ≡ Some t → now t ≡ run p.disks cs) → k_then.slots ≡ k.slots → AreCopiesSynced k_then.meta.setup.geometry.disks k_then.copied → k_then.energy ≡ energy_after setup p.energy p.state answer → TellsNeither answer
          → GoesOn k.slots setup p event answer (StandsAt told_then k_then setup) p.disks cs
      turn_by event answer told_then s starts bounds awaits not_bad fit machine of longer low quiet flushed tells slots copies energy neither =
          let there = stands_at answer event s told_then of longer low tells copies energy in (
            point_then answer event s,
            answered at.going not_bad (record {
              fit = λ asked. fit;
              machine = machine;
              moments = subst (λ (z : Bounds). Each (HoldsWhileServing k.slots (p.history ++ accepted_write event answer) p.low z) (IsAllowed setup (replaced_by event)) (watch_of p event answer) cs) (sym bounds)
                  (subst (λ (z : Watch). Each (HoldsWhileServing k.slots (p.history ++ accepted_write event answer) p.low b) (IsAllowed setup (replaced_by event)) z cs) (sym starts)
                  (more_each k.slots p.history (accepted_write event answer) p.low b (IsAllowed setup (replaced_by event)) w cs (each (replaced_by event) (omega arith))));
              once = once;
              attached = λ is. absurd (false≢true (sym neither.0 ∙ is));
              ups = λ e low. let z = none_up n (gone_out k.meta.out) p.disks cs e calls in omega (arith, z);
              quiet = quiet;
              serving = subst (λ (z : Watch). IsServing (watch_all cs z).down) (sym starts) serving;
              carried = λ is no_loss. absurd (false≢true (sym neither.1 ∙ is));
              brought = λ moved. ap (λ (m : Meta). m.ticks) (new_base moved) ∙ sym (same_ticks v.disks.power k.meta k_then.meta marks) ∙ sym of.ticks;
              named = λ d was is moved. inl (ap (λ (m : Meta). m.out) (new_base moved) ∙ sym at.state.out ∙ was);
              mark = subst (λ (m : ℕ). IsMark m setup (point_then answer event s)) slots (stands_mark told_then k_then setup (point_then answer event s) there);
              flushed = flushed;
              disks = disks_are;
              history = refl;
              low = refl;
              energy = refl;
              spun = ap (λ (z : Watch). (watch_all cs z).spun) (sym starts);
              awaited = ap (λ (z : Watch). (watch_all cs z).awaited) (sym starts) ∙ sym (awaits (watch_all cs (watch_of p event answer)).awaited);
              going = refl;
            }),
            there,
          )

      -- by an answer for which calls are made
      pub turn : (event : Event) (answer : Answer) (told_then : Option Trail) (s : PowerState) → watch_of p event answer ≡ w → bounds_of setup p event ≡ b → ((a : Option ℕ) → awaited_by answer a ≡ a)
          → event ≢ Bad → point_wear p < worn_at → IsEventStep setup p.history p.energy p.state event (first_lost cs) answer s → IsStateOf k_then s → h_then ≡ p.history ++ accepted_write event answer → with_flush p.low answer ≤ lo_then
          → (makes_no_call answer ≡ false) → (is_flush answer ≡ true → AreDirtyShown setup (point_then answer event s))
          → ((t : Trail) → told_then ≡ Some t → now t ≡ run p.disks cs) → k_then.slots ≡ k.slots → AreCopiesSynced k_then.meta.setup.geometry.disks k_then.copied → k_then.energy ≡ energy_after setup p.energy p.state answer → TellsNeither answer
          → GoesOn k.slots setup p event answer (StandsAt told_then k_then setup) p.disks cs
      turn event answer told_then s starts bounds awaits not_bad fit machine of longer low busy flushed tells slots copies energy neither =
          turn_by event answer told_then s starts bounds awaits not_bad fit machine of longer low (λ still none. absurd (false≢true (sym busy ∙ still))) flushed tells slots copies energy neither

-- What may come of an event that calls the core: a loss counts where no disk is out, or the same again.
pub lost_among : (s : PowerState) (loss : Option ℕ) (f : PowerState → Answer × PowerState) → ((d e : ℕ) → loss ≡ Some d → named_out s.out ≡ Some e → d ≡ e) → Contains (around loss s f) (f (state_after s loss))
lost_among s None f same_disk = (0, omega arith, refl)
lost_among s (Some d) f same_disk = by s.out refl
  where
    by : (o : Out) → s.out ≡ o → Contains (if_alone o d (around_loss d s f)) (f (after_loss s d))
    by No is = (0, omega arith, refl)
    by (Gone e) is = let test : (d == e) ≡ true = equal d e (same_disk d e refl (ap named_out is)) in rw test (0, omega arith, refl)
      where
        equal : (a c : ℕ) → a ≡ c → (a == c) ≡ true
        equal a c z = grind (arith, nat_tests)
    by (Fresh e u) is = let test : (d == e) ≡ true = equal d e (same_disk d e refl (ap named_out is)) in rw test (0, omega arith, refl)
      where
        equal : (a c : ℕ) → a ≡ c → (a == c) ≡ true
        equal a c z = grind (arith, nat_tests)

-- Where nothing is staged, the disks show the dirty cells of the state.
module _ (told : Option Trail) (k : Service) (setup : Setup) (p : Point) (at : StandsAt told k setup p) (cs : List Call) (part : AreEventCalls k p.history p.low p.meta p.disks cs)
    (k_then : Service) (h_then : History) (lo_then : ℕ) (ends : EndsEvent k k_then h_then lo_then p.disks cs) where
  abbrev t : Disks
  t = (watch_all cs (watch_at p)).disks

  abbrev m_then : Meta
  m_then = k_then.meta

  all_named : (d : ℕ) → d < m_then.setup.geometry.disks → is_present (t.power d) ≡ false → named_out m_then.out ≡ Some d
  all_named d low gone = (marks told k setup p at cs part k_then h_then lo_then ends).named d (subst (λ (z : Setup). d < z.geometry.disks) (setup_then told k setup p at cs part k_then h_then lo_then ends) low) gone

  fresh_then : (d u : ℕ) → m_then.out ≡ Fresh d u → is_present (t.power d) ≡ true
  fresh_then d u is = (marks told k setup p at cs part k_then h_then lo_then ends).fresh d u is

  same_out : out_disk t.power ends.keeps.base ≡ out_disk t.power m_then
  same_out =
      sym (named_state t.power ends.keeps.base)
      ∙ ap named_out ((shown_then told k setup p at cs part k_then h_then lo_then ends).out ∙ sym (out_named t.power m_then m_then.out refl all_named fresh_then))
      ∙ named_state t.power m_then

  same_setup : ends.keeps.base.setup ≡ m_then.setup
  same_setup = base_setup k_then h_then lo_then ends.keeps.base (watch_all cs (watch_at p)) (stands_then told k setup p at cs part k_then h_then lo_then ends lo_then (omega arith))

  rows_fit : (r rows : ℕ) → r < rows → r < 512 * ((rows + 511) / 512)
  rows_fit r rows low = omega (arith, low)

  shown_bits : (s : Disks) (bits : List (List Bool)) (m base : Meta) → base.setup ≡ m.setup → out_disk s.power base ≡ out_disk s.power m → ((r d : ℕ) → r < 512 * map_count m.setup.geometry → is_dirty bits r d ≡ (view_by m s.power (contents s [])).dirty r d)
      → (r d : ℕ) → r < m.setup.geometry.rows → (initial_state s (closed_over base)).dirty r d ≡ is_dirty bits r d
  unfolding state_by
  shown_bits s bits m base setup out held r d low =
      ap (λ (o : Option ℕ). map_bit base.setup.geometry (contents s [] (map_disk o)) r d) out
      ∙ ap (λ (z : Setup). map_bit z.geometry (contents s [] (map_disk (out_disk s.power m))) r d) setup
      ∙ sym (held r d (rows_fit r m.setup.geometry.rows low))

  pub dirty_shown : (answer : Answer) (event : Event) (s : PowerState) → IsStateOf k_then s → k_then.batch ≡ [] → AreDirtyShown setup (point_then told k setup p at cs part k_then h_then lo_then ends answer event s)
  dirty_shown answer event s of nothing_staged r d low =
      let z = keeps_then told k setup p at cs part k_then h_then lo_then ends lo_then (omega arith) in
      let low_then : r < m_then.setup.geometry.rows = subst (λ (x : Setup). r < x.geometry.rows) (sym (setup_then told k setup p at cs part k_then h_then lo_then ends ∙ at.same_setup)) low in
      shown_bits t k_then.table m_then ends.keeps.base same_setup same_out
      (λ r d l. z.dirty r d l ∙ ap (λ (x : Batch). (view_by m_then t.power (contents t x)).dirty r d) nothing_staged) r d low_then ∙ sym (of.dirty r d low_then)
