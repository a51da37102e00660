-- Disks are spun up or parked in an event.
use Rattle.std.proofs.Common.{◌≡◌, ◌≢◌, ℕ, ◌+◌, ◌<◌, ◌≤◌, ◌⊎◌, Bool, true, false, List, [], ◌∷◌, Option, Some, None, refl, sym, ap, ◌∙◌, inl, inr, subst, arith, if◌then◌else◌}
use Rattle.std.specs.Prelude.{◌==◌, slice_index}
use Rattle.std.proofs.lemmas.Bool.{cases_eq, false≢true}
use Rattle.std.proofs.lemmas.Bool.Decides.{nat_tests}
use Rattle.paraid_base.specs.declared.state.Out.{Out}
use Rattle.paraid_base.specs.declared.state.Out.TheVariants.{No, Gone, Fresh}
use Rattle.paraid_base.specs.declared.state.Phase.{Phase}
use Rattle.paraid_base.specs.declared.state.Phase.TheVariants.{Steady, Down as PhaseDown, Up}
use Rattle.paraid_base.specs.History.{History}
use Rattle.paraid_base.specs.States.{gone_out, has_out, named_out, phase_beside, rising_to}
use Rattle.paraid_rack.specs.declared.call.Call.{Call}
use Rattle.paraid_rack.specs.declared.call.Call.TheVariants.{Read, Write, Sync, Park, SpinUp, Attach}
use Rattle.paraid_rack.specs.declared.call.Power.{Power}
use Rattle.paraid_rack.specs.declared.call.Power.TheVariants.{Absent, Parked, Spinning}
use Rattle.paraid_rack.specs.Disks.{Disks, IsPresent, is_present, power_after, step, with_at}
use Rattle.paraid_rack.specs.Lawful.{IsLawful}
use Rattle.paraid_rack.specs.Told.{Through}
use Rattle.paraid_rack.specs.Trail.{run}
use Rattle.paraid_rack.proofs.AtomsLemmas.{with_at_other, with_at_same}
use Rattle.paraid_record.specs.declared.meta.Meta.{Meta}
use Rattle.paraid_record.specs.declared.meta.Setup.{Setup}
use Rattle.paraid_image.specs.Calls.{disk_of, is_attach, is_done}
use Rattle.paraid_image.specs.HeldAt.{IsHeld}
use Rattle.paraid_image.specs.Looked.IsLooked.{whole}
use Rattle.paraid_image.specs.Out.{first_absent}
use Rattle.paraid_image.specs.Power.{PowerState, out_after}
use Rattle.paraid_image.specs.Sides.{LogState, closed_over}
use Rattle.paraid_image.specs.Spins.{made_spin_ups}
use Rattle.paraid_image.proofs.FailedCallLemmas.{failed_is_loss}
use Rattle.paraid_core.specs.CoreInvariant.{IsHeldWithOneMissing}
use Rattle.paraid_core.specs.Stood.{CanFail}
use Rattle.paraid_core.proofs.StoodLemmas.{stood_by_park, stood_by_spin_up}
use Rattle.paraid_machine.specs.Moves.{after_loss}
use Rattle.paraid_recover.specs.Powers.{IsPowerCall}
use Rattle.paraid_session.specs.Watch.{Bounds, Down, Each, HoldsWhileServing, IsAllowed, IsAmongDown, IsHeldWhileServing, IsServing, Watch, attach_count, awaited_after, fails_on, first_lost, nobody, only, several, watch, watch_all, with_down}
use Rattle.paraid_session.proofs.LayerLemmas.{IsHeldMissing, absent_failed, each_both, each_held, each_map, fails_first, first_fails}
use Rattle.paraid_recover.specs.StartCalls.{IsSpinUpRecorded}
use Rattle.paraid_recover.specs.RecordedSpins.{AreSpinUpsRecorded, HasRecord, OnlyStands, StaysWithin}
use Rattle.paraid_recover.proofs.CallsLemmas.{each_map as each_call_map}
use Rattle.paraid_recover.proofs.DownLemmas.{in_absent, in_stays, watched_disks}
use Rattle.paraid_recover.proofs.SpinsLemmas.{each_recorded, one_recorded, serving_by}
use Rattle.paraid_txn.specs.Uses.{EachCall}
use Rattle.paraid_event.proofs.ApartLemmas.{no_one}
use Rattle.paraid_event.specs.Marks.{ArePoweredByGear, IsMarkedBy, ShowsMeta}
use Rattle.paraid_event.specs.Powering.{AreDisksPowered, EndsPowered, SpinsWhileServing}
use Rattle.paraid_event.specs.Service.{IsStateOf, Service}
use Rattle.paraid_event.specs.Stands.{IsMidway, ServiceStandsFor}
use Rattle.paraid_event.proofs.ChainLemmas.{base_names, base_setup, only_base, start_follows_log}
use Rattle.paraid_event.proofs.EndLemmas.{IsOnly, fails_split, only_end, self_image}
use Rattle.paraid_event.proofs.MarksLemmas.{gone_is_named, kept_fill, kept_out, kept_phase, lost_fill, lost_out, lost_phase, marked_setup, marked_used, newly_named, same_gear, same_spins, same_ticks, still_gone, still_named, still_shown, twice}
use Rattle.paraid_event.proofs.PartLemmas.{IsSettled}
use Rattle.paraid_event.proofs.TurnLemmas.{moved, state_after}

-- a disk that is gone by the last commit is so by what the disks show
still_out : (o : Out) (d : ℕ) → gone_out o ≡ Some d → (power : ℕ → Power) (slot : Option ℕ) → gone_out (out_after o power slot) ≡ Some d
still_out No d is power slot = absurd (no_one is)
still_out (Gone e) d is power slot = is
still_out (Fresh e u) d is power slot = absurd (no_one is)

each_last : (P : Watch → Type 0) (A : Watch → Call → Type 0) (w : Watch) (cs : List Call) → Each P A w cs → P (watch_all cs w)
each_last P A w [] each = each
each_last P A w (c ∷ cs) each = each_last P A (watch c w) cs each.2

through_map : (P Q : Disks → Type 0) → ((s : Disks) → P s → Q s) → (s : Disks) (cs : List Call) → Through P s cs → Through Q s cs
through_map P Q f s [] p = f s p
through_map P Q f s (c ∷ cs) p = (f s p.0, through_map P Q f (step c s) cs p.1)

-- the disk that is down, and where one more that fails leaves one, it is that one
alone_of : (down : Down) → IsServing down → (o : Option ℕ) × ((d : ℕ) → IsAmongDown down d → o ≡ Some d) × ((e x : ℕ) → IsServing (with_down e down) → o ≡ Some x → x ≡ e)
alone_of nobody serving = (None, (λ d is. absurd is), (λ e x one is. absurd (no_one is)))
alone_of (only f) serving = (Some f, (λ d is. ap (λ (y : ℕ). Some y) (sym is)), (λ e x one is. let z : Some f ≡ Some x = is in let same : f ≡ x = cc in sym (by e (e == f) refl one ∙ same)))
  where
    equal : (a b : ℕ) → (a == b) ≡ true → a ≡ b
    equal a b t = grind (arith, nat_tests)

    by : (e : ℕ) (t : Bool) → (e == f) ≡ t → IsServing (if t then only f else several) → e ≡ f
    by e true t one = equal e f t
    by e false t one = absurd one
alone_of several serving = absurd serving

no_attach : (m : Meta) (c : Call) → IsPowerCall m c → is_attach c ≡ false
no_attach m (Read e p done) is = absurd is
no_attach m (Write e p b done) is = absurd is
no_attach m (Sync e done) is = absurd is
no_attach m (Park e done) is = refl
no_attach m (SpinUp e done) is = refl
no_attach m (Attach e size done) is = absurd is

power_disk : (m : Meta) (c : Call) → IsPowerCall m c → disk_of c < m.setup.geometry.disks
power_disk m (Read e p done) is = absurd is
power_disk m (Write e p b done) is = absurd is
power_disk m (Sync e done) is = absurd is
power_disk m (Park e done) is = is.0
power_disk m (SpinUp e done) is = is.0
power_disk m (Attach e size done) is = absurd is

attached : (is_it : Bool) (count : ℕ) → is_it ≡ false → (if is_it then count + 1 else count) ≡ count
attached true count is = let z : true ≡ false = is in cc
attached false count is = refl

pub power_attaches : (m : Meta) (s : Disks) (cs : List Call) → EachCall (IsPowerCall m) s cs → attach_count cs ≡ 0
power_attaches m s [] each = refl
power_attaches m s (c ∷ cs) each = attached (is_attach c) (attach_count cs) (no_attach m c each.1) ∙ power_attaches m (step c s) cs each.2

-- a disk that is absent stays so
off_at : (p : ℕ → Power) (e x : ℕ) (now was : Power) → p e ≡ was → is_present was ≡ true → is_present (p x) ≡ false → is_present (with_at p e now x) ≡ false
off_at p e x now was is there off = elim (cases_eq x e) [
  | inl same ↦ absurd (false≢true (sym off ∙ ap (λ (y : ℕ). is_present (p y)) same ∙ ap is_present is ∙ there))
  | inr apart ↦ ap is_present (with_at_other p e now x apart) ∙ off
]

off_step : (m : Meta) (s : Disks) (c : Call) (x : ℕ) → IsLawful s c → IsPowerCall m c → is_present (s.power x) ≡ false → is_present ((step c s).power x) ≡ false
unfolding step
off_step m s (Read e p done) x lawful is off = absurd is
off_step m s (Write e p b done) x lawful is off = absurd is
off_step m s (Sync e done) x lawful is off = absurd is
off_step m s (Park e done) x lawful is off = off_at s.power e x (power_after done Parked) Spinning lawful.0 refl off
off_step m s (SpinUp e done) x lawful is off = off_at s.power e x (power_after done Spinning) Parked lawful refl off
off_step m s (Attach e size done) x lawful is off = absurd is

pub power_off : (m : Meta) (w : Watch) (cs : List Call) (x : ℕ) → EachCall (IsPowerCall m) w.disks cs → is_present (w.disks.power x) ≡ false → is_present ((watch_all cs w).disks.power x) ≡ false
power_off m w [] x each off = off
power_off m w (c ∷ cs) x each off = power_off m (watch c w) cs x each.2 (off_step m w.disks c x each.0 each.1 off)

call_failed : (s : Disks) (c : Call) → is_done c ≡ false → is_present ((step c s).power (disk_of c)) ≡ false
call_failed s c failed = let l = failed_is_loss s c failed in ap is_present (l.power (disk_of c) ∙ with_at_same s.power (disk_of c) Absent (disk_of c) refl)

-- one on which a call failed is absent, and of the array
failed_off : (w : Watch) (c : Call) (cs : List Call) (e : ℕ) → fails_on e (c ∷ cs) ≡ true → (fails_on e cs ≡ true) ⊎ (is_present ((step c w.disks).power e) ≡ false)
failed_off w c cs e is = elim (fails_split c cs e is) [
  | inl here ↦ inr (subst (λ (x : ℕ). is_present ((step c w.disks).power x) ≡ false) here.1 (call_failed w.disks c here.0))
  | inr later ↦ inl later
]

pub power_failed : (m : Meta) (w : Watch) (cs : List Call) (e : ℕ) → EachCall (IsPowerCall m) w.disks cs → fails_on e cs ≡ true → is_present ((watch_all cs w).disks.power e) ≡ false
power_failed m w [] e each is = absurd (false≢true is)
power_failed m w (c ∷ cs) e each is = elim (failed_off w c cs e is) [
  | inl later ↦ power_failed m (watch c w) cs e each.2 later
  | inr off ↦ power_off m (watch c w) cs e each.2 off
]

pub power_below : (m : Meta) (s : Disks) (cs : List Call) (e : ℕ) → EachCall (IsPowerCall m) s cs → fails_on e cs ≡ true → e < m.setup.geometry.disks
power_below m s [] e each is = absurd (false≢true is)
power_below m s (c ∷ cs) e each is = elim (fails_split c cs e is) [
  | inl here ↦ subst (λ (x : ℕ). x < m.setup.geometry.disks) here.1 (power_disk m c each.1)
  | inr later ↦ power_below m (step c s) cs e each.2 later
]

rising_beside : (b : Bool) (phase : Phase) → rising_to (phase_beside b phase) ≡ rising_to phase
rising_beside b Steady = refl
rising_beside true (PhaseDown to) = refl
rising_beside false (PhaseDown to) = refl
rising_beside b (Up to) = refl

-- a meta with the mark of a lost disk goes with the disk that it names out
pub settled_by : (power : ℕ → Power) (m new : Meta) → IsMarkedBy power m new → IsSettled m → IsSettled new
settled_by power m new marks settled = by marks.lost refl
  where
    by : (o : Option ℕ) → marks.lost ≡ o → IsSettled new
    by None none = record {
      phase = ap (λ (x : Out). phase_beside (has_out x) new.phase) (kept_out power m new marks none) ∙ ap (phase_beside (has_out m.out)) (kept_phase power m new marks none) ∙ settled.phase ∙ sym (kept_phase power m new marks none);
      fill = ap (λ (x : Out). if has_out x then 0 else new.fill) (kept_out power m new marks none) ∙ ap (λ (f : ℕ). if has_out m.out then 0 else f) (kept_fill power m new marks none) ∙ settled.fill ∙ sym (kept_fill power m new marks none);
    }
    by (Some d) some = record {
      phase = ap (λ (x : Out). phase_beside (has_out x) new.phase) (lost_out power m new marks d some) ∙ ap (phase_beside true) (lost_phase power m new marks d some) ∙ twice true m.phase ∙ sym (lost_phase power m new marks d some);
      fill = ap (λ (x : Out). if has_out x then 0 else new.fill) (lost_out power m new marks d some) ∙ sym (lost_fill power m new marks d some);
    }

-- a disk on which a call fails was there
lawful_there : (m : Meta) (s : Disks) (c : Call) → IsLawful s c → IsPowerCall m c → IsPresent s (disk_of c)
lawful_there m s (Read e p done) lawful is = absurd is
lawful_there m s (Write e p b done) lawful is = absurd is
lawful_there m s (Sync e done) lawful is = absurd is
lawful_there m s (Park e done) lawful is = ap is_present lawful.0
lawful_there m s (SpinUp e done) lawful is = ap is_present lawful
lawful_there m s (Attach e size done) lawful is = absurd is

pub power_there : (m : Meta) (s : Disks) (cs : List Call) (e : ℕ) → EachCall (IsPowerCall m) s cs → fails_on e cs ≡ true → IsPresent s e
power_there m s [] e each is = absurd (false≢true is)
power_there m s (c ∷ cs) e each is = elim (fails_split c cs e is) [
  | inl here ↦ subst (IsPresent s) here.1 (lawful_there m s c each.0 each.1)
  | inr later ↦ before (is_present (s.power e)) refl (power_there m (step c s) cs e each.2 later)
]
  where
    before : (t : Bool) → is_present (s.power e) ≡ t → IsPresent (step c s) e → IsPresent s e
    before true t there = t
    before false t there = absurd (false≢true (sym (off_step m s c e each.0 each.1 t) ∙ there))

-- disk `e` is spun up in these calls
abbrev pub Raises : ℕ → List Call → Type 0
Raises e [] = ⊥
Raises e (c ∷ cs) = ((done : Bool) × (c ≡ SpinUp e done)) ⊎ Raises e cs

none_after : (o : Option ℕ) (c : Call) → ((d : ℕ) → o ≡ Some d → ⊥) → (d : ℕ) → awaited_after o c ≡ Some d → ⊥
none_after None c none d is = absurd (no_one is)
none_after (Some x) c none d is = none x refl

module _ (k : Service) (h : History) (lo : ℕ) (base : Meta) (w : Watch) (at : IsMidway k h lo base w) (shows : ShowsMeta w.disks.power base k.meta) (none_awaited : (d : ℕ) → w.awaited ≡ Some d → ⊥)
    (cs : List Call) (part : AreDisksPowered k h lo w.disks cs) (has : (e : ℕ) → Raises e cs → base.gear ≤ e → e < rising_to base.phase → 1 ≤ slice_index base.spins e) where
  abbrev v : Watch
  v = watch_all cs w

  abbrev n : ℕ
  n = k.meta.setup.geometry.disks

  same_setup : base.setup ≡ k.meta.setup
  same_setup = base_setup k h lo base w at.stands

  same_rising : rising_to k.meta.phase ≡ rising_to base.phase
  same_rising = ap rising_to (sym shows.phase) ∙ rising_beside (has_out k.meta.out) base.phase

  below : (d : ℕ) → d < n → d < base.setup.geometry.disks
  below d low = subst (λ (z : Setup). d < z.geometry.disks) (sym same_setup) low

  not_base : (d : ℕ) → named_out k.meta.out ≢ Some d → named_out base.out ≢ Some d
  not_base d not named = not (base_names k h lo base w at.stands d named)

  by_base : (c : Call) → IsPowerCall k.meta c → IsPowerCall base c
  by_base (Read e p done) is = is
  by_base (Write e p b done) is = is
  by_base (Sync e done) is = is
  by_base (Park e done) is = (
    below e is.0,
    (let l = is.1 in let s = shows.gear in omega (arith, l, s)),
    (let l = is.2 in let s = same_rising in omega (arith, l, s)),
    not_base e is.3,
  )
  by_base (SpinUp e done) is = (
    below e is.0,
    (let l = is.1 in let s = shows.gear in omega (arith, l, s)),
    (let l = is.2 in let s = same_rising in omega (arith, l, s)),
    not_base e is.3,
  )
  by_base (Attach e size done) is = is

  calls : EachCall (IsPowerCall base) w.disks cs
  calls = each_call_map (IsPowerCall k.meta) (IsPowerCall base) by_base w.disks cs part.calls

  abbrev P : Disks → Type 0
  P = IsHeldWithOneMissing k.slots n part.out h lo

  outs : (d : ℕ) → part.out ≡ Some d → named_out k.meta.out ≡ Some d
  outs d is = elim (part.is_out d is) [ inl was ↦ at.stands.stays d was | inr now_named ↦ now_named ]

  -- a disk that is missing is down
  record Covers (u : Watch) : Type 0 where
    absent : (d : ℕ) → d < n → is_present (u.disks.power d) ≡ false → IsAmongDown u.down d
    out : (d : ℕ) → part.out ≡ Some d → IsAmongDown u.down d

  covers_step : (u : Watch) (c : Call) → Covers u → Covers (watch c u)
  covers_step u c cover = record {
    absent = λ d low gone. in_absent u (c ∷ []) d (cover.absent d low) gone;
    out = λ d is. in_stays u (c ∷ []) d (cover.out d is);
  }

  can_fail : (u : Watch) (c : Call) (e : ℕ) → IsPresent u.disks e → e < base.setup.geometry.disks → OnlyStands base u → (serving : IsServing u.down) → IsServing (with_down e u.down) → IsHeld k.slots u.disks h lo (alone_of u.down serving).0 → CanFail u.disks e
  can_fail u c e here low alone serving one held = record {
    present = here;
    within = λ i x said looked stands. subst (λ (m : Meta). e < m.setup.geometry.disks) (sym (alone serving x i said looked stands)) low;
    alone = λ i x image weak. (alone_of u.down serving).2 e x one (held.weak i x image weak);
  }

  failed_serving : (u : Down) (e : ℕ) (done : Bool) → done ≡ false → IsServing (if done then u else with_down e u) → IsServing (with_down e u)
  failed_serving u e done is serving = subst (λ (t : Bool). IsServing (if t then u else with_down e u)) is serving

  held_beside : (u : Watch) → Covers u → P u.disks → (serving : IsServing u.down) → IsHeld k.slots u.disks h lo (alone_of u.down serving).0
  held_beside u cover held serving = let o = alone_of u.down serving in held.held o.0 (λ d low gone. o.1 d (cover.absent d low gone)) (λ d is. o.1 d (cover.out d is))

  -- no call brings another meta
  only_step : (u : Watch) (c : Call) → IsLawful u.disks c → IsPowerCall base c → Covers u → P u.disks → OnlyStands base u → OnlyStands base (watch c u)
  only_step u (Read e p done) lawful is cover held alone serving x i said looked stands = absurd is
  only_step u (Write e p b done) lawful is cover held alone serving x i said looked stands = absurd is
  only_step u (Sync e done) lawful is cover held alone serving x i said looked stands = absurd is
  only_step u (Park e done) lawful is cover held alone serving x i said looked stands =
      let now_serving = serving_by u.down (Park e done) serving in
      let at_u = held_beside u cover held now_serving in
      let it = stood_by_park k.slots u.disks e done h lo (alone_of u.down now_serving).0 lawful.0 at_u
      (λ failed. can_fail u (Park e done) e (ap is_present lawful.0) is.0 alone now_serving (failed_serving u.down e done failed serving) at_u) i x said looked stands in
      alone now_serving x it.image said it.looked it.stands
  only_step u (SpinUp e done) lawful is cover held alone serving x i said looked stands =
      let now_serving = serving_by u.down (SpinUp e done) serving in
      let at_u = held_beside u cover held now_serving in
      let it = stood_by_spin_up k.slots u.disks e done h lo (alone_of u.down now_serving).0 lawful at_u
      (λ failed. can_fail u (SpinUp e done) e (ap is_present lawful) is.0 alone now_serving (failed_serving u.down e done failed serving) at_u) i x said looked stands in
      alone now_serving x it.image said it.looked it.stands
  only_step u (Attach e size done) lawful is cover held alone serving x i said looked stands = absurd is

  record_of : (u : Watch) (c : Call) → IsPowerCall base c → ((e : ℕ) (done : Bool) → c ≡ SpinUp e done → base.gear ≤ e → e < rising_to base.phase → 1 ≤ slice_index base.spins e) → HasRecord base u c
  record_of u (Read e p done) is one serving d made same = absurd is
  record_of u (Write e p b done) is one serving d made same = absurd is
  record_of u (Sync e done) is one serving d made same = absurd is
  record_of u (Park e done) is one serving d made same = absurd (let z : Park e done ≡ SpinUp d made = same in cc)
  record_of u (SpinUp e done) is one serving d made same = let equal : e ≡ d = (let z : SpinUp e done ≡ SpinUp d made = same in cc) in subst (λ (x : ℕ). 1 ≤ slice_index base.spins x) equal (one e done refl is.1 is.2)
  record_of u (Attach e size done) is one serving d made same = absurd is

  resting : (u : Watch) (ds : List Call) → ((e : ℕ) → Raises e ds → base.gear ≤ e → e < rising_to base.phase → 1 ≤ slice_index base.spins e) → Covers u → Through P u.disks ds → EachCall (IsPowerCall base) u.disks ds → OnlyStands base u → Each (OnlyStands base) (HasRecord base) u ds
  resting u [] raised cover through each alone = alone
  resting u (c ∷ ds) raised cover through each alone = (
    alone,
    record_of u c each.1 (λ e done is. raised e (inl (done, is))),
    resting (watch c u) ds (λ e is. raised e (inr is)) (covers_step u c cover) through.1 each.2 (only_step u c each.0 each.1 cover through.0 alone),
  )

  covered : Covers w
  covered = record { absent = at.stands.absent_down; out = λ d is. at.stands.named_down d (outs d is) }

  alone_each : Each (OnlyStands base) (HasRecord base) w cs
  alone_each = resting w cs has covered part.held calls (λ serving x i said looked stands. only_base k h lo base w at.stands w (start_follows_log k h lo base w at.stands) serving x i said looked stands)

  alone_end : OnlyStands base v
  alone_end = each_last (OnlyStands base) (HasRecord base) w cs alone_each

  recorded_start : AreSpinUpsRecorded base w
  recorded_start serving d low here not = at.stands.recorded d (subst (λ (z : Setup). d < z.geometry.disks) same_setup low) here (λ gone. not (gone_is_named base.out d gone))

  allowed_each : (b : Bounds) (asked : Option ℕ) → base.setup ≡ b.setup → (u : Watch) (ds : List Call) → ((d : ℕ) → u.awaited ≡ Some d → ⊥) → EachCall (IsPowerCall base) u.disks ds → SpinsWhileServing u.down ds
      → Each (λ (u : Watch). Unit {0}) (λ (u : Watch) (c : Call). IsSpinUpRecorded u c → IsAllowed b.setup asked u c) u ds
  allowed_each b asked setup u [] none each spins = tt
  allowed_each b asked setup u (c ∷ ds) none each spins = (
    tt,
    (λ recorded. record {
      disk = subst (λ (z : Setup). disk_of c < z.geometry.disks) setup (power_disk base c each.1);
      power = each.0;
      attach = λ d size done is. absurd (false≢true (sym (no_attach base c each.1) ∙ ap is_attach is));
      awaited = λ is. absurd (none (disk_of c) is);
      serving = spins.0;
      recorded = recorded.recorded;
    }),
    allowed_each b asked setup (watch c u) ds (none_after u.awaited c none) each.2 spins.1,
  )

  module _ (b : Bounds) (setup : k.meta.setup ≡ b.setup) (ticks : base.ticks ≤ b.ticks) (epoch : base.epoch ≤ b.epoch) where
    within_each : Each (StaysWithin b) IsSpinUpRecorded w cs
    within_each = each_recorded base b (same_setup ∙ setup) epoch ticks w cs calls alone_each recorded_start

    -- What a session asks of each moment.
    pub power_each : SpinsWhileServing w.down cs → (asked : Option ℕ) → Each (HoldsWhileServing k.slots h lo b) (IsAllowed b.setup asked) w cs
    power_each spins asked =
        let held = each_held k.slots n part.out h lo w cs (through_map P (IsHeldMissing k.slots n part.out h lo) (λ s is. record {
          held = λ down covers. is.held down
              (λ d low gone. covers d (record { disk = low; is = inl gone }))
              (λ d named. covers d (record { disk = at.low d (outs d named); is = inr named }));
        }) w.disks cs part.held) (λ d missing. elim missing.is [ inl gone ↦ covered.absent d missing.disk gone | inr named ↦ covered.out d named ]) in
        each_map _ (HoldsWhileServing k.slots h lo b) _ (IsAllowed b.setup asked)
        (λ u is. record { held = is.0; within = is.1.0 })
        (λ u c is. is.1.1 is.1.0) w cs
        (each_both (λ (u : Watch). IsHeldWhileServing k.slots u.disks h lo u.down) (λ (u : Watch). StaysWithin b u × Unit {0})
        (λ (u : Watch) (c : Call). Unit {0}) (λ (u : Watch) (c : Call). IsSpinUpRecorded u c × (IsSpinUpRecorded u c → IsAllowed b.setup asked u c)) w cs held
        (each_both (StaysWithin b) (λ (u : Watch). Unit {0}) IsSpinUpRecorded (λ (u : Watch) (c : Call). IsSpinUpRecorded u c → IsAllowed b.setup asked u c) w cs within_each
        (allowed_each b asked (same_setup ∙ setup) w cs none_awaited calls spins)))

  module _ (k_then : Service) (ends : EndsPowered k k_then h lo w.disks cs) where
    disks_are : v.disks ≡ run w.disks cs
    disks_are = watched_disks w cs

    pub power_marks : IsMarkedBy v.disks.power k.meta k_then.meta
    power_marks = subst (λ (s : Disks). IsMarkedBy s.power k.meta k_then.meta) (sym disks_are) ends.marks

    pub power_powered : ArePoweredByGear v.disks.power k_then.meta
    power_powered = subst (λ (s : Disks). ArePoweredByGear s.power k_then.meta) (sym disks_are) ends.powered

    -- a disk that failed is the one that is out
    pub power_named : (e : ℕ) → fails_on e cs ≡ true → named_out k_then.meta.out ≡ Some e
    power_named e failed = power_marks.named e (power_below k.meta w.disks cs e part.calls failed) (power_failed k.meta w cs e part.calls failed)

    pub power_only : (o : Option ℕ) → IsOnly o w.down → ((e : ℕ) → named_out k_then.meta.out ≡ Some e → o ≡ Some e) → IsOnly o v.down
    power_only o is only_out = only_end o w cs is (λ e failed. only_out e (power_named e failed))

    pub power_shown : ShowsMeta v.disks.power base k_then.meta
    power_shown = still_shown v.disks.power k.meta k_then.meta power_marks base w.disks.power same_setup shows (λ d off. power_off k.meta w cs d part.calls off)

    keeps_there : (y : ServiceStandsFor k_then h lo v.disks) × (y.base ≡ ends.keeps.base)
    keeps_there = moved k_then h lo (run w.disks cs) v.disks (sym disks_are) ends.keeps

    abbrev said : LogState
    said = closed_over keeps_there.0.base

    abbrev image : Disks
    image = record v.disks { loose = λ d p. false }

    base_is : IsServing v.down → keeps_there.0.base ≡ base
    base_is serving = let i = keeps_there.0.copies.copying image (self_image v.disks) in alone_end serving i.disk image said (whole (self_image v.disks)) i.log.stands

    recorded_end : IsServing v.down → (d : ℕ) → d < n → IsPresent v.disks d → gone_out base.out ≢ Some d → v.spun d ≤ made_spin_ups base v.disks.power d
    recorded_end serving d low here not = one_recorded base d w cs calls alone_each (λ now_serving there. at.stands.recorded d low there not) serving here

    low_then : (d : ℕ) → d < k_then.meta.setup.geometry.disks → d < n
    low_then d low = subst (λ (z : Setup). d < z.geometry.disks) (marked_setup v.disks.power k.meta k_then.meta power_marks) low

    low_now : (d : ℕ) → d < n → d < k_then.meta.setup.geometry.disks
    low_now d low = subst (λ (z : Setup). d < z.geometry.disks) (sym (marked_setup v.disks.power k.meta k_then.meta power_marks)) low

    absent_down : (d : ℕ) → d < n → is_present (v.disks.power d) ≡ false → IsAmongDown v.down d
    absent_down d low gone = in_absent w cs d (at.stands.absent_down d low) (subst (λ (s : Disks). is_present (s.power d) ≡ false) disks_are gone)

    none_end : (u : Watch) (ds : List Call) → ((d : ℕ) → u.awaited ≡ Some d → ⊥) → (d : ℕ) → (watch_all ds u).awaited ≡ Some d → ⊥
    none_end u [] none d is = none d is
    none_end u (c ∷ ds) none d is = none_end (watch c u) ds (none_after u.awaited c none) d is

    base_used : (d : ℕ) → made_spin_ups k.meta v.disks.power d ≡ made_spin_ups base v.disks.power d
    base_used d = rw (shows.gear, shows.spins, same_rising) refl

    -- The core stands after it.
    pub power_stands : IsServing v.down → IsMidway k_then h lo base v
    power_stands serving = record {
      stands = record {
        keeps = keeps_there.0;
        is_base = base_is serving;
        absent_down = λ d low gone. absent_down d (low_then d low) gone;
        named_down = λ d is. elim (newly_named v.disks.power k.meta k_then.meta power_marks d is) [
          | inl was ↦ in_stays w cs d (at.stands.named_down d was)
          | inr gone ↦ absent_down d gone.0 gone.1
        ];
        stays = λ d is. still_named v.disks.power k.meta k_then.meta power_marks d
            (base_names k h lo base w at.stands d (ap (λ (m : Meta). named_out m.out) (sym (base_is serving)) ∙ keeps_there.0.named_by ∙ is));
        recorded = λ d low here not. recorded_end serving d (low_then d low) here not;
        recorded_next = λ d low here not.
            let not_was : gone_out base.out ≢ Some d = (λ gone. not (still_gone v.disks.power k.meta k_then.meta power_marks d (ap gone_out (sym shows.out) ∙ still_out base.out d gone w.disks.power (first_absent w.disks.power base.setup.geometry.disks)))) in
            let was = recorded_end serving d (low_then d low) here not_was in
            let used = marked_used v.disks.power k.meta k_then.meta power_marks v.disks.power d in
            let same = base_used d in
            omega (arith, was, used, same);
        awaited = λ d is. absurd (none_end w cs none_awaited d is);
        ticks = let e = same_ticks v.disks.power k.meta k_then.meta power_marks in let l = at.stands.ticks in omega (arith, l, e);
      };
      named = λ d low gone. power_marks.named d (low_then d low) gone;
      low = λ d is. low_now d (elim (newly_named v.disks.power k.meta k_then.meta power_marks d is) [ inl was ↦ at.low d was | inr gone ↦ gone.0 ]);
      fresh = λ d u is. power_marks.fresh d u is;
    }

    pub power_setup : k_then.meta.setup ≡ k.meta.setup
    power_setup = marked_setup v.disks.power k.meta k_then.meta power_marks

    -- The meta after it is that of the state after the loss, or the same.
    module _ (s : PowerState) (of : IsStateOf k s) (settled : IsSettled k.meta) where
      abbrev with_counts : Service
      with_counts = record k_then { table = k.table; samples = k.samples; served = k.served }

      gone_already : (d : ℕ) → k.meta.out ≡ Gone d → (phase_beside true k.meta.phase ≡ k.meta.phase) × (◌≡◌ {A = ℕ} k.meta.fill 0)
      gone_already d is = (
        ap (λ (o : Out). phase_beside (has_out o) k.meta.phase) (sym is) ∙ settled.phase,
        sym settled.fill ∙ ap (λ (o : Out). if has_out o then 0 else k.meta.fill) is,
      )

      of_loss : (d : ℕ) → k_then.meta.out ≡ Gone d → k_then.meta.phase ≡ phase_beside true k.meta.phase → ◌≡◌ {A = ℕ} k_then.meta.fill 0 → IsStateOf with_counts (after_loss s d)
      of_loss d out phase fill = record {
        gear = of.gear ∙ sym (same_gear v.disks.power k.meta k_then.meta power_marks);
        phase = ap (phase_beside true) of.phase ∙ sym phase;
        fill = sym fill;
        out = sym out;
        spins = of.spins ∙ sym (same_spins v.disks.power k.meta k_then.meta power_marks);
        ticks = of.ticks ∙ sym (same_ticks v.disks.power k.meta k_then.meta power_marks);
        dirty = λ r e low. of.dirty r e (subst (λ (z : Setup). r < z.geometry.rows) power_setup low);
        samples = of.samples;
        served = of.served;
      }

      of_none : k_then.meta.out ≡ k.meta.out → k_then.meta.phase ≡ k.meta.phase → k_then.meta.fill ≡ k.meta.fill → IsStateOf with_counts s
      of_none out phase fill = record {
        gear = of.gear ∙ sym (same_gear v.disks.power k.meta k_then.meta power_marks);
        phase = of.phase ∙ sym phase;
        fill = of.fill ∙ sym fill;
        out = of.out ∙ sym out;
        spins = of.spins ∙ sym (same_spins v.disks.power k.meta k_then.meta power_marks);
        ticks = of.ticks ∙ sym (same_ticks v.disks.power k.meta k_then.meta power_marks);
        dirty = λ r e low. of.dirty r e (subst (λ (z : Setup). r < z.geometry.rows) power_setup low);
        samples = of.samples;
        served = of.served;
      }

      was_out : (d : ℕ) (o : Out) → k.meta.out ≡ o → named_out o ≡ Some d → ((u : ℕ) → o ≡ Fresh d u → ⊥) → k.meta.out ≡ Gone d
      was_out d No is named fresh = absurd (no_one named)
      was_out d (Gone e) is named fresh = is ∙ ap Gone (let z : Some e ≡ Some d = named in let same_disk : e ≡ d = cc in same_disk)
      was_out d (Fresh e u) is named fresh = let z : Some e ≡ Some d = named in let same_disk : e ≡ d = cc in absurd (fresh u (ap (λ (x : ℕ). Fresh x u) same_disk))

      lost_marks : (x : ℕ) → power_marks.lost ≡ Some x → (k_then.meta.out ≡ Gone x) × (k_then.meta.phase ≡ phase_beside true k.meta.phase) × (◌≡◌ {A = ℕ} k_then.meta.fill 0)
      lost_marks x some = (lost_out v.disks.power k.meta k_then.meta power_marks x some, lost_phase v.disks.power k.meta k_then.meta power_marks x some, lost_fill v.disks.power k.meta k_then.meta power_marks x some)

      with_none : first_lost cs ≡ None → (l : Option ℕ) → power_marks.lost ≡ l → IsStateOf with_counts s
      with_none first None none = of_none (kept_out v.disks.power k.meta k_then.meta power_marks none) (kept_phase v.disks.power k.meta k_then.meta power_marks none) (kept_fill v.disks.power k.meta k_then.meta power_marks none)
      with_none first (Some x) some =
          let gone = subst (λ (t : Disks). is_present (t.power x) ≡ false) disks_are (power_marks.absent x some) in
          elim (absent_failed w.disks cs x gone) [
            | inl before ↦
                let is = was_out x k.meta.out refl (at.named x (power_marks.disk x some) before) (λ u f. false≢true (sym before ∙ at.fresh x u f)) in
                let same_marks = gone_already x is in
                let now_marks = lost_marks x some in
                of_none (now_marks.0 ∙ sym is) (now_marks.1 ∙ same_marks.0) (now_marks.2 ∙ sym same_marks.1)
            | inr failed ↦ let it = fails_first cs x failed in absurd (no_one (sym first ∙ it.1))
          ]

      with_some : (d : ℕ) → first_lost cs ≡ Some d → (l : Option ℕ) → power_marks.lost ≡ l → IsStateOf with_counts (after_loss s d)
      with_some d first None none =
          let out = kept_out v.disks.power k.meta k_then.meta power_marks none in
          let failed = first_fails cs d first in
          let is = was_out d k.meta.out refl (ap named_out (sym out) ∙ power_named d failed) (λ u f. false≢true (sym (power_failed k.meta w cs d part.calls failed) ∙ power_marks.fresh d u (out ∙ f))) in
          let same_marks = gone_already d is in
          of_loss d (out ∙ is) (kept_phase v.disks.power k.meta k_then.meta power_marks none ∙ sym same_marks.0) (kept_fill v.disks.power k.meta k_then.meta power_marks none ∙ same_marks.1)
      with_some d first (Some x) some =
          let now_marks = lost_marks x some in
          let same_disk : x ≡ d = (let z : Some x ≡ Some d = ap named_out (sym now_marks.0) ∙ power_named d (first_fails cs d first) in cc) in
          of_loss d (now_marks.0 ∙ ap Gone same_disk) now_marks.1 now_marks.2

      pub power_state : IsStateOf with_counts (state_after s (first_lost cs))
      power_state = by (first_lost cs) refl
        where
          by : (o : Option ℕ) → first_lost cs ≡ o → IsStateOf with_counts (state_after s o)
          by None first = with_none first power_marks.lost refl
          by (Some d) first = with_some d first power_marks.lost refl

    -- and goes with the disk that it names out
    pub power_settled : IsSettled k.meta → IsSettled k_then.meta
    power_settled settled = settled_by v.disks.power k.meta k_then.meta power_marks settled
