-- The attach of a fresh disk in the middle of an event.
use Rattle.std.proofs.Common.{◌≡◌, ◌≢◌, suc, ℕ, ◌+◌, ◌<◌, ◌≤◌, ◌⊎◌, Bool, true, false, List, [], ◌∷◌, length, Option, Some, None, refl, sym, ap, ◌∙◌, inl, inr, subst, arith, if◌then◌else◌}
use Rattle.std.specs.Prelude.{◌==◌, slice_index}
use Rattle.std.proofs.lemmas.Bool.{cases_eq, false≢true}
use Rattle.std.proofs.lemmas.Bool.Decides.{nat_tests}
use Rattle.paraid_base.specs.declared.state.Out.{Out}
use Rattle.paraid_base.specs.declared.state.Out.TheVariants.{Gone, Fresh}
use Rattle.paraid_base.specs.History.{History}
use Rattle.paraid_base.specs.Regions.{disk_size}
use Rattle.paraid_base.specs.States.{gone_out, named_out}
use Rattle.paraid_rack.specs.declared.call.Call.{Call}
use Rattle.paraid_rack.specs.declared.call.Call.TheVariants.{Attach, SpinUp}
use Rattle.paraid_rack.specs.declared.call.Power.TheVariants.{Spinning}
use Rattle.paraid_rack.specs.Disks.{Disks, IsPresent, is_present, power_after, step}
use Rattle.paraid_rack.proofs.AtomsLemmas.{with_at_other, with_at_same}
use Rattle.paraid_record.specs.declared.meta.Meta.{Meta}
use Rattle.paraid_record.specs.declared.meta.Setup.{Setup}
use Rattle.paraid_image.specs.Looked.{IsLooked}
use Rattle.paraid_image.specs.Looked.IsLooked.{whole}
use Rattle.paraid_image.specs.Sides.{Batch, LogState}
use Rattle.paraid_image.specs.Standing.{Stands}
use Rattle.paraid_core.specs.Calls.{IsTransferCall}
use Rattle.paraid_core.specs.CoreInvariant.{HoldsBetweenCalls, IsHeldWithOneMissing}
use Rattle.paraid_core.specs.Fills.{IsShiftCommitted}
use Rattle.paraid_core.specs.Replaced.{KeepsCommitted}
use Rattle.paraid_core.proofs.AttachStoodLemmas.{attach_base, attach_stood}
use Rattle.paraid_machine.specs.Moves.{with_spins, without_spin_ups}
use Rattle.paraid_moves.specs.MoveMetas.{meta_with_out}
use Rattle.paraid_session.specs.Watch.{Bounds, Down, Each, HoldsWhileServing, IsAllowed, IsHeldWhileServing, IsServing, IsWithinBounds, Watch, awaited_after, fails_on, only, watch, watch_all}
use Rattle.paraid_recover.proofs.DownLemmas.{in_absent, in_stays}
use Rattle.paraid_recover.proofs.SpinsLemmas.{same_used}
use Rattle.paraid_txn.specs.Uses.{EachCall}
use Rattle.paraid_event.proofs.ApartLemmas.{no_one}
use Rattle.paraid_event.specs.Marks.{ArePoweredByGear}
use Rattle.paraid_event.specs.Service.{Service}
use Rattle.paraid_event.specs.Stands.{IsMidway, ServiceStandsFor}
use Rattle.paraid_event.proofs.ChainLemmas.{base_setup, only_base, start_follows_log}
use Rattle.paraid_event.proofs.EndLemmas.{IsOnly, fails_split, only_end, only_is, only_serving}
use Rattle.paraid_event.proofs.MarksLemmas.{gone_is_named}

-- no call is on a disk that is gone
pub fails_beside : (n : ℕ) (skip : Option ℕ) (s : Disks) (cs : List Call) (e : ℕ) → EachCall (IsTransferCall n skip) s cs → fails_on e cs ≡ true → skip ≢ Some e
fails_beside n skip s [] e calls is = absurd (false≢true is)
fails_beside n skip s (c ∷ cs) e calls is = elim (fails_split c cs e is) [
  | inl here ↦ subst (λ (x : ℕ). skip ≢ Some x) here.1 calls.1.1
  | inr later ↦ fails_beside n skip (step c s) cs e calls.2 later
]

pub each_end : (P : Watch → Type 0) (A : Watch → Call → Type 0) (w : Watch) (cs : List Call) → Each P A w cs → P (watch_all cs w)
each_end P A w [] each = each
each_end P A w (c ∷ cs) each = each_end P A (watch c w) cs each.2

abbrev kept_but : ℕ → ℕ → ℕ → ℕ
kept_but d e count = if e == d then 0 else count

-- spin-ups of which those of one disk are forgotten
pub forgotten : (d : ℕ) (a b : List ℕ) → length a ≡ length b → slice_index a d ≡ 0 → ((e : ℕ) → e ≢ d → slice_index a e ≡ slice_index b e) → a ≡ without_spin_ups d b
forgotten d a b many none others = go 0 a b many (λ e. by e (e == d) refl ∙ ap (λ (z : ℕ). kept_but d z (slice_index b e)) (let x : e ≡ 0 + e = omega arith in x))
  where
    same_if : (x y : ℕ) → (x == y) ≡ true → x ≡ y
    same_if x y t = grind (arith, nat_tests)

    other_if : (x y : ℕ) → (x == y) ≡ false → x ≢ y
    other_if x y t same = grind (arith, nat_tests)

    by : (e : ℕ) (t : Bool) → (e == d) ≡ t → slice_index a e ≡ (if t then 0 else slice_index b e)
    by e true t = ap (slice_index a) (same_if e d t) ∙ none
    by e false t = others e (other_if e d t)

    first : (at x y : ℕ) → x ≡ kept_but d (at + 0) y → x ≡ kept_but d at y
    first at x y is = is ∙ ap (λ (z : ℕ). kept_but d z y) (let e : at + 0 ≡ at = omega arith in e)

    later : (at i x y : ℕ) → x ≡ kept_but d (at + suc i) y → x ≡ kept_but d (suc at + i) y
    later at i x y is = is ∙ ap (λ (z : ℕ). kept_but d z y) (let e : at + suc i ≡ suc at + i = omega arith in e)

    go : (at : ℕ) (x y : List ℕ) → length x ≡ length y → ((i : ℕ) → slice_index x i ≡ kept_but d (at + i) (slice_index y i)) → x ≡ with_spins (kept_but d) at y
    go at [] [] l same = refl
    go at [] (v ∷ y) l same = absurd (omega (arith, l))
    go at (u ∷ x) [] l same = absurd (omega (arith, l))
    go at (u ∷ x) (v ∷ y) l same =
        let head : u ≡ kept_but d at v = first at u v (same 0) in
        let tail : x ≡ with_spins (kept_but d) (suc at) y = go (suc at) x y (omega (arith, l)) (λ i. later at i (slice_index x i) (slice_index y i) (same (suc i))) in
        ap (λ (z : ℕ). z ∷ x) head ∙ ap (λ (z : List ℕ). kept_but d at v ∷ z) tail

equal_if : (a b : ℕ) → (a == b) ≡ true → a ≡ b
equal_if a b t = grind (arith, nat_tests)

equal_self : (a b : ℕ) → a ≡ b → (a == b) ≡ true
equal_self a b same = grind (arith, nat_tests)

module _ (k : Service) (h : History) (lo : ℕ) (base : Meta) (w : Watch) (at : IsMidway k h lo base w) (d : ℕ) (gone : k.meta.out ≡ Gone d) (base_gone : base.out ≡ Gone d) (nothing : k.batch ≡ [])
    (same_shift : IsShiftCommitted base k.meta) (is_only : IsOnly (Some d) w.down) (done : Bool) where
  abbrev n : ℕ
  n = k.meta.setup.geometry.disks

  abbrev c : Call
  c = Attach d (disk_size k.meta.setup.geometry) done

  abbrev v : Watch
  v = watch c w

  named : named_out k.meta.out ≡ Some d
  named = ap named_out gone

  rests : (y : HoldsBetweenCalls k.slots k.named k.meta k.table [] k.copied h lo w.disks) × (y.base ≡ base)
  rests = subst (λ (b : Batch). (y : HoldsBetweenCalls k.slots k.named k.meta k.table b k.copied h lo w.disks) × (y.base ≡ base)) nothing (at.stands.keeps, at.stands.is_base)

  -- with nothing staged the disk is gone by the last commit
  pub attach_rests : KeepsCommitted k.slots k.named k.meta k.table k.copied h lo (Gone d) w.disks
  attach_rests = record {
    filled = record {
      keeps = rests.0;
      shift = subst (λ (m : Meta). IsShiftCommitted m k.meta) (sym rests.1) same_shift;
      filled = λ s from to. absurd (omega (arith, from, to));
    };
    marks = ap (λ (m : Meta). m.out) rests.1 ∙ base_gone;
  }

  power_same : (e : ℕ) → e ≢ d → v.disks.power e ≡ w.disks.power e
  unfolding step
  power_same e apart = with_at_other w.disks.power d (power_after done Spinning) e apart

  power_here : done ≡ true → v.disks.power d ≡ Spinning
  unfolding step
  power_here is = with_at_same w.disks.power d (power_after done Spinning) d refl ∙ ap (λ (t : Bool). power_after t Spinning) is

  off : (e : ℕ) → is_present (v.disks.power e) ≡ false → (e ≡ d) ⊎ (is_present (w.disks.power e) ≡ false)
  off e is = elim (cases_eq e d) [
    | inl same ↦ inl same
    | inr apart ↦ inr (ap is_present (sym (power_same e apart)) ∙ is)
  ]

  spun_same : (e : ℕ) → e ≢ d → v.spun e ≡ w.spun e
  spun_same e apart = by (e == d) refl
    where
      by : (t : Bool) → (e == d) ≡ t → (if t then 0 else w.spun e) ≡ w.spun e
      by true t = absurd (apart (equal_if e d t))
      by false t = refl

  -- none is counted since the attach
  spun_none : (e : ℕ) → e ≡ d → ◌≡◌ {A = ℕ} (v.spun e) 0
  spun_none e same = ap (λ (t : Bool). if t then 0 else w.spun e) (equal_self e d same)

  only_then : IsOnly (Some d) v.down
  only_then = only_end (Some d) w (c ∷ []) is_only (λ e failed. elim (fails_split c [] e failed) [
    | inl here ↦ ap (λ (x : ℕ). Some x) here.1
    | inr later ↦ absurd (false≢true later)
  ])

  pub attach_only : IsOnly (Some d) v.down
  attach_only = only_then

  down_then : v.down ≡ only d
  down_then = only_is (Some d) v.down only_then (λ e is. in_stays w (c ∷ []) e (at.stands.named_down e (named ∙ is)))

  one_gone : (e : ℕ) → is_present (v.disks.power e) ≡ false → e < n → Some d ≡ Some e
  one_gone e is low = elim (off e is) [
    | inl same ↦ ap (λ (x : ℕ). Some x) (sym same)
    | inr was ↦ sym named ∙ at.named e low was
  ]

  held_then : IsHeldWithOneMissing k.slots n k.named h lo v.disks → IsHeldWhileServing k.slots v.disks h lo v.down
  held_then held = subst (λ (x : Down). IsHeldWhileServing k.slots v.disks h lo x) (sym down_then)
      (held.held (Some d) (λ e low is. one_gone e is low) (λ e is. sym named ∙ at.stands.stays e is))

  module _ (b : Bounds) (setup : k.meta.setup ≡ b.setup) (ticks : base.ticks ≤ b.ticks) (epoch : base.epoch ≤ b.epoch) where
    within_then : IsServing v.down → (x : ℕ) (i : Disks) (said : LogState) → IsLooked v.disks i → Stands i x said → IsWithinBounds b v.spun i said.meta
    within_then serving x i said looked stands =
        let it = attach_stood k.slots k.named k.meta k.table k.copied h lo w.disks d (disk_size k.meta.setup.geometry) done attach_rests i x said looked stands in
        let same_meta : said.meta ≡ base = only_base k h lo base w at.stands w (start_follows_log k h lo base w at.stands) (only_serving (Some d) w.down is_only) x it.image said (whole it.is) it.stands in
        subst (IsWithinBounds b v.spun i) (sym same_meta) (record {
          same_setup = base_setup k h lo base w at.stands ∙ setup;
          in_time = epoch;
          counted_ticks = ticks;
          recorded = λ e low here not.
              let apart : e ≢ d = (λ is. not (ap named_out base_gone ∙ ap (λ (y : ℕ). Some y) (sym is))) in
              let power = sym (it.power e apart) ∙ it.is.power e in
              let was = at.stands.recorded e (subst (λ (z : Setup). e < z.geometry.disks) (sym setup) low) (ap is_present (sym power) ∙ here) (λ is. not (gone_is_named base.out e is)) in
              let used = same_used base i.power w.disks.power e power in
              let count = spun_same e apart in
              omega (arith, was, used, count);
        })

    allowed : IsAllowed b.setup (Some d) w c
    allowed = record {
      disk = subst (λ (z : Setup). d < z.geometry.disks) setup (at.low d named);
      power = tt;
      attach = λ e size made is.
          let same_size : disk_size k.meta.setup.geometry ≡ size = (let z : Attach d (disk_size k.meta.setup.geometry) done ≡ Attach e size made = is in cc) in
          let same_disk : d ≡ e = (let z : Attach d (disk_size k.meta.setup.geometry) done ≡ Attach e size made = is in cc) in
          (sym same_size ∙ ap (λ (z : Setup). disk_size z.geometry) setup, ap (λ (x : ℕ). Some x) same_disk);
      awaited = λ is. refl;
      serving = λ e made is. absurd (let z : Attach d (disk_size k.meta.setup.geometry) done ≡ SpinUp e made = is in cc);
      recorded = λ e made is. absurd (let z : Attach d (disk_size k.meta.setup.geometry) done ≡ SpinUp e made = is in cc);
    }

    -- What a session asks of it.
    pub attach_each : HoldsWhileServing k.slots h lo b w → IsHeldWithOneMissing k.slots n k.named h lo v.disks → Each (HoldsWhileServing k.slots h lo b) (IsAllowed b.setup (Some d)) w (c ∷ [])
    attach_each here held = (here, allowed, record { held = held_then held; within = within_then })

  none_awaited : (e : ℕ) → v.awaited ≡ Some e → ⊥
  none_awaited e is = by w.awaited refl is
    where
      inner : (x : ℕ) (t : Bool) → (d == x) ≡ t → d ≡ x → (if t then None else Some x) ≡ Some e → ⊥
      inner x true t same z = absurd (no_one z)
      inner x false t same z = false≢true (sym t ∙ equal_self d x same)

      by : (o : Option ℕ) → w.awaited ≡ o → awaited_after o c ≡ Some e → ⊥
      by None o z = absurd (no_one z)
      by (Some x) o z =
          let waits : gone_out k.meta.out ≡ Some x = at.stands.awaited x o in
          let one : Some d ≡ Some x = ap gone_out (sym gone) ∙ waits in
          inner x (d == x) refl (let y : d ≡ x = cc in y) z

  -- The core stands after it, with a fresh disk or with none.
  module _ (j : Service) (o : Out) (is : j ≡ record k { meta = meta_with_out k.meta o }) (o_named : named_out o ≡ Some d) (there : (e u : ℕ) → o ≡ Fresh e u → IsPresent v.disks e) where
    pub attach_stands : ServiceStandsFor j h lo v.disks → IsMidway j h lo base v
    unfolding attach_rests rests
    attach_stands keeps = subst (λ (y : Service). IsMidway y h lo base v) (sym is) (record {
      stands = record {
        keeps = keeps_then;
        is_base = attach_base k.slots k.named k.meta k.table k.copied h lo w.disks d (disk_size k.meta.setup.geometry) done attach_rests
            k.slots k.named (meta_with_out k.meta o) k.table k.batch k.copied h lo keeps_then ∙ rests.1;
        absent_down = λ e low off_now. in_absent w (c ∷ []) e (at.stands.absent_down e low) off_now;
        named_down = λ e e_named. in_stays w (c ∷ []) e (at.stands.named_down e (named ∙ sym o_named ∙ e_named));
        stays = λ e e_named. o_named ∙ sym named ∙ at.stands.stays e e_named;
        recorded = λ e low here not.
            let apart : e ≢ d = (λ same. not (ap gone_out base_gone ∙ ap (λ (y : ℕ). Some y) (sym same))) in
            let power = power_same e apart in
            let was = at.stands.recorded e low (ap is_present (sym power) ∙ here) not in
            let used = same_used base v.disks.power w.disks.power e power in
            let count = spun_same e apart in
            omega (arith, was, used, count);
        recorded_next = λ e low here not. elim (cases_eq e d) [
          | inl same ↦ let none = spun_none e same in omega (arith, none)
          | inr apart ↦
              let power = power_same e apart in
              let was = at.stands.recorded_next e low (ap is_present (sym power) ∙ here) (λ is. let z : Some e ≡ Some d = sym is ∙ ap gone_out gone in apart (let same : e ≡ d = cc in same)) in
              let used = same_used k.meta v.disks.power w.disks.power e power in
              let count = spun_same e apart in
              omega (arith, was, used, count)
        ];
        awaited = λ e waits. absurd (none_awaited e waits);
        ticks = at.stands.ticks;
      };
      named = λ e low off_now. o_named ∙ one_gone e off_now low;
      low = λ e e_named. at.low e (named ∙ sym o_named ∙ e_named);
      fresh = there;
    })
      where
        keeps_then : ServiceStandsFor (record k { meta = meta_with_out k.meta o }) h lo v.disks
        keeps_then = subst (λ (y : Service). ServiceStandsFor y h lo v.disks) is keeps

    pub attach_powered : ((e u : ℕ) → o ≡ Fresh e u → v.disks.power e ≡ Spinning) → ArePoweredByGear w.disks.power k.meta → ArePoweredByGear v.disks.power j.meta
    attach_powered spins powered = subst (λ (y : Service). ArePoweredByGear v.disks.power y.meta) (sym is) (record {
      by_gear = λ e low not. power_same e (λ same. not (o_named ∙ ap (λ (y : ℕ). Some y) (sym same))) ∙ powered.by_gear e low (λ e_named. not (o_named ∙ sym named ∙ e_named));
      fresh = spins;
    })

  pub attach_spins : done ≡ true → (e u : ℕ) → Fresh d 0 ≡ Fresh e u → v.disks.power e ≡ Spinning
  attach_spins made e u is = let same : d ≡ e = (let z : Fresh d 0 ≡ Fresh e u = is in cc) in subst (λ (x : ℕ). v.disks.power x ≡ Spinning) same (power_here made)

  pub attach_absent : (e : ℕ) → e ≢ d → is_present (v.disks.power e) ≡ false → is_present (w.disks.power e) ≡ false
  attach_absent e apart is = ap is_present (sym (power_same e apart)) ∙ is
