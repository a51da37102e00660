-- With which bits of the map the array is served, whether or not a history is held.
use Rattle.std.specs.Prelude.{◌≡◌, ◌≢◌, ℕ, ◌<◌, ◌≤◌, ◌⊎◌, Bool, true, false, [], Option, Some, None}
use Rattle.std.proofs.Common.{refl, sym, ◌∙◌, ap, subst, arith, inl, inr}
use Rattle.std.proofs.lemmas.Bool.{false≢true}
use Rattle.paraid_base.specs.declared.geometry.Geometry.{Geometry}
use Rattle.paraid_base.specs.Regions.{disk_size, map_place_of}
use Rattle.paraid_base.specs.Told.{HasRisen}
use Rattle.paraid_base.proofs.ToldLemmas.{HasRisen-sooner}
use Rattle.paraid_rack.specs.declared.call.Power.{Power}
use Rattle.paraid_rack.specs.declared.call.Power.TheVariants.{Absent}
use Rattle.paraid_rack.specs.Disks.{Disks, is_present}
use Rattle.paraid_rack.specs.Slots.{Agrees, Slot}
use Rattle.paraid_rack.specs.Trail.{Trail, now}
use Rattle.paraid_record.specs.declared.meta.Meta.{Meta}
use Rattle.paraid_record.specs.declared.meta.Setup.{Setup}
use Rattle.paraid_record.specs.Range.{IsInRange}
use Rattle.paraid_image.specs.Out.{first_absent, named_out, or_else, out_disk}
use Rattle.paraid_image.specs.Spot.{map_disk}
use Rattle.paraid_image.specs.Standing.{contents}
use Rattle.paraid_image.proofs.CallLemmas.{decide_some}
use Rattle.paraid_image.proofs.OutLemmas.{first_absent_finds, first_absent_is}
use Rattle.paraid_txn.specs.Losses.{IsOutOfCommit, OnlyLosesSlots}
use Rattle.paraid_txn.specs.Losses.IsOutOfCommit.{is_absent, was_named, is_named}
use Rattle.paraid_txn.proofs.MeansLemmas.{absent_power}
use Rattle.paraid_recover.specs.Map.{HasBitsOf, HasMap, HasMapAtEnd, ShowsMap}
use Rattle.paraid_recover.specs.Map.HasMapAtEnd.{lost, shown}
use Rattle.paraid_recover.specs.Mounted.{IsServable, with_loss}
use Rattle.paraid_recover.specs.RecoveryMark.{to_mark, with_mark}
use Rattle.paraid_recover.proofs.FitLemmas.{gone_named, marks}
use Rattle.paraid_recover.proofs.GoneLemmas.{NoneComes, none_comes, out_by_name, since_sooner, stays_absent}
use Rattle.paraid_recover.proofs.MapEndLemmas.{bit_same, contents_there, map_disk_in, map_disk_zero, map_place_low, place_there}
use Rattle.paraid_recover.proofs.RenewLemmas.{renewed_out}

pub loss_setup : (m : Meta) (o : Option ℕ) → (with_loss m o).setup ≡ m.setup
loss_setup m None = refl
loss_setup m (Some d) = refl

-- a disk that is out by the meta with a mark and with a loss was named out before, or it is absent
module _ (meta standing : Meta) (mark : Option ℕ) (b c : ℕ → Slot) (is : standing ≡ with_mark meta mark) (range : IsInRange standing)
    (gone : (d : ℕ) → mark ≡ Some d → is_present (b d).power ≡ false) (none : NoneComes b c) where
  by_mark : (o : Option ℕ) → mark ≡ o → (d : ℕ) → named_out (with_mark meta o).out ≡ Some d → (named_out meta.out ≡ Some d) ⊎ ((c d).power ≡ Absent)
  by_mark None at d name = inl (sym (ap named_out (renewed_out meta)) ∙ name)
  by_mark (Some e) at d name =
      let same : e ≡ d = (let z : Some e ≡ Some d = name in cc) in
      inr (stays_absent b c d none (absent_power (b d).power (gone d (at ∙ ap Some same))))

  by_loss : (o : Option ℕ) → to_mark (λ e. (c e).power) standing ≡ o → (d : ℕ) → named_out (with_loss standing o).out ≡ Some d → (named_out meta.out ≡ Some d) ⊎ ((c d).power ≡ Absent)
  by_loss None at d name = by_mark mark refl d (ap (λ (x : Meta). named_out x.out) (sym is) ∙ name)
  by_loss (Some e) at d name =
      let same : e ≡ d = (let z : Some e ≡ Some d = name in cc) in
      inr (absent_power (c d).power (subst (λ (k : ℕ). is_present (c k).power ≡ false) same (marks (λ x. (c x).power) standing e range at).1))

  pub named_or_absent : (d : ℕ) → named_out (with_loss standing (to_mark (λ e. (c e).power) standing)).out ≡ Some d → (named_out meta.out ≡ Some d) ⊎ ((c d).power ≡ Absent)
  named_or_absent = by_loss (to_mark (λ e. (c e).power) standing) refl

-- where none is out, each disk of the array is there
there_if_none : (power : ℕ → Power) (n d : ℕ) (named : Option ℕ) → or_else named (first_absent power n) ≡ None → d < n → is_present (power d) ≡ true
there_if_none power n d named none low = split (is_present (power d)) refl
  where
    apart : (o : Option ℕ) (e : ℕ) → first_absent power n ≡ Some e → or_else o (first_absent power n) ≡ None → ⊥
    apart None e found is = let z : Some e ≡ None = sym found ∙ is in cc
    apart (Some x) e found is = let z : Some x ≡ None = is in cc

    split : (x : Bool) → is_present (power d) ≡ x → is_present (power d) ≡ true
    split true here = here
    split false off = let it = first_absent_finds power n d low off in absurd (apart named it.0 it.1 none)

-- seen from before an earlier part
pub map_sooner : (a b c : ℕ → Slot) (m : Meta) (dirty : ℕ → ℕ → Bool) (told : Option Trail) → OnlyLosesSlots a b → HasMapAtEnd b c m dirty told → HasMapAtEnd a c m dirty told
map_sooner a b c m dirty told spared (shown bits) = shown bits
map_sooner a b c m dirty told spared (lost gone risen shows) =
    lost (since_sooner a b c 0 (none_comes a b spared) gone) (HasRisen-sooner (a 0).faults (b 0).faults (c 0).faults (spared.no_fall 0) risen) shows

module _ (count last array rows : ℕ) (named : Option ℕ) (b c : ℕ → Slot) (meta m : Meta) (out : Option ℕ) (dirty : ℕ → ℕ → Bool) (mid told : Option Trail)
    (servable : IsServable count c last array named m rows) (setup : m.setup ≡ meta.setup) (has : HasMap meta.setup.geometry out c dirty mid told)
    (agrees : (t : Trail) → told ≡ Some t → Agrees (now t) c) (out_is : out ≡ or_else (named_out meta.out) (first_absent (λ d. (b d).power) meta.setup.geometry.disks))
    (absent : (d : ℕ) → (b d).power ≡ Absent → (c d).power ≡ Absent) (stays : (d : ℕ) → named_out meta.out ≡ Some d → named_out m.out ≡ Some d)
    (since : (d : ℕ) → named_out m.out ≡ Some d → (named_out meta.out ≡ Some d) ⊎ ((c d).power ≡ Absent))
    (failed : (d : ℕ) → (c d).power ≡ Absent → ((b d).power ≡ Absent) ⊎ HasRisen (b d).faults (c d).faults) where
  abbrev g : Geometry
  g = m.setup.geometry

  geometry_is : meta.setup.geometry ≡ g
  geometry_is = ap (λ (s : Setup). s.geometry) (sym setup)

  abbrev n : ℕ
  n = meta.setup.geometry.disks

  disks_is : n ≡ g.disks
  disks_is = ap (λ (x : Geometry). x.disks) geometry_is

  shows : (t : Trail) → told ≡ Some t → ShowsMap g ((now t).block has.disk) dirty
  shows t tells = subst (λ (x : Geometry). ShowsMap x ((now t).block has.disk) dirty) geometry_is (has.shows t tells)

  log_low : (x : ℕ) → x < 2 → x < g.disks
  log_low x low = let t = m.setup.geometry.disks_low in omega arith

  -- a disk that is not out by the meta is there
  there : (d : ℕ) → d < g.disks → named_out m.out ≢ Some d → is_present (c d).power ≡ true
  there d low not = split (is_present (c d).power) refl
    where
      split : (x : Bool) → is_present (c d).power ≡ x → is_present (c d).power ≡ true
      split true here = here
      split false off = absurd (not (servable.absent d low off))

  -- the disk that is out is the one that the meta names
  out_same : (power : ℕ → Power) → ((d : ℕ) → power d ≡ (c d).power) → out_disk power m ≡ named_out m.out
  out_same power same = split (named_out m.out) refl
    where
      found : named_out m.out ≡ None → (o : Option ℕ) → first_absent power g.disks ≡ o → o ≡ None
      found none None is = refl
      found none (Some d) is =
          let it = first_absent_is power g.disks d is in
          absurd (let z : None ≡ Some d = sym none ∙ servable.absent d it.0 (ap is_present (sym (same d)) ∙ it.1) in cc)

      split : (o : Option ℕ) → named_out m.out ≡ o → or_else o (first_absent power g.disks) ≡ o
      split (Some d) is = refl
      split None is = found is (first_absent power g.disks) refl

  -- the log disk of which the view has the map
  abbrev y : ℕ
  y = map_disk (named_out m.out)

  y_there : is_present (c y).power ≡ true
  y_there = there y (log_low y (map_disk_in (named_out m.out)).0) (map_disk_in (named_out m.out)).1

  y_large : disk_size g ≤ (c y).size
  y_large = servable.fit.large y (log_low y (map_disk_in (named_out m.out)).0) y_there (λ gone. (map_disk_in (named_out m.out)).1 (gone_named m.out y gone))

  y_shown : (t : Trail) → told ≡ Some t → (r : ℕ) → r < g.rows → contents (now t) [] y (map_place_of g r) ≡ (now t).block y (map_place_of g r)
  y_shown t tells r low =
      let a = agrees t tells in
      let size = a.size y in
      let large = y_large in
      let place = map_place_low m r (omega arith) in
      contents_there (now t) y (map_place_of g r) (place_there (now t) y (map_place_of g r) (ap is_present (a.power y) ∙ y_there) (omega arith)) (omega arith)

  bits : has.disk ≡ y → (t : Trail) → told ≡ Some t → HasBitsOf m dirty (now t)
  bits at t tells r d low =
      let s : Disks = now t in
      let p = map_place_of g r in
      shows t tells r d low
      ∙ bit_same g (s.block has.disk) (contents s [] (map_disk (out_disk s.power m))) r d
      (ap (λ (x : ℕ). s.block x p) at ∙ sym (y_shown t tells r low) ∙ ap (λ (o : Option ℕ). contents s [] (map_disk o) p) (sym (out_same s.power (agrees t tells).power)))

  -- a disk that was out still is
  still_out : (d : ℕ) → out ≡ Some d → named_out m.out ≡ Some d
  still_out d was = by (out_by_name (λ e. (b e).power) n (named_out meta.out) out out_is d was)
    where
      by : IsOutOfCommit (λ e. (b e).power) n (named_out meta.out) None d → named_out m.out ≡ Some d
      by (is_absent low gone) = servable.absent d (subst (λ (k : ℕ). d < k) disks_is low) (ap is_present (absent d gone))
      by (was_named name) = stays d name
      by (is_named name) = absurd (let z : None ≡ Some d = name in cc)

  -- log disk 0 was there, its map was read, and it is out
  lost_since : out ≡ None → has.disk ≡ 0 → named_out m.out ≡ Some 0 → HasMapAtEnd b c m dirty told
  lost_since none at name =
      let none_named = sym out_is ∙ none in
      let first = there_if_none (λ e. (b e).power) n 0 (named_out meta.out) none_named (subst (λ (k : ℕ). 0 < k) (sym disks_is) (log_low 0 (omega arith))) in
      let away : (c 0).power ≡ Absent = elim (since 0 name) [
        | inl was ↦ absurd (let z : Some 0 ≡ None = sym (ap (λ (o : Option ℕ). or_else o (first_absent (λ e. (b e).power) n)) was) ∙ none_named in cc)
        | inr gone ↦ gone
      ] in
      let risen : HasRisen (b 0).faults (c 0).faults = elim (failed 0 away) [
        | inl was ↦ absurd (false≢true (sym (ap is_present was) ∙ first))
        | inr risen ↦ risen
      ] in
      lost (record { there = first; absent = away }) risen (λ t tells. subst (λ (x : ℕ). ShowsMap g ((now t).block x) dirty) at (shows t tells))

  -- the map that was read is that of the view, but for a log disk 0 that was lost since
  pub map_served : HasMapAtEnd b c m dirty told
  map_served = elim has.which [
    | inl same ↦ split out refl same
    | inr second ↦
        let name = servable.absent 0 (log_low 0 (omega arith)) (ap is_present second.2) in
        shown (bits (second.1 ∙ sym (ap map_disk name)))
  ]
    where
      split : (o : Option ℕ) → out ≡ o → has.disk ≡ map_disk out → HasMapAtEnd b c m dirty told
      split (Some d) is same = shown (bits (same ∙ ap map_disk is ∙ sym (ap map_disk (still_out d is))))
      split None is same = elim (decide_some (named_out m.out) 0) [
        | inl name ↦ lost_since is (same ∙ ap map_disk is) name
        | inr not ↦ shown (bits (same ∙ ap map_disk is ∙ sym (map_disk_zero (named_out m.out) not)))
      ]
