-- What was held before the reads of the log disks is held after them, and the commit that stands can
-- be ended.
use Rattle.std.specs.Prelude.{◌≡◌, ℕ, ◌<◌, Bool, true, false, Option, Some}
use Rattle.std.proofs.Common.{refl, sym, ◌∙◌, ap, subst, arith, inl, inr}
use Rattle.std.proofs.lemmas.Bool.{cases_eq, false≢true}
use Rattle.paraid_base.specs.History.{History}
use Rattle.paraid_rack.specs.Alike.{IsAlike}
use Rattle.paraid_rack.specs.declared.call.Power.TheVariants.{Absent}
use Rattle.paraid_rack.specs.Disks.{Disks, IsImage, is_present, lose}
use Rattle.paraid_rack.proofs.AtomsLemmas.{with_at_other, with_at_same}
use Rattle.paraid_image.specs.HeldAt.{IsHeld}
use Rattle.paraid_image.specs.LostDisk.{IsLoss}
use Rattle.paraid_image.specs.Out.{IsWeak}
use Rattle.paraid_image.specs.Rest.{AreSynced}
use Rattle.paraid_image.specs.Sides.{LogState}
use Rattle.paraid_image.specs.Sound.{LogOk}
use Rattle.paraid_image.specs.Standing.{Stands}
use Rattle.paraid_image.proofs.AlikeLemmas.{held_alike, sound_alike, weak_alike}
use Rattle.paraid_image.proofs.FailedCallLemmas.{IsHeld-lost}
use Rattle.paraid_image.proofs.StandingLemmas.{Stands-same}
use Rattle.paraid_recover.specs.HeardSides.{AmongOne}
use Rattle.paraid_txn.specs.Resume.{IsResumable}
use Rattle.paraid_txn.proofs.MeansLemmas.{absent_power}

module _ (slots : ℕ) (s : Disks) (h : History) (lo : ℕ) (was down : Option ℕ) (synced : AreSynced s) (empty : (d : ℕ) → is_present (s.power d) ≡ false → s.size d ≡ 0)
    (weak : (i : Disks) (w : ℕ) → IsImage s i → IsWeak i w → down ≡ Some w) (held : IsHeld slots s h lo was) where
  held_down : IsHeld slots s h lo down
  held_down = record { whole = held.whole; lost = held.lost; weak = weak }

  -- a slot that is absent loses nothing
  lose_none : (d : ℕ) → is_present (s.power d) ≡ false → IsAlike s (lose d s)
  lose_none d off = record {
    power = λ x. elim (cases_eq x d) [
      | inl is ↦ with_at_same s.power d Absent x is ∙ sym (absent_power (s.power d) off) ∙ ap s.power (sym is)
      | inr apart ↦ with_at_other s.power d Absent x apart
    ];
    size = λ x. elim (cases_eq x d) [
      | inl is ↦ with_at_same s.size d 0 x is ∙ sym (empty d off) ∙ ap s.size (sym is)
      | inr apart ↦ with_at_other s.size d 0 x apart
    ];
    block = λ x p there. refl;
    loose = λ x p there. refl;
  }

  lose_held : (d : ℕ) → d < 2 → (is_present ((lose d s).power d) ≡ false → down ≡ Some d) → IsHeld slots (lose d s) h lo down
  lose_held d low is = split (is_present (s.power d)) refl
    where
      at : down ≡ Some d
      at = is (ap is_present (with_at_same s.power d Absent d refl))

      split : (x : Bool) → is_present (s.power d) ≡ x → IsHeld slots (lose d s) h lo down
      split false off = held_alike slots s (lose d s) h lo down (lose_none d off) held_down
      split true here =
          let loss : IsLoss s (lose d s) d = record { power = λ x. refl; size = λ x. refl; block = λ x p n. refl; loose = λ x p n. refl } in
          subst (λ (o : Option ℕ). IsHeld slots (lose d s) h lo o) (sym at)
          (IsHeld-lost slots s (lose d s) h lo was d loss here (λ i x said image log_disk says. let n = said.meta.setup.geometry.disks_low in omega arith)
          (λ i w image p. let z : Some w ≡ Some d = sym (weak i w image p) ∙ at in cc) held)

  lose_synced : (d : ℕ) → AreSynced (lose d s)
  lose_synced d x p here = elim (cases_eq x d) [
    | inl is ↦ absurd (false≢true (sym (ap is_present (with_at_same s.power d Absent x is)) ∙ here))
    | inr apart ↦ synced x p (ap is_present (sym (with_at_other s.power d Absent x apart)) ∙ here)
  ]

  module _ (t : Disks) (among : AmongOne s t) (absent : (d : ℕ) → d < 2 → is_present (t.power d) ≡ false → down ≡ Some d) where
    pub start_held : IsHeld slots t h lo down
    start_held = elim among [
      | inl same ↦ subst (λ (u : Disks). IsHeld slots u h lo down) (sym same) held_down
      | inr lost ↦ elim lost [
        | inl is ↦ subst (λ (u : Disks). IsHeld slots u h lo down) (sym is) (lose_held 0 (omega arith) (λ off. absent 0 (omega arith) (ap (λ (u : Disks). is_present (u.power 0)) is ∙ off)))
        | inr is ↦ subst (λ (u : Disks). IsHeld slots u h lo down) (sym is) (lose_held 1 (omega arith) (λ off. absent 1 (omega arith) (ap (λ (u : Disks). is_present (u.power 1)) is ∙ off)))
      ]
    ]

    start_synced : AreSynced t
    start_synced = elim among [
      | inl same ↦ subst AreSynced (sym same) synced
      | inr lost ↦ elim lost [ inl is ↦ subst AreSynced (sym is) (lose_synced 0) | inr is ↦ subst AreSynced (sym is) (lose_synced 1) ]
    ]

    abbrev image : Disks
    image = record t { loose = λ d p. false }

    is_image : IsImage t image
    is_image = record { power = λ d. refl; size = λ d. refl; block = λ d p not. refl; loose = λ d p. refl }

    image_alike : IsAlike image t
    image_alike = record { power = λ d. refl; size = λ d. refl; block = λ d p there. refl; loose = λ d p there. start_synced d p there.present }

    back_alike : IsAlike t image
    back_alike = record { power = λ d. refl; size = λ d. refl; block = λ d p there. refl; loose = λ d p there. sym (start_synced d p there.present) }

    pub start_weak : (w : ℕ) → IsWeak t w → down ≡ Some w
    start_weak w is = start_held.weak image w is_image (weak_alike t image w back_alike is)

    pub start_broken : (x : ℕ) (said : LogState) → Stands t x said → IsResumable t x said
    start_broken x said stands =
        let it = start_held.whole image is_image in
        let sound = sound_alike slots image t h it.k image_alike it.sound in
        let same = Stands-same t sound.disk x sound.said said sound.log.stands stands in
        let log = subst (λ (o : LogState). LogOk t sound.disk o it.k) same.1 sound.log in
        record {
          synced = start_synced;
          log = subst (λ (y : ℕ). LogOk t y said said.meta.writes) same.0 (subst (λ (k : ℕ). LogOk t sound.disk said k) (sym log.writes) log);
        }
