-- Where another meta stands without the log disk that stood, this one could be lost before.
use Rattle.std.specs.Prelude.{◌≡◌, ℕ, ◌<◌, false, Option, Some, None}
use Rattle.std.proofs.Common.{refl, sym, ap, ◌∙◌, inl, inr, subst, arith}
use Rattle.std.proofs.lemmas.Bool.{cases_eq}
use Rattle.paraid_base.specs.History.{History}
use Rattle.paraid_rack.specs.declared.call.Power.TheVariants.{Absent}
use Rattle.paraid_rack.specs.Disks.{Disks, IsImage, IsPresent, is_present, lose}
use Rattle.paraid_rack.proofs.AtomsLemmas.{with_at_other, with_at_same}
use Rattle.paraid_record.specs.declared.meta.Meta.{Meta}
use Rattle.paraid_image.specs.HeldAt.{IsHeld, MayLose}
use Rattle.paraid_image.specs.Looked.{IsLooked}
use Rattle.paraid_image.specs.Looked.IsLooked.{lost, whole}
use Rattle.paraid_image.specs.Out.{IsMissing, IsWeak, first_absent, named_out, or_else, out_disk}
use Rattle.paraid_image.specs.Out.IsWeak.{named, out}
use Rattle.paraid_image.specs.Sides.{LogState, Says}
use Rattle.paraid_image.specs.Sound.{LogOk}
use Rattle.paraid_image.specs.Standing.{Stands, other_log}
use Rattle.paraid_image.proofs.CallLemmas.{out_named}
use Rattle.paraid_image.proofs.OutLemmas.{first_absent_is, missing_is_out, named_below, says_in_range}
use Rattle.paraid_image.proofs.SidesLemmas.{Says-same}
use Rattle.paraid_image.proofs.StandingLemmas.{Stands-same}

-- From disks `s` to disks `u`, of which each that is absent is the one that is down.
module _ (slots : ℕ) (h : History) (lo x : ℕ) (said : LogState) (s u : Disks) (down : Option ℕ) (stands : Stands s x said) (weaks : (v : ℕ) → IsWeak s v → down ≡ Some v)
    (gone : (d : ℕ) → d < said.meta.setup.geometry.disks → is_present (u.power d) ≡ false → down ≡ Some d) (stays : (v : ℕ) → is_present (s.power v) ≡ false → is_present (u.power v) ≡ false)
    (held : IsHeld slots u h lo down) (stood : (j : Disks) → IsImage u j → IsPresent j x → (z : ℕ) (o : LogState) → Stands j z o → o.meta ≡ said.meta) where
  x_low : x < said.meta.setup.geometry.disks
  x_low = let low = stands.log_disk in let many = said.meta.setup.geometry.disks_low in omega (arith, low, many)

  -- the log disk that stood is absent by now
  by_absent : (v : ℕ) → IsWeak s v → is_present (u.power x) ≡ false → v ≡ x
  by_absent v is off = let z : Some v ≡ Some x = sym (weaks v is) ∙ gone x x_low off in cc

  abbrev AtMostOne : Disks → Meta → Type 0
  AtMostOne j m = (d e : ℕ) → IsMissing j.power m d → IsMissing j.power m e → d ≡ e

  -- the out disk at the start is so in an image in which the same meta stands
  still_out : (j : Disks) (y : ℕ) (sj : LogState) (k v : ℕ) → LogOk j y sj k → sj.meta ≡ said.meta → (is_present (s.power v) ≡ false → is_present (j.power v) ≡ false)
      → out_disk s.power said.meta ≡ Some v → out_disk j.power sj.meta ≡ Some v
  still_out j y sj k v log meta off is = subst (λ (m : Meta). out_disk j.power m ≡ Some v) (sym meta) (split (named_out said.meta.out) refl is)
    where
      split : (o : Option ℕ) → named_out said.meta.out ≡ o → or_else o (first_absent s.power said.meta.setup.geometry.disks) ≡ Some v → out_disk j.power said.meta ≡ Some v
      split (Some w) name at = out_named j.power said.meta v (name ∙ at)
      split None name at =
          let found = first_absent_is s.power said.meta.setup.geometry.disks v at in
          let absent = off found.1 in
          missing_is_out j.power said.meta v (says_in_range said.opened _ said.meta said.batch stands.says.log) (subst (AtMostOne j) meta log.single) (record { disk = found.0; is = inl absent }) absent

  -- with this log disk lost from an image, a disk that was weak at the start is this one
  by_lost : (j : Disks) (z : ℕ) (o p : LogState) (v : ℕ) → IsImage u j → MayLose j x → Stands (lose x j) z o → Says s (other_log x) p → o.meta ≡ p.meta → IsWeak s v → v ≡ x
  by_lost j z o p v image may at says meta (out y a there is) =
      let same = (Stands-same s y x a said there stands).1 in
      let sound = (held.whole j image).sound in
      let as_said : sound.said.meta ≡ said.meta = stood j image may.present sound.disk sound.said sound.log.stands in
      let now = still_out j sound.disk sound.said _ v sound.log as_said (λ off. ap is_present (image.power v) ∙ stays v off) (subst (λ (k : LogState). out_disk s.power k.meta ≡ Some v) same is) in
      may.weak v (out sound.disk sound.said sound.log.stands now)
  by_lost j z o p v image may at says meta (named y a b there none told name) =
      let here = (Stands-same s y x a said there stands).0 in
      let same = Says-same s (other_log x) b p (subst (λ (k : ℕ). Says s (other_log k) b) here told) says in
      let sound = (held.lost j x image may).sound in
      let as_o = (Stands-same (lose x j) sound.disk z sound.said o sound.log.stands at).1 in
      let as_p : sound.said.meta ≡ p.meta = ap (λ (k : LogState). k.meta) as_o ∙ meta in
      let m = sound.said.meta in
      let names : named_out m.out ≡ Some v = ap (λ (k : Meta). named_out k.out) as_p ∙ ap (λ (k : LogState). named_out k.meta.out) (sym same) ∙ name in
      let range = says_in_range sound.said.opened _ m sound.said.batch sound.log.stands.says.log in
      let low = stands.log_disk in
      let many = m.setup.geometry.disks_low in
      sym (sound.log.single x v (record { disk = omega (arith, low, many); is = inl (ap is_present (with_at_same j.power x Absent x refl)) })
      (record { disk = named_below m.setup.geometry m.gear m.out v range.out names; is = inr names }))

  -- So the log disk that stood could be lost.
  pub could_lose : (i : Disks) (z : ℕ) (o p : LogState) → IsLooked u i → is_present (i.power x) ≡ false → Stands i z o → Says s (other_log x) p → o.meta ≡ p.meta → MayLose s x
  could_lose i z o p looked off at says meta = record {
    standing = x;
    said = said;
    stands = stands;
    disk = x_low;
    present = stands.says.present;
    weak = λ v is. by looked off at v is;
  }
    where
      by : IsLooked u i → is_present (i.power x) ≡ false → Stands i z o → (v : ℕ) → IsWeak s v → v ≡ x
      by (whole image) absent here v is = by_absent v is (ap is_present (sym (image.power x)) ∙ absent)
      by (lost j e image may same) absent here v is = elim (cases_eq x e) [
        | inr apart ↦ by_absent v is (ap is_present (sym (image.power x)) ∙ ap is_present (sym (with_at_other j.power e Absent x apart)) ∙ ap (λ (k : Disks). is_present (k.power x)) same ∙ absent)
        | inl at_e ↦ by_lost j z o p v image (subst (MayLose j) (sym at_e) may) (subst (λ (k : ℕ). Stands (lose k j) z o) (sym at_e) (subst (λ (k : Disks). Stands k z o) (sym same) here)) says meta is
      ]
