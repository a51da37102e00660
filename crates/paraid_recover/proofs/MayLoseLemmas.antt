-- Where another meta stands without the log disk that stood, this one could be lost at the start.
use Rattle.std.proofs.Common.{◌≡◌, ℕ, false, List, Option, Some, None, refl, sym, ap, ◌∙◌, inl, inr, subst, arith}
use Rattle.std.proofs.lemmas.Bool.{cases_eq, false≢true}
use Rattle.paraid_base.specs.History.{History}
use Rattle.paraid_rack.specs.declared.call.Call.{Call}
use Rattle.paraid_rack.specs.declared.call.Power.TheVariants.{Absent}
use Rattle.paraid_rack.specs.Disks.{Disks, IsImage, IsPresent, is_present, lose}
use Rattle.paraid_rack.specs.Trail.{run}
use Rattle.paraid_rack.proofs.AtomsLemmas.{with_at_other, with_at_same}
use Rattle.paraid_record.specs.declared.meta.Meta.{Meta}
use Rattle.paraid_image.specs.HeldAt.{IsHeld, MayLose}
use Rattle.paraid_image.specs.Looked.{IsLooked}
use Rattle.paraid_image.specs.Looked.IsLooked.{lost, whole}
use Rattle.paraid_image.specs.Out.{IsMissing, IsWeak, first_absent, named_out, or_else, out_disk}
use Rattle.paraid_image.specs.Out.IsWeak.{named, out}
use Rattle.paraid_image.specs.Sides.{LogState, Says}
use Rattle.paraid_image.specs.Sound.{LogOk}
use Rattle.paraid_image.specs.Standing.{Stands, other_log}
use Rattle.paraid_image.proofs.OutLemmas.{first_absent_is, missing_is_out, named_below, says_in_range}
use Rattle.paraid_image.proofs.SidesLemmas.{Says-same}
use Rattle.paraid_image.proofs.StandingLemmas.{Stands-same}
use Rattle.paraid_session.specs.Watch.{IsAmongDown, IsServing, Watch, watch_all}
use Rattle.paraid_recover.specs.MountCalls.{IsMountCall}
use Rattle.paraid_recover.proofs.BeginsLemmas.{stays_absent}
use Rattle.paraid_recover.proofs.DownLemmas.{in_absent, in_stays, several_in}
use Rattle.paraid_recover.proofs.RestLemmas.{out_by_name}
use Rattle.paraid_txn.specs.Uses.{EachCall}

module _ (slots n : ℕ) (skip : Option ℕ) (h : History) (lo : ℕ) (x : ℕ) (said : LogState) (w : Watch) (stands : Stands w.disks x said) (weak_in : (v : ℕ) → IsWeak w.disks v → IsAmongDown w.down v)
    (cs : List Call) (each : EachCall (IsMountCall n skip) w.disks cs) (serving : IsServing (watch_all cs w).down) (beside : Option ℕ) (held : IsHeld slots (run w.disks cs) h lo beside)
    (stood : (j : Disks) → IsImage (run w.disks cs) j → IsPresent j x → (z : ℕ) (o : LogState) → Stands j z o → o.meta ≡ said.meta) where
  -- the log disk that stood is absent by now
  by_absent : (v : ℕ) → IsWeak w.disks v → is_present ((run w.disks cs).power x) ≡ false → v ≡ x
  by_absent v is off = several_in (watch_all cs w).down v x serving (in_stays w cs v (weak_in v is)) (in_absent w cs x (λ gone. absurd (false≢true (sym gone ∙ stands.says.present))) off)

  abbrev AtMostOne : Disks → Meta → Type 0
  AtMostOne j m = (d e : ℕ) → IsMissing j.power m d → IsMissing j.power m e → d ≡ e

  -- the out disk at the start is so in an image in which the same meta stands
  still_out : (j : Disks) (y : ℕ) (sj : LogState) (k v : ℕ) → LogOk j y sj k → sj.meta ≡ said.meta → (is_present (w.disks.power v) ≡ false → is_present (j.power v) ≡ false)
      → out_disk w.disks.power said.meta ≡ Some v → out_disk j.power sj.meta ≡ Some v
  still_out j y sj k v log meta gone is = subst (λ (m : Meta). out_disk j.power m ≡ Some v) (sym meta) (split (named_out said.meta.out) refl is)
    where
      split : (o : Option ℕ) → named_out said.meta.out ≡ o → or_else o (first_absent w.disks.power said.meta.setup.geometry.disks) ≡ Some v → out_disk j.power said.meta ≡ Some v
      split (Some u) name at = out_by_name j.power said.meta v (name ∙ at)
      split None name at =
          let found = first_absent_is w.disks.power said.meta.setup.geometry.disks v at in
          let off = gone found.1 in
          missing_is_out j.power said.meta v (says_in_range said.opened _ said.meta said.batch stands.says.log) (subst (AtMostOne j) meta log.single) (record { disk = found.0; is = inl off }) off

  off_in : (j : Disks) (v : ℕ) → IsImage (run w.disks cs) j → is_present (w.disks.power v) ≡ false → is_present (j.power v) ≡ false
  off_in j v image off = ap is_present (image.power v) ∙ stays_absent w.disks cs n skip v each off

  -- with this log disk lost from an image, a disk that was weak at the start is this one
  by_lost : (j : Disks) (z : ℕ) (o p : LogState) (v : ℕ) → IsImage (run w.disks cs) j → MayLose j x → Stands (lose x j) z o → Says w.disks (other_log x) p → o.meta ≡ p.meta → IsWeak w.disks v → v ≡ x
  by_lost j z o p v image may at says meta (out y a there is) =
      let same = (Stands-same w.disks y x a said there stands).1 in
      let sound = (held.whole j image).sound in
      let as_said : sound.said.meta ≡ said.meta = stood j image may.present sound.disk sound.said sound.log.stands in
      let now = still_out j sound.disk sound.said _ v sound.log as_said (off_in j v image) (subst (λ (k : LogState). out_disk w.disks.power k.meta ≡ Some v) same is) in
      may.weak v (out sound.disk sound.said sound.log.stands now)
  by_lost j z o p v image may at says meta (named y a b there none told name) =
      let here = (Stands-same w.disks y x a said there stands).0 in
      let same = Says-same w.disks (other_log x) b p (subst (λ (k : ℕ). Says w.disks (other_log k) b) here told) says in
      let sound = (held.lost j x image may).sound in
      let as_o = (Stands-same (lose x j) sound.disk z sound.said o sound.log.stands at).1 in
      let as_p : sound.said.meta ≡ p.meta = ap (λ (k : LogState). k.meta) as_o ∙ meta in
      let m = sound.said.meta in
      let names : named_out m.out ≡ Some v = ap (λ (k : Meta). named_out k.out) as_p ∙ ap (λ (k : LogState). named_out k.meta.out) (sym same) ∙ name in
      let range = says_in_range sound.said.opened _ m sound.said.batch sound.log.stands.says.log in
      let low = stands.log_disk in
      let many = m.setup.geometry.disks_low in
      sym (sound.log.single x v (record { disk = omega (arith, low, many); is = inl (ap is_present (with_at_same j.power x Absent x refl)) })
      (record { disk = named_below m.setup.geometry m.gear m.out v range.out names; is = inr names }))

  -- So the log disk that stood could be lost at the start.
  pub may_lose_start : (i : Disks) (z : ℕ) (o p : LogState) → IsLooked (run w.disks cs) i → is_present (i.power x) ≡ false → Stands i z o → Says w.disks (other_log x) p → o.meta ≡ p.meta → MayLose w.disks x
  may_lose_start i z o p looked off at says meta = record {
    standing = x;
    said = said;
    stands = stands;
    disk = (let low = stands.log_disk in let many = said.meta.setup.geometry.disks_low in omega (arith, low, many));
    present = stands.says.present;
    weak = λ v is. by looked off at v is;
  }
    where
      by : IsLooked (run w.disks cs) i → is_present (i.power x) ≡ false → Stands i z o → (v : ℕ) → IsWeak w.disks v → v ≡ x
      by (whole image) gone here v is = by_absent v is (ap is_present (sym (image.power x)) ∙ gone)
      by (lost j e image may same) gone here v is = elim (cases_eq x e) [
        | inr apart ↦ by_absent v is (ap is_present (sym (image.power x)) ∙ ap is_present (sym (with_at_other j.power e Absent x apart)) ∙ ap (λ (k : Disks). is_present (k.power x)) same ∙ gone)
        | inl at_e ↦ by_lost j z o p v image (subst (MayLose j) (sym at_e) may) (subst (λ (k : ℕ). Stands (lose k j) z o) (sym at_e) (subst (λ (k : Disks). Stands k z o) (sym same) here)) says meta is
      ]
