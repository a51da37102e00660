-- Which meta stands while an interrupted commit is ended.
use Rattle.std.specs.Prelude.{◌≡◌, ℕ, ◌<◌, false, Option, Some}
use Rattle.std.proofs.Common.{refl, sym, ap, ◌∙◌, inl, inr, subst, arith}
use Rattle.std.proofs.lemmas.Bool.{cases_Bool, cases_eq, false≢true}
use Rattle.paraid_base.specs.History.{History}
use Rattle.paraid_rack.specs.Disks.{Disks, IsImage, IsPresent, is_present}
use Rattle.paraid_rack.specs.Trail.{Trail, disks, now}
use Rattle.paraid_record.specs.declared.meta.Meta.{Meta}
use Rattle.paraid_image.specs.HeldAt.{IsHeld}
use Rattle.paraid_image.specs.Looked.{IsLooked}
use Rattle.paraid_image.specs.Looked.IsLooked.{lost, whole}
use Rattle.paraid_image.specs.Out.{IsMissing, IsWeak}
use Rattle.paraid_image.specs.Out.IsWeak.{out as out_weak}
use Rattle.paraid_image.specs.Sides.{Batch, LogState, Says}
use Rattle.paraid_image.specs.Standing.{Stands, other_log}
use Rattle.paraid_image.proofs.CallLemmas.{out_named}
use Rattle.paraid_image.proofs.SidesLemmas.{Says-same}
use Rattle.paraid_image.proofs.StandingLemmas.{Stands-same}
use Rattle.paraid_txn.specs.Commit.{ImageStandsFor, IsEachImage, IsEitherMissing, IsOneMissing}
use Rattle.paraid_txn.specs.Resume.{ImageStandsForResumed, IsResumable, StandsWhileResumed}
use Rattle.paraid_txn.proofs.HeldResumeLemmas.{held_resumes}
use Rattle.paraid_txn.proofs.RanLemmas.{resume_moments}
use Rattle.paraid_recover.specs.StandingMetas.{StandsForeseen, StandsInMoments}
use Rattle.paraid_recover.specs.StandingMetas.StandsForeseen.{same, without}
use Rattle.paraid_recover.proofs.FallbackLemmas.{could_lose}

-- one disk at most is missing where each that is so is the one that is down
pub one_down : (power : _) (before after : Meta) (down : Option ℕ) → ((d : ℕ) → IsEitherMissing power before after d → down ≡ Some d) → IsOneMissing power before after
one_down power before after down is = record { one = λ d e p q. let z : Some d ≡ Some e = sym (is d p) ∙ is e q in cc }

-- the meta of what an image stands for
pub stands_for : (start i : Disks) (m : Meta) (batch : Batch) (z : ℕ) (o : LogState) → ImageStandsFor start i m batch → Stands i z o → o.meta ≡ m
stands_for start i m batch z o is stands = ap (λ (k : LogState). k.meta) (Stands-same i z is.disk o is.said stands is.log.stands).1 ∙ is.meta

module _ (slots : ℕ) (h : History) (lo x : ℕ) (said : LogState) (s u : Disks) (down : Option ℕ) (broken : IsResumable s x said) (held : IsHeld slots u h lo down)
    (weaks : (v : ℕ) → IsWeak s v → down ≡ Some v) (gone : (d : ℕ) → d < said.meta.setup.geometry.disks → is_present (u.power d) ≡ false → down ≡ Some d)
    (images : IsEachImage said.meta said.meta (ImageStandsForResumed s x said) u) where
  down_is : (i : Disks) → IsImage u i → (d : ℕ) → IsMissing i.power said.meta d → down ≡ Some d
  down_is i image d missing = elim missing.is [
    | inl off ↦ gone d missing.disk (ap is_present (sym (image.power d)) ∙ off)
    | inr name ↦ weaks d (out_weak x said broken.log.stands (out_named s.power said.meta d name))
  ]

  one : (i : Disks) → IsImage u i → IsOneMissing i.power said.meta said.meta
  one i image = one_down i.power said.meta said.meta down (λ d e. either d e)
    where
      either : (d : ℕ) → IsEitherMissing i.power said.meta said.meta d → down ≡ Some d
      either d (inl p) = down_is i image d p
      either d (inr p) = down_is i image d p

  at_image : (i : Disks) → IsImage u i → ImageStandsForResumed s x said i
  at_image i image = images.whole i image (one i image)

  abbrev synced_image : Disks
  synced_image = record u { loose = λ d p. false }

  is_image : IsImage u synced_image
  is_image = record { power = λ d. refl; size = λ d. refl; block = λ d p not. refl; loose = λ d p. refl }

  stays : (v : ℕ) → is_present (s.power v) ≡ false → is_present (u.power v) ≡ false
  stays v off = elim (cases_Bool (is_present (u.power v))) [
    | inr is ↦ is
    | inl here ↦ absurd (false≢true (sym off ∙ (at_image synced_image is_image).kept.present v here))
  ]

  stood : (j : Disks) → IsImage u j → IsPresent j x → (z : ℕ) (o : LogState) → Stands j z o → o.meta ≡ said.meta
  stood j image here z o stands = elim (at_image j image).stands [
    | inl for ↦ stands_for s j said.meta said.batch z o for stands
    | inr f ↦ absurd (false≢true (sym f.gone ∙ here))
  ]

  by : (i : Disks) (z : ℕ) (o : LogState) → IsLooked u i → ImageStandsForResumed s x said i → Stands i z o → StandsForeseen s x said i o.meta
  by i z o looked is stands = elim is.stands [
    | inl for ↦ same (stands_for s i said.meta said.batch z o for stands)
    | inr fell ↦
        let it = is.metas z o stands.log_disk stands.says in
        elim (cases_eq it.0 x) [
          | inl here ↦ same (it.4 ∙ ap (λ (k : LogState). k.meta) (Says-same s x it.1 said (subst (λ (y : ℕ). Says s y it.1) here it.3) broken.log.stands.says))
          | inr apart ↦
              let low = it.2 in
              let high = broken.log.stands.log_disk in
              let other : it.0 ≡ other_log x = omega (arith, low, high, apart) in
              let says = subst (λ (y : ℕ). Says s y it.1) other it.3 in
              without it.1 fell.gone (could_lose slots h lo x said s u down broken.log.stands weaks gone stays held stood i z o it.1 looked fell.gone stands says it.4) says it.4
        ]
  ]

  pub resumed_meta : (i : Disks) (z : ℕ) (o : LogState) → IsLooked u i → Stands i z o → StandsForeseen s x said i o.meta
  resumed_meta i z o (whole image) stands = by i z o (whole image) (at_image i image) stands
  resumed_meta i z o (lost j e image may is) stands = by i z o (lost j e image may is) (subst (ImageStandsForResumed s x said) is (images.lost j e image (one j image) may.weak)) stands

-- At each moment.
pub resumed_metas : (slots x : ℕ) (said : LogState) (old new : Option Trail) → StandsWhileResumed old new x said → StandsInMoments slots x said old new
resumed_metas slots x said old new resume t tells =
    let r = resume_moments old new x said resume t tells in (
      r.0,
      r.1,
      r.2,
      λ h lo m was down broken held from to absent weak i z o looked stands.
          let gone : (d : ℕ) → d < said.meta.setup.geometry.disks → is_present ((disks t m).power d) ≡ false → down ≡ Some d = λ d l off. absent m d from (omega arith) l off in
          let images = r.3 broken m from to in
          resumed_meta slots h lo x said (now r.0) (disks t m) down broken
          (held_resumes slots (now r.0) x said h lo was broken.synced broken.log held (disks t m) down gone weak images) weak gone images i z o looked stands,
    )
