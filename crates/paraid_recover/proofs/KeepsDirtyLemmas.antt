-- From the reads of the log disks to the end of a mount the dirty cells are kept.
use Rattle.std.specs.Prelude.{◌≡◌, ℕ, ◌<◌, ◌≤◌, false, Option, Some, take}
use Rattle.std.proofs.Common.{refl, sym, ◌∙◌, ap, subst, arith, inl, inr, length-append}
use Rattle.std.proofs.lemmas.Bool.{cases_Bool, false≢true}
use Rattle.paraid_base.specs.History.{History}
use Rattle.paraid_base.specs.Log.{log_least}
use Rattle.paraid_rack.specs.Alike.{IsAlike}
use Rattle.paraid_rack.specs.Disks.{Disks, IsImage, is_present}
use Rattle.paraid_rack.specs.Trail.{Trail, disks, moments, now}
use Rattle.paraid_record.specs.declared.meta.Meta.{Meta}
use Rattle.paraid_image.specs.Content.{view_of}
use Rattle.paraid_image.specs.HeldAt.{IsHeld, IsSoundFrom}
use Rattle.paraid_image.specs.Out.{IsMissing, IsWeak, out_disk}
use Rattle.paraid_image.specs.Power.{initial_state}
use Rattle.paraid_image.specs.Rest.{IsAtRest}
use Rattle.paraid_image.specs.Sides.{LogState, closed_over}
use Rattle.paraid_image.specs.Sound.{ContentOk, IsSoundAt}
use Rattle.paraid_image.specs.Standing.{contents}
use Rattle.paraid_image.proofs.AlikeLemmas.{sound_alike}
use Rattle.paraid_image.proofs.OutLemmas.{says_in_range}
use Rattle.paraid_image.proofs.StandingLemmas.{Stands-same}
use Rattle.paraid_rack.proofs.TrailsLemmas.{now-extend}
use Rattle.paraid_txn.specs.Commit.{ImageStandsFor, IsEitherMissing, IsOneMissing}
use Rattle.paraid_txn.specs.Resume.{EndsLaid, IsResumable}
use Rattle.paraid_txn.proofs.RanLemmas.{ran_now}
use Rattle.paraid_recover.specs.EndOfMount.{KeepsDirty}
use Rattle.paraid_recover.specs.HeldMoments.{EndsHeld, IsAbsentSince, Recovers}
use Rattle.paraid_recover.specs.Map.{KeepsFar}
use Rattle.paraid_recover.proofs.DirtyKeptLemmas.{dirty_kept}
use Rattle.paraid_recover.proofs.QuietCallsLemmas.{content_at_rest}
use Rattle.paraid_recover.proofs.RecoverLemmas.{disks_before}

-- the blocks with the interrupted batch laid over hold a first part of the history
module _ (slots : ℕ) (s : Disks) (x : ℕ) (said : LogState) (h : History) (lo : ℕ) (down : Option ℕ) (broken : IsResumable s x said) (held : IsHeld slots s h lo down) where
  abbrev image : Disks
  image = record s { loose = λ d p. false }

  is_image : IsImage s image
  is_image = record { power = λ d. refl; size = λ d. refl; block = λ d p not. refl; loose = λ d p. refl }

  alike : IsAlike image s
  alike = record { power = λ d. refl; size = λ d. refl; block = λ d p there. refl; loose = λ d p there. broken.synced d p there.present }

  sound : (it : IsSoundFrom slots image h lo) → IsSoundAt slots s h it.k
  sound it = sound_alike slots image s h it.k alike it.sound

  pub content_broken : (k : ℕ) × ContentOk slots s.power s.size (view_of s said) h k
  content_broken =
      let whole = held.whole image is_image in
      let it = sound whole in
      let same = (Stands-same s it.disk x it.said said it.log.stands broken.log.stands).1 in
      (whole.k, subst (λ (o : LogState). ContentOk slots s.power s.size (view_of s o) h whole.k) same it.content)

module _ (slots x : ℕ) (said : LogState) (m : Meta) (old mid new : Option Trail) (recovered : Recovers slots x said old mid) (laid : EndsLaid old mid x said)
    (ends : EndsHeld slots x said m old new) (setup : m.setup ≡ said.meta.setup) (far : KeepsFar mid new)
    (stays : (u t : Trail) → mid ≡ Some u → new ≡ Some t → (d : ℕ) → IsMissing (now u).power said.meta d → IsMissing (now t).power m d) where
  module _ (t : Trail) (tells : new ≡ Some t) where
    abbrev u : Trail
    u = (far t tells).from

    told : mid ≡ Some u
    told = (far t tells).was

    abbrev s : Trail
    s = (ends t tells).0

    at : (k : ℕ) → k ≤ moments u → disks t k ≡ disks u k
    at k le = ap (λ (v : Trail). disks v k) (far t tells).is ∙ disks_before u (far t tells).calls k le

    longer : moments u ≤ moments t
    longer = let long = ap moments (far t tells).is ∙ length-append u.calls (far t tells).calls in omega arith

    far_u : (d p : ℕ) → log_least ≤ p → (now t).block d p ≡ (now u).block d p
    far_u d p past = ap (λ (v : Disks). v.block d p) (ap now (far t tells).is ∙ now-extend u (far t tells).calls) ∙ (far t tells).holds d p past

    module _ (h : History) (lo : ℕ) (was down : Option ℕ) (broken : IsResumable (now s) x said) (held : IsHeld slots (now s) h lo was)
        (absent : IsAbsentSince said.meta.setup.geometry.disks t (moments s) (moments t) down) (weak : (w : ℕ) → IsWeak (now s) w → down ≡ Some w) where
      abbrev AtMid : Type 0
      AtMid = IsAtRest (now u) said.meta × IsHeld slots (now u) (take said.meta.writes h) said.meta.writes (out_disk (now u).power said.meta)

      rest_mid : AtMid
      rest_mid =
          let first = recovered.ends u told in
          let same : first.0 ≡ s = (let z : Some first.0 ≡ Some s = sym first.1 ∙ (ends t tells).1 in cc) in
          let absent_mid : IsAbsentSince said.meta.setup.geometry.disks u (moments s) (moments u) down = (λ k e from to low gone.
          absent k e from (let more = longer in omega arith) low (ap (λ (v : Disks). is_present (v.power e)) (at k to) ∙ gone)) in
          (subst (λ (v : Trail). IsResumable (now v) x said → IsHeld slots (now v) h lo was → IsAbsentSince said.meta.setup.geometry.disks u (moments v) (moments u) down
          → ((w : ℕ) → IsWeak (now v) w → down ≡ Some w) → AtMid) same (first.2 h lo was down)) broken held absent_mid weak

      either : (d : ℕ) → IsEitherMissing (now u).power said.meta said.meta d → IsMissing (now u).power said.meta d
      either d (inl p) = p
      either d (inr p) = p

      for : ImageStandsFor (now s) (now u) said.meta said.batch
      for =
          let it = ran_now (λ start end. IsResumable start x said → IsOneMissing end.power said.meta said.meta → ImageStandsFor start end said.meta said.batch) old mid laid u told in
          let same : it.0 ≡ s = (let z : Some it.0 ≡ Some s = sym it.1 ∙ (ends t tells).1 in cc) in
          (subst (λ (v : Trail). IsResumable (now v) x said → IsOneMissing (now u).power said.meta said.meta → ImageStandsFor (now v) (now u) said.meta said.batch) same it.2)
          broken (record { one = λ d e p q. rest_mid.0.log.single d e (either d p) (either e q) })

      closed : for.said ≡ closed_over said.meta
      closed = (Stands-same (now u) for.disk rest_mid.0.disk for.said (closed_over said.meta) for.log.stands rest_mid.0.log.stands).1

      first : (d : ℕ) → IsMissing (now s).power said.meta d → IsMissing (now u).power said.meta d
      first d missing = record {
        disk = missing.disk;
        is = elim missing.is [
          | inr name ↦ inr name
          | inl gone ↦ inl (elim (cases_Bool (is_present ((now u).power d))) [ inl here ↦ absurd (false≢true (sym gone ∙ for.kept.present d here)) | inr off ↦ off ])
        ];
      }

      kept : (r d : ℕ) → r < said.meta.setup.geometry.rows → (initial_state (now t) (closed_over m)).dirty r d ≡ (initial_state (now s) said).dirty r d
      kept =
          let rest_end = (ends t tells).2 h lo was down broken held absent weak in
          let content = content_broken slots (now s) x said h lo was broken held in
          dirty_kept slots said m h (take said.meta.writes h) (take m.writes h) content.0 said.meta.writes m.writes (now s) (now u) (now t) setup
          (says_in_range said.opened _ said.meta said.batch broken.log.stands.says.log) rest_end.0.log.stands.says.log.meta.in_range
          rest_mid.0.log.single rest_end.0.log.single
          content.1
          (content_at_rest slots (now u) said.meta (take said.meta.writes h) said.meta.writes (out_disk (now u).power said.meta) rest_mid.0 rest_mid.1)
          (content_at_rest slots (now t) m (take m.writes h) m.writes (out_disk (now t).power m) rest_end.0 rest_end.1)
          (λ d p not place past. ap (λ (o : LogState). contents (now u) o.batch d p) (sym closed) ∙ for.blocks d p not place past)
          far_u first (stays u t told tells)

  pub keeps_dirty : KeepsDirty slots x said m old new
  keeps_dirty t tells = (s t tells, (ends t tells).1, λ h lo was down broken held absent weak. kept t tells h lo was down broken held absent weak)
