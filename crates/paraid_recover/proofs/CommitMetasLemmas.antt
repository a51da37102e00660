-- Which meta stands in the commit that marks a disk, or brings the meta to version 2.
use Rattle.std.specs.Prelude.{◌≡◌, ℕ, ◌<◌, ◌≤◌, false, [], Option, Some}
use Rattle.std.proofs.Common.{sym, ◌∙◌, ap, subst, arith, inl, inr, length-append}
use Rattle.std.proofs.lemmas.Bool.{cases_lt}
use Rattle.paraid_base.specs.History.{History}
use Rattle.paraid_rack.specs.Disks.{Disks, IsImage, is_present}
use Rattle.paraid_rack.specs.Trail.{Trail, disks, moments, now}
use Rattle.paraid_record.specs.declared.meta.Meta.{Meta}
use Rattle.paraid_record.specs.declared.meta.Setup.{Setup}
use Rattle.paraid_image.specs.HeldAt.{IsHeld}
use Rattle.paraid_image.specs.Looked.{IsLooked}
use Rattle.paraid_image.specs.Looked.IsLooked.{lost, whole}
use Rattle.paraid_image.specs.Out.{IsWeak, named_out}
use Rattle.paraid_image.specs.Out.IsWeak.{out as out_weak}
use Rattle.paraid_image.specs.Rest.{IsAtRest}
use Rattle.paraid_image.specs.Sides.{LogState}
use Rattle.paraid_image.specs.Standing.{Stands}
use Rattle.paraid_image.proofs.CallLemmas.{out_named}
use Rattle.paraid_txn.specs.Commit.{ImageStandsForEither, IsEachImage, IsEitherMissing, IsNext, IsOldOrNew, IsOneMissing, IsWholeOrAbsent}
use Rattle.paraid_txn.specs.Resume.{IsResumable}
use Rattle.paraid_txn.proofs.RanLemmas.{commit_moments}
use Rattle.paraid_recover.specs.HeldMoments.{EndsHeld, IsAbsentSince, IsOutAtEnd}
use Rattle.paraid_recover.specs.RecoveryMark.{with_mark}
use Rattle.paraid_recover.specs.StandingMetas.{StandsForeseen, StandsInMoments}
use Rattle.paraid_recover.specs.StandingMetas.StandsForeseen.{marked, same}
use Rattle.paraid_recover.proofs.EndsLemmas.{at_start}
use Rattle.paraid_recover.proofs.RecoverLemmas.{disks_before, disks_last}
use Rattle.paraid_recover.proofs.ResumeMetasLemmas.{one_down, stands_for}

-- in an image the old meta stands or the new one
module _ (s start u : Disks) (x : ℕ) (said : LogState) (after : Meta) (mark : Option ℕ) (is : after ≡ with_mark said.meta mark)
    (one : (i : Disks) → IsImage u i → IsOneMissing i.power said.meta after) (images : IsEachImage said.meta after (ImageStandsForEither start said.meta after []) u) where
  either : (i : Disks) (z : ℕ) (o : LogState) → ImageStandsForEither start said.meta after [] i → Stands i z o → StandsForeseen s x said i o.meta
  either i z o (inl before) stands = same (stands_for start i said.meta [] z o before stands)
  either i z o (inr new) stands = marked mark (stands_for start i after [] z o new stands ∙ is)

  pub committed_meta : (i : Disks) (z : ℕ) (o : LogState) → IsLooked u i → Stands i z o → StandsForeseen s x said i o.meta
  committed_meta i z o (whole image) stands = either i z o (images.whole i image (one i image)) stands
  committed_meta i z o (lost j e image may same_as) stands = either i z o (subst (ImageStandsForEither start said.meta after []) same_as (images.lost j e image (one j image) may.weak)) stands

module _ (slots x : ℕ) (said : LogState) (old mid new : Option Trail) (after : Meta) (mark : Option ℕ) (is : after ≡ with_mark said.meta mark) (setup : after.setup ≡ said.meta.setup)
    (who : IsOutAtEnd said after mid) (next : (s : Disks) → IsAtRest s said.meta → IsNext s said.meta after) (metas : StandsInMoments slots x said old mid) (ends : EndsHeld slots x said said.meta old mid)
    (whole : IsWholeOrAbsent mid new said.meta after []) where
  abbrev n : ℕ
  n = said.meta.setup.geometry.disks

  module _ (t : Trail) (tells : new ≡ Some t) where
    abbrev end : Trail
    end = (whole t tells).from

    told : mid ≡ Some end
    told = (whole t tells).was

    abbrev start : Trail
    start = (metas end told).0

    longer : moments end ≤ moments t
    longer = let long = ap moments (whole t tells).is ∙ length-append end.calls (whole t tells).calls in omega arith

    at : (j : ℕ) → j ≤ moments end → disks t j ≡ disks end j
    at j le = ap (λ (u : Trail). disks u j) (whole t tells).is ∙ disks_before end (whole t tells).calls j le

    module _ (h : History) (lo : ℕ) (was down : Option ℕ) (broken : IsResumable (now start) x said) (held : IsHeld slots (now start) h lo was)
        (weak : (w : ℕ) → IsWeak (now start) w → down ≡ Some w) where
      earlier : (j : ℕ) → moments start ≤ j → j ≤ moments end → IsAbsentSince n t (moments start) j down
          → (i : Disks) (z : ℕ) (o : LogState) → IsLooked (disks t j) i → Stands i z o → StandsForeseen (now start) x said i o.meta
      earlier j from to absent i z o looked stands =
          (metas end told).3 h lo j was down broken held from to
          (λ k d k_from k_to l gone. absent k d k_from k_to l (ap (λ (u : Disks). is_present (u.power d)) (at k (omega arith)) ∙ gone)) weak i z o
          (subst (λ (u : Disks). IsLooked u i) (at j to) looked) stands

      module _ (j : ℕ) (to : j ≤ moments t) (from : moments end ≤ j) (absent : IsAbsentSince n t (moments start) j down) where
        absent_mid : IsAbsentSince n end (moments start) (moments end) down
        absent_mid k d k_from k_to l gone = absent k d k_from (omega arith) l (ap (λ (u : Disks). is_present (u.power d)) (at k k_to) ∙ gone)

        first_same : (ends end told).0 ≡ start
        first_same = let z : Some (ends end told).0 ≡ Some start = sym (ends end told).1 ∙ (metas end told).1 in cc

        rest_mid : IsAtRest (now end) said.meta
        rest_mid = (at_start (ends end told).0 start end said first_same ((ends end told).2 h lo was down) broken held absent_mid weak).0

        gone_mid : (d : ℕ) → d < n → is_present ((now end).power d) ≡ false → down ≡ Some d
        gone_mid d l off = absent_mid (moments end) d (metas end told).2 (omega arith) l (ap (λ (u : Disks). is_present (u.power d)) (disks_last end) ∙ off)

        named_before : (d : ℕ) → named_out said.meta.out ≡ Some d → down ≡ Some d
        named_before d name = weak d (out_weak x said broken.log.stands (out_named (now start).power said.meta d name))

        named_after : (d : ℕ) → named_out after.out ≡ Some d → down ≡ Some d
        named_after d name = elim (who end told d name) [
          | inl before ↦ named_before d before
          | inr off ↦ gone_mid d off.0 off.1
        ]

        disks_same : after.setup.geometry.disks ≡ n
        disks_same = ap (λ (v : Setup). v.geometry.disks) setup

        -- a disk that is absent, or named out by one of the two metas, is the one that is down
        missing : (i : Disks) → IsImage (disks t j) i → (d : ℕ) → IsEitherMissing i.power said.meta after d → down ≡ Some d
        missing i image d (inl p) = elim p.is [
          | inl off ↦ (let high = (metas end told).2 in absent j d (omega arith) (omega arith) p.disk (ap is_present (sym (image.power d)) ∙ off))
          | inr name ↦ named_before d name
        ]
        missing i image d (inr p) = elim p.is [
          | inl off ↦ (let high = (metas end told).2 in let l = p.disk in let e = disks_same in absent j d (omega arith) (omega arith) (omega arith) (ap is_present (sym (image.power d)) ∙ off))
          | inr name ↦ named_after d name
        ]

        moment : IsOldOrNew (now end) said.meta after [] (disks t j)
        moment =
            let it = commit_moments mid new said.meta after [] whole t tells in
            let first : it.0 ≡ end = (let z : Some it.0 ≡ Some end = sym it.1 ∙ told in cc) in
            (subst (λ (u : Trail). IsAtRest (now u) said.meta → IsNext (now u) said.meta after → (k : ℕ)
            → moments u ≤ k → k ≤ moments t → IsOldOrNew (now u) said.meta after [] (disks t k)) first it.3) rest_mid (next (now end) rest_mid) j from to

        later : (i : Disks) (z : ℕ) (o : LogState) → IsLooked (disks t j) i → Stands i z o → StandsForeseen (now start) x said i o.meta
        later i z o looked stands =
            committed_meta (now start) (now end) (disks t j) x said after mark is (λ k image. one_down k.power said.meta after down (missing k image)) moment.images i z o looked stands

  pub committed_metas : StandsInMoments slots x said old new
  committed_metas t tells = (
    start t tells,
    (metas (end t tells) (told t tells)).1,
    (let from = (metas (end t tells) (told t tells)).2 in let more = longer t tells in omega arith),
    λ h lo j was down broken held from to absent weak i z o looked stands. elim (cases_lt (moments (end t tells)) j) [
      | inr le ↦ earlier t tells h lo was down broken held weak j from le absent i z o looked stands
      | inl gt ↦ later t tells h lo was down broken held weak j to (omega arith) absent i z o looked stands
    ],
  )
