-- What is held stays held in a commit, where the new contents hold a first part of the history too.
use Rattle.std.specs.Prelude.{◌≡◌, ◌≢◌, ℕ, ◌<◌, false, [], Option, Some, None}
use Rattle.std.proofs.Common.{refl, sym, ◌∙◌, ap, subst, inl, inr}
use Rattle.std.proofs.lemmas.Bool.{cases_Bool, cases_eq, false≢true}
use Rattle.paraid_base.specs.History.{History}
use Rattle.paraid_rack.specs.declared.call.Power.TheVariants.{Absent}
use Rattle.paraid_rack.specs.Disks.{Disks, IsImage, IsPresent, is_present, lose}
use Rattle.paraid_rack.proofs.AtomsLemmas.{with_at_other, with_at_same}
use Rattle.paraid_record.specs.declared.meta.Meta.{Meta}
use Rattle.paraid_record.specs.Range.{IsInRange}
use Rattle.paraid_txn.specs.Commit.{IsEitherMissing, IsOldOrNew, KeepsWitnesses, IsOneMissing, ImageStandsFor, ImageStandsForEither}
use Rattle.paraid_image.specs.Content.{view_of}
use Rattle.paraid_image.specs.HeldAt.{IsHeld, IsSoundFrom}
use Rattle.paraid_image.specs.FirstWrites.{HoldsFirstWrites}
use Rattle.paraid_image.specs.Out.{IsMissing, first_absent, out_disk}
use Rattle.paraid_image.specs.Sides.{Batch}
use Rattle.paraid_image.specs.Sound.{AreWitnessesTrue, ContentOk}
use Rattle.paraid_image.proofs.OutLemmas.{out_missing, first_absent_finds, first_absent_is, says_in_range}
use Rattle.paraid_txn.proofs.HeldResumeLemmas.{transfer}
use Rattle.paraid_image.proofs.OneDiskLessLemmas.{content_lost, contents_kept}
use Rattle.paraid_txn.proofs.MeansLemmas.{absent_power}

-- an image that stands for what the start does holds what that holds, with the disks that are lost in it
module _ (slots : ℕ) (s0 i : Disks) (m : Meta) (batch : Batch) (h : History) (lo : ℕ) (holds : HoldsFirstWrites slots s0 m batch h lo) (for : ImageStandsFor s0 i m batch)
    (witnesses : AreWitnessesTrue i (out_disk i.power for.said.meta)) where
  range : IsInRange m
  range = subst IsInRange for.meta (says_in_range for.said.opened _ for.said.meta for.said.batch for.log.stands.says.log)

  single : (d e : ℕ) → IsMissing i.power m d → IsMissing i.power m e → d ≡ e
  single = subst (λ (n : Meta). (d e : ℕ) → IsMissing i.power n d → IsMissing i.power n e → d ≡ e) for.meta for.log.single

  still_gone : (e : ℕ) → is_present (s0.power e) ≡ false → is_present (i.power e) ≡ false
  still_gone e gone = elim (cases_Bool (is_present (i.power e))) [ inl here ↦ absurd (false≢true (sym gone ∙ for.kept.present e here)) | inr off ↦ off ]

  still_missing : (e : ℕ) → IsMissing s0.power m e → IsMissing i.power m e
  still_missing e missing = record { disk = missing.disk; is = elim missing.is [ inl gone ↦ inl (still_gone e gone) | inr name ↦ inr name ] }

  -- no disk of the array but `d` is absent, and it was there
  fewer : (d : ℕ) → d < m.setup.geometry.disks → is_present (i.power d) ≡ false → ContentOk slots i.power i.size (view_of i for.said) h m.writes
  fewer d l gone = transfer slots s0 (lose d s0) i m batch range h m.writes
      (content_lost slots s0 h m.writes d m batch range (λ e f p q. single e f (still_missing e p) (still_missing f q)) holds.content l
      (λ e o. single e d (still_missing e (out_missing s0.power m e range o)) (record { disk = l; is = inl gone })))
      (λ e le. elim (cases_eq e d) [
        | inl is ↦ absent_power (i.power e) (ap (λ (w : ℕ). is_present (i.power w)) is ∙ gone) ∙ sym (with_at_same s0.power d Absent e is)
        | inr apart ↦ for.kept.power e (others e le apart) ∙ sym (with_at_other s0.power d Absent e apart)
      ])
      (λ e le here. for.kept.size e here ∙ sym (with_at_other s0.size d 0 e (away e here)))
      (λ e r here. contents_kept s0 d batch e r (away e here)) for
    where
      away : (e : ℕ) → IsPresent i e → e ≢ d
      away e here is = false≢true (sym gone ∙ ap (λ (w : ℕ). is_present (i.power w)) (sym is) ∙ here)

      others : (e : ℕ) → e < m.setup.geometry.disks → e ≢ d → IsPresent i e
      others e le apart = elim (cases_Bool (is_present (i.power e))) [
        | inl here ↦ here
        | inr off ↦ absurd (apart (single e d (record { disk = le; is = inl off }) (record { disk = l; is = inl gone })))
      ]

  -- all are there
  as_many : ((e : ℕ) → e < m.setup.geometry.disks → IsPresent i e) → ContentOk slots i.power i.size (view_of i for.said) h m.writes
  as_many here = transfer slots s0 s0 i m batch range h m.writes holds.content
      (λ e l. for.kept.power e (here e l)) (λ e l p. for.kept.size e p) (λ e r p. refl) for

  content_now : ContentOk slots i.power i.size (view_of i for.said) h m.writes
  content_now = go (first_absent i.power m.setup.geometry.disks) refl
    where
      go : (o : Option ℕ) → first_absent i.power m.setup.geometry.disks ≡ o → ContentOk slots i.power i.size (view_of i for.said) h m.writes
      go None is = as_many (λ e l. elim (cases_Bool (is_present (i.power e))) [
        | inl here ↦ here
        | inr off ↦
            let f = first_absent_finds i.power m.setup.geometry.disks e l off in
            let z : None ≡ Some f.0 = sym is ∙ f.1 in cc
      ])
      go (Some d) is = let gone = first_absent_is i.power m.setup.geometry.disks d is in fewer d gone.0 gone.1

  pub stands_sound : IsSoundFrom slots i h lo
  stands_sound = record {
    k = m.writes;
    low = holds.low;
    high = holds.high;
    sound = record {
      disk = for.disk;
      said = for.said;
      log = for.log;
      content = content_now;
      witnesses = witnesses;
    };
  }

module _ (slots : ℕ) (s0 : Disks) (before after : Meta) (batch : Batch) (h : History) (lo : ℕ) (old : HoldsFirstWrites slots s0 before [] h lo) (new : HoldsFirstWrites slots s0 after batch h lo)
    (began : AreWitnessesTrue s0 (out_disk s0.power before)) (s : Disks) (down : Option ℕ) (one_down : (d : ℕ) → IsEitherMissing s.power before after d → down ≡ Some d) (moment : IsOldOrNew s0 before after batch s) where
  missing_at : (i : Disks) (m : Meta) (d : ℕ) → IsImage s i → IsMissing i.power m d → IsMissing s.power m d
  missing_at i m d image missing = record {
    disk = missing.disk;
    is = elim missing.is [ inl gone ↦ inl (ap is_present (sym (image.power d)) ∙ gone) | inr name ↦ inr name ];
  }

  down_at : (i : Disks) (d : ℕ) → IsImage s i → IsEitherMissing i.power before after d → down ≡ Some d
  down_at i d image (inl missing) = one_down d (inl (missing_at i before d image missing))
  down_at i d image (inr missing) = one_down d (inr (missing_at i after d image missing))

  one : (i : Disks) → IsImage s i → IsOneMissing i.power before after
  one i image = record { one = λ d e p q. let z : Some d ≡ Some e = sym (down_at i d image p) ∙ down_at i e image q in cc }

  sound_of : (i : Disks) → ImageStandsForEither s0 before after batch i → KeepsWitnesses s0 before i → IsSoundFrom slots i h lo
  sound_of i (inl for) keeps = stands_sound slots s0 i before [] h lo old for (keeps began for.disk for.said for.log.stands)
  sound_of i (inr for) keeps = stands_sound slots s0 i after batch h lo new for (keeps began for.disk for.said for.log.stands)

  pub held_commits : IsHeld slots s h lo down
  held_commits = record {
    whole = λ i image. sound_of i (moment.images.whole i image (one i image)) (moment.witnesses.whole i image (one i image));
    lost = λ i d image may. sound_of (lose d i) (moment.images.lost i d image (one i image) may.weak) (moment.witnesses.lost i d image (one i image) may.weak);
    weak = λ i w image weak. down_at i w image (moment.weak i w image (one i image) weak);
  }
