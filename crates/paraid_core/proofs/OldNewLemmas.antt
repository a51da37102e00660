-- Reads after a commit leave what it left: each image stands for what was held before, or for what is held now.
use Rattle.std.specs.Prelude.{◌≡◌, ℕ, ◌<◌, Bool, true, false, List, [], ◌∷◌, ◌++◌, Option}
use Rattle.std.proofs.Common.{refl, sym, ◌∙◌, ap, subst, inl, inr}
use Rattle.std.proofs.lemmas.Bool.{cases_eq}
use Rattle.paraid_rack.specs.declared.call.Call.{Call}
use Rattle.paraid_rack.specs.declared.call.Call.TheVariants.{Read, Write, Sync, Park, SpinUp, Attach}
use Rattle.paraid_rack.specs.declared.call.Power.TheVariants.{Absent}
use Rattle.paraid_rack.specs.Disks.{Disks, IsImage, is_present, lose, step, with_at}
use Rattle.paraid_rack.specs.Told.{Ran, Through}
use Rattle.paraid_rack.specs.Trail.{Trail, extend, now, run}
use Rattle.paraid_rack.proofs.AtomsLemmas.{with_at_other, with_at_same}
use Rattle.paraid_rack.proofs.TrailsLemmas.{extend-extend, now-extend}
use Rattle.paraid_record.specs.declared.meta.Meta.{Meta}
use Rattle.paraid_image.specs.LostDisk.{IsLoss}
use Rattle.paraid_image.specs.Out.{IsMissing, IsWeak}
use Rattle.paraid_image.specs.Out.IsWeak.{out}
use Rattle.paraid_image.specs.Sides.{Batch, stored_block}
use Rattle.paraid_image.proofs.CallLemmas.{read_images}
use Rattle.paraid_image.proofs.FailedCallLemmas.{failed_is_loss}
use Rattle.paraid_image.proofs.OutLemmas.{missing_is_out, says_in_range}
use Rattle.paraid_image.proofs.StandingLemmas.{IsWeak-same}
use Rattle.paraid_txn.specs.Commit.{ImageStandsFor, ImageStandsForEither, IsEachImage, IsEitherMissing, IsOldOrNew, IsOneMissing, KeepsWitnesses}
use Rattle.paraid_view.specs.Reads.{AreArrayReads}
use Rattle.paraid_core.proofs.ReadsLemmas.{through_last}

-- images among those before
fewer_images : (before after : Meta) (P : Disks → Type 0) (s t : Disks) → ((i : Disks) → IsImage t i → IsImage s i) → IsEachImage before after P s → IsEachImage before after P t
fewer_images before after P s t fewer each = record {
  whole = λ i image one. each.whole i (fewer i image) one;
  lost = λ i d image one weak. each.lost i d (fewer i image) one weak;
}

fewer_old_or_new : (start : Disks) (before after : Meta) (batch : Batch) (s t : Disks) → ((i : Disks) → IsImage t i → IsImage s i) → IsOldOrNew start before after batch s → IsOldOrNew start before after batch t
fewer_old_or_new start before after batch s t fewer it = record {
  images = fewer_images before after (ImageStandsForEither start before after batch) s t fewer it.images;
  weak = λ i w image one weak. it.weak i w (fewer i image) one weak;
  witnesses = fewer_images before after (KeepsWitnesses start before) s t fewer it.witnesses;
}

-- a read that failed
module _ (start : Disks) (before after : Meta) (batch : Batch) (same : after.setup ≡ before.setup) (s : Disks) (d p : ℕ) (low : d < before.setup.geometry.disks) (it : IsOldOrNew start before after batch s) where
  abbrev t : Disks
  t = step (Read d p false) s

  loss : IsLoss s t d
  loss = failed_is_loss s (Read d p false) refl

  blocks_same : (t.block ≡ s.block) × (t.loose ≡ s.loose)
  unfolding step
  blocks_same = (refl, refl)

  abbrev found : Disks → Disks
  found j = record { power = s.power; size = s.size; block = j.block; loose = j.loose }

  found_is : (j : Disks) → IsImage t j → IsImage s (found j)
  found_is j e = record {
    power = λ x. refl;
    size = λ x. refl;
    block = λ x q synced. e.block x q (ap (λ (f : ℕ → ℕ → Bool). f x q) blocks_same.1 ∙ synced) ∙ ap (λ f. f x q) blocks_same.0;
    loose = e.loose;
  }

  is_lost : (j : Disks) → IsImage t j → lose d (found j) ≡ j
  is_lost j e = λ u. record {
    power = λ x. (sym (loss.power x) ∙ sym (e.power x)) u;
    size = λ x. (sym (loss.size x) ∙ sym (e.size x)) u;
    block = j.block;
    loose = j.loose;
  }

  power_at : (j : Disks) → IsImage t j → (x : ℕ) → j.power x ≡ with_at s.power d Absent x
  power_at j e x = e.power x ∙ loss.power x

  gone : (j : Disks) → IsImage t j → is_present (j.power d) ≡ false
  gone j e = ap is_present (power_at j e d ∙ with_at_same s.power d Absent d refl)

  -- what was missing is missing
  missing_still : (j : Disks) → IsImage t j → (m : Meta) (x : ℕ) → IsMissing s.power m x → IsMissing j.power m x
  missing_still j e m x missing = record {
    disk = missing.disk;
    is = elim missing.is [
      | inr named ↦ inr named
      | inl away ↦ elim (cases_eq x d) [
        | inl here ↦ inl (ap (λ (y : ℕ). is_present (j.power y)) here ∙ gone j e)
        | inr apart ↦ inl (ap is_present (power_at j e x ∙ with_at_other s.power d Absent x apart) ∙ away)
      ]
    ];
  }

  either_still : (j : Disks) → IsImage t j → (x : ℕ) → IsEitherMissing s.power before after x → IsEitherMissing j.power before after x
  either_still j e x missing = elim missing [ inl m ↦ inl (missing_still j e before x m) | inr m ↦ inr (missing_still j e after x m) ]

  either_here : (j : Disks) → IsImage t j → IsEitherMissing j.power before after d
  either_here j e = inl (record { disk = low; is = inl (gone j e) })

  one_then : (j : Disks) → IsImage t j → IsOneMissing j.power before after → IsOneMissing s.power before after
  one_then j e one = record { one = λ x y p q. one.one x y (either_still j e x p) (either_still j e y q) }

  -- what each image had with a disk lost
  lost_now : (Q : Disks → Type 0) → IsEachImage before after Q s → (j : Disks) → IsImage t j → IsOneMissing j.power before after → Q j
  lost_now Q each j e one =
      subst Q (is_lost j e)
      (each.lost (found j) d (found_is j e) (one_then j e one)
      (λ w weak. one.one w d (either_still j e w (it.weak (found j) w (found_is j e) (one_then j e one) weak)) (either_here j e)))

  whole_now : (j : Disks) → IsImage t j → IsOneMissing j.power before after → ImageStandsForEither start before after batch j
  whole_now j e one = lost_now (ImageStandsForEither start before after batch) it.images j e one

  weak_by : (j : Disks) → IsImage t j → (m : Meta) (b : Batch) → m.setup ≡ before.setup → ImageStandsFor start j m b → IsWeak j d
  weak_by j e m b shape stands =
      let low_in : d < stands.said.meta.setup.geometry.disks = subst (λ (z : Meta). d < z.setup.geometry.disks) (sym stands.meta) (subst (λ (z : _). d < z.geometry.disks) (sym shape) low) in
      out stands.disk stands.said stands.log.stands (missing_is_out j.power stands.said.meta d
      (says_in_range stands.said.opened (stored_block j stands.disk) stands.said.meta stands.said.batch stands.log.stands.says.log) stands.log.single
      (record { disk = low_in; is = inl (gone j e) }) (gone j e))

  weak_here : (j : Disks) → IsImage t j → IsOneMissing j.power before after → IsWeak j d
  weak_here j e one = elim (whole_now j e one) [ inl old ↦ weak_by j e before [] refl old | inr new ↦ weak_by j e after batch same new ]

  lost_again : (j : Disks) → IsImage t j → lose d j ≡ j
  lost_again j e = λ u. record {
    power = λ x. (power_again x) u;
    size = λ x. (size_again x) u;
    block = j.block;
    loose = j.loose;
  }
    where
      power_again : (x : ℕ) → with_at j.power d Absent x ≡ j.power x
      power_again x = elim (cases_eq x d) [
        | inl here ↦ with_at_same j.power d Absent x here ∙ sym (with_at_same s.power d Absent x here) ∙ sym (power_at j e x)
        | inr apart ↦ with_at_other j.power d Absent x apart
      ]

      size_again : (x : ℕ) → with_at j.size d 0 x ≡ j.size x
      size_again x = elim (cases_eq x d) [
        | inl here ↦ with_at_same j.size d 0 x here ∙ sym (with_at_same s.size d 0 x here) ∙ sym (e.size x ∙ loss.size x)
        | inr apart ↦ with_at_other j.size d 0 x apart
      ]

  failed_images : (Q : Disks → Type 0) → IsEachImage before after Q s → IsEachImage before after Q t
  failed_images Q each = record {
    whole = λ j image one. lost_now Q each j image one;
    lost = λ j f image one weak.
        let here : d ≡ f = weak d (weak_here j image one) in
        subst (λ (y : ℕ). Q (lose y j)) here (subst Q (sym (lost_again j image)) (lost_now Q each j image one));
  }

  pub failed_old_or_new : IsOldOrNew start before after batch t
  failed_old_or_new = record {
    images = failed_images (ImageStandsForEither start before after batch) it.images;
    weak = λ j w image one weak. subst (IsEitherMissing j.power before after) (IsWeak-same j d w (weak_here j image one) weak) (either_here j image);
    witnesses = failed_images (KeepsWitnesses start before) it.witnesses;
  }

reads_old_or_new : (start : Disks) (before after : Meta) (batch : Batch) → after.setup ≡ before.setup → (s : Disks) (cs : List Call) → AreArrayReads before.setup.geometry.disks s cs
    → IsOldOrNew start before after batch s → Through (IsOldOrNew start before after batch) s cs
reads_old_or_new start before after batch same s [] are it = it
reads_old_or_new start before after batch same s (Read d p true ∷ cs) are it =
    (it, reads_old_or_new start before after batch same (step (Read d p true) s) cs are.1 (fewer_old_or_new start before after batch s (step (Read d p true) s) (read_images s d p) it))
reads_old_or_new start before after batch same s (Read d p false ∷ cs) are it =
    (it, reads_old_or_new start before after batch same (step (Read d p false) s) cs are.1 (failed_old_or_new start before after batch same s d p are.0.0 it))
reads_old_or_new start before after batch same s (Write d p b done ∷ cs) are it = absurd are.0
reads_old_or_new start before after batch same s (Sync d done ∷ cs) are it = absurd are.0
reads_old_or_new start before after batch same s (Park d done ∷ cs) are it = absurd are.0
reads_old_or_new start before after batch same s (SpinUp d done ∷ cs) are it = absurd are.0
reads_old_or_new start before after batch same s (Attach d size done ∷ cs) are it = absurd are.0

through_both : (P : Disks → Type 0) (s : Disks) (cs ds : List Call) → Through P s cs → Through P (run s cs) ds → Through P s (cs ++ ds)
through_both P s [] ds first second = second
through_both P s (c ∷ cs) ds first second = (first.0, through_both P (step c s) cs ds first.1 second)

-- one part after the other, of two kinds
pub parts_then : (Q R S : Disks → List Call → Type 0) → ((s : Disks) (cs ds : List Call) → Q s cs → R (run s cs) ds → S s (cs ++ ds)) → (old mid new : Option Trail) → Ran old mid Q → Ran mid new R → Ran old new S
parts_then Q R S both old mid new first second t tells =
    let later = second t tells in
    let before = first later.from later.was in
    let here : now later.from ≡ run (now before.from) before.calls = ap now before.is ∙ now-extend before.from before.calls in
    record {
      from = before.from;
      was = before.was;
      calls = before.calls ++ later.calls;
      is = later.is ∙ ap (λ (r : Trail). extend r later.calls) before.is ∙ extend-extend before.from before.calls later.calls;
      holds = both (now before.from) before.calls later.calls before.holds (subst (λ (s : Disks). R s later.calls) here later.holds);
    }

-- a commit, and reads after it
pub whole_then_reads : (A : Disks → Type 0) (base : (s : Disks) → A s → Meta) (after : Meta) (batch : Batch) (n : ℕ) → ((s : Disks) (a : A s) → after.setup ≡ (base s a).setup) → n ≡ after.setup.geometry.disks → (old mid new : Option Trail)
    → Ran old mid (λ start calls. (a : A start) → Through (IsOldOrNew start (base start a) after batch) start calls) → Ran mid new (AreArrayReads n)
    → Ran old new (λ start calls. (a : A start) → Through (IsOldOrNew start (base start a) after batch) start calls)
whole_then_reads A base after batch n setup shape old mid new first second =
    parts_then (λ start calls. (a : A start) → Through (IsOldOrNew start (base start a) after batch) start calls) (AreArrayReads n)
    (λ start calls. (a : A start) → Through (IsOldOrNew start (base start a) after batch) start calls)
    (λ s cs ds whole reads a.
    let P : Disks → Type 0 = IsOldOrNew s (base s a) after batch in
    let all : n ≡ (base s a).setup.geometry.disks = shape ∙ ap (λ (z : _). z.geometry.disks) (setup s a) in
    through_both P s cs ds (whole a) (reads_old_or_new s (base s a) after batch (setup s a) (run s cs) ds (subst (λ (z : ℕ). AreArrayReads z (run s cs) ds) all reads) (through_last P s cs (whole a)))) old mid new first second
