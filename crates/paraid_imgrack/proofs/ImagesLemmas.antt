-- The slots of a list of images, and what a call on one of them does.
use Rattle.std.proofs.Common.{◌≡◌, ◌≢◌, ℕ, ◌<◌, ◌≤◌, Bool, None, List, [], ◌∷◌, ◌++◌, ◌+◌, length, refl, map, get_or, set, sym, ◌∙◌, ap, subst, arith, inl, inr}
use Rattle.std.proofs.Math.Seq.{get_or-append_seam}
use Rattle.std.proofs.lemmas.Bool.{cases_lt}
use Rattle.std.proofs.lemmas.List.{map-set, map-append, length-append, get_or_append_left, get_or-set_same, get_or-set_other, length-map, get_or-map}
use Rattle.paraid_base.specs.Told.{HasRisen}
use Rattle.paraid_rack.specs.declared.call.Power.TheVariants.{Absent}
use Rattle.paraid_rack.specs.Slots.{ChangesOneSlot, Slot, vacant_slot}
use Rattle.paraid_imgrack.specs.declared.image.Image.{Image}
use Rattle.paraid_imgrack.specs.Calls.{IsBlameless, image_cause}
use Rattle.paraid_imgrack.specs.Images.{image_misfit, image_slot, image_slot_at, misfit_at, IsLoaded, Becomes}

-- the slot of an image in its place
pub image_slot_at-get_or : (images : List Image) (d : ℕ) (i : Image) → d < length images → i ≡ get_or images d i → image_slot_at images d ≡ image_slot i
image_slot_at-get_or images d i within is = get_or-map image_slot images d i vacant_slot within ∙ ap image_slot (sym is)

module _ (images : List Image) (d : ℕ) (x : Image) (within : d < length images) where
  pub image_slot_at-set_same : image_slot_at (set images d x) d ≡ image_slot x
  image_slot_at-set_same = ap (λ (l : List Slot). get_or l d vacant_slot) (map-set image_slot images d x)
      ∙ get_or-set_same (map image_slot images) d (image_slot x) vacant_slot (simp length-map (omega arith))

  pub image_slot_at-set_other : (e : ℕ) → e ≢ d → image_slot_at (set images d x) e ≡ image_slot_at images e
  image_slot_at-set_other e not = ap (λ (l : List Slot). get_or l e vacant_slot) (map-set image_slot images d x)
      ∙ get_or-set_other (map image_slot images) d e (image_slot x) vacant_slot not

  pub touched_by : (old leaves : Slot) (dirt ok : Bool) → image_slot_at images d ≡ old → Becomes old (image_slot x) leaves dirt ok
      → ChangesOneSlot (image_slot_at images) (image_slot_at (set images d x)) d leaves dirt ok
  touched_by old leaves dirt ok was call = record {
    others = image_slot_at-set_other;
    done = λ is. image_slot_at-set_same ∙ call.done is;
    absent = λ is. ap (λ (s : Slot). s.power) image_slot_at-set_same ∙ call.absent is;
    empty = λ is. ap (λ (s : Slot). s.size) image_slot_at-set_same ∙ call.empty is;
    unsynced = λ is. ap (λ (s : Slot). s.unsynced) image_slot_at-set_same ∙ call.unsynced is;
    risen = λ is. subst (λ (s : Slot). HasRisen (image_slot_at images d).faults s.faults) (sym image_slot_at-set_same)
        (subst (λ (s : Slot). HasRisen s.faults (image_slot x).faults) (sym was) (call.risen is));
    later = λ is. subst (λ (s : Slot). (image_slot_at images d).faults ≤ s.faults) (sym image_slot_at-set_same)
        (subst (λ (s : Slot). s.faults ≤ (image_slot x).faults) (sym was) (call.later is));
  }

-- a call on the image in its place, with what it leaves said of the image's slot
pub touched_at : (images : List Image) (d : ℕ) (y x : Image) (leaves : Slot → Slot) (dirt : Slot → Bool) (ok : Bool) → d < length images → y ≡ get_or images d y
    → Becomes (image_slot y) (image_slot x) (leaves (image_slot y)) (dirt (image_slot y)) ok
    → ChangesOneSlot (image_slot_at images) (image_slot_at (set images d x)) d (leaves (image_slot_at images d)) (dirt (image_slot_at images d)) ok
touched_at images d y x leaves dirt ok within is call =
    let was : image_slot_at images d ≡ image_slot y = image_slot_at-get_or images d y within is in
    touched_by images d x within (image_slot_at images d) (leaves (image_slot_at images d)) (dirt (image_slot_at images d)) ok refl
    (subst (λ (s : Slot). Becomes s (image_slot x) (leaves s) (dirt s) ok) (sym was) call)

-- images whose slots are as before are as many
pub length_kept : (before images : List Image) → map image_slot images ≡ map image_slot before → length images ≡ length before
length_kept before images same = sym (length-map images image_slot) ∙ ap (λ (l : List Slot). length l) same ∙ length-map before image_slot

-- a call on the image in its place, after the images have changed in what no slot tells
pub touched_after : (before images : List Image) (d : ℕ) (y x : Image) (leaves : Slot → Slot) (dirt : Slot → Bool) (ok : Bool)
    → map image_slot images ≡ map image_slot before → d < length before → y ≡ get_or images d y
    → Becomes (image_slot y) (image_slot x) (leaves (image_slot y)) (dirt (image_slot y)) ok
    → ChangesOneSlot (image_slot_at before) (image_slot_at (set images d x)) d (leaves (image_slot_at before d)) (dirt (image_slot_at before d)) ok
touched_after before images d y x leaves dirt ok same within is call =
    subst (λ (l : List Slot). ChangesOneSlot (λ (e : ℕ). get_or l e vacant_slot) (image_slot_at (set images d x)) d (leaves (get_or l d vacant_slot)) (dirt (get_or l d vacant_slot)) ok) same
    (touched_at images d y x leaves dirt ok (omega (arith, within, length_kept before images same)) is call)

-- the first disks, as their files tell them
pub record AreLoaded (images : List Image) (n : ℕ) : Type 0 where
  pub number : length images ≡ n
  pub loaded : (d : ℕ) → d < n → IsLoaded (image_slot_at images d)
  pub fresh : (d : ℕ) → d < n → misfit_at images d ≡ None
  pub clean : (d : ℕ) → d < n → IsBlameless images d

pub AreLoaded-none : (images : List Image) → images ≡ [] → AreLoaded images 0
AreLoaded-none images e = record { number = rw e refl; loaded = λ d below. absurd (omega (arith, below)); fresh = λ d below. absurd (omega (arith, below)); clean = λ d below. absurd (omega (arith, below)) }

-- what is told of an image that was added at the end, and of those before it
module _ {B : Type 0} (f : Image → B) (none : B) (images : List Image) (x : Image) where
  at_before : (d : ℕ) → d < length images → get_or (map f (images ++ x ∷ [])) d none ≡ get_or (map f images) d none
  at_before d below = rw (map-append f images (x ∷ [])) (get_or_append_left (map f images) (f x ∷ []) none d (rw (length-map images f) below))

  at_end : (d : ℕ) → d ≡ length images → get_or (map f (images ++ x ∷ [])) d none ≡ f x
  at_end d e =
      let last : d ≡ length (map f images) = e ∙ sym (length-map images f) in
      rw (map-append f images (x ∷ []), last) (get_or-append_seam (map f images) (f x) [] none)

pub AreLoaded-push : (images : List Image) (x : Image) (n : ℕ) → AreLoaded images n → IsLoaded (image_slot x) → image_misfit x ≡ None → (x.power ≢ Absent → x.cause ≡ None) → AreLoaded (images ++ x ∷ []) (n + 1)
AreLoaded-push images x n h is unjudged clean = record {
  number = length-append images (x ∷ []) ∙ ap (λ (k : ℕ). k + 1) h.number;
  loaded = λ d below. elim (cases_lt d n) [
    | inl before ↦ rw (at_before image_slot vacant_slot images x d (omega (arith, before, h.number))) (h.loaded d before)
    | inr past ↦ rw (at_end image_slot vacant_slot images x d (omega (arith, past, below, h.number))) is
  ];
  fresh = λ d below. elim (cases_lt d n) [
    | inl before ↦ at_before image_misfit None images x d (omega (arith, before, h.number)) ∙ h.fresh d before
    | inr past ↦ at_end image_misfit None images x d (omega (arith, past, below, h.number)) ∙ unjudged
  ];
  clean = λ d below. elim (cases_lt d n) [
    | inl before ↦ λ there. at_before image_cause None images x d (omega (arith, before, h.number))
        ∙ h.clean d before (subst (λ (s : Slot). s.power ≢ Absent) (at_before image_slot vacant_slot images x d (omega (arith, before, h.number))) there)
    | inr past ↦ λ there. at_end image_cause None images x d (omega (arith, past, below, h.number))
        ∙ clean (subst (λ (s : Slot). s.power ≢ Absent) (at_end image_slot vacant_slot images x d (omega (arith, past, below, h.number))) there)
  ];
}
