-- What calls on one disk of the rack leave of what was found of the images.
use Rattle.std.proofs.Common.{◌≡◌, ◌≢◌, ℕ, ◌+◌, ◌<◌, ◌≤◌, Bool, true, false, List, [], ◌∷◌, length, Option, None, IfSome, IsSome, Result, Ok, Err, is_ok, refl, map, get_or, set, sym, ◌∙◌, ap, subst, arith, inl, inr, zero, suc}
use Rattle.std.specs.Prelude.{◌⊎◌, OnErr, OnOk}
use Rattle.std.proofs.Math.Seq.{map-set_same}
use Rattle.std.proofs.lemmas.Bool.{cases_Bool, cases_eq, cases_lt, false≢true}
use Rattle.std.proofs.lemmas.List.{get_or-map, get_or-set_other, get_or-set_same, length-map, map-set}
use Rattle.std.specs.declared.io.Error.{Error}
use Rattle.paraid_imgrack.specs.declared.image.Image.{Image}
use Rattle.paraid_imgrack.specs.declared.tail.Tail.{Tail}
use Rattle.paraid_imgrack.specs.declared.tail.Tail.TheVariants.{Other, Unread}
use Rattle.paraid_imgrack.specs.Calls.{IsLookedAt, KeepsCause, KeepsCauses, KeepsFound, KeepsOtherImages, TellsCause, TellsCauseAt, cause_at, end_at, image_cause, image_end, has_file, has_file_at}
use Rattle.paraid_rack.specs.declared.call.Power.TheVariants.{Spinning}
use Rattle.paraid_rack.specs.Slots.{Slot, vacant_slot}
use Rattle.paraid_imgrack.specs.declared.identity.Identity.{Identity}
use Rattle.paraid_imgrack.specs.declared.identity.Misfit.{Misfit}
use Rattle.paraid_imgrack.specs.Images.{Becomes, image_misfit, image_slot, image_tail, misfit_at, tail_at}
use Rattle.paraid_imgrack.specs.Labels.{FitsTailLate, read_tail_of}
use Rattle.paraid_imgrack.proofs.ImagesLemmas.{image_slot_at-set_other, image_slot_at-set_same, length_kept}
use Rattle.paraid_imgrack.proofs.LooksLemmas.{misfit-set_other, tail-set_other, tail-set_same}

-- what follows where a call is done, or where it has failed
on_ok : {A E P Q : Type 0} (r : Result A E) → (is_ok r ≡ true → P → Q) → OnOk r P → OnOk r Q
on_ok (Ok a) by p = by refl p
on_ok (Err e) by p = tt

on_err : {A E P Q : Type 0} (r : Result A E) → (P → Q) → OnErr r P → OnErr r Q
on_err (Ok a) by p = tt
on_err (Err e) by p = by p

pub KeepsCauses-then : (a b c : List Image) → KeepsCauses a b → KeepsCauses b c → KeepsCauses a c
KeepsCauses-then a b c first second d is = second d (subst (λ (o : Option Error). IsSome o) (sym (first d is)) is) ∙ first d is

pub KeepsCauses-same : (a b c : List Image) → KeepsCauses a b → map image_cause c ≡ map image_cause b → KeepsCauses a c
KeepsCauses-same a b c first same d is = ap (λ (l : List (Option Error)). get_or l d None) same ∙ first d is

pub KeepsFound-same : (images : List Image) → KeepsFound images images
KeepsFound-same images = record { causes = λ d is. refl; misfits = refl; tails = refl; shut = λ d is. is }

pub KeepsFound-then : (a b c : List Image) → KeepsFound a b → KeepsFound b c → KeepsFound a c
KeepsFound-then a b c first second = record {
  causes = KeepsCauses-then a b c first.causes second.causes;
  misfits = second.misfits ∙ first.misfits;
  tails = second.tails ∙ first.tails;
  shut = λ d is. second.shut d (first.shut d is);
}

-- the image of a disk is put into its slot anew
module _ (images : List Image) (d : ℕ) (y x : Image) (within : d < length images) (is : y ≡ get_or images d y) where
  cause_at-get_or : cause_at images d ≡ y.cause
  cause_at-get_or = get_or-map image_cause images d y None within ∙ ap image_cause (sym is)

  pub cause_at-set_same : cause_at (set images d x) d ≡ x.cause
  cause_at-set_same = ap (λ (l : List (Option Error)). get_or l d None) (map-set image_cause images d x) ∙ get_or-set_same (map image_cause images) d (image_cause x) None (rw (length-map images image_cause) within)

  cause_at-set_other : (e : ℕ) → e ≢ d → cause_at (set images d x) e ≡ cause_at images e
  cause_at-set_other e not = ap (λ (l : List (Option Error)). get_or l e None) (map-set image_cause images d x) ∙ get_or-set_other (map image_cause images) d e (image_cause x) None not

  end_at-set_other : (e : ℕ) → e ≢ d → end_at (set images d x) e ≡ end_at images e
  end_at-set_other e not = ap (λ (l : List Tail). get_or l e Other) (map-set image_end images d x) ∙ get_or-set_other (map image_end images) d e (image_end x) Other not

  has_file_at-get_or : has_file_at images d ≡ has_file y
  has_file_at-get_or = get_or-map has_file images d y false within ∙ ap has_file (sym is)

  has_file_at-set_same : has_file_at (set images d x) d ≡ has_file x
  has_file_at-set_same = ap (λ (l : List Bool). get_or l d false) (map-set has_file images d x) ∙ get_or-set_same (map has_file images) d (has_file x) false (rw (length-map images has_file) within)

  has_file_at-set_other : (e : ℕ) → e ≢ d → has_file_at (set images d x) e ≡ has_file_at images e
  has_file_at-set_other e not = ap (λ (l : List Bool). get_or l e false) (map-set has_file images d x) ∙ get_or-set_other (map has_file images) d e (has_file x) false not

  shut-set : (has_file y ≡ false → has_file x ≡ false) → (e : ℕ) → has_file_at images e ≡ false → has_file_at (set images d x) e ≡ false
  shut-set shut e was = elim (cases_eq e d) [
    | inl here ↦ subst (λ (k : ℕ). has_file_at (set images d x) k ≡ false) (sym here)
        (has_file_at-set_same ∙ shut (sym has_file_at-get_or ∙ (ap (λ (k : ℕ). has_file_at images k) (sym here) ∙ was)))
    | inr not ↦ has_file_at-set_other e not ∙ was
  ]

  pub opened_at : {A E : Type 0} (r : Result A E) → OnOk r (has_file y ≡ true) → OnOk r (has_file_at images d ≡ true)
  opened_at r = on_ok r (λ ok opened. has_file_at-get_or ∙ opened)

  cause_kept : x.cause ≡ y.cause → cause_at (set images d x) d ≡ cause_at images d
  cause_kept same = cause_at-set_same ∙ (same ∙ sym cause_at-get_or)

  pub KeepsCauses-set : (IsSome y.cause → x.cause ≡ y.cause) → KeepsCauses images (set images d x)
  KeepsCauses-set first e some = elim (cases_eq e d) [
    | inl here ↦ subst (λ (k : ℕ). cause_at (set images d x) k ≡ cause_at images k) (sym here)
        (cause_kept (first (subst (λ (o : Option Error). IsSome o) (ap (λ (k : ℕ). cause_at images k) here ∙ cause_at-get_or) some)))
    | inr not ↦ cause_at-set_other e not
  ]

  pub KeepsFound-set : (IsSome y.cause → x.cause ≡ y.cause) → x.misfit ≡ y.misfit → x.tail ≡ y.tail → (has_file y ≡ false → has_file x ≡ false) → KeepsFound images (set images d x)
  KeepsFound-set first misfit tail shut = record {
    causes = KeepsCauses-set first;
    misfits = map-set_same image_misfit images d x y (misfit ∙ ap image_misfit is);
    tails = map-set_same image_end images d x y (tail ∙ ap image_end is);
    shut = shut-set shut;
  }

  pub TellsCauseAt-set : (ok : Bool) → TellsCause y x ok → TellsCauseAt images (set images d x) d ok
  TellsCauseAt-set ok call = record {
    found = KeepsFound-set call.cause.first call.misfit call.tail call.shut;
    others = cause_at-set_other;
    same = λ done. cause_kept (call.cause.same done);
    why = λ failed. subst (λ (o : Option Error). IsSome o) (sym cause_at-set_same) (call.why failed);
  }

  misfit_at-set_same : misfit_at (set images d x) d ≡ x.misfit
  misfit_at-set_same = ap (λ (l : List (Option Misfit)). get_or l d None) (map-set image_misfit images d x) ∙ get_or-set_same (map image_misfit images) d (image_misfit x) None (rw (length-map images image_misfit) within)

  pub KeepsCause-set : (ok : Bool) → KeepsCause y.cause x.cause ok → KeepsCause (cause_at images d) (cause_at (set images d x) d) ok
  KeepsCause-set ok call = record {
    first = KeepsCauses-set call.first d;
    same = λ done. cause_kept (call.same done);
  }

  pub some_cause_at : IsSome x.cause → IsSome (cause_at (set images d x) d)
  some_cause_at some = subst (λ (o : Option Error). IsSome o) (sym cause_at-set_same) some

  pub mended_at : {A E : Type 0} (r : Result A E) → OnOk r ((x.misfit ≡ None) × (x.cause ≡ None)) → OnOk r ((misfit_at (set images d x) d ≡ None) × (cause_at (set images d x) d ≡ None))
  mended_at r = on_ok r (λ ok none. (misfit_at-set_same ∙ none.0, cause_at-set_same ∙ none.1))

  pub why_at : {A E : Type 0} (r : Result A E) → OnErr r (IsSome x.misfit ⊎ IsSome x.cause) → OnErr r (IsSome (misfit_at (set images d x) d) ⊎ IsSome (cause_at (set images d x) d))
  why_at r = on_err r (λ told. elim told [
    | inl misfit ↦ inl (subst (λ (o : Option Misfit). IsSome o) (sym misfit_at-set_same) misfit)
    | inr cause ↦ inr (some_cause_at cause)
  ])

  pub looked_at-set_same : (x.power ≡ Spinning → ((x.tail ≢ Unread) × (has_file x ≡ true)) ⊎ (IsSome x.cause × (has_file x ≡ false))) → IsLookedAt (set images d x) d
  looked_at-set_same read spins =
      let power : x.power ≡ Spinning = ap (λ (s : Slot). s.power) (sym (image_slot_at-set_same images d x within)) ∙ spins in
      elim (read power) [
        | inl seen ↦ inl (subst (λ (t : Tail). t ≢ Unread) (sym (tail-set_same images d x within ∙ ap (λ p. read_tail_of p x.tail) power)) seen.0, has_file_at-set_same ∙ seen.1)
        | inr shut ↦ inr (some_cause_at shut.0, has_file_at-set_same ∙ shut.1)
      ]

  pub looked_at-set_other : (e : ℕ) → e ≢ d → IsLookedAt images e → IsLookedAt (set images d x) e
  looked_at-set_other e not read spins = elim (read (ap (λ (s : Slot). s.power) (sym (image_slot_at-set_other images d x within e not)) ∙ spins)) [
    | inl seen ↦ inl (subst (λ (t : Tail). t ≢ Unread) (sym (tail-set_other images d x e not)) seen.0, has_file_at-set_other e not ∙ seen.1)
    | inr shut ↦ inr (subst (λ (o : Option Error). IsSome o) (sym (cause_at-set_other e not)) shut.0, has_file_at-set_other e not ∙ shut.1)
  ]

  -- what is said of the tail of an image that spins from now on
  tail_now : (dirt ok : Bool) → Becomes (image_slot y) (image_slot x) (record (image_slot y) { power = Spinning }) dirt ok → ok ≡ true → tail_at (set images d x) d ≡ x.tail
  tail_now dirt ok call done = tail-set_same images d x within ∙ ap (λ p. read_tail_of p x.tail) (ap (λ (s : Slot). s.power) (call.done done))

  pub fits_at : {A E : Type 0} (r : Result A E) (known : Option Identity) (dirt : Bool) → Becomes (image_slot y) (image_slot x) (record (image_slot y) { power = Spinning }) dirt (is_ok r)
      → OnOk r (IfSome known (λ i. d < i.disks → FitsTailLate i x.tail d)) → OnOk r (IfSome known (λ i. d < i.disks → FitsTailLate i (tail_at (set images d x) d) d))
  fits_at r known dirt call = on_ok r (λ ok fits. subst (λ (t : Tail). IfSome known (λ i. d < i.disks → FitsTailLate i t d)) (sym (tail_now dirt (is_ok r) call ok)) fits)

  pub read_at : {A E : Type 0} (r : Result A E) (known : Option Identity) (dirt : Bool) → Becomes (image_slot y) (image_slot x) (record (image_slot y) { power = Spinning }) dirt (is_ok r)
      → OnOk r (IfSome known (λ i. x.tail ≢ Unread)) → OnOk r (IfSome known (λ i. tail_at (set images d x) d ≢ Unread))
  read_at r known dirt call = on_ok r (λ ok read. subst (λ (t : Tail). IfSome known (λ i. t ≢ Unread)) (sym (tail_now dirt (is_ok r) call ok)) read)

  pub open_at : {A E : Type 0} (r : Result A E) (known : Option Identity) → OnOk r (IfSome known (λ i. has_file x ≡ true)) → OnOk r (IfSome known (λ i. has_file_at (set images d x) d ≡ true))
  open_at r known = on_ok r (λ ok. subst (λ (b : Bool). IfSome known (λ i. b ≡ true)) (sym has_file_at-set_same))

  pub shut_at : (has_file y ≡ false → has_file x ≡ false) → has_file_at images d ≡ false → has_file_at (set images d x) d ≡ false
  shut_at shut = shut-set shut d

  pub KeepsOtherImages-set : KeepsOtherImages images (set images d x) d
  KeepsOtherImages-set = record {
    causes = cause_at-set_other;
    misfits = misfit-set_other images d x;
    tails = end_at-set_other;
    files = has_file_at-set_other;
  }

set_past : {A : Type 0} (l : List A) (d : ℕ) (x : A) → length l ≤ d → set l d x ≡ l
set_past [] d x past = refl
set_past (y ∷ l) zero x past = absurd (omega arith)
set_past (y ∷ l) (suc d) x past = ap (λ (k : List _). y ∷ k) (set_past l d x (omega arith))

-- an image is put into its place, if there is one, with what was found of it
pub KeepsFound-put : (images : List Image) (d : ℕ) (y x : Image) → y ≡ get_or images d y → (IsSome y.cause → x.cause ≡ y.cause) → x.misfit ≡ y.misfit → x.tail ≡ y.tail
    → (has_file y ≡ false → has_file x ≡ false) → KeepsFound images (set images d x)
KeepsFound-put images d y x is first misfit tail shut = elim (cases_lt d (length images)) [
  | inl within ↦ KeepsFound-set images d y x within is first misfit tail shut
  | inr past ↦ subst (λ (l : List Image). KeepsFound images l) (sym (set_past images d x (omega (arith, past)))) (KeepsFound-same images)
]

-- a call on the image in its place, after labels were given
module _ (before images : List Image) (d : ℕ) (y x : Image) (ok : Bool) (same : map image_slot images ≡ map image_slot before) (within : d < length before) (is : y ≡ get_or images d y) (call : TellsCause y x ok) where
  below : d < length images
  below = omega (arith, within, length_kept before images same)

  pub found_after : KeepsFound before images → KeepsFound before (set images d x)
  found_after found = KeepsFound-then before images (set images d x) found (KeepsFound-set images d y x below is call.cause.first call.misfit call.tail call.shut)

  opened_before : KeepsFound before images → has_file_at images d ≡ true → has_file_at before d ≡ true
  opened_before found now = elim (cases_Bool (has_file_at before d)) [
    | inl was ↦ was
    | inr was ↦ absurd (false≢true (sym (found.shut d was) ∙ now))
  ]

  pub opened_after : KeepsFound before images → {A E : Type 0} (r : Result A E) → OnOk r (has_file y ≡ true) → OnOk r (has_file_at before d ≡ true)
  opened_after found r = on_ok r (λ done opened. opened_before found (has_file_at-get_or images d y x below is ∙ opened))

  pub why_after : ok ≡ false → IsSome (cause_at (set images d x) d)
  why_after failed = some_cause_at images d y x below is (call.why failed)

-- a look at labels whose slots, tails and causes are as before
pub looked_at-same : (old new : List Image) → map image_slot new ≡ map image_slot old → map image_tail new ≡ map image_tail old → map image_cause new ≡ map image_cause old → map has_file new ≡ map has_file old
    → (d : ℕ) → IsLookedAt old d → IsLookedAt new d
looked_at-same old new slots tails causes opened d read spins = elim (read (ap (λ (l : List Slot). (get_or l d vacant_slot).power) (sym slots) ∙ spins)) [
  | inl seen ↦ inl (subst (λ (l : List Tail). get_or l d Other ≢ Unread) (sym tails) seen.0, ap (λ (l : List Bool). get_or l d false) opened ∙ seen.1)
  | inr shut ↦ inr (subst (λ (l : List (Option Error)). IsSome (get_or l d None)) (sym causes) shut.0, ap (λ (l : List Bool). get_or l d false) opened ∙ shut.1)
]

pub looked_next : (old new : List Image) (n : ℕ) → IsLookedAt new n → ((e : ℕ) → e ≢ n → IsLookedAt old e → IsLookedAt new e)
    → ((d : ℕ) → d < n → IsLookedAt old d) → (d : ℕ) → d < n + 1 → IsLookedAt new d
looked_next old new n here left before d below = elim (cases_lt d n) [
  | inl less ↦ left d (λ is. omega (arith, less, is)) (before d less)
  | inr past ↦ let is : d ≡ n = omega (arith, below, past) in subst (λ (k : ℕ). IsLookedAt new k) (sym is) here
]
