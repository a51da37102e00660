-- A call on one disk, said of the whole rack.
use Rattle.std.proofs.Common.{◌≡◌, ◌≢◌, zero, suc, [], ◌∷◌, ◌++◌, Result, Ok, Err, is_ok, true, inl, inr, ℕ, ◌<◌, ◌≤◌, Bool, List, length, map, get_or, set, refl, sym, ◌∙◌, ap, subst, arith}
use Rattle.std.specs.Prelude.{OnOk}
use Rattle.std.proofs.lemmas.Bool.{cases_eq}
use Rattle.std.proofs.lemmas.List.{map-set, get_or-set_same, get_or-set_other, length-map, get_or-map}
use Rattle.paraid_rack.specs.declared.rack.Rack.{Ghosts}
use Rattle.paraid_rack.specs.Slots.{Slot, ChangesOneSlot}
use Rattle.paraid_rack.specs.Disks.{Disks, with_at}
use Rattle.paraid_rack.proofs.AtomsLemmas.{with_at_same, with_at_other}
use Rattle.paraid_gather.specs.declared.run.Run.{Run}
use Rattle.paraid_gather.specs.Waiting.{Waiting, AllFit, Fits, none_waits, run_of, waiting_at}
use Rattle.paraid_gather.specs.Above.{Follows, slot_above, slots_above}
use Rattle.paraid_gather.specs.Does.{DoesAbove, DoesWhole}
use Rattle.paraid_gather.proofs.AboveLemmas.{same_at}

pub disk_within : (count d n : ℕ) → d < count → count ≤ 8 → n ≡ 8 → d < n
disk_within count d n below few eight = omega (arith, below, few, eight)

module _ (runs : List Run) (d : ℕ) (y : Run) (within : d < length runs) where
  -- what waits in the run of the disk waits for it
  pub waiting_here : y ≡ get_or runs d y → waiting_at runs d ≡ run_of y
  unfolding waiting_at
  waiting_here is = get_or-map run_of runs d y none_waits within ∙ ap run_of (sym is)

  pub with_this : y ≡ get_or runs d y → with_at (waiting_at runs) d (run_of y) ≡ waiting_at runs
  with_this is = λ i e. pointwise e i
    where
      pointwise : (e : ℕ) → with_at (waiting_at runs) d (run_of y) e ≡ waiting_at runs e
      pointwise e = elim (cases_eq e d) [
        | inl at ↦ with_at_same (waiting_at runs) d (run_of y) e at ∙ sym (waiting_here is) ∙ ap (waiting_at runs) (sym at)
        | inr not ↦ with_at_other (waiting_at runs) d (run_of y) e not
      ]

  pub set_same : waiting_at (set runs d y) d ≡ run_of y
  unfolding waiting_at
  set_same = ap (λ (l : List Waiting). get_or l d none_waits) (map-set run_of runs d y) ∙ get_or-set_same (map run_of runs) d (run_of y) none_waits (simp length-map (omega arith))

  pub set_other : (e : ℕ) → e ≢ d → waiting_at (set runs d y) e ≡ waiting_at runs e
  unfolding waiting_at
  set_other e not = ap (λ (l : List Waiting). get_or l e none_waits) (map-set run_of runs d y) ∙ get_or-set_other (map run_of runs) d e (run_of y) none_waits not

  pub with_new : with_at (waiting_at runs) d (run_of y) ≡ waiting_at (set runs d y)
  with_new = λ i e. pointwise e i
    where
      pointwise : (e : ℕ) → with_at (waiting_at runs) d (run_of y) e ≡ waiting_at (set runs d y) e
      pointwise e = elim (cases_eq e d) [
        | inl at ↦ with_at_same (waiting_at runs) d (run_of y) e at ∙ sym set_same ∙ ap (waiting_at (set runs d y)) (sym at)
        | inr not ↦ with_at_other (waiting_at runs) d (run_of y) e not ∙ sym (set_other e not)
      ]

-- one run more, in which no block waits
pub none_push : (runs : List Run) (x : Run) → ((d : ℕ) → waiting_at runs d ≡ none_waits) → run_of x ≡ none_waits → (d : ℕ) → waiting_at (runs ++ x ∷ []) d ≡ none_waits
unfolding waiting_at
none_push [] x none is zero = is
none_push [] x none is (suc d) = refl
none_push (r ∷ runs) x none is zero = none zero
none_push (r ∷ runs) x none is (suc d) = none_push runs x (λ e. none (suc e)) is d

pub none_start : (runs : List Run) → runs ≡ [] → (d : ℕ) → waiting_at runs d ≡ none_waits
unfolding waiting_at
none_start runs is d = ap (λ (l : List Run). get_or (map run_of l) d none_waits) is

pub on_ok : {A E : Type 0} {P : Type 0} (r : Result A E) → (is_ok r ≡ true → P) → OnOk r P
on_ok (Ok a) h = h refl
on_ok (Err e) h = tt

pub with_own : (w : ℕ → Waiting) (d : ℕ) → with_at w d (w d) ≡ w
with_own w d = λ i e. same_at w d e i

-- of the whole rack, before and after
pub does_whole : {R : Type 0} (g : Ghosts R) (old new : R) (d : ℕ) (run run' : Waiting) (w w' : ℕ → Waiting) (leaves : Slot → Slot) (dirt : Slot → Bool) (ok : Bool) (after : Disks → Disks)
    → with_at w d run ≡ w → with_at w d run' ≡ w' → w d ≡ run → AllFit (g.slot old) w → DoesAbove g d run run' old new (leaves (slot_above (g.slot old d) run)) (dirt (slot_above (g.slot old d) run)) ok after
    → DoesWhole g d w w' old new leaves dirt ok after
does_whole g old new d run run' w w' leaves dirt ok after before later here fits does = record {
  slots = does.slots;
  fits = λ e. elim (cases_eq e d) [
    | inl at ↦ subst (λ (k : ℕ). Fits (g.slot new k) (w' k)) (sym at) (subst (λ (v : Waiting). Fits (g.slot new d) v) (sym (with_at_same w d run' d refl) ∙ ap (λ (f : ℕ → Waiting). f d) later) does.fits)
    | inr not ↦ subst (λ (v : Waiting). Fits (g.slot new e) v) (sym (with_at_other w d run' e not) ∙ ap (λ (f : ℕ → Waiting). f e) later) (subst (λ (x : Slot). Fits x (w e)) (sym (does.others e not)) (fits e))
  ];
  slot = subst (λ (x : Slot). ChangesOneSlot (slots_above (g.slot old) w) (slots_above (g.slot new) w') d (leaves x) (dirt x) ok) (ap (slot_above (g.slot old d)) (sym here))
      (subst (λ (f : ℕ → Waiting). ChangesOneSlot (slots_above (g.slot old) f) (slots_above (g.slot new) w') d (leaves (slot_above (g.slot old d) run)) (dirt (slot_above (g.slot old d) run)) ok) before
      (subst (λ (f : ℕ → Waiting). ChangesOneSlot (slots_above (g.slot old) (with_at w d run)) (slots_above (g.slot new) f) d (leaves (slot_above (g.slot old d) run)) (dirt (slot_above (g.slot old d) run)) ok) later (does.slot w)));
  told = λ s. subst (λ (f : ℕ → Waiting). Follows (g.told old) (g.told new) f w' s (after s)) before
      (subst (λ (f : ℕ → Waiting). Follows (g.told old) (g.told new) (with_at w d run) f s (after s)) later (does.told w s));
}
