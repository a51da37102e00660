-- Stripes in which the copy of one cell changes, and with it the parity.
use Rattle.std.specs.Prelude.{◌≡◌, ℕ, ◌<◌, ◌≤◌, Bool, true}
use Rattle.std.proofs.Common.{refl, sym, ◌∙◌, ap, arith, inl, inr}
use Rattle.std.proofs.lemmas.Bool.{cases_eq}
use Rattle.paraid_base.specs.declared.block.Block.{Block}
use Rattle.paraid_base.specs.Skips.{skip}
use Rattle.paraid_base.specs.Soft.{number_at, soft_disk, soft_index, soft_parity_disk, soft_stripe}
use Rattle.paraid_base.specs.Xor.{xor}
use Rattle.paraid_base.proofs.SkipsLemmas.{skip_apart, skip_other}
use Rattle.paraid_base.proofs.SoftLemmas.{cell_number_below, number_at_cell, soft_disk_below, soft_disk_other, soft_parity_disk_below, soft_places_differ}
use Rattle.paraid_base.proofs.SumsLemmas.{parity_kept, xor_upto_same}
use Rattle.paraid_plan.specs.StoredCells.{ArePads, AreStripes}
use Rattle.paraid_plan.proofs.LayLemmas.{cases_both, put, put_at, put_off}

-- the cell is none of those that the stripes store
pub stripes_left : (n rows b count r d : ℕ) (x : Block) (value stripe : ℕ → ℕ → Block) (was here : ℕ → ℕ → Bool)
    → ((q e : ℕ) → (q ≡ r → e ≡ d → ⊥) → here q e ≡ true → was q e ≡ true)
    → (b ≤ d → soft_stripe n b r d < count → here r d ≡ true → ⊥)
    → AreStripes n rows b count was value stripe → AreStripes n rows b count here (put value r d x) stripe
stripes_left n rows b count r d x value stripe was here same none st = record {
  cells = λ q e lq low le ls h. elim (cases_both q r e d) [
    | inl is ↦
        absurd (none (let j : e ≡ d = is.1 in omega arith)
        (let k : soft_stripe n b q e ≡ soft_stripe n b r d = ap (λ z. soft_stripe n b z e) is.0 ∙ ap (soft_stripe n b r) is.1 in omega arith)
        (sym (ap (λ z. here z e) is.0 ∙ ap (here r) is.1) ∙ h))
    | inr differ ↦ st.cells q e lq low le ls (same q e differ h) ∙ sym (put_off value r d x q e differ)
  ];
  sums = st.sums;
}

module _ (n rows b count r d : ℕ) (old x y : Block) (value stripe : ℕ → ℕ → Block) (gear : 3 ≤ b) (low : b ≤ d) (high : d < n) where
  abbrev s : ℕ
  s = soft_stripe n b r d

  abbrev copy : ℕ
  copy = soft_disk n b r d

  abbrev parity : ℕ
  parity = soft_parity_disk b (soft_stripe n b r d)

  abbrev after : ℕ → ℕ → Block
  after = put (put stripe s copy x) s parity y

  after_copy : after s copy ≡ x
  after_copy = put_off (put stripe s copy x) s parity y s copy (λ _ j. soft_disk_other n b r d j) ∙ put_at stripe s copy x s copy refl refl

  after_parity : after s parity ≡ y
  after_parity = put_at (put stripe s copy x) s parity y s parity refl refl

  after_other : (t e : ℕ) → (t ≡ s → e ≡ copy → ⊥) → (t ≡ s → e ≡ parity → ⊥) → after t e ≡ stripe t e
  after_other t e i j = put_off (put stripe s copy x) s parity y t e j ∙ put_off stripe s copy x t e i

  pub stripes_written : (was here : ℕ → ℕ → Bool) → ((q e : ℕ) → (q ≡ r → e ≡ d → ⊥) → here q e ≡ true → was q e ≡ true)
      → r < rows → s < count → was r d ≡ true → value r d ≡ old → y ≡ xor (stripe s parity) (xor old x)
      → AreStripes n rows b count was value stripe → AreStripes n rows b count here (put value r d x) after
  stripes_written was here same lr ls here_was is_old is_parity st =
      let at_copy : stripe s copy ≡ old = st.cells r d lr low high ls here_was ∙ is_old in
      record {
        cells = λ q e lq lb le lt h. elim (cases_both q r e d) [
          | inl is ↦
              ap (λ z. after (soft_stripe n b z e) (soft_disk n b z e)) is.0 ∙ ap (λ z. after (soft_stripe n b r z) (soft_disk n b r z)) is.1
              ∙ after_copy ∙ sym (put_at value r d x q e is.0 is.1)
          | inr differ ↦
              after_other (soft_stripe n b q e) (soft_disk n b q e)
              (λ i j. let k = soft_places_differ n b q e r d lb le low high i j in differ k.0 k.1)
              (λ i j. soft_disk_other n b q e (j ∙ ap (soft_parity_disk b) (sym i)))
              ∙ st.cells q e lq lb le lt (same q e differ h) ∙ sym (put_off value r d x q e differ)
        ];
        sums = λ t lt. elim (cases_eq t s) [
          | inl i ↦ rw i (parity_kept (stripe s) (after s) copy parity b (soft_disk_below n b r d gear) (soft_parity_disk_below b s (omega arith))
              (soft_disk_other n b r d) (λ e le j k. after_other s e (λ _ z. j z) (λ _ z. k z))
              (after_parity ∙ is_parity ∙ ap (λ z. xor (stripe s parity) (xor z x)) (sym at_copy) ∙ ap (λ z. xor (stripe s parity) (xor (stripe s copy) z)) (sym after_copy))
              (st.sums s ls))
          | inr i ↦ xor_upto_same (after t) (stripe t) b (λ e le. after_other t e (λ z _. i z) (λ z _. i z)) ∙ st.sums t lt
        ];
      }

  pub pads_written : r < rows → ArePads n rows b count stripe → ArePads n rows b count after
  pads_written lr pads = record {
    zeros = λ t at lt la pad.
        after_other t (skip (soft_parity_disk b t) at)
        (λ i j.
        let p : skip (soft_parity_disk b t) at ≡ skip (soft_parity_disk b t) (soft_index n b r d) = j ∙ ap (λ z. skip (soft_parity_disk b z) (soft_index n b r d)) (sym i) in
        let same = skip_apart (soft_parity_disk b t) at (soft_index n b r d) p in
        let number : number_at b t at ≡ number_at b s (soft_index n b r d) = ap (λ z. number_at b z at) i ∙ ap (number_at b s) same in
        let cell = number_at_cell n b r d in
        let below = cell_number_below n b r d rows low high lr in
        absurd (omega arith))
        (λ i j. skip_other (soft_parity_disk b t) at (j ∙ ap (soft_parity_disk b) (sym i)))
        ∙ pads.zeros t at lt la pad;
  }
