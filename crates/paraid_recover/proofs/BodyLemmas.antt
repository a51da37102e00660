-- A batch that is read block by block.
use Rattle.std.specs.Prelude.{◌≡◌, ◌≢◌, ℕ, ◌+◌, ◌<◌, ◌≤◌, false, List, [], ◌∷◌, ◌++◌, length, take, get_or, AllPairs}
use Rattle.std.proofs.Common.{refl, sym, ◌∙◌, ap, arith, zero, suc}
use Rattle.std.proofs.lemmas.List.{get_or-take, take_more}
use Rattle.paraid_base.specs.declared.block.Block.{Block}
use Rattle.paraid_record.specs.declared.targets.Target.{Target}
use Rattle.paraid_record.specs.Targets.{no_target}
use Rattle.paraid_image.specs.Neutral.{names_place}
use Rattle.paraid_image.specs.Sides.{Batch, targets}
use Rattle.paraid_image.specs.Batches.{with_target}
use Rattle.paraid_image.proofs.NeutralLemmas.{length-targets}
use Rattle.paraid_image.proofs.BatchesLemmas.{names_place-off, with_target-new}

take_long : {A : Type 0} (n : ℕ) (xs : List A) → n ≤ length xs → length (take n xs) ≡ n
take_long zero xs le = refl
take_long (suc n) [] le = absurd (omega arith)
take_long (suc n) (x ∷ xs) le = ap suc (take_long n xs (omega arith))

pub below_all : {A : Type 0} (n at : ℕ) (xs : List A) → n ≤ length xs → at < n → at < length (take n xs)
below_all n at xs le lt = let all = take_long n xs le in omega arith

targets_more : (batch : Batch) (w : Target × Block) → targets (batch ++ w ∷ []) ≡ targets batch ++ w.0 ∷ []
targets_more [] w = refl
targets_more (v ∷ batch) w = ap (λ (l : List Target). v.0 ∷ l) (targets_more batch w)

pub at_place : (f : ℕ → Block) (p q : ℕ) (b : Block) → b ≡ f q → q ≡ p → f p ≡ b
at_place f p q b is same = sym (ap f same) ∙ sym is

module _ (batch : Batch) (ts : List Target) (n : ℕ) (lt : n < length ts) (named : targets batch ≡ take n ts) where
  pub read_so_far : length batch ≡ n
  read_so_far = sym (length-targets batch) ∙ ap length named ∙ take_long n ts (omega arith)

  module _ (after : Batch) (t : Target) (b : Block) (at : t ≡ get_or ts n no_target) (apart : AllPairs (λ x y. x ≢ y) ts) (is : after ≡ with_target batch t b) where
    new : names_place batch t.disk t.place ≡ false
    new = names_place-off batch t (λ k below e.
        let size = read_so_far in
        let lk : k < n = omega arith in
        apart k n no_target lk lt (sym (get_or-take n ts k no_target lk) ∙ sym (ap (λ (l : List Target). get_or l k no_target) named) ∙ e ∙ at))

    pub one_more : after ≡ batch ++ (t, b) ∷ []
    one_more = is ∙ with_target-new batch t b new

    pub named_more : targets after ≡ take (n + 1) ts
    named_more =
        ap targets one_more ∙ targets_more batch (t, b) ∙ ap (λ (l : List Target). l ++ t ∷ []) named
        ∙ ap (λ (x : Target). take n ts ++ x ∷ []) at ∙ sym (take_more ts n no_target lt)

-- all of it
taken : {A : Type 0} (n : ℕ) (xs : List A) → take n (take n xs) ≡ take n xs
taken zero xs = refl
taken (suc n) [] = refl
taken (suc n) (x ∷ xs) = ap (λ l. x ∷ l) (taken n xs)

pub named_all : (batch : Batch) (count n : ℕ) (ts : List Target) → targets batch ≡ take n (take count ts) → n ≡ count → targets batch ≡ take count ts
named_all batch count n ts named is = named ∙ ap (λ (k : ℕ). take k (take count ts)) is ∙ taken count ts
