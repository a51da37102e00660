-- What a number that is within its bounds, or is not, says of the value at its key
use Rattle.std.proofs.Common.{◌≡◌, ℕ, ℤ, pos, Option, Some, None, inl, sym, ap, subst, ◌∙◌}
use Rattle.std.specs.Prelude.{Result, OnOk, IfOk, IfErr}
use Rattle.std.proofs.lemmas.Result.{IfOk-weaker}
use Rattle.toml.specs.Data.{Data, integer, Members}
use Rattle.paraid_config.specs.declared.key.Key.{Key}
use Rattle.paraid_config.specs.declared.fault.ConfigFault.{ConfigFault}
use Rattle.paraid_config.specs.Keys.{low_of, high_of}
use Rattle.paraid_config.specs.Values.{value_at, bounds_fault, range_fault, number_fault, number_fault_in, optional_fault_in, IsNumberAt, IsNumberOr}

-- the bounds are those of the key, and the integer is read back as it was written
module _ (k : Key) (low high : ℕ) (z y : ℤ) (same : z ≡ y) (r : Result ℕ ConfigFault) (low_is : low ≡ low_of k) (high_is : high ≡ high_of k) where
  bounds_are : bounds_fault k low high z ≡ range_fault k y
  bounds_are =
      ap (λ (b : ℕ). bounds_fault k b high z) low_is ∙ ap (λ (b : ℕ). bounds_fault k (low_of k) b z) high_is ∙ ap (λ (x : ℤ). bounds_fault k (low_of k) (high_of k) x) same

  pub range_accepted : OnOk r (bounds_fault k low high z ≡ None) → OnOk r (range_fault k y ≡ None)
  range_accepted h = subst (λ (x : Option ConfigFault). OnOk r (x ≡ None)) bounds_are h

  pub range_refused : IfErr r (λ f. bounds_fault k low high z ≡ Some f) → IfErr r (λ f. range_fault k y ≡ Some f)
  range_refused h = subst (λ (x : Option ConfigFault). IfErr r (λ f. x ≡ Some f)) bounds_are h

-- the integer at the key
module _ (document : Members) (k : Key) (z : ℤ) (r : Result ℕ ConfigFault) (there : value_at document k ≡ Some (integer z)) where
  pub number_read : IfOk r (λ n. z ≡ pos n) → IfOk r (λ n. IsNumberAt document k n)
  number_read h = IfOk-weaker r _ _ (λ n same. there ∙ ap (λ (y : ℤ). Some (integer y)) same) h

  pub number_or_read : (absent : ℕ) → IfOk r (λ n. z ≡ pos n) → IfOk r (IsNumberOr document k absent)
  number_or_read absent h = IfOk-weaker r _ _ (λ n same. inl (there ∙ ap (λ (y : ℤ). Some (integer y)) same)) h

  pub number_accepted : OnOk r (range_fault k z ≡ None) → OnOk r (number_fault document k ≡ None)
  number_accepted h = subst (λ (d : Option Data). OnOk r (number_fault_in k d ≡ None)) (sym there) h

  pub number_refused : IfErr r (λ f. range_fault k z ≡ Some f) → IfErr r (λ f. number_fault document k ≡ Some f)
  number_refused h = subst (λ (d : Option Data). IfErr r (λ f. number_fault_in k d ≡ Some f)) (sym there) h

  module _ (low high : ℕ) (low_is : low ≡ low_of k) where
    pub optional_accepted : OnOk r (bounds_fault k low high z ≡ None) → OnOk r (optional_fault_in k high (value_at document k) ≡ None)
    optional_accepted h =
        subst (λ (d : Option Data). OnOk r (optional_fault_in k high d ≡ None)) (sym there) (subst (λ (b : ℕ). OnOk r (bounds_fault k b high z ≡ None)) low_is h)

    pub optional_refused : IfErr r (λ f. bounds_fault k low high z ≡ Some f) → IfErr r (λ f. optional_fault_in k high (value_at document k) ≡ Some f)
    optional_refused h =
        subst (λ (d : Option Data). IfErr r (λ f. optional_fault_in k high d ≡ Some f)) (sym there) (subst (λ (b : ℕ). IfErr r (λ f. bounds_fault k b high z ≡ Some f)) low_is h)

-- nothing is at the key
pub optional_absent : (document : Members) (k : Key) (high : ℕ) → value_at document k ≡ None → optional_fault_in k high (value_at document k) ≡ None
optional_absent document k high is = ap (optional_fault_in k high) is
