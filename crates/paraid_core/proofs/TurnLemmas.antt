-- A disk is parked or spun up: the slots after it.
use Rattle.std.specs.Prelude.{◌≡◌, ℕ, ◌≤◌, Bool, true}
use Rattle.std.proofs.Common.{sym, ◌∙◌, ap, subst, arith, inl, inr}
use Rattle.std.proofs.lemmas.Bool.{cases_Bool, cases_eq, false≢true}
use Rattle.paraid_rack.specs.Disks.{is_present}
use Rattle.paraid_rack.specs.Slots.{ChangesOneSlot, Slot}
use Rattle.paraid_core.specs.Steps.{OnlyPowersDisks}

module _ (slot then : ℕ → Slot) (d : ℕ) (leaves : Slot) (dirt done : Bool) (touched : ChangesOneSlot slot then d leaves dirt done) (here : is_present (slot d).power ≡ true) (size : leaves.size ≡ (slot d).size)
    (faults : leaves.faults ≡ (slot d).faults) where
  pub only_turns : OnlyPowersDisks slot then
  only_turns = record {
    there = λ x is. elim (cases_eq x d) [
      | inl same ↦ ap (λ (e : ℕ). is_present (slot e).power) same ∙ here
      | inr apart ↦ ap (λ (s : Slot). is_present s.power) (sym (touched.others x apart)) ∙ is
    ];
    size = λ x is. elim (cases_eq x d) [
      | inr apart ↦ ap (λ (s : Slot). s.size) (touched.others x apart)
      | inl same ↦ elim (cases_Bool done) [
        | inl ok ↦ ap (λ (e : ℕ). (then e).size) same ∙ ap (λ (s : Slot). s.size) (touched.done ok) ∙ size ∙ ap (λ (e : ℕ). (slot e).size) (sym same)
        | inr failed ↦ absurd (false≢true (sym (ap is_present (touched.absent failed)) ∙ ap (λ (e : ℕ). is_present (then e).power) (sym same) ∙ is))
      ]
    ];
    no_fall = λ x. elim (cases_eq x d) [
      | inr apart ↦ let e : (then x).faults ≡ (slot x).faults = ap (λ (s : Slot). s.faults) (touched.others x apart) in omega arith
      | inl same ↦ elim (cases_Bool done) [
        | inl ok ↦
            let e : (then x).faults ≡ (slot x).faults = ap (λ (e : ℕ). (then e).faults) same ∙ ap (λ (s : Slot). s.faults) (touched.done ok) ∙ faults ∙ ap (λ (e : ℕ). (slot e).faults) (sym same) in
            omega arith
        | inr failed ↦ subst (λ (e : ℕ). (slot e).faults ≤ (then e).faults) (sym same) (touched.later failed)
      ]
    ];
  }
