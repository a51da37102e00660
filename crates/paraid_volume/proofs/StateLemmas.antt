-- Each table shows a state.
use Rattle.std.proofs.Common.{◌≡◌, ℕ, ◌+◌, ◌*◌, ◌/◌, ◌%◌, ◌<◌, ◌∙◌, ◌++◌, ◌∷◌, [], refl, sym, ap, arith, inl, inr, zero, suc, length}
use Rattle.std.specs.Prelude.{◌==◌, if◌then◌else◌}
use Rattle.std.proofs.lemmas.Bool.{cases_eq}
use Rattle.std.proofs.lemmas.Bool.Decides.{nat_tests}
use Rattle.std.proofs.lemmas.List.{length-append}
use Rattle.paraid_base.specs.declared.block.Block.{Block}
use Rattle.paraid_base.specs.History.{History, after_all}
use Rattle.paraid_volume.specs.Lives.{BeginsLife, HasLived, begun}
use Rattle.paraid_volume.specs.States.{AddsNoVolume, ShowsVolumes, VolumeState, no_volumes}
use Rattle.paraid_volume.specs.Tables.{IsExtent, IsVolumeTable, extent_count, extent_size, name_in, extents_owned, owner_in}
use Rattle.paraid_volume.proofs.ShowsLemmas.{extent_once}

pub nth : (ℕ → ℕ) → ℕ → ℕ → ℕ → ℕ
nth o id k zero = 0
nth o id k (suc n) = if o n == id then (if extents_owned o id n == k then n else nth o id k n) else nth o id k n

nth_is : (o : ℕ → ℕ) (id k n e : ℕ) → e < n → IsExtent o id k e → nth o id k n ≡ e
unfolding nth
nth_is o id k zero e l is = let no : ⊥ = omega (arith, l) in absurd no
nth_is o id k (suc n) e l is = elim (cases_eq n e) [
  | inl same ↦
      let owner : o n ≡ id = ap o same ∙ is.is in
      let number : extents_owned o id n ≡ k = ap (extents_owned o id) same ∙ is.number in
      here owner number ∙ same
  | inr not ↦ elim (cases_eq (o n) id) [
    | inl owner ↦ elim (cases_eq (extents_owned o id n) k) [
      | inl number ↦ absurd (not (extent_once o id k n e (record { is = owner; number = number }) is))
      | inr number ↦ past owner number ∙ nth_is o id k n e (omega (arith, l, not)) is
    ]
    | inr owner ↦ other owner ∙ nth_is o id k n e (omega (arith, l, not)) is
  ]
]
  where
    here : o n ≡ id → extents_owned o id n ≡ k → (if o n == id then (if extents_owned o id n == k then n else nth o id k n) else nth o id k n) ≡ n
    here a b = grind (arith, nat_tests)

    past : o n ≡ id → (extents_owned o id n ≡ k → ⊥) → (if o n == id then (if extents_owned o id n == k then n else nth o id k n) else nth o id k n) ≡ nth o id k n
    past a b = grind (arith, nat_tests)

    other : (o n ≡ id → ⊥) → (if o n == id then (if extents_owned o id n == k then n else nth o id k n) else nth o id k n) ≡ nth o id k n
    other a = grind (arith, nat_tests)

-- the state that a table shows
abbrev pub state_of : ℕ → (ℕ → Block) → VolumeState
state_of count a = record {
  name = name_in a;
  size = λ id. extent_size count * extents_owned (owner_in a) id (extent_count count);
  block = λ id v. a (6 + nth (owner_in a) id (v / extent_size count) (extent_count count) * extent_size count + v % extent_size count);
  free = extents_owned (owner_in a) 0 (extent_count count);
}

pub shows_some : (count : ℕ) (a : ℕ → Block) → IsVolumeTable count a → ShowsVolumes count a (state_of count a)
shows_some count a table = record {
  table = table;
  name = λ id k low high l. refl;
  size = λ id low high. refl;
  block = λ id v place at.
      let is = nth_is (owner_in a) id (v / extent_size count) (extent_count count) at.extent at.below at.number in
      ap a (ap (λ (e : ℕ). 6 + e * extent_size count + v % extent_size count) is ∙ sym at.is);
  free = refl;
}

pub lived_adopted : (holds : History → Type 0) (count : ℕ) (h : History) → holds h → IsVolumeTable count (after_all h) → HasLived holds count (length h) []
lived_adopted holds count h stands table = record {
  writes = h;
  state = state_of count (after_all h);
  stands = stands;
  life = begun h (state_of count (after_all h)) refl (shows_some count (after_all h) table);
}

pub lived_begun : (holds : History → Type 0) (count : ℕ) (h : History) → AddsNoVolume holds count h → BeginsLife holds count (length h + 1)
lived_begun holds count h begins = record {
  lived = record {
    writes = h ++ begins.entry ∷ [];
    state = no_volumes count;
    stands = begins.stands;
    life = begun (h ++ begins.entry ∷ []) (no_volumes count) (length-append h (begins.entry ∷ [])) begins.shows;
  };
  none = refl;
}
