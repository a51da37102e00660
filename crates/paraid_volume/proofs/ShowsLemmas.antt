-- What one more write of a volume's block shows.
use Rattle.std.proofs.Common.{◌≡◌, ◌≢◌, ℕ, ◌+◌, ◌*◌, ◌/◌, ◌%◌, ◌<◌, ◌≤◌, ◌∙◌, sym, ap, arith, subst, inl, inr}
use Rattle.std.specs.Prelude.{◌==◌, ◌&&◌, if◌then◌else◌}
use Rattle.std.proofs.lemmas.Bool.{cases_eq, cases_lt}
use Rattle.std.proofs.Math.Nat.{div-add-mod}
use Rattle.std.proofs.lemmas.Bool.Decides.{nat_tests}
use Rattle.std.proofs.lemmas.Nat.{div-mul-add, mod-mul-add, mod_below}
use Rattle.paraid_base.specs.declared.block.Block.{Block}
use Rattle.paraid_base.proofs.PlacesLemmas.{sum_before_step}
use Rattle.paraid_volume.specs.States.{IsPlace, ShowsVolumes, VolumeState, with_block}
use Rattle.paraid_volume.specs.Tables.{IsExtent, IsSameTable, extent_count, extent_size, extents_owned, owner_in}
use Rattle.paraid_volume.proofs.ExtentLemmas.{back, extent_some, extents_few, same_name, same_owned, same_place, same_table}

-- one extent more is owned past an owned extent
pub owned_past : (o : ℕ → ℕ) (id e f : ℕ) → o e ≡ id → e < f → extents_owned o id e + 1 ≤ extents_owned o id f
owned_past o id e f is l =
    let step = sum_before_step (λ k. if o k == id then 1 else 0) e f l in
    let one : ◌≡◌ {A = ℕ} (if o e == id then 1 else 0) 1 = grind (arith, nat_tests, is) in
    omega (arith, step, one)

pub extent_once : (o : ℕ → ℕ) (id k e f : ℕ) → IsExtent o id k e → IsExtent o id k f → e ≡ f
extent_once o id k e f a b = elim (cases_lt e f) [
  | inl h ↦ let p = owned_past o id e f a.is h in let x = a.number in let y = b.number in let no : ⊥ = omega (arith, p, x, y) in absurd no
  | inr h ↦ elim (cases_lt f e) [
    | inl i ↦ let p = owned_past o id f e b.is i in let x = a.number in let y = b.number in let no : ⊥ = omega (arith, p, x, y) in absurd no
    | inr i ↦ omega arith
  ]
]

pub place_once : (count : ℕ) (a : ℕ → Block) (id v p q : ℕ) → IsPlace count a id v p → IsPlace count a id v q → p ≡ q
place_once count a id v p q x y =
    let same = extent_once (owner_in a) id (v / extent_size count) x.extent y.extent x.number y.number in
    x.is ∙ ap (λ (e : ℕ). 6 + e * extent_size count + v % extent_size count) same ∙ sym y.is

-- a place belongs to one block of one volume
same_parts : (x e f r t : ℕ) → r < x → t < x → 6 + e * x + r ≡ 6 + f * x + t → (e ≡ f) × (r ≡ t)
same_parts x e f r t l m is =
    let less : e * x + r ≡ f * x + t = omega (arith, is) in (
      sym (div-mul-add e x r l) ∙ ap (λ (n : ℕ). n / x) less ∙ div-mul-add f x t m,
      sym (mod-mul-add e x r l) ∙ ap (λ (n : ℕ). n % x) less ∙ mod-mul-add f x t m,
    )

pub place_parts : (count : ℕ) (a : ℕ → Block) (i j v w p : ℕ) → 7 ≤ count → IsPlace count a i v p → IsPlace count a j w p → (i ≡ j) × (v ≡ w)
place_parts count a i j v w p large x y =
    let some = extent_some count large in
    let parts = same_parts (extent_size count) x.extent y.extent (v % extent_size count) (w % extent_size count) (mod_below v (extent_size count) some) (mod_below w (extent_size count) some) (sym x.is ∙ y.is) in
    let owner : i ≡ j = sym x.number.is ∙ ap (owner_in a) parts.0 ∙ y.number.is in
    let number : v / extent_size count ≡ w / extent_size count = sym x.number.number ∙ ap (extents_owned (owner_in a) i) parts.0 ∙ ap (λ (k : ℕ). extents_owned (owner_in a) k y.extent) owner ∙ y.number.number in
    (owner, sym (div-add-mod v (extent_size count)) ∙ ap (λ (n : ℕ). extent_size count * n + v % extent_size count) number ∙ ap (λ (n : ℕ). extent_size count * (w / extent_size count) + n) parts.1 ∙ div-add-mod w (extent_size count))

pub place_past : (count : ℕ) (a : ℕ → Block) (id v p : ℕ) → IsPlace count a id v p → 6 ≤ p
place_past count a id v p x = let is = x.is in omega (arith, is)

-- a choice by two numbers
picked : (i id w v : ℕ) (x y : Block) → i ≡ id → w ≡ v → (if i == id && w == v then x else y) ≡ x
picked i id w v x y e f = grind (arith, nat_tests)

passed : (i id w v : ℕ) (x y : Block) → (i ≡ id → w ≡ v → ⊥) → (if i == id && w == v then x else y) ≡ y
passed i id w v x y not = elim (cases_eq i id) [
  | inl e ↦ elim (cases_eq w v) [ inl f ↦ absurd (not e f) | inr f ↦ grind (arith, nat_tests) ]
  | inr e ↦ grind (arith, nat_tests)
]

module _ (count : ℕ) (a b : ℕ → Block) (id v place : ℕ) (bytes : Block) (large : 7 ≤ count) (at : IsPlace count a id v place)
    (here : b place ≡ bytes) (other : (k : ℕ) → place ≢ k → b k ≡ a k) where
  pub same : IsSameTable a b
  same k l = sym (other k (λ is. let past = place_past count a id v place at in let no : ⊥ = omega (arith, is, past, l) in absurd no))

  shows_block : (s : VolumeState) → ShowsVolumes count a s → (i w p : ℕ) → IsPlace count b i w p → (with_block s id v bytes).block i w ≡ b p
  shows_block s shows i w p is =
      let was : IsPlace count a i w p = same_place b a (back a b same) count i w p large is in
      elim (cases_eq place p) [
        | inl e ↦
            let parts = place_parts count a i id w v p large was (subst (λ (q : ℕ). IsPlace count a id v q) e at) in
            picked i id w v bytes (s.block i w) parts.0 parts.1 ∙ sym here ∙ ap b e
        | inr e ↦
            passed i id w v bytes (s.block i w)
            (λ f g.
            let moved : IsPlace count a id v p = subst (λ (n : ℕ). IsPlace count a n v p) f (subst (λ (n : ℕ). IsPlace count a i n p) g was) in
            e (place_once count a id v place p at moved))
            ∙ shows.block i w p was ∙ sym (other p e)
      ]

  pub shows_written : (s : VolumeState) → ShowsVolumes count a s → ShowsVolumes count b (with_block s id v bytes)
  shows_written s shows =
      let few = extents_few count large in record {
        table = same_table a b same count large shows.table;
        name = λ i k low high l. shows.name i k low high l ∙ same_name a b same i k;
        size = λ i low high. shows.size i low high ∙ ap (λ (n : ℕ). extent_size count * n) (same_owned a b same i (extent_count count) few);
        block = shows_block s shows;
        free = shows.free ∙ same_owned a b same 0 (extent_count count) few;
      }
