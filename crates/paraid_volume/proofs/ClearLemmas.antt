-- Writes of zeros, one after the other.
use Rattle.std.proofs.Common.{◌≡◌, ℕ, ◌+◌, ◌-◌, ◌*◌, ◌∙◌, ◌++◌, ◌∷◌, [], length, take, sym, ap, arith, subst, inl, inr, zero, suc}
use Rattle.std.specs.Prelude.{◌⊎◌}
use Rattle.std.proofs.lemmas.Bool.{cases_eq, cases_lt}
use Rattle.std.proofs.lemmas.List.{append-nil, append_assoc, take-append-le, take_all}
use Rattle.std.proofs.Math.Seq.{take-append-add}
use Rattle.paraid_base.specs.declared.block.Block.{Block}
use Rattle.paraid_base.specs.History.{History, after_all}
use Rattle.paraid_base.specs.Xor.{zero_block}
use Rattle.paraid_base.proofs.HistoryLemmas.{after_all-written, after_all-other}
use Rattle.paraid_volume.specs.Device.{Between, IsZeroed, InExtent, OfExtent}

pub cleared_none : (holds : History → Type 0) (h : History) (inside : ℕ → Type 0) → ((b : ℕ) → inside b → ⊥) → holds h → IsZeroed holds h inside
cleared_none holds h inside none stands = record {
  more = [];
  stands = subst holds (sym (append-nil h)) stands;
  rest = λ k b out. ap (λ (x : History). after_all x b) (nothing k);
  zeros = λ b is. absurd (none b is);
}
  where
    nothing : (k : ℕ) → h ++ take k [] ≡ h
    nothing zero = append-nil h
    nothing (suc k) = append-nil h

pub cleared_one : (holds : History → Type 0) (h : History) (at : ℕ) (bytes : Block) → bytes ≡ zero_block → holds (h ++ ((at, bytes) ∷ []) ∷ []) → IsZeroed holds h (Between at (at + 1))
cleared_one holds h at bytes is stands = record {
  more = ((at, bytes) ∷ []) ∷ [];
  stands = stands;
  rest = rest;
  zeros = λ b in_range.
      let low = in_range.0 in
      let high = in_range.1 in
      let same : at ≡ b = omega (arith, low, high) in
      subst (λ (x : ℕ). after_all (h ++ ((at, bytes) ∷ []) ∷ []) x ≡ zero_block) same (after_all-written h at bytes ∙ is);
}
  where
    rest : (k b : ℕ) → (Between at (at + 1) b → ⊥) → after_all (h ++ take k (((at, bytes) ∷ []) ∷ [])) b ≡ after_all h b
    rest zero b out = ap (λ (x : History). after_all x b) (append-nil h)
    rest (suc zero) b out = after_all-other h at b bytes (λ same. out (omega (arith, same), omega (arith, same)))
    rest (suc (suc k)) b out = after_all-other h at b bytes (λ same. out (omega (arith, same), omega (arith, same)))

pub between : (start end b : ℕ) → Between start end b ⊎ (Between start end b → ⊥)
between start end b = elim (cases_lt b start) [
  | inl l ↦ inr (λ is. let low = is.0 in omega (arith, low, l))
  | inr l ↦ elim (cases_lt b end) [
    | inl m ↦ inl (l, m)
    | inr m ↦ inr (λ is. let high = is.1 in omega (arith, high, m))
  ]
]

module _ (mid new : History → Type 0) (h : History) (P Q R : ℕ → Type 0) (first : IsZeroed mid h P) (second : IsZeroed new (h ++ first.more) Q)
    (decide : (b : ℕ) → Q b ⊎ (Q b → ⊥)) (into : (b : ℕ) → R b → P b ⊎ Q b) (keeps : (b : ℕ) → P b → R b) (adds : (b : ℕ) → Q b → R b) where
  whole : (b : ℕ) → (P b → ⊥) → after_all (h ++ first.more) b ≡ after_all h b
  whole b out = ap (λ (x : History). after_all (h ++ x) b) (sym (take_all (length first.more) first.more (omega arith))) ∙ first.rest (length first.more) b out

  both_rest : (k b : ℕ) → (R b → ⊥) → after_all (h ++ take k (first.more ++ second.more)) b ≡ after_all h b
  both_rest k b out = elim (cases_lt (length first.more) k) [
    | inl l ↦
        let more : k ≡ length first.more + (k - length first.more) = omega (arith, l) in
        ap (λ (n : ℕ). after_all (h ++ take n (first.more ++ second.more)) b) more
        ∙ ap (λ (x : History). after_all (h ++ x) b) (take-append-add first.more second.more (k - length first.more))
        ∙ ap (λ (x : History). after_all x b) (sym (append_assoc h first.more (take (k - length first.more) second.more)))
        ∙ second.rest (k - length first.more) b (λ is. out (adds b is))
        ∙ whole b (λ is. out (keeps b is))
    | inr l ↦
        ap (λ (x : History). after_all (h ++ x) b) (take-append-le k first.more second.more l) ∙ first.rest k b (λ is. out (keeps b is))
  ]

  after : (b : ℕ) → (Q b → ⊥) → after_all ((h ++ first.more) ++ second.more) b ≡ after_all (h ++ first.more) b
  after b out = ap (λ (x : History). after_all ((h ++ first.more) ++ x) b) (sym (take_all (length second.more) second.more (omega arith))) ∙ second.rest (length second.more) b out

  both_zeros : (b : ℕ) → R b → after_all (h ++ (first.more ++ second.more)) b ≡ zero_block
  both_zeros b is =
      ap (λ (x : History). after_all x b) (sym (append_assoc h first.more second.more))
      ∙ (elim (decide b) [
        | inl q ↦ second.zeros b q
        | inr out ↦ after b out ∙ first.zeros b (was out (into b is))
      ])
    where
      was : (Q b → ⊥) → P b ⊎ Q b → P b
      was out (inl p) = p
      was out (inr q) = absurd (out q)

  pub cleared_then : IsZeroed new h R
  cleared_then = record {
    more = first.more ++ second.more;
    stands = subst new (append_assoc h first.more second.more) second.stands;
    rest = both_rest;
    zeros = both_zeros;
  }

pub cleared_owned : (holds : History → Type 0) (h : History) (o : ℕ → ℕ) (id size e : ℕ) → o e ≡ id → IsZeroed holds h (Between (6 + e * size) (6 + e * size + size)) → IsZeroed holds h (OfExtent o id size e)
cleared_owned holds h o id size e is cleared = record {
  more = cleared.more;
  stands = cleared.stands;
  rest = λ k b out. cleared.rest k b (λ in_range. out (is, in_range));
  zeros = λ b of. cleared.zeros b of.1;
}

of_extent : (o : ℕ → ℕ) (id size e b : ℕ) → OfExtent o id size e b ⊎ (OfExtent o id size e b → ⊥)
of_extent o id size e b = elim (cases_eq (o e) id) [
  | inl is ↦ elim (between (6 + e * size) (6 + e * size + size) b) [ inl in_range ↦ inl (is, in_range) | inr out ↦ inr (λ of. out of.1) ]
  | inr not ↦ inr (λ of. not of.0)
]

pub cleared_more : (mid new : History → Type 0) (h : History) (o : ℕ → ℕ) (id size n : ℕ) (first : IsZeroed mid h (InExtent o id size n)) → IsZeroed new (h ++ first.more) (OfExtent o id size n) → IsZeroed new h (InExtent o id size (n + 1))
cleared_more mid new h o id size n first second =
    cleared_then mid new h (InExtent o id size n) (OfExtent o id size n) (InExtent o id size (n + 1)) first second (of_extent o id size n)
    (λ b is. elim (cases_lt is.extent n) [
      | inl l ↦ inl (record { extent = is.extent; below = l; of = is.of })
      | inr l ↦
          let below = is.below in
          let same : is.extent ≡ n = omega (arith, l, below) in
          inr (subst (λ (e : ℕ). OfExtent o id size e b) same is.of)
    ])
    (λ b is. let below = is.below in record { extent = is.extent; below = omega (arith, below); of = is.of })
    (λ b is. record { extent = n; below = omega arith; of = is })
