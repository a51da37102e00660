-- A write of several blocks
use Rattle.std.specs.Prelude.{◌≡◌, ℕ, ◌≤◌, List, [], ◌∷◌, length, take, replicate, get_or, map, min, refl}
use Rattle.std.proofs.Common.{ap, arith, zero, suc, inl, inr}
use Rattle.std.proofs.lemmas.Bool.{cases_lt}
use Rattle.std.proofs.lemmas.List.{get_or_past, length-map}
use Rattle.paraid_base.specs.declared.block.Block.{Block}
use Rattle.paraid_base.specs.declared.pairs.Pairs.{Pairs}
use Rattle.paraid_base.specs.Xor.{zero_block}
use Rattle.paraid_base.specs.History.{Entry}

-- each block's number with its bytes
abbrev pub numbered_blocks : List ℕ → List Block → Entry
numbered_blocks [] bytes = []
numbered_blocks (b ∷ blocks) [] = []
numbered_blocks (b ∷ blocks) (x ∷ bytes) = (b, x) ∷ numbered_blocks blocks bytes

-- the pairs, the first one first
unfoldable pub pairs_of : Pairs → Entry
pairs_of p = take p.count (numbered_blocks p.blocks p.bytes)

-- past the first member each is the one that is repeated
get_or-rest : {X : Type 0} (n k : ℕ) (x d : X) → get_or (replicate n d) k d ≡ d
get_or-rest zero k x d = refl
get_or-rest (suc n) zero x d = refl
get_or-rest (suc n) (suc k) x d = get_or-rest n k x d

-- the members past the first of one pair are the filler (a fact)
pub rest_of_one : {X : Type 0} (n k : ℕ) (x d : X) → 1 ≤ k → get_or (x ∷ replicate n d) k d ≡ d
rest_of_one n zero x d l = let no : ⊥ = omega (arith, l) in absurd no
rest_of_one n (suc k) x d l = get_or-rest n k x d

-- one pair; the members past it are block 0 and zeros
unfoldable pub single_pair : ℕ → Block → Pairs
single_pair block bytes = record {
  count = 1;
  blocks = block ∷ replicate 7 0;
  bytes = bytes ∷ replicate 7 zero_block;
  some = omega arith;
  few = omega arith;
  blocks_whole = refl;
  bytes_whole = refl;
  blocks_rest = λ k l. rest_of_one 7 k block 0 l;
  bytes_rest = λ k l. rest_of_one 7 k bytes zero_block l;
}

-- the first `n` members of a list, and then `d` up to length `n`
abbrev pub pad_to : {X : Type 0} → X → ℕ → List X → List X
pad_to d zero xs = []
pad_to d (suc n) [] = d ∷ pad_to d n []
pad_to d (suc n) (x ∷ xs) = x ∷ pad_to d n xs

-- a list that is filled up to `n` has length `n` (a fact)
pub length-padded : {X : Type 0} (d : X) (n : ℕ) (xs : List X) → length (pad_to d n xs) ≡ n
length-padded d zero xs = refl
length-padded d (suc n) [] = ap suc (length-padded d n [])
length-padded d (suc n) (x ∷ xs) = ap suc (length-padded d n xs)

-- past the list stands what it was filled up with (a fact)
pub get_or-padded : {X : Type 0} (d : X) (n : ℕ) (xs : List X) (k : ℕ)
    → length xs ≤ k → get_or (pad_to d n xs) k d ≡ d
get_or-padded d zero xs k l = refl
get_or-padded d (suc n) [] zero l = refl
get_or-padded d (suc n) [] (suc k) l = get_or-padded d n [] k (omega arith)
get_or-padded d (suc n) (x ∷ xs) zero l = let no : ⊥ = omega (arith, l) in absurd no
get_or-padded d (suc n) (x ∷ xs) (suc k) l = get_or-padded d n xs k (omega (arith, l))

-- the members past a list that is filled up to eight are the filler (a fact)
pub eight_rest : {X : Type 0} (d : X) (xs : List X) (k : ℕ)
    → min 8 (length xs) ≤ k → get_or (pad_to d 8 xs) k d ≡ d
eight_rest d xs k l = elim (cases_lt k (length xs)) [
  | inl below ↦ let long =
      length-padded d 8 xs in get_or_past (pad_to d 8 xs) k d (omega (arith, below, l, long))
  | inr past ↦ get_or-padded d 8 xs k past
]

-- The value of an entry of one to eight pairs. A longer one is cut, and none is block 0 and zeros.
unfoldable pub pairs_with : Entry → Pairs
pairs_with [] = single_pair 0 zero_block
pairs_with (pair ∷ pairs) = record {
  count = min 8 (length (pair ∷ pairs));
  blocks = pad_to 0 8 (map (λ (p : ℕ × Block). p.0) (pair ∷ pairs));
  bytes = pad_to zero_block 8 (map (λ (p : ℕ × Block). p.1) (pair ∷ pairs));
  some = omega arith;
  few = omega arith;
  blocks_whole = length-padded 0 8 (map (λ (p : ℕ × Block). p.0) (pair ∷ pairs));
  bytes_whole = length-padded zero_block 8 (map (λ (p : ℕ × Block). p.1) (pair ∷ pairs));
  blocks_rest = λ k l. eight_rest 0 (map (λ (p : ℕ × Block). p.0) (pair ∷ pairs)) k
      (let long = length-map (pair ∷ pairs) (λ (p : ℕ × Block). p.0) in omega (arith, l, long));
  bytes_rest = λ k l. eight_rest zero_block (map (λ (p : ℕ × Block). p.1) (pair ∷ pairs)) k
      (let long = length-map (pair ∷ pairs) (λ (p : ℕ × Block). p.1) in omega (arith, l, long));
}
