-- Blocks that repeat a list of bytes
use Rattle.std.proofs.Common.{◌≡◌, ℕ, zero, suc, ◌%◌, ◌<◌, List, [], ◌∷◌, length, get_or, replicate, refl, sym, ap, ◌∙◌, arith}
use Rattle.std.proofs.lemmas.List.{get_or-replicate}
use Rattle.std.specs.Prelude.{slice_index}
use Rattle.paraid_base.specs.declared.block.Block.{Block}
use Rattle.paraid_base.proofs.XorLemmas.{same_block}
use Rattle.paraid_trace.specs.Repeats.{Repeats, byte_of, length-listed, list_upto, repeating_block}

pub get_or-listed : (f : ℕ → ℕ) (n k : ℕ) → k < n → get_or (list_upto f n) k 0 ≡ f k
get_or-listed f zero k lt = absurd (omega arith)
get_or-listed f (suc n) zero lt = refl
get_or-listed f (suc n) (suc k) lt = get_or-listed (λ i. f (suc i)) n k (omega arith)

-- lists of one length that agree at each place are one list
pub same_list : (a b : List ℕ) → length a ≡ length b → ((k : ℕ) → k < length b → get_or a k 0 ≡ get_or b k 0) → a ≡ b
same_list [] [] e h = refl
same_list [] (y ∷ b) e h = absurd (omega arith)
same_list (x ∷ a) [] e h = absurd (omega arith)
same_list (x ∷ a) (y ∷ b) e h =
    let head : x ≡ y = h 0 (omega arith) in
    let tail : a ≡ b = same_list a b (omega arith) (λ k lt. h (suc k) (omega arith)) in
    cc

-- a block of bytes that agree with the repetition is the repetition
pub repeating_block-from_places : (pattern : List ℕ) (block : Block) → ((k : ℕ) → k < 512 → get_or block.bytes k 0 ≡ byte_of pattern k) → block ≡ repeating_block pattern
unfolding repeating_block
repeating_block-from_places pattern block h =
    same_block _ _ (same_list block.bytes (list_upto (byte_of pattern) 512) (block.whole ∙ sym (length-listed (byte_of pattern) 512)) (λ k lt.
    let below : k < 512 = omega (arith, length-listed (byte_of pattern) 512) in
    h k below ∙ sym (get_or-listed (byte_of pattern) 512 k below)))

-- the block that the definition by place describes
pub repeating_block-Repeats : (pattern : List ℕ) (block : Block) → Repeats pattern block → block ≡ repeating_block pattern
repeating_block-Repeats pattern block h = repeating_block-from_places pattern block (λ k lt.
    let each = h.each k lt in
    let small = block.small k in
    omega arith)

pub Repeats-repeated : (pattern : List ℕ) → ((k : ℕ) → slice_index pattern k < 256) → Repeats pattern (repeating_block pattern)
unfolding repeating_block
Repeats-repeated pattern small = record {
  each = λ k lt.
      let byte = get_or-listed (byte_of pattern) 512 k lt in
      let below = small (k % length pattern) in
      omega arith;
}

-- bytes that agree with the repetition are its bytes
pub repeating_block-bytes : (pattern bytes : List ℕ) → length bytes ≡ 512 → ((k : ℕ) → k < 512 → get_or bytes k 0 ≡ byte_of pattern k) → bytes ≡ (repeating_block pattern).bytes
unfolding repeating_block
repeating_block-bytes pattern bytes whole h =
    same_list bytes (list_upto (byte_of pattern) 512) (whole ∙ sym (length-listed (byte_of pattern) 512)) (λ k lt.
    let below : k < 512 = omega (arith, length-listed (byte_of pattern) 512) in
    h k below ∙ sym (get_or-listed (byte_of pattern) 512 k below))

-- a block of one byte is the repetition of that byte
pub one_byte_repeats : (pattern : List ℕ) (block : Block) → length pattern ≡ 1 → block.bytes ≡ replicate 512 (get_or pattern 0 0) → block ≡ repeating_block pattern
one_byte_repeats pattern block size is = repeating_block-from_places pattern block (λ k lt.
    let here = ap (λ (l : List ℕ). get_or l k 0) is ∙ get_or-replicate 512 k (get_or pattern 0 0) 0 lt in
    let near : k % length pattern ≡ 0 = ap (λ n. k % n) size ∙ omega arith in
    let there = ap (λ i. get_or pattern i 0) near in
    let small = block.small k in
    omega (arith, here, there, small))

-- a byte, repeated, is a list of bytes
pub replicate_small : (n byte : ℕ) → byte < 256 → (k : ℕ) → slice_index (replicate n byte) k < 256
replicate_small zero byte small k = omega arith
replicate_small (suc n) byte small zero = small
replicate_small (suc n) byte small (suc k) = replicate_small n byte small k
