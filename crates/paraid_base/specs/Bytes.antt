-- Lists of bytes, and their XOR place by place
use Rattle.std.specs.Prelude.{◌≡◌, ℕ, ◌<◌, List, [], ◌∷◌, length, slice_index, replicate, bit_xor, refl}
use Rattle.std.specs.Simd.Lanes.{zip2}
use Rattle.std.proofs.Common.{ap, arith, zero, suc}
use Rattle.std.proofs.lemmas.Nat.{xor_of_8}

-- the XOR of two lists, byte by byte
abbrev pub xor_bytes : List ℕ → List ℕ → List ℕ
xor_bytes = zip2 bit_xor

-- the XOR of two lists of one length has that length (a fact)
pub length-xor_bytes : (a b : List ℕ) → length a ≡ length b → length (xor_bytes a b) ≡ length a
length-xor_bytes [] b e = refl
length-xor_bytes (x ∷ a) [] e = cc
length-xor_bytes (x ∷ a) (y ∷ b) e = ap suc (length-xor_bytes a b (omega arith))

-- zeros are bytes (a fact)
pub zeros_small : (n k : ℕ) → slice_index (replicate n 0) k < 256
zeros_small zero k = omega arith
zeros_small (suc n) zero = omega arith
zeros_small (suc n) (suc k) = zeros_small n k

-- zeros are as many as were asked for (a fact)
pub length-zeros : (n : ℕ) → length {A = ℕ} (replicate n 0) ≡ n
length-zeros zero = refl
length-zeros (suc n) = ap suc (length-zeros n)

-- the XOR of bytes is bytes (a fact that `xor` needs)
pub xor_bytes_small : (a b : List ℕ) → ((k : ℕ) → slice_index a k < 256)
    → ((k : ℕ) → slice_index b k < 256) → (k : ℕ) → slice_index (xor_bytes a b) k < 256
xor_bytes_small [] b p q k = omega arith
xor_bytes_small (x ∷ a) [] p q k = omega arith
xor_bytes_small (x ∷ a) (y ∷ b) p q zero = xor_of_8 x y (p 0) (q 0)
xor_bytes_small (x ∷ a) (y ∷ b) p q (suc k) =
    xor_bytes_small a b (λ i. p (suc i)) (λ i. q (suc i)) k
