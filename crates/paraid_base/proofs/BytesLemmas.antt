-- Lists of bytes, and their XOR place by place
use Rattle.std.specs.Prelude.{◌≡◌, ℕ, List, [], ◌∷◌, length, replicate, refl}
use Rattle.std.proofs.lemmas.Nat.{xor_comm}
use lib.Bits.{xor_assoc, xor_self, xor_zero_l}
use Rattle.paraid_base.specs.Bytes.{xor_bytes}

pub xor_bytes_comm : (a b : List ℕ) → xor_bytes a b ≡ xor_bytes b a
xor_bytes_comm [] [] = refl
xor_bytes_comm [] (y ∷ b) = refl
xor_bytes_comm (x ∷ a) [] = refl
xor_bytes_comm (x ∷ a) (y ∷ b) = let e = xor_bytes_comm a b in let f = xor_comm x y in cc

pub xor_bytes_assoc : (a b c : List ℕ) → xor_bytes (xor_bytes a b) c ≡ xor_bytes a (xor_bytes b c)
xor_bytes_assoc [] b c = refl
xor_bytes_assoc (x ∷ a) [] c = refl
xor_bytes_assoc (x ∷ a) (y ∷ b) [] = refl
xor_bytes_assoc (x ∷ a) (y ∷ b) (z ∷ c) = let e = xor_bytes_assoc a b c in let f = xor_assoc x y z in cc

pub xor_bytes_self : (a : List ℕ) → xor_bytes a a ≡ replicate (length a) 0
xor_bytes_self [] = refl
xor_bytes_self (x ∷ a) = let e = xor_bytes_self a in let f = xor_self x in cc

pub xor_bytes_zero : (a : List ℕ) → xor_bytes (replicate (length a) 0) a ≡ a
xor_bytes_zero [] = refl
xor_bytes_zero (x ∷ a) = let e = xor_bytes_zero a in let f = xor_zero_l x in cc
