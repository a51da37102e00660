-- The XOR of whole blocks, and of a row of them
use Rattle.std.specs.Prelude.{◌≡◌, ℕ, replicate, refl, ◌<◌, ◌+◌, slice_index, length}
use Rattle.paraid_base.specs.declared.block.Block.{Block}
use Rattle.std.proofs.Common.{ap, ◌∙◌, sym, add-one}
use Rattle.std.proofs.Props.{props}
use mathlib.Core.HLevel.{is_prop→PathP}
use Rattle.paraid_base.proofs.BytesLemmas.{xor_bytes_assoc, xor_bytes_comm, xor_bytes_self, xor_bytes_zero}
use Rattle.paraid_base.specs.Bytes.{xor_bytes}
use Rattle.paraid_base.specs.Sums.{xor_upto}
use Rattle.paraid_base.specs.Xor.{xor, zero_block}

pub same_block : (a b : Block) → a.bytes ≡ b.bytes → a ≡ b
same_block a b e = λ i. record {
  bytes = e i;
  whole = is_prop→PathP (λ j. length (e j) ≡ 512) (λ j. hlevel props) a.whole b.whole i;
  small = is_prop→PathP (λ j. (k : ℕ) → slice_index (e j) k < 256) (λ j. hlevel props) a.small b.small i;
}

pub xor_comm : (a b : Block) → xor a b ≡ xor b a
unfolding xor
xor_comm a b = same_block _ _ (xor_bytes_comm a.bytes b.bytes)

pub xor_assoc : (a b c : Block) → xor (xor a b) c ≡ xor a (xor b c)
unfolding xor
xor_assoc a b c = same_block _ _ (xor_bytes_assoc a.bytes b.bytes c.bytes)

pub xor_self : (a : Block) → xor a a ≡ zero_block
unfolding xor zero_block
xor_self a = same_block _ _ (xor_bytes_self a.bytes ∙ ap (λ n. replicate n 0) a.whole)

pub xor_zero : (a : Block) → xor zero_block a ≡ a
unfolding xor zero_block
xor_zero a = same_block _ _ (ap (λ n. xor_bytes (replicate n 0) a.bytes) (sym a.whole) ∙ xor_bytes_zero a.bytes)

pub xor_zero_right : (a : Block) → xor a zero_block ≡ a
xor_zero_right a = xor_comm a zero_block ∙ xor_zero a

pub xor_cancel : (a b : Block) → xor a (xor a b) ≡ b
xor_cancel a b = sym (xor_assoc a a b) ∙ ap (λ z. xor z b) (xor_self a) ∙ xor_zero b

-- the steps of a change
pub xor_middle : (a b c : Block) → xor (xor a b) (xor b c) ≡ xor a c
xor_middle a b c = xor_assoc a b (xor b c) ∙ ap (xor a) (xor_cancel b c)

pub xor_turn : (a b c : Block) → xor (xor a b) c ≡ xor (xor a c) b
xor_turn a b c = xor_assoc a b c ∙ ap (xor a) (xor_comm b c) ∙ sym (xor_assoc a c b)

pub equal_from_zero : (a b : Block) → xor a b ≡ zero_block → a ≡ b
equal_from_zero a b e = sym (xor_zero_right a) ∙ ap (xor a) (sym e) ∙ xor_cancel a b

pub xor_upto_none : (f : ℕ → Block) → xor_upto f 0 ≡ zero_block
unfolding xor_upto
xor_upto_none f = refl

pub xor_upto_more : (f : ℕ → Block) (n : ℕ) → xor_upto f (n + 1) ≡ xor (xor_upto f n) (f n)
unfolding xor_upto
xor_upto_more f n = rw add-one refl
