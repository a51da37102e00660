-- The steps of a sum of blocks.
use Rattle.std.specs.Prelude.{◌≡◌, ℕ, ◌+◌, ◌≤◌}
use Rattle.std.proofs.Common.{arith, sym, ◌∙◌, ap}
use Rattle.paraid_base.specs.declared.block.Block.{Block}
use Rattle.paraid_base.specs.Sums.{xor_upto}
use Rattle.paraid_base.specs.Xor.{xor, zero_block}
use Rattle.paraid_base.proofs.XorLemmas.{xor_upto_more, xor_upto_none}

pub sum_none : (f : ℕ → Block) (sum : Block) → sum ≡ zero_block → sum ≡ xor_upto f 0
sum_none f sum is = is ∙ sym (xor_upto_none f)

pub sum_more : (f : ℕ → Block) (d : ℕ) (sum part after : Block) → sum ≡ xor_upto f d → part ≡ f d → after ≡ xor sum part → after ≡ xor_upto f (d + 1)
sum_more f d sum part after before is becomes = becomes ∙ ap (λ (b : Block). xor b part) before ∙ ap (xor (xor_upto f d)) is ∙ sym (xor_upto_more f d)

-- the loop ended at the end
pub sum_all : (f : ℕ → Block) (n m : ℕ) (sum : Block) → sum ≡ xor_upto f m → m ≤ n → n ≤ m → sum ≡ xor_upto f n
sum_all f n m sum is low high = let same : m ≡ n = omega arith in is ∙ ap (xor_upto f) same
