use Rattle.std.specs.Prelude.{ℕ, ◌/◌, ◌%◌, ◌==◌, slice_index}
use Rattle.std.proofs.Common.{ap}
use Rattle.std.proofs.lemmas.Nat.Bits.{shr_and_one}
use Rattle.paraid_dirty.specs.Bits.{bit_in}
use Rattle.paraid_dirty.proofs.bits.has_bit.Goals as goal

pub returns : goal.returns
unfolding bit_in
returns c =
    ap (λ (b : ℕ). b == 1) (shr_and_one (slice_index c.args.words.now (c.args.at / 64)) (c.args.at % 64))
