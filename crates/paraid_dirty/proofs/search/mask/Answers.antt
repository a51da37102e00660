use Rattle.std.proofs.Common.{arith}
use Rattle.std.proofs.Math.Nat.{pow-le-pow_right}
use Rattle.std.proofs.lemmas.Nat.{one_shl}
use Rattle.paraid_dirty.proofs.search.mask.Goals as goal

pub overflow_sub-result : goal.overflow_sub-result
overflow_sub-result c =
    let low = one_shl c.args.lo 16 (omega arith) in
    let high = one_shl c.args.hi 16 (omega arith) in
    rw (low, high) (pow-le-pow_right {n = 2} (omega arith) c.requires.order)
