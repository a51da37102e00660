use Rattle.std.specs.Prelude.{◌≡◌, ◌≤◌, length}
use Rattle.std.proofs.Common.{arith}
use Rattle.paraid_recover.proofs.AlikeLemmas.{same_batch}
use Rattle.paraid_recover.proofs.alike.is_same_batch.Goals as goal

pub returns-clause-yes : goal.returns-clause-yes
returns-clause-yes c t =
    let first = c.count.ensures.value in
    let second = c.count-2.ensures.value in
    let same = c.if-count.false in
    let size : length c.args.a.now ≡ length c.args.b.now = omega arith in
    let end = c.count-at-end.ensures.value in
    let last = c.loop-at-test.false in
    let all : length c.args.a.now ≤ c.loop-at.at = omega arith in
    same_batch c.args.a.now c.args.b.now size (λ k low. c.loop-at.invariant.same_targets k (omega arith))
    (λ k low. c.loop-at.invariant.same_blocks k (omega arith))
