use Rattle.std.proofs.Common.{◌≡◌, arith}
use Rattle.paraid_plain.specs.Statements.{batch_in}
use Rattle.paraid_plain.proofs.BatchLemmas.{batch_in-count, batch_in-from, batch_in-parts}
use Rattle.paraid_plain.proofs.TestLemmas.{accepted, refused}
use Rattle.paraid_plain.proofs.pairing.is_same_batch.Goals as goal

pub returns-then-a-b : goal.returns-then-a-b
returns-then-a-b c = (λ t. cc, λ same. absurd (c.if-a-b.true (batch_in-count c.args.image.now c.args.a.now c.args.b.now same)))

pub returns-then-not-is_same_target : goal.returns-then-not-is_same_target
returns-then-not-is_same_target c =
    let image = c.args.image.now in
    refused (batch_in image c.args.a.now ≡ batch_in image c.args.b.now) c.is_same_target.result c.is_same_target.ensures c.if-not-is_same_target.true
    (λ same. batch_in-parts image c.args.a.now c.args.b.now same c.loop-at.at c.loop-at-test.true)

pub returns : goal.returns
returns c =
    let image = c.args.image.now in
    accepted (batch_in image c.args.a.now ≡ batch_in image c.args.b.now)
    (batch_in-from image c.args.a.now c.args.b.now c.if-a-b.false (λ k l. c.loop-at.invariant k (omega arith)))
