use Rattle.std.proofs.Common.{All, ℕ, arith, below_more, get_or, subst}
use Rattle.std.proofs.lemmas.List.{get_or_default}
use Rattle.paraid_record.specs.declared.targets.Target.{Target}
use Rattle.paraid_plain.specs.Images.{disks_in}
use Rattle.paraid_plain.specs.LogParts.{IsTargetSpinning}
use Rattle.paraid_plain.specs.Views.{out_at}
use Rattle.paraid_plain.proofs.TestLemmas.{accepted, refused}
use Rattle.paraid_plain.proofs.log.are_spinning_on.Goals as goal

pub returns : goal.returns
returns c =
    accepted (All (IsTargetSpinning (disks_in c.args.image.now).power (out_at c.args.image.now c.args.says.now)) c.args.targets.now)
    (λ k t below. c.loop-target.invariant k t (omega (arith, below, c.loop-target-test.false)))

pub returns-then-not-is_spinning : goal.returns-then-not-is_spinning
returns-then-not-is_spinning c =
    refused (All (IsTargetSpinning (disks_in c.args.image.now).power (out_at c.args.image.now c.args.says.now)) c.args.targets.now)
    c.is_spinning.result c.is_spinning.ensures c.if-not-is_spinning.true (λ all. all c.loop-target.target-index _ c.loop-target-test.true)

pub loop-target-preserved : goal.loop-target-preserved
loop-target-preserved c =
    let spins = IsTargetSpinning (disks_in c.args.image.now).power (out_at c.args.image.now c.args.says.now) in
    let targets = c.args.targets.now in
    λ k t low. below_more (λ (j : ℕ). (s : Target) → spins (get_or targets j s)) c.loop-target.target-index (λ j below s. c.loop-target.invariant j s below)
    (λ s. subst spins (get_or_default targets c.loop-target.target-index _ s c.loop-target-test.true) (c.is_spinning.ensures.0 c.if-not-is_spinning.false)) k low t
