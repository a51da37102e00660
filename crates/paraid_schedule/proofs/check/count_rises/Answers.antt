use Rattle.std.proofs.Common.{◌≡◌, length, arith, sym}
use Rattle.paraid_schedule.proofs.CertificateLemmas.{rises_before-none, rises_before-at}
use Rattle.paraid_schedule.proofs.check.count_rises.Goals.{then-gears-t, else-gears-t}
use Rattle.paraid_schedule.proofs.check.count_rises.Goals as goal

pub loop-t-init : goal.loop-t-init
loop-t-init c = record { counted = sym (rises_before-none c.args.gears.now); few = omega arith }

pub loop-t-preserved : goal.loop-t-preserved
loop-t-preserved c =
    let more = rises_before-at c.args.gears.now c.loop-t.t (omega arith) in
    elim c.if-gears-t.branch [
      | then-gears-t w ↦ record { counted = omega arith; few = omega arith }
      | else-gears-t w ↦ record { counted = omega arith; few = omega arith }
    ]

pub returns : goal.returns
returns c =
    let end : c.loop-t.t ≡ length c.args.gears.now = omega arith in
    rw (← end) c.loop-t.invariant.counted
