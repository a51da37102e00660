use Rattle.std.proofs.Common.{◌<◌, arith}
use Rattle.paraid_plain.specs.Images.{disks_in}
use Rattle.paraid_plain.specs.LogParts.{AreLogsFormed, IsLogFormed}
use Rattle.paraid_plain.specs.Views.{out_at}
use Rattle.paraid_plain.proofs.StatementLemmas.{both_logs}
use Rattle.paraid_plain.proofs.TestLemmas.{failed, reworded}
use Rattle.paraid_plain.proofs.log.are_formed.Goals as goal

one_in : 1 < 2
one_in = omega arith

zero_in : 0 < 2
zero_in = omega arith

pub returns-then-is_formed : goal.returns-then-is_formed
returns-then-is_formed c =
    let i = disks_in c.args.image.now in
    let out = out_at c.args.image.now c.args.says.now in
    reworded (AreLogsFormed i out) c.is_formed-then-is_formed.result c.is_formed-then-is_formed.ensures
    (λ second. both_logs (IsLogFormed i out) (c.is_formed.ensures.0 c.if-is_formed.true) second)
    (λ all. all 1 one_in)

pub returns-else-is_formed : goal.returns-else-is_formed
returns-else-is_formed c =
    failed (AreLogsFormed (disks_in c.args.image.now) (out_at c.args.image.now c.args.says.now)) c.is_formed.result c.is_formed.ensures c.if-is_formed.false
    (λ all. all 0 zero_in)
