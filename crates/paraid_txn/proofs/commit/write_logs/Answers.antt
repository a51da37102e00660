use Rattle.std.proofs.Common.{arith}
use Rattle.paraid_txn.proofs.SyncedPartLemmas.{SyncedPart_log, SyncedPart_raised, SyncedPart_then}
use Rattle.paraid_txn.proofs.StagesLemmas.{log_end}
use Rattle.paraid_txn.proofs.CrashSpecificationLemmas.{crash_raised, crash_then, crash_upto}
use Rattle.paraid_txn.proofs.commit.write_logs.Goals as goal

pub returns-in_err-write_log : goal.returns-in_err-write_log
returns-in_err-write_log g c = record {
  leaves =
      SyncedPart_raised _ c.from_residual.ensures.1
      c.in_err-write_log.ensures.leaves;
  crash = λ j good is same list spelled. crash_raised _ c.from_residual.ensures.1 (c.in_err-write_log.ensures.crash j good is same list spelled);
}

pub returns : goal.returns
returns g c = record {
  leaves = SyncedPart_then c.in_ok-write_log.ensures.leaves c.write_log-2.ensures.leaves;
  crash = λ j good is same list spelled.
      crash_upto (log_end j good)
      (crash_then (c.in_ok-write_log.ensures.crash j good is same list spelled) (c.write_log-2.ensures.crash j good is same list spelled));
}

pub write_log-requires-2 : goal.write_log-requires-2
write_log-requires-2 g c = record {
  exists = let exists = c.requires.exists in let s0 = c.write_log.ensures.leaves.slots in omega (arith, exists, s0);
  log_disk = omega arith;
  log =
      SyncedPart_log c.in_ok-write_log.ensures.leaves c.requires.log;
  few = c.requires.few;
}

pub write_log-requires : goal.write_log-requires
write_log-requires g c = record {
  exists = let exists = c.requires.exists in omega (arith, exists);
  log_disk = omega arith;
  log = c.requires.log;
  few = c.requires.few;
}
