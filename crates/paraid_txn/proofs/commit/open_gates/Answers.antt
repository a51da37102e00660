use Rattle.paraid_txn.proofs.SyncedPartLemmas.{SyncedPart_log, SyncedPart_raised, SyncedPart_then}
use Rattle.std.proofs.Common.{ap, arith}
use Rattle.paraid_image.specs.Standing.{other_log}
use Rattle.paraid_txn.proofs.StagesLemmas.{open_end}
use Rattle.paraid_txn.proofs.CrashSpecificationLemmas.{crash_raised, crash_then, crash_upto}
use Rattle.paraid_txn.proofs.PutSyncedLemmas.{open_crash}
use Rattle.paraid_txn.proofs.commit.open_gates.Goals as goal

pub returns-in_err-put_synced : goal.returns-in_err-put_synced
returns-in_err-put_synced g c = record {
  leaves =
      SyncedPart_raised _ c.from_residual.ensures.1
      c.in_err-put_synced.ensures.leaves;
  crash = λ j good is at. crash_raised _ c.from_residual.ensures.1 (open_crash g.met.R.Rack.agrees j is good 0 (omega arith) at c.gate-opened.ensures c.in_err-put_synced.ensures.does);
}

pub returns : goal.returns
returns g c = record {
  leaves = SyncedPart_then c.in_ok-put_synced.ensures.leaves c.put_synced-2.ensures.leaves;
  crash = λ j good is at.
      crash_upto (open_end j good)
      (crash_then (open_crash g.met.R.Rack.agrees j is good 0 (omega arith) at c.gate-opened.ensures c.in_ok-put_synced.ensures.does) (open_crash g.met.R.Rack.agrees j is good 1 (omega arith) (ap other_log at) c.gate-opened.ensures c.put_synced-2.ensures.does));
}

pub put_synced-requires-2 : goal.put_synced-requires-2
put_synced-requires-2 g c = record {
  exists = let exists = c.requires.exists in let s0 = c.put_synced.ensures.leaves.slots in omega (arith, exists, s0);
  log_disk = omega arith;
  in_log = omega arith;
  log =
      SyncedPart_log c.in_ok-put_synced.ensures.leaves c.requires.log;
}

pub put_synced-requires : goal.put_synced-requires
put_synced-requires g c = record {
  exists = let exists = c.requires.exists in let low = c.requires.log_disk in omega (arith, exists, low);
  log_disk = c.requires.log_disk;
  in_log = omega arith;
  log = c.requires.log;
}
