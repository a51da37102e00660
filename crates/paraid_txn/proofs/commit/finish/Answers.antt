use Rattle.std.proofs.Common.{arith}
use Rattle.paraid_txn.proofs.SyncedPartLemmas.{SyncedPart_log, SyncedPart_raised, SyncedPart_then}
use Rattle.paraid_txn.proofs.StagesLemmas.{mark_end}
use Rattle.paraid_txn.proofs.CrashSpecificationLemmas.{crash_from, crash_raised, crash_then}
use Rattle.paraid_txn.proofs.PutSyncedLemmas.{close_crash, mark_crash}
use Rattle.paraid_txn.proofs.commit.finish.Goals as goal

pub returns-in_err-put_synced : goal.returns-in_err-put_synced
returns-in_err-put_synced g c = record {
  leaves =
      SyncedPart_raised _ c.from_residual.ensures.1
      c.in_err-put_synced.ensures.leaves;
  crash = λ j good is spelled.
      crash_raised _ c.from_residual.ensures.1
      (mark_crash g.met.R.Rack.agrees j is good 0 spelled c.in_err-put_synced.ensures.does);
}

pub returns-in_err-put_synced-2 : goal.returns-in_err-put_synced-2
returns-in_err-put_synced-2 g c = record {
  leaves =
      SyncedPart_raised _ c.from_residual-in_err-put_synced-2.ensures.1
      (SyncedPart_then c.in_ok-put_synced.ensures.leaves c.in_err-put_synced-2.ensures.leaves);
  crash = λ j good is spelled.
      crash_raised _ c.from_residual-in_err-put_synced-2.ensures.1
      (crash_then (mark_crash g.met.R.Rack.agrees j is good 0 spelled c.in_ok-put_synced.ensures.does) (mark_crash g.met.R.Rack.agrees j is good 1 spelled c.in_err-put_synced-2.ensures.does));
}

pub returns-in_err-put_synced-3 : goal.returns-in_err-put_synced-3
returns-in_err-put_synced-3 g c = record {
  leaves =
      SyncedPart_raised _ c.from_residual-in_err-put_synced-3.ensures.1
      (SyncedPart_then (SyncedPart_then c.in_ok-put_synced.ensures.leaves c.in_ok-put_synced-2.ensures.leaves) c.in_err-put_synced-3.ensures.leaves);
  crash = λ j good is spelled.
      crash_raised _ c.from_residual-in_err-put_synced-3.ensures.1
      (crash_then (mark_crash g.met.R.Rack.agrees j is good 0 spelled c.in_ok-put_synced.ensures.does) (crash_then (mark_crash g.met.R.Rack.agrees j is good 1 spelled c.in_ok-put_synced-2.ensures.does)
      (crash_from (mark_end j good) (close_crash g.met.R.Rack.agrees j is good 0 c.gate-closed.ensures c.in_err-put_synced-3.ensures.does))));
}

pub returns : goal.returns
returns g c = record {
  leaves = SyncedPart_then (SyncedPart_then (SyncedPart_then c.in_ok-put_synced.ensures.leaves c.in_ok-put_synced-2.ensures.leaves) c.in_ok-put_synced-3.ensures.leaves) c.put_synced-4.ensures.leaves;
  crash = λ j good is spelled.
      crash_then (mark_crash g.met.R.Rack.agrees j is good 0 spelled c.in_ok-put_synced.ensures.does) (crash_then (mark_crash g.met.R.Rack.agrees j is good 1 spelled c.in_ok-put_synced-2.ensures.does)
      (crash_from (mark_end j good) (crash_then (close_crash g.met.R.Rack.agrees j is good 0 c.gate-closed.ensures c.in_ok-put_synced-3.ensures.does) (close_crash g.met.R.Rack.agrees j is good 1 c.gate-closed.ensures c.put_synced-4.ensures.does))));
}

pub put_synced-requires-2 : goal.put_synced-requires-2
put_synced-requires-2 g c =
    record {
      exists = (let exists = c.requires.exists in let s0 = c.put_synced.ensures.leaves.slots in omega (arith, exists, s0));
      log_disk = omega arith;
      in_log = omega arith;
      log = SyncedPart_log c.in_ok-put_synced.ensures.leaves c.requires.log;
    }

pub put_synced-requires-3 : goal.put_synced-requires-3
put_synced-requires-3 g c =
    record {
      exists = (let exists = c.requires.exists in let s0 = c.put_synced.ensures.leaves.slots in let s1 = c.put_synced-2.ensures.leaves.slots in omega (arith, exists, s0, s1));
      log_disk = omega arith;
      in_log = omega arith;
      log = SyncedPart_log (SyncedPart_then c.in_ok-put_synced.ensures.leaves c.in_ok-put_synced-2.ensures.leaves) c.requires.log;
    }

pub put_synced-requires-4 : goal.put_synced-requires-4
put_synced-requires-4 g c =
    record {
      exists = (let exists = c.requires.exists in let s0 = c.put_synced.ensures.leaves.slots in let s1 = c.put_synced-2.ensures.leaves.slots in let s2 = c.put_synced-3.ensures.leaves.slots in omega (arith, exists, s0, s1, s2));
      log_disk = omega arith;
      in_log = omega arith;
      log = SyncedPart_log (SyncedPart_then (SyncedPart_then c.in_ok-put_synced.ensures.leaves c.in_ok-put_synced-2.ensures.leaves) c.in_ok-put_synced-3.ensures.leaves) c.requires.log;
    }

pub put_synced-requires : goal.put_synced-requires
put_synced-requires g c =
    record {
      exists = (let exists = c.requires.exists in omega (arith, exists));
      log_disk = omega arith;
      in_log = omega arith;
      log = c.requires.log;
    }
