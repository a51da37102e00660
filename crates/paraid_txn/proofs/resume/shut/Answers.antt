use Rattle.std.proofs.Common.{subst, arith, ℕ, ◌<◌, sym}
use Rattle.paraid_txn.proofs.SyncedPartLemmas.{SyncedPart_log, SyncedPart_raised, SyncedPart_then}
use Rattle.paraid_txn.proofs.CrashSpecificationLemmas.{crash_raised, crash_then}
use Rattle.paraid_txn.proofs.PutSyncedLemmas.{shut_gate_crash, shut_meta_crash}
use Rattle.paraid_txn.proofs.resume.shut.Goals as goal

pub put_synced-requires-2 : goal.put_synced-requires-2
put_synced-requires-2 g c = record {
  exists = subst (λ (n : ℕ). c.args.disk < n) (sym c.put_synced.ensures.leaves.slots) c.requires.exists;
  log_disk = c.requires.log_disk;
  in_log = omega arith;
  log = SyncedPart_log c.in_ok-put_synced.ensures.leaves c.requires.log;
}

pub returns-in_err-put_synced : goal.returns-in_err-put_synced
returns-in_err-put_synced g c = record {
  leaves = SyncedPart_raised _ c.from_residual.ensures.1 c.in_err-put_synced.ensures.leaves;
  crash = λ j good is same live opened.
      crash_raised _ c.from_residual.ensures.1
      (shut_meta_crash g.met.R.Rack.agrees j is c.args.disk live opened same c.in_err-put_synced.ensures.does);
}

pub returns : goal.returns
returns g c = record {
  leaves = SyncedPart_then c.in_ok-put_synced.ensures.leaves c.put_synced-2.ensures.leaves;
  crash = λ j good is same live opened. crash_then (shut_meta_crash g.met.R.Rack.agrees j is c.args.disk live opened same c.in_ok-put_synced.ensures.does) (shut_gate_crash g.met.R.Rack.agrees j is c.args.disk live opened c.gate-closed.ensures c.put_synced-2.ensures.does);
}

pub put_synced-requires : goal.put_synced-requires
put_synced-requires g c = record {
  exists = c.requires.exists;
  log_disk = c.requires.log_disk;
  in_log = omega arith;
  log = c.requires.log;
}
