use Rattle.std.proofs.Common.{◌∙◌}
use Rattle.paraid_txn.proofs.SyncedPartLemmas.{SyncedPart_failed}
use Rattle.paraid_txn.proofs.CommitPartLemmas.{CommitPart_then}
use Rattle.paraid_txn.proofs.CrashSpecificationLemmas.{on_ok}
use Rattle.paraid_txn.proofs.DownLemmas.{StaySynced-synced}
use Rattle.paraid_txn.proofs.WitnessCallLemmas.{syncs_witness, witness_refused, witness_written, writes_witness}
use Rattle.paraid_txn.proofs.witness.write_witness.Goals as goal

pub returns-in_err-put : goal.returns-in_err-put
returns-in_err-put g c = record {
  leaves = λ m is. SyncedPart_failed _ c.from_residual.ensures.1 c.put.ensures.slots (writes_witness m is c.args.place c.requires.low c.in_err-put.ensures.part);
  told = witness_refused c.requires.unskipped c.requires.spinning c.in_err-put.ensures.does c.in_err-put.ensures.part.order;
}

pub returns : goal.returns
returns g c = record {
  leaves = λ m is. record {
    slots = c.sync_slot.ensures.slots ∙ c.put.ensures.slots;
    part = CommitPart_then (writes_witness m is c.args.place c.requires.low c.in_ok-put.ensures.part) (syncs_witness m is c.sync_slot.ensures.part);
    still_synced = on_ok c.sync_slot.result (StaySynced-synced c.args.skip 2 _ _ _ (g.R.Rack.slot c.args.rack.now) (g.R.Rack.slot c.put.new.rack) (g.R.Rack.slot c.sync_slot.new.rack)
        c.put.ensures.part.lasts c.sync_slot.ensures.part.lasts c.put.ensures.still_synced c.sync_slot.ensures.still_synced c.sync_slot.ensures.synced);
  };
  told = witness_written c.requires.unskipped c.requires.spinning (g.met.R.Rack.agrees c.args.rack.now) (g.met.R.Rack.agrees c.put.new.rack) c.put.ensures.does c.sync_slot.ensures.does c.sync_slot.ensures.part.calls;
}
