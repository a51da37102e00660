use Rattle.std.specs.Prelude.{◌≢◌, Some}
use Rattle.std.proofs.Common.{inl, arith, below_more, refl, ◌∙◌, rules}
use Rattle.paraid_txn.specs.Losses.{IsSyncedAt}
use Rattle.paraid_txn.proofs.DownLemmas.{StaySyncedBut-both, IsSyncedAt-later}
use Rattle.paraid_txn.proofs.CommitPartLemmas.{CommitPart_answer, CommitPart_none, CommitPart_raised, CommitPart_then}
use Rattle.paraid_txn.proofs.SyncLemmas.{sync_stays}
use Rattle.paraid_txn.proofs.sync.sync_each.Goals as goal

pub loop-disk-init : goal.loop-disk-init
loop-disk-init g c = record {
  slots = refl;
  can = c.requires.can;
  part = CommitPart_none _ _ _ _ tt;
  still_synced = λ d here wet. inl wet;
  synced = λ d lt not. absurd (omega arith);
}

pub loop-disk-preserved : goal.loop-disk-preserved
loop-disk-preserved g c = record {
  slots = c.sync_one.ensures.slots ∙ c.loop-disk.invariant.slots;
  can = sync_stays c.sync_one.ensures.part.lasts c.loop-disk.invariant.can;
  part = CommitPart_answer tt (CommitPart_then c.loop-disk.invariant.part c.in_ok-sync_one.ensures.part);
  still_synced = StaySyncedBut-both _ _ _ _ (g.R.Rack.slot c.args.rack.now) (g.R.Rack.slot c.loop-disk.rack) (g.R.Rack.slot c.sync_one.new.rack)
      c.loop-disk.invariant.part.lasts c.sync_one.ensures.part.lasts c.loop-disk.invariant.still_synced c.sync_one.ensures.still_synced;
  synced = below_more (λ d. c.args.skip ≢ Some d → IsSyncedAt (g.R.Rack.slot c.sync_one.new.rack) d) c.loop-disk.disk
      (λ d lt not. IsSyncedAt-later _ _ _ _ d c.sync_one.ensures.part.lasts c.sync_one.ensures.still_synced (c.loop-disk.invariant.synced d lt not))
      c.sync_one.ensures.synced;
}

pub returns-in_err-sync_one : goal.returns-in_err-sync_one
returns-in_err-sync_one g c = record {
  slots = search rules;
  part = CommitPart_raised _ c.from_residual.ensures.1 (CommitPart_then c.loop-disk.invariant.part c.in_err-sync_one.ensures.part);
  still_synced =
      StaySyncedBut-both _ _ _ _ (g.R.Rack.slot c.args.rack.now) (g.R.Rack.slot c.loop-disk.rack) (g.R.Rack.slot c.sync_one.new.rack)
      c.loop-disk.invariant.part.lasts c.sync_one.ensures.part.lasts c.loop-disk.invariant.still_synced c.sync_one.ensures.still_synced;
  synced = search rules;
}

pub returns : goal.returns
returns g c = record {
  slots = search rules;
  part = CommitPart_answer tt c.loop-disk.invariant.part;
  still_synced = search rules;
  synced = λ d low not. c.loop-disk.invariant.synced d (omega arith) not;
}
