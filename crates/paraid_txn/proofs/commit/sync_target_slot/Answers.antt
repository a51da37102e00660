use Rattle.std.specs.Prelude.{◌≡◌, ◌+◌}
use Rattle.std.proofs.Common.{ap, sym, ◌∙◌, rules}
use Rattle.std.proofs.lemmas.Bool.{true≢false}
use Rattle.paraid_rack.specs.Told.{Ran, CrashTriple}
use Rattle.paraid_image.specs.Sides.{Batch}
use Rattle.paraid_txn.specs.CommitStages.{IsSpelled, Job, SyncIn, HoldsLate, job_gone}
use Rattle.paraid_image.specs.Batches.{names_disk}
use Rattle.paraid_txn.proofs.DownLemmas.{StaySyncedBut-none}
use Rattle.paraid_txn.proofs.StageCallsLemmas.{sync_in_none_ran, sync_in_one_ran, sync_in_whole}
use Rattle.paraid_txn.proofs.ReadyLemmas.{disk_can}
use Rattle.paraid_txn.proofs.CommitPartLemmas.{CommitPart_none, syncs_target}
use Rattle.paraid_txn.proofs.CrashSpecificationLemmas.{crash_ran}
use Rattle.paraid_txn.proofs.commit.sync_target_slot.Given.{Over}
use Rattle.paraid_txn.proofs.commit.sync_target_slot.Goals as goal
use Rattle.paraid_txn.proofs.commit.sync_target_slot.Goals.{After-sync_slot}

pub sync_slot-requires : goal.sync_slot-requires
sync_slot-requires g c = record {
  exists = c.requires.exists;
  can = λ not. disk_can c.args.batch.now c.args.disk c.requires.ready (sym c.has_disk.ensures ∙ c.if-not-has_disk.false) not;
}

synced : (g : Over) (c : After-sync_slot g) (j : Job) → IsSpelled j → job_gone j ≡ c.args.skip
    → Ran (g.R.Rack.told c.args.rack.now) (g.R.Rack.told c.sync_slot.new.rack) (CrashTriple (HoldsLate j) (SyncIn j c.args.disk) (SyncIn j (c.args.disk + 1)))
synced g c j good is = sync_in_one_ran j good (g.met.R.Rack.agrees c.args.rack.now) is c.args.disk c.sync_slot.ensures.does

pub returns-then-not-has_disk : goal.returns-then-not-has_disk
returns-then-not-has_disk g c = record {
  slots = search rules;
  part = CommitPart_none _ _ _ _ tt;
  still_synced = StaySyncedBut-none _ (g.R.Rack.slot c.args.rack.now);
  synced = λ on. absurd (true≢false (sym on ∙ sym c.has_disk.ensures ∙ c.if-not-has_disk.true));
  crash = λ j good is same.
      let off = sym c.has_disk.ensures ∙ c.if-not-has_disk.true in
      crash_ran (sync_in_whole j good (c.args.disk + 1)) (sync_in_none_ran j good c.args.disk (ap (λ (batch : Batch). names_disk batch c.args.disk) same ∙ off));
}

pub returns : goal.returns
returns g c = record {
  slots = search rules;
  part = syncs_target c.args.batch.now (sym c.has_disk.ensures ∙ c.if-not-has_disk.false) c.sync_slot.ensures.part;
  still_synced = c.sync_slot.ensures.still_synced;
  synced = λ on. c.sync_slot.ensures.synced;
  crash = λ j good is same. crash_ran (sync_in_whole j good (c.args.disk + 1)) (synced g (goal.at.returns g c).After-sync_slot j good is);
}
