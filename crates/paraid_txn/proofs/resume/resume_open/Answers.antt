use Rattle.paraid_txn.proofs.SyncedPartLemmas.{SyncedPart_as, SyncedPart_raised, SyncedPart_then}
use Rattle.std.proofs.Common.{arith, sym, ◌∙◌}
use Rattle.paraid_image.proofs.NeutralLemmas.{length-targets}
use Rattle.paraid_txn.proofs.ReadyLemmas.{log_stays_ready, targets_stay_ready}
use Rattle.paraid_txn.proofs.ResumeStagesLemmas.{resuming_late}
use Rattle.paraid_txn.proofs.CommitPartLemmas.{CommitPart_logs, CommitPart_targets}
use Rattle.paraid_txn.proofs.CrashSpecificationLemmas.{crash_milder, crash_raised, crash_then}
use Rattle.paraid_txn.proofs.resume.resume_open.Goals as goal

pub catch_up-requires : goal.catch_up-requires
catch_up-requires g c =
    record {
      exists = (let exists = c.requires.exists in let low = c.args.meta.now.setup.geometry.disks_low in omega (arith, exists, low));
      log_disk = c.requires.log_disk;
      log = rw c.named-named.ensures c.requires.log;
      few = (let n = length-targets c.args.batch.now in let few = c.requires.in_range.few in omega arith);
    }

pub lay_all-requires : goal.lay_all-requires
lay_all-requires g c =
    record {
      exists = (let exists = c.requires.exists in let s0 = c.catch_up.ensures.leaves.slots in omega (arith, exists, s0));
      ready = rw c.gone.ensures (targets_stay_ready _ _ _ _ c.catch_up.ensures.leaves.part.lasts c.catch_up.ensures.leaves.slots c.requires.ready);
      past_log = λ k t lt. (c.requires.in_range.each k t lt).past_log;
      below = λ k t lt. (c.requires.in_range.each k t lt).disk;
      few = (let n = length-targets c.args.batch.now in let few = c.requires.in_range.few in omega arith);
    }

pub returns-in_err-catch_up : goal.returns-in_err-catch_up
returns-in_err-catch_up g c = record {
  leaves =
      SyncedPart_raised _ c.from_residual.ensures.1
      (SyncedPart_as (CommitPart_logs c.args.meta.now c.args.batch.now c.named-named.ensures) c.in_err-catch_up.ensures.leaves);
  crash = λ j good is gone batch list same leads.
      let name = is ∙ sym c.named-named.ensures in
      crash_raised _ c.from_residual.ensures.1 (c.in_err-catch_up.ensures.crash j good name batch list same leads);
}

pub returns-in_err-lay_all : goal.returns-in_err-lay_all
returns-in_err-lay_all g c = record {
  leaves =
      SyncedPart_raised _ c.from_residual-in_err-lay_all.ensures.1
      (SyncedPart_then (SyncedPart_as (CommitPart_logs c.args.meta.now c.args.batch.now c.named-named.ensures) c.in_ok-catch_up.ensures.leaves) (SyncedPart_as (CommitPart_targets c.args.meta.now c.args.batch.now c.gone.ensures (λ k t lt. (c.requires.in_range.each k t lt).disk)) c.in_err-lay_all.ensures.leaves));
  crash = λ j good is gone batch list same leads.
      let name = is ∙ sym c.named-named.ensures in
      let late = resuming_late j good c.args.side leads in
      crash_raised _ c.from_residual-in_err-lay_all.ensures.1
      (crash_then (c.in_ok-catch_up.ensures.crash j good name batch list same leads) (crash_milder late (c.in_err-lay_all.ensures.crash j good (gone ∙ sym c.gone.ensures) batch)));
}

pub returns : goal.returns
returns g c = record {
  leaves = SyncedPart_then (SyncedPart_then (SyncedPart_as (CommitPart_logs c.args.meta.now c.args.batch.now c.named-named.ensures) c.in_ok-catch_up.ensures.leaves) (SyncedPart_as (CommitPart_targets c.args.meta.now c.args.batch.now c.gone.ensures (λ k t lt. (c.requires.in_range.each k t lt).disk)) c.in_ok-lay_all.ensures.leaves)) (SyncedPart_as (CommitPart_logs c.args.meta.now c.args.batch.now c.named-named.ensures) c.finish.ensures.leaves);
  crash = λ j good is gone batch list same leads.
      let name = is ∙ sym c.named-named.ensures in
      let late = resuming_late j good c.args.side leads in
      crash_then (c.in_ok-catch_up.ensures.crash j good name batch list same leads)
      (crash_milder late (crash_then (c.in_ok-lay_all.ensures.crash j good (gone ∙ sym c.gone.ensures) batch) (c.finish.ensures.crash j good name same)));
}

pub finish-requires : goal.finish-requires
finish-requires g c =
    record {
      exists = (let exists = c.requires.exists in let low = c.args.meta.now.setup.geometry.disks_low in let s0 = c.catch_up.ensures.leaves.slots in let s1 = c.lay_all.ensures.leaves.slots in omega (arith, exists, low, s0, s1));
      log = log_stays_ready c.lay_all.ensures.leaves.part.lasts (log_stays_ready c.catch_up.ensures.leaves.part.lasts (rw c.named-named.ensures c.requires.log));
    }
