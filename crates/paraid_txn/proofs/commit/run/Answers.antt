use Rattle.paraid_txn.proofs.SyncedPartLemmas.{SyncedPart_as, SyncedPart_raised, SyncedPart_then}
use Rattle.std.proofs.Common.{arith, refl, sym, ◌∙◌}
use Rattle.paraid_image.proofs.NeutralLemmas.{length-targets}
use Rattle.paraid_rack.specs.Disks.{Disks}
use Rattle.paraid_rack.specs.Told.{Ran, CrashTriple}
use Rattle.paraid_txn.specs.CommitStages.{IsSpelled, LayIn, LogStage, MarkStage, HoldsWhole, job}
use Rattle.paraid_txn.proofs.DownLemmas.{AreCommitCalls-then}
use Rattle.paraid_txn.proofs.StageCallsLemmas.{andthen, milder}
use Rattle.paraid_txn.proofs.WholeLemmas.{earlier_whole, later_whole}
use Rattle.paraid_txn.proofs.CommitPartLemmas.{CommitPart_logs, CommitPart_targets}
use Rattle.paraid_txn.proofs.CrashSpecificationLemmas.{crash_after, crash_milder, crash_raised, crash_then}
use Rattle.paraid_txn.proofs.commit.run.Given.{Over}
use Rattle.paraid_txn.proofs.commit.run.Goals.{In_ok-open_gates, In_ok-lay_all}
use Rattle.paraid_txn.proofs.ReadyLemmas.{log_stays_ready, targets_stay_ready}
use Rattle.paraid_txn.proofs.commit.run.Goals as goal

pub write_logs-requires : goal.write_logs-requires
write_logs-requires g c =
    record {
      exists = (let exists = c.requires.exists in let low = c.args.meta.now.setup.geometry.disks_low in omega (arith, exists, low));
      log = rw c.named-named.ensures c.requires.log;
      few = (let n = length-targets c.args.batch.now in let few = c.requires.in_range.few in omega arith);
    }

pub lay_all-requires : goal.lay_all-requires
lay_all-requires g c =
    record {
      exists = (let exists = c.requires.exists in let s0 = c.write_logs.ensures.leaves.slots in let s1 = c.open_gates.ensures.leaves.slots in omega (arith, exists, s0, s1));
      ready = (rw c.gone.ensures (targets_stay_ready _ _ _ _ (AreCommitCalls-then _ _ _ _ _ _ c.write_logs.ensures.leaves.part.lasts c.open_gates.ensures.leaves.part.lasts)
          (c.open_gates.ensures.leaves.slots ∙ c.write_logs.ensures.leaves.slots) c.requires.ready));
      past_log = λ k t lt. (c.requires.in_range.each k t lt).past_log;
      below = λ k t lt. (c.requires.in_range.each k t lt).disk;
      few = (let n = length-targets c.args.batch.now in let few = c.requires.in_range.few in omega arith);
    }

pub finish-requires : goal.finish-requires
finish-requires g c =
    record {
      exists = (let exists = c.requires.exists in let low = c.args.meta.now.setup.geometry.disks_low in let s0 = c.write_logs.ensures.leaves.slots in let s1 = c.open_gates.ensures.leaves.slots in let s2 = c.lay_all.ensures.leaves.slots in omega (arith, exists, low, s0, s1, s2));
      log = log_stays_ready c.lay_all.ensures.leaves.part.lasts (log_stays_ready c.open_gates.ensures.leaves.part.lasts (log_stays_ready c.write_logs.ensures.leaves.part.lasts (rw c.named-named.ensures c.requires.log)));
    }

pub open_gates-requires : goal.open_gates-requires
open_gates-requires g c =
    record {
      exists = (let exists = c.requires.exists in let low = c.args.meta.now.setup.geometry.disks_low in let s0 = c.write_logs.ensures.leaves.slots in omega (arith, exists, low, s0));
      log_disk = c.requires.log_disk;
      log = log_stays_ready c.write_logs.ensures.leaves.part.lasts (rw c.named-named.ensures c.requires.log);
    }

-- with all gates open
logged : (g : Over) (c : In_ok-open_gates g) (start : Disks) → IsSpelled (job start c.args.meta.now c.args.batch.now c.args.spelled.now c.args.list.now c.args.first)
    → let j = job start c.args.meta.now c.args.batch.now c.args.spelled.now c.args.list.now c.args.first in
    Ran (g.R.Rack.told c.args.rack.now) (g.R.Rack.told c.open_gates.new.rack) (CrashTriple (HoldsWhole j) (LogStage j 0) (LayIn j 0))
logged g c start good =
    let name = sym c.named-named.ensures in
    milder (earlier_whole _) (andthen (c.in_ok-write_logs.ensures.crash _ good name refl refl refl).done (c.in_ok-open_gates.ensures.crash _ good name refl).done)

-- and the targets laid
laid : (g : Over) (c : In_ok-lay_all g) (start : Disks) → IsSpelled (job start c.args.meta.now c.args.batch.now c.args.spelled.now c.args.list.now c.args.first)
    → let j = job start c.args.meta.now c.args.batch.now c.args.spelled.now c.args.list.now c.args.first in
    Ran (g.R.Rack.told c.args.rack.now) (g.R.Rack.told c.lay_all.new.rack) (CrashTriple (HoldsWhole j) (LogStage j 0) (MarkStage j 0))
laid g c start good =
    let name = sym c.named-named.ensures in
    andthen (milder (earlier_whole _) (andthen (c.in_ok-write_logs.ensures.crash _ good name refl refl refl).done (c.in_ok-open_gates.ensures.crash _ good name refl).done))
    (milder (later_whole _) (c.in_ok-lay_all.ensures.crash _ good (sym c.gone.ensures) refl).done)

pub returns-in_err-write_logs : goal.returns-in_err-write_logs
returns-in_err-write_logs g c = record {
  leaves =
      SyncedPart_raised _ c.from_residual.ensures.1
      (SyncedPart_as (CommitPart_logs c.args.meta.now c.args.batch.now c.named-named.ensures) c.in_err-write_logs.ensures.leaves);
  crash = λ start good.
      let name = sym c.named-named.ensures in
      crash_raised _ c.from_residual.ensures.1 (crash_milder (earlier_whole _) (c.in_err-write_logs.ensures.crash _ good name refl refl refl));
}

pub returns-in_err-open_gates : goal.returns-in_err-open_gates
returns-in_err-open_gates g c = record {
  leaves =
      SyncedPart_raised _ c.from_residual-in_err-open_gates.ensures.1
      (SyncedPart_then (SyncedPart_as (CommitPart_logs c.args.meta.now c.args.batch.now c.named-named.ensures) c.in_ok-write_logs.ensures.leaves) (SyncedPart_as (CommitPart_logs c.args.meta.now c.args.batch.now c.named-named.ensures) c.in_err-open_gates.ensures.leaves));
  crash = λ start good.
      let name = sym c.named-named.ensures in
      crash_raised _ c.from_residual-in_err-open_gates.ensures.1
      (crash_milder (earlier_whole _) (crash_then (c.in_ok-write_logs.ensures.crash _ good name refl refl refl) (c.in_err-open_gates.ensures.crash _ good name refl)));
}

pub returns-in_err-lay_all : goal.returns-in_err-lay_all
returns-in_err-lay_all g c = record {
  leaves =
      SyncedPart_raised _ c.from_residual-in_err-lay_all.ensures.1
      (SyncedPart_then (SyncedPart_then (SyncedPart_as (CommitPart_logs c.args.meta.now c.args.batch.now c.named-named.ensures) c.in_ok-write_logs.ensures.leaves) (SyncedPart_as (CommitPart_logs c.args.meta.now c.args.batch.now c.named-named.ensures) c.in_ok-open_gates.ensures.leaves)) (SyncedPart_as (CommitPart_targets c.args.meta.now c.args.batch.now c.gone.ensures (λ k t lt. (c.requires.in_range.each k t lt).disk)) c.in_err-lay_all.ensures.leaves));
  crash = λ start good.
      let at = goal.at.returns-in_err-lay_all g c in
      crash_raised _ c.from_residual-in_err-lay_all.ensures.1
      (crash_after (logged g at.In_ok-open_gates start good) (crash_milder (later_whole _) (c.in_err-lay_all.ensures.crash _ good (sym c.gone.ensures) refl)));
}

pub returns : goal.returns
returns g c = record {
  leaves = SyncedPart_then (SyncedPart_then (SyncedPart_then (SyncedPart_as (CommitPart_logs c.args.meta.now c.args.batch.now c.named-named.ensures) c.in_ok-write_logs.ensures.leaves) (SyncedPart_as (CommitPart_logs c.args.meta.now c.args.batch.now c.named-named.ensures) c.in_ok-open_gates.ensures.leaves)) (SyncedPart_as (CommitPart_targets c.args.meta.now c.args.batch.now c.gone.ensures (λ k t lt. (c.requires.in_range.each k t lt).disk)) c.in_ok-lay_all.ensures.leaves)) (SyncedPart_as (CommitPart_logs c.args.meta.now c.args.batch.now c.named-named.ensures) c.finish.ensures.leaves);
  crash = λ start good.
      let at = goal.at.returns g c in
      crash_after (laid g at.In_ok-lay_all start good) (crash_milder (later_whole _) (c.finish.ensures.crash _ good (sym c.named-named.ensures) refl));
}
