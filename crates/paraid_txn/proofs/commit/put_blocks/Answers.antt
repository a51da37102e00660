use Rattle.std.specs.Prelude.{◌≡◌, ℕ, ◌+◌, ◌<◌, get_or, length}
use Rattle.paraid_base.specs.Log.{body_place}
use Rattle.paraid_base.specs.Xor.{zero_block}
use Rattle.std.proofs.Common.{inl, ap, subst, sym, ◌∙◌, refl, arith, rules}
use Rattle.paraid_rack.specs.Told.{Ran, CrashTriple}
use Rattle.paraid_image.specs.Sides.{Batch}
use Rattle.paraid_txn.specs.CommitStages.{IsSpelled, Job, LogIn, HoldsEarly, target_block, job_named}
use Rattle.paraid_image.specs.Batches.{batch_blocks}
use Rattle.paraid_txn.proofs.StageCallsLemmas.{andthen, ends, log_block_ran, log_in_whole, nothing_ran}
use Rattle.paraid_txn.proofs.ReadyLemmas.{log_can, log_stays_ready}
use Rattle.paraid_txn.proofs.DownLemmas.{StaySyncedBut-both}
use Rattle.paraid_txn.proofs.CommitPartLemmas.{CommitPart_answer, CommitPart_none, CommitPart_raised, CommitPart_then, logs_write}
use Rattle.paraid_txn.proofs.CrashSpecificationLemmas.{crash_failed, crash_ran}
use Rattle.paraid_txn.proofs.commit.put_blocks.Given.{Over}
use Rattle.paraid_txn.proofs.commit.put_blocks.Goals as goal
use Rattle.paraid_txn.proofs.commit.put_blocks.Goals.{After-put}

-- one more block
next : (g : Over) (c : After-put g) (j : Job) → IsSpelled j → job_named j ≡ c.args.skip → j.batch ≡ c.args.batch.now
    → Ran (g.R.Rack.told c.args.rack.now) (g.R.Rack.told c.put.new.rack)
    (CrashTriple (HoldsEarly j) (LogIn j c.args.disk 0) (LogIn j c.args.disk (c.loop-at.at + 1)))
next g c j good is same =
    let n = c.loop-at.at in
    let long : length j.batch ≡ length c.args.batch.now = ap length same in
    let lt : n < length j.batch = omega arith in
    let held : get_or (batch_blocks c.args.batch.now) n zero_block ≡ c.block.result.now = sym c.block.ensures in
    let block : target_block j n ≡ c.block.result.now = ap (λ (batch : Batch). get_or (batch_blocks batch) n zero_block) same ∙ held in
    andthen (c.loop-at.invariant.ran j good is same)
    (log_block_ran j good (g.met.R.Rack.agrees c.loop-at.rack) is c.args.disk n lt (omega arith) block c.put.ensures.does)

pub loop-at-init : goal.loop-at-init
loop-at-init g c = record {
  slots = refl;
  log = c.requires.log;
  part = CommitPart_none _ _ _ _ tt;
  still_synced = λ d here wet. inl wet;
  ran = λ j good is same. nothing_ran (log_in_whole j good c.args.disk 0);
}

pub loop-at-preserved : goal.loop-at-preserved
loop-at-preserved g c = record {
  slots = c.put.ensures.slots ∙ c.loop-at.invariant.slots;
  log = log_stays_ready c.put.ensures.part.lasts c.loop-at.invariant.log;
  part = CommitPart_answer tt (CommitPart_then c.loop-at.invariant.part (logs_write (body_place c.from.result) c.requires.log_disk (omega arith) c.in_ok-put.ensures.part));
  still_synced = StaySyncedBut-both _ _ _ _ (g.R.Rack.slot c.args.rack.now) (g.R.Rack.slot c.loop-at.rack) (g.R.Rack.slot c.put.new.rack) c.loop-at.invariant.part.lasts c.put.ensures.part.lasts c.loop-at.invariant.still_synced c.put.ensures.still_synced;
  ran = next g (goal.at.loop-at-preserved g c).After-put;
}

pub put-requires : goal.put-requires
put-requires g c = record {
  exists = subst (λ (n : ℕ). c.args.disk < n) (sym c.loop-at.invariant.slots) c.requires.exists;
  can = λ not. log_can (body_place c.from.result) c.loop-at.invariant.log c.requires.log_disk (omega arith) not;
}

pub returns-in_err-put : goal.returns-in_err-put
returns-in_err-put g c = record {
  slots = search rules;
  part =
      CommitPart_raised _ c.from_residual.ensures.1
      (CommitPart_then c.loop-at.invariant.part (logs_write (body_place c.from.result) c.requires.log_disk (omega arith) c.in_err-put.ensures.part));
  still_synced = search rules;
  crash = λ j good is same.
      crash_failed _ _ c.from_residual.ensures.1
      (ends (log_in_whole j good c.args.disk (c.loop-at.at + 1)) (next g (goal.at.returns-in_err-put g c).After-put j good is same));
}

pub returns : goal.returns
returns g c = record {
  slots = search rules;
  part = CommitPart_answer tt c.loop-at.invariant.part;
  still_synced = search rules;
  crash = λ j good is same.
      let all : c.loop-at.at ≡ length c.args.batch.now = omega arith in
      crash_ran (log_in_whole j good c.args.disk (length c.args.batch.now))
      (subst (λ (n : ℕ). Ran (g.R.Rack.told c.args.rack.now) (g.R.Rack.told c.loop-at.rack) (CrashTriple (HoldsEarly j) (LogIn j c.args.disk 0) (LogIn j c.args.disk n)))
      all (c.loop-at.invariant.ran j good is same));
}
