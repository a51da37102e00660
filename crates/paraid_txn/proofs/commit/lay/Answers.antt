use Rattle.std.specs.Prelude.{◌≡◌, ◌≢◌, ℕ, ◌+◌, ◌<◌, ◌≤◌, true, get_or, length, Some, Contains}
use Rattle.std.proofs.Common.{inl, ap, arith, refl, subst, sym, ◌∙◌, rules}
use Rattle.paraid_base.specs.Log.{log_least}
use Rattle.paraid_base.specs.Xor.{zero_block}
use Rattle.paraid_rack.specs.Told.{Ran, CrashTriple}
use Rattle.paraid_record.specs.Targets.{no_target}
use Rattle.paraid_txn.specs.Losses.{StaySyncedBut, CanWrite}
use Rattle.paraid_image.specs.Neutral.{names_place}
use Rattle.paraid_image.specs.Sides.{Batch}
use Rattle.paraid_txn.specs.CommitStages.{IsSpelled, Job, LayIn, HoldsLate, target_block, job_gone}
use Rattle.paraid_image.specs.Batches.{batch_blocks, names_disk}
use Rattle.paraid_txn.proofs.StageCallsLemmas.{andthen, ends, lay_ran, lay_whole, nothing_ran}
use Rattle.paraid_txn.proofs.ReadyLemmas.{targets_stay_ready}
use Rattle.paraid_txn.proofs.DownLemmas.{StaySyncedBut-both, StaySyncedBut-weaker}
use Rattle.paraid_txn.proofs.CommitPartLemmas.{CommitPart_answer, CommitPart_none, CommitPart_raised, CommitPart_then, writes_target}
use Rattle.paraid_image.proofs.NeutralLemmas.{length-targets}
use Rattle.paraid_image.proofs.BatchesLemmas.{names_place-at, names_disk-at, target_block-at}
use Rattle.paraid_txn.proofs.TargetsLemmas.{target_at}
use Rattle.paraid_txn.proofs.CrashSpecificationLemmas.{crash_failed, crash_ran}
use Rattle.paraid_txn.proofs.commit.lay.Given.{Over}
use Rattle.paraid_txn.proofs.commit.lay.Goals as goal
use Rattle.paraid_txn.proofs.commit.lay.Goals.{After-block, After-put}

-- the next target is on a slot that exists and can be written
ready : (g : Over) (c : After-block g) → let t = c.target-target.result in (t.disk < g.R.Rack.slot_count c.loop-at.rack)
    × (c.args.skip ≢ Some t.disk → CanWrite (g.R.Rack.slot c.loop-at.rack) t.disk t.place)
ready g c =
    let long = length-targets c.args.batch.now in
    rw c.target-target.ensures (c.loop-at.invariant.ready c.loop-at.at no_target (omega arith))

-- and past the log
past_log : (g : Over) (c : After-put g) → log_least ≤ c.target-target.result.place
past_log g c =
    let long = length-targets c.args.batch.now in
    rw c.target-target.ensures (c.requires.past_log c.loop-at.at no_target (omega arith))

-- it is a target of the batch, and the block is its own
named : (g : Over) (c : After-put g) → let t = c.target-target.result in
    (names_place c.args.batch.now t.disk t.place ≡ true) × Contains c.args.batch.now (t, c.block.result.now)
named g c = (
  names_place-at c.args.batch.now c.loop-at.at c.target-target.result (omega arith) (sym c.target-target.ensures),
  rw (c.target-target.ensures, c.block.ensures) (target_block-at c.args.batch.now c.loop-at.at (omega arith)),
)

-- a disk that is wet after it is one that has targets
wet : (g : Over) (c : After-put g) → StaySyncedBut (λ d. (names_disk c.args.batch.now d ≡ true) × (c.args.skip ≢ Some d))
    (g.R.Rack.slot c.args.rack.now) (g.R.Rack.slot c.put.new.rack)
wet g c =
    let may : ℕ → Type 0 = λ d. (names_disk c.args.batch.now d ≡ true) × (c.args.skip ≢ Some d) in
    let on = names_disk-at c.args.batch.now c.loop-at.at (omega arith) in
    let this : (d : ℕ) → (d ≡ c.target-target.result.disk) × (c.args.skip ≢ Some d) → may d = λ d is.
    (rw (is.0, c.target-target.ensures) on, is.1) in
    StaySyncedBut-both may _ _ _ _ (g.R.Rack.slot c.loop-at.rack) _ c.loop-at.invariant.part.lasts c.put.ensures.part.lasts c.loop-at.invariant.still_synced (StaySyncedBut-weaker may _ (g.R.Rack.slot c.loop-at.rack) (g.R.Rack.slot c.put.new.rack) this c.put.ensures.still_synced)

pub put-requires : goal.put-requires
put-requires g c = record {
  exists = (ready g c).0;
  can = λ not. (ready g c).1 not;
}

-- one more target
next : (g : Over) (c : After-put g) (j : Job) → IsSpelled j → job_gone j ≡ c.args.skip → j.batch ≡ c.args.batch.now
    → Ran (g.R.Rack.told c.args.rack.now) (g.R.Rack.told c.put.new.rack) (CrashTriple (HoldsLate j) (LayIn j 0) (LayIn j (c.loop-at.at + 1)))
next g c j good is same =
    let n = c.loop-at.at in
    let t = c.target-target.result in
    let long : length j.batch ≡ length c.args.batch.now = ap length same in
    let lt : n < length j.batch = omega arith in
    let held : get_or (batch_blocks c.args.batch.now) n zero_block ≡ c.block.result.now = sym c.block.ensures in
    let block : target_block j n ≡ c.block.result.now = ap (λ (batch : Batch). get_or (batch_blocks batch) n zero_block) same ∙ held in
    let there : target_at c.args.batch.now n ≡ t = sym c.target-target.ensures in
    let target : target_at j.batch n ≡ t = ap (λ (batch : Batch). target_at batch n) same ∙ there in
    andthen (c.loop-at.invariant.ran j good is same)
    (lay_ran j good (g.met.R.Rack.agrees c.loop-at.rack) is n t lt target (past_log g c) block c.put.ensures.does)

pub loop-at-init : goal.loop-at-init
loop-at-init g c = record {
  slots = refl;
  ready = c.requires.ready;
  part = CommitPart_none _ _ _ _ tt;
  still_synced = λ d here wet. inl wet;
  ran = λ j good is same. nothing_ran (lay_whole j good 0);
}

pub loop-at-preserved : goal.loop-at-preserved
loop-at-preserved g c = record {
  slots = c.put.ensures.slots ∙ c.loop-at.invariant.slots;
  ready = targets_stay_ready _ _ _ _ c.put.ensures.part.lasts c.put.ensures.slots c.loop-at.invariant.ready;
  part = CommitPart_answer tt (CommitPart_then c.loop-at.invariant.part (writes_target c.args.batch.now _ (named g (goal.at.loop-at-preserved g c).After-put) c.in_ok-put.ensures.part));
  still_synced = wet g (goal.at.loop-at-preserved g c).After-put;
  ran = next g (goal.at.loop-at-preserved g c).After-put;
}

pub returns-in_err-put : goal.returns-in_err-put
returns-in_err-put g c = record {
  slots = search rules;
  part =
      CommitPart_raised _ c.from_residual.ensures.1
      (CommitPart_then c.loop-at.invariant.part (writes_target c.args.batch.now _ (named g (goal.at.returns-in_err-put g c).After-put) c.in_err-put.ensures.part));
  still_synced = wet g (goal.at.returns-in_err-put g c).After-put;
  crash = λ j good is same.
      crash_failed _ _ c.from_residual.ensures.1
      (ends (lay_whole j good (c.loop-at.at + 1)) (next g (goal.at.returns-in_err-put g c).After-put j good is same));
}

pub returns : goal.returns
returns g c = record {
  slots = search rules;
  part = CommitPart_answer tt c.loop-at.invariant.part;
  still_synced = search rules;
  crash = λ j good is same.
      let all : c.loop-at.at ≡ length c.args.batch.now = omega arith in
      crash_ran (lay_whole j good (length c.args.batch.now))
      (subst (λ (n : ℕ). Ran (g.R.Rack.told c.args.rack.now) (g.R.Rack.told c.loop-at.rack) (CrashTriple (HoldsLate j) (LayIn j 0) (LayIn j n)))
      all (c.loop-at.invariant.ran j good is same));
}
