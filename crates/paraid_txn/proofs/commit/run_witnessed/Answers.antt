use Rattle.std.specs.Prelude.{◌≡◌}
use Rattle.std.proofs.Common.{arith, inl, inr}
use Rattle.paraid_rack.specs.Disks.{Disks}
use Rattle.paraid_rack.specs.Told.{CrashTriple, Ran}
use Rattle.paraid_record.specs.declared.meta.Meta.{Meta}
use Rattle.paraid_image.specs.Out.{named_out}
use Rattle.paraid_txn.specs.CommitStages.{FirstStage, HoldsWitnessed, IsSpelled, LaidStage, job}
use Rattle.std.proofs.lemmas.Result.{IfOk-weaker}
use Rattle.paraid_txn.proofs.BorneLemmas.{known_steps, steps_borne}
use Rattle.paraid_txn.proofs.OnceLemmas.{leave_then, once_after, once_before, once_steps}
use Rattle.paraid_txn.proofs.CommitPartLemmas.{CommitPart_milder, raised_if_ok, raised_ok}
use Rattle.paraid_txn.proofs.CrashSpecificationLemmas.{on_ok_then, crash_after, crash_failed, crash_ran, crash_raised}
use Rattle.paraid_txn.proofs.DownLemmas.{AreCommitCalls-absent, AreCommitCalls-then}
use Rattle.paraid_txn.proofs.ReadyLemmas.{targets_stay_ready}
use Rattle.paraid_txn.proofs.StageCallsLemmas.{andthen, ends}
use Rattle.paraid_txn.proofs.SyncedPartLemmas.{SyncedPart_as, SyncedPart_log, SyncedPart_raised, SyncedPart_then}
use Rattle.paraid_txn.proofs.WitnessStagesLemmas.{last_holds, settled_holds, sets_after, sets_before, steps_witnessed}
use Rattle.paraid_txn.proofs.commit.run_witnessed.Given.{Over}
use Rattle.paraid_txn.proofs.commit.run_witnessed.Goals.{In_ok-run}
use Rattle.paraid_txn.proofs.commit.run_witnessed.Goals as goal

pub bear_before-requires : goal.bear_before-requires
bear_before-requires g c = record {
  exists = (let exists = c.requires.exists in let low = c.args.meta.now.setup.geometry.disks_low in omega (arith, exists, low));
  absent = c.requires.absent;
  witness = c.requires.witness;
}

pub run-requires : goal.run-requires
run-requires g c = record {
  log_disk = c.requires.log_disk;
  exists = (let exists = c.requires.exists in let s0 = c.bear_before.ensures.leaves.slots in omega (arith, exists, s0));
  log = SyncedPart_log c.bear_before.ensures.leaves c.requires.log;
  ready = targets_stay_ready _ _ _ _ c.bear_before.ensures.leaves.part.lasts c.bear_before.ensures.leaves.slots c.requires.ready;
  in_range = c.requires.in_range;
}

pub bear_after-requires : goal.bear_after-requires
bear_after-requires g c = record {
  exists = (let exists = c.requires.exists in let low = c.args.meta.now.setup.geometry.disks_low in let s0 = c.bear_before.ensures.leaves.slots in let s1 = c.run.ensures.leaves.slots in omega (arith, exists, low, s0, s1));
  lost = λ d is. AreCommitCalls-absent _ _ _ _ d (AreCommitCalls-then _ _ _ _ _ _ c.bear_before.ensures.leaves.part.lasts c.run.ensures.leaves.part.lasts) c.requires.none_lost is;
}

pub returns-in_err-borne : goal.returns-in_err-borne
returns-in_err-borne g c = record {
  leaves = SyncedPart_raised _ c.from_residual.ensures.1 (SyncedPart_as (CommitPart_milder (λ x is. inr is)) c.in_err-borne.ensures.leaves);
  crash = λ start before good named. crash_failed _ _ c.from_residual.ensures.1
      (ends (settled_holds _ good before) (sets_before _ good before named c.bear_before.ensures.told));
  known = raised_if_ok _ _ c.from_residual.result c.from_residual.ensures.1;
  borne = raised_ok _ _ c.from_residual.result c.from_residual.ensures.1;
  knows = raised_if_ok _ _ c.from_residual.result c.from_residual.ensures.1;
  once = λ joins x low is. once_before c.args.meta.now _ _ x joins is c.bear_before.ensures.told;
}

pub returns-in_err-run : goal.returns-in_err-run
returns-in_err-run g c = record {
  leaves = SyncedPart_raised _ c.from_residual-in_err-run.ensures.1
      (SyncedPart_then (SyncedPart_as (CommitPart_milder (λ x is. inr is)) c.in_ok-borne.ensures.leaves) (SyncedPart_as (CommitPart_milder (λ x is. inl is)) c.in_err-run.ensures.leaves));
  crash = λ start before good named. crash_raised _ c.from_residual-in_err-run.ensures.1
      (crash_after (sets_before _ good before named c.bear_before.ensures.told)
      (steps_witnessed _ good before c.run.ensures.leaves.part.calls (c.in_err-run.ensures.crash start good)));
  known = raised_if_ok _ _ c.from_residual-in_err-run.result c.from_residual-in_err-run.ensures.1;
  borne = raised_ok _ _ c.from_residual-in_err-run.result c.from_residual-in_err-run.ensures.1;
  knows = raised_if_ok _ _ c.from_residual-in_err-run.result c.from_residual-in_err-run.ensures.1;
  once = λ joins x low is. leave_then (once_before c.args.meta.now _ _ x joins is c.bear_before.ensures.told)
      (once_steps c.args.meta.now c.args.batch.now c.requires.in_range.each x low c.run.ensures.leaves.part.calls);
}

-- with the five steps done
ran : (g : Over) (c : In_ok-run g) (start : Disks) (before : Meta) → IsSpelled (job start c.args.meta.now c.args.batch.now c.args.spelled.now c.args.list.now c.args.first)
    → c.args.out.named ≡ named_out before.out
    → let j = job start c.args.meta.now c.args.batch.now c.args.spelled.now c.args.list.now c.args.first in
    Ran (g.R.Rack.told c.args.rack.now) (g.R.Rack.told c.run.new.rack) (CrashTriple (HoldsWitnessed j before) (FirstStage j before) (LaidStage j before))
ran g c start before good named =
    andthen (sets_before _ good before named c.bear_before.ensures.told)
    (steps_witnessed _ good before c.run.ensures.leaves.part.calls (c.in_ok-run.ensures.crash start good)).done

pub returns : goal.returns
returns g c = record {
  leaves = SyncedPart_then
      (SyncedPart_then (SyncedPart_as (CommitPart_milder (λ x is. inr is)) c.in_ok-borne.ensures.leaves) (SyncedPart_as (CommitPart_milder (λ x is. inl is)) c.in_ok-run.ensures.leaves))
      (SyncedPart_as (CommitPart_milder (λ x is. inr is)) c.bear_after.ensures.leaves);
  crash = λ start before good named.
      let at = goal.at.returns g c in
      crash_after (ran g at.In_ok-run start before good named) (crash_ran (last_holds _ good before) (sets_after _ good before c.bear_after.ensures.told));
  known = IfOk-weaker c.bear_after.result _ _ (λ then goes was. goes
      (known_steps c.args.meta.now c.args.batch.now c.requires.in_range.each _ c.run.ensures.leaves.part.calls (c.in_ok-borne.ensures.known was))) c.bear_after.ensures.known;
  borne = on_ok_then c.bear_after.result (λ ends none. andthen
      (andthen c.in_ok-borne.ensures.borne (steps_borne c.args.meta.now c.args.batch.now c.requires.in_range.each _ c.run.ensures.leaves.part.calls))
      (ends none)) c.bear_after.ensures.borne;
  knows = c.bear_after.ensures.knows;
  once = λ joins x low is. leave_then
      (leave_then (once_before c.args.meta.now _ _ x joins is c.bear_before.ensures.told)
      (once_steps c.args.meta.now c.args.batch.now c.requires.in_range.each x low c.run.ensures.leaves.part.calls))
      (once_after c.args.meta.now _ x (c.in_ok-borne.ensures.stays joins x is) c.bear_after.ensures.told);
}
