use Rattle.paraid_txn.proofs.SyncedPartLemmas.{SyncedPart_answer, SyncedPart_failed, SyncedPart_then}
use Rattle.std.specs.Prelude.{◌≡◌, ◌≢◌, Bool, Some, true, false, Ok}
use Rattle.std.proofs.Common.{arith, ap, sym, ◌∙◌, inl, inr}
use Rattle.std.proofs.lemmas.Bool.{cases_Bool, false≢true}
use Rattle.paraid_rack.specs.Told.{Ran, CrashTriple}
use Rattle.paraid_rack.specs.Trail.{Trail, now}
use Rattle.paraid_txn.specs.CommitPart.{SyncedPart}
use Rattle.paraid_txn.specs.Uses.{UsesLog}
use Rattle.paraid_txn.specs.Resume.{AreDisksSame, HoldsThroughShut}
use Rattle.paraid_image.specs.Sides.{is_open}
use Rattle.paraid_txn.specs.CommitStages.{Job, job_named}
use Rattle.paraid_image.specs.Standing.{other_log}
use Rattle.paraid_txn.proofs.StageCallsLemmas.{ends}
use Rattle.paraid_txn.proofs.ReadyLemmas.{log_stays_ready, log_can}
use Rattle.paraid_txn.proofs.ResumeStagesLemmas.{absent_by, filled, good_filled, read_start, same_read, shutting_same, take_ran, upto_told}
use Rattle.paraid_txn.proofs.CommitPartLemmas.{CommitPart_by, logs_read}
use Rattle.paraid_txn.proofs.CrashSpecificationLemmas.{crash_after, crash_failed, crash_never, crash_upto}
use Rattle.paraid_txn.proofs.QuietLemmas.{quiet_open, quiet_read}
use Rattle.paraid_txn.proofs.resume.resume_closed.Given.{Over}
use Rattle.paraid_txn.proofs.resume.resume_closed.Goals as goal
use Rattle.paraid_txn.proofs.resume.resume_closed.Goals.{After-opens, After-take}

taken : (g : Over) (c : After-take g) (j : Job)
    → Ran (g.R.Rack.told c.args.rack.now) (g.R.Rack.told c.take.new.rack) (CrashTriple (HoldsThroughShut j (other_log c.args.side)) (AreDisksSame j) (AreDisksSame j))
taken g c j = take_ran c.take.ensures.does (shutting_same j (other_log c.args.side)) (λ s s' w a. same_read j s s' w a)

-- the other log disk is live
live : (g : Over) (c : After-take g) → c.take.result ≡ Ok true → c.args.skip ≢ Some (other_log c.args.side)
live g c is = c.take.ensures.read is

-- the block that was read is the one at the start
found : (g : Over) (c : After-take g) (j : Job) → c.take.result ≡ Ok true → (t : Trail) → g.R.Rack.told c.args.rack.now ≡ Some t → AreDisksSame j (now t)
    → c.take.new.into ≡ j.start.block (other_log c.args.side) 0
found g c j is t tells same = read_start j (other_log c.args.side) (g.met.R.Rack.agrees c.args.rack.now) (c.take.ensures.present is) (c.take.ensures.bytes is) t tells same

-- the gate was read
on : (g : Over) (c : After-opens g) → c.take.result ≡ Ok true
on g c = c.in_ok-read.was ∙ ap Ok c.if-not-read.false

-- the gate was not closed at the start
not_shut : (g : Over) (c : After-take g) (j : Job) → c.take.result ≡ Ok true → is_open c.take.new.into ≡ true → is_open (j.start.block (other_log c.args.side) 0) ≡ false
    → Ran (g.R.Rack.told c.args.rack.now) (g.R.Rack.told c.take.new.rack) (CrashTriple (HoldsThroughShut j (other_log c.args.side)) (AreDisksSame j) (λ s. ⊥))
not_shut g c j on opened shut_then =
    upto_told (λ s t from to a b. false≢true (sym shut_then ∙ ap is_open (sym (found g c j on s from a)) ∙ opened)) (taken g c j)

-- what was read, in the log of the other one
heard : (g : Over) (c : After-take g) (read : Bool) → c.take.result ≡ Ok read
    → SyncedPart g.R.Rack (UsesLog c.args.skip) c.args.losses.now c.take.new.losses c.args.rack.now c.take.new.rack (Ok read)
heard g c read is = record {
  slots = c.take.ensures.slots;
  part = logs_read 0 (let low = c.requires.log_disk in omega arith) (omega arith) (CommitPart_by is c.take.ensures.part);
  still_synced = c.take.ensures.still_synced;
}

pub returns-in_err-read : goal.returns-in_err-read
returns-in_err-read g c = record {
  leaves = SyncedPart_failed _ c.from_residual.ensures.1 c.take.ensures.slots (logs_read 0 (let low = c.requires.log_disk in omega arith) (omega arith) c.in_err-read.ensures.part);
  crash = λ j good is same.
      let at = goal.at.returns-in_err-read g c in
      crash_failed _ _ c.from_residual.ensures.1 (ends (shutting_same j (other_log c.args.side)) (taken g at.After-take j));
  quiet = λ m is. quiet_read c.take.ensures.part.calls m;
}

pub returns-then-not-read : goal.returns-then-not-read
returns-then-not-read g c = record {
  leaves =
      let at = goal.at.returns-then-not-read g c in
      SyncedPart_answer tt (heard g at.After-take false (c.in_ok-read.was ∙ ap Ok c.if-not-read.true));
  crash = λ j good is same.
      let at = goal.at.returns-then-not-read g c in
      let y = other_log c.args.side in
      let off = c.in_ok-read.was ∙ ap Ok c.if-not-read.true in
      record {
        moments = ends (shutting_same j (other_log c.args.side)) (taken g at.After-take j);
        done = upto_told (λ s t from to a b. inl (record {
          core = b;
          shut = λ l here. absurd (absent_by y (g.met.R.Rack.agrees c.take.new.rack t to) (c.take.ensures.passed off (λ e. l.1 (is ∙ e))) here);
        })) (taken g at.After-take j);
      };
  quiet = λ m is. quiet_read c.take.ensures.part.calls m;
}

pub returns-then-not-opens : goal.returns-then-not-opens
returns-then-not-opens g c = record {
  leaves =
      let at = goal.at.returns-then-not-opens g c in
      SyncedPart_answer tt (heard g at.After-take true (c.in_ok-read.was ∙ ap Ok c.if-not-read.false));
  crash = λ j good is same.
      let at = goal.at.returns-then-not-opens g c in
      let y = other_log c.args.side in
      let on = c.in_ok-read.was ∙ ap Ok c.if-not-read.false in
      let shut = sym c.opens.ensures ∙ c.if-not-opens.true in
      record {
        moments = ends (shutting_same j (other_log c.args.side)) (taken g at.After-take j);
        done = upto_told (λ s t from to a b. inl (record {
          core = b;
          shut = λ l here. ap is_open (((b.same y 0).holds here).1 ∙ sym (found g at.After-take j on s from a)) ∙ shut;
        })) (taken g at.After-take j);
      };
  quiet = λ m is. quiet_read c.take.ensures.part.calls m;
}

pub returns : goal.returns
returns g c = record {
  leaves =
      let at = goal.at.returns g c in
      let on = on g at.After-opens in
      SyncedPart_then (heard g at.After-take true on) c.shut.ensures.leaves;
  crash = λ j good is same.
      let at = goal.at.returns g c in
      let on = c.in_ok-read.was ∙ ap Ok c.if-not-read.false in
      let opened = sym c.opens.ensures ∙ c.if-not-opens.false in
      let not : job_named j ≢ Some (other_log c.args.side) = λ e. live g at.After-take on (sym is ∙ e) in
      elim (cases_Bool (is_open (j.start.block (other_log c.args.side) 0))) [
        | inl open_then ↦ crash_upto (λ s a. inr a) (crash_after (taken g at.After-take j) (c.shut.ensures.crash j good is same not open_then))
        | inr shut_then ↦ crash_after (not_shut g at.After-take j on opened shut_then)
            (crash_never (c.shut.ensures.crash (filled j c.take.new.into) (good_filled j c.take.new.into good) is same not opened))
      ];
  quiet =
      let at = goal.at.returns g c in
      let on = on g at.After-opens in
      quiet_open (SyncedPart_then (heard g at.After-take true on) c.shut.ensures.leaves).part.calls (let low = c.requires.log_disk in omega arith) (live g at.After-take on) c.requires.log
      (c.take.ensures.present on) (g.met.R.Rack.agrees c.args.rack.now) (c.take.ensures.bytes on) (sym c.opens.ensures ∙ c.if-not-opens.false);
}

pub shut-requires : goal.shut-requires
shut-requires g c = record {
  exists = let exists = c.requires.exists in let s0 = c.take.ensures.slots in omega (arith, exists, s0);
  log_disk = omega arith;
  log =
      log_stays_ready c.take.ensures.part.lasts c.requires.log;
}

pub take-requires : goal.take-requires
take-requires g c = record {
  exists = let exists = c.requires.exists in omega (arith, exists);
  can = λ not. log_can 0 c.requires.log (omega arith) (omega arith) not;
}
