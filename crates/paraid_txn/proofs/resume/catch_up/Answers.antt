use Rattle.paraid_txn.proofs.SyncedPartLemmas.{SyncedPart_answer, SyncedPart_as, SyncedPart_failed, SyncedPart_raised, SyncedPart_then}
use Rattle.std.specs.Prelude.{◌≡◌, ◌≢◌, ℕ, Bool, Some, true, false, Ok}
use Rattle.std.proofs.Common.{arith, ap, sym, refl, ◌∙◌, inl, inr}
use Rattle.std.proofs.lemmas.Bool.{cases_Bool, cases_eq, false≢true}
use Rattle.paraid_rack.specs.Told.{Ran, CrashTriple}
use Rattle.paraid_rack.specs.Trail.{Trail, now}
use Rattle.paraid_txn.specs.CommitPart.{SyncedPart}
use Rattle.paraid_txn.specs.Uses.{IsUnskippedLog, UsesLog}
use Rattle.paraid_txn.specs.Resume.{LeadsResume, HoldsThroughResume, AreDisksSame, job_on_other_log}
use Rattle.paraid_image.specs.Sides.{is_open}
use Rattle.paraid_txn.specs.CommitStages.{IsLiveLog, IsSpelled, Job, job_named}
use Rattle.paraid_image.specs.Standing.{other_log}
use Rattle.paraid_txn.proofs.ReadyLemmas.{log_stays_ready, log_can}
use Rattle.paraid_txn.proofs.StageCallsLemmas.{andthen, ends, from, milder}
use Rattle.paraid_txn.proofs.ResumeStagesLemmas.{absent_by, good_beside, log_open, never, open_lay, read_start, resuming_early, resuming_same, same_lay, same_log, same_read, take_ran, upto_told}
use Rattle.paraid_txn.proofs.CommitPartLemmas.{CommitPart_beside, CommitPart_by, logs_read}
use Rattle.paraid_txn.proofs.CrashSpecificationLemmas.{crash_after, crash_failed, crash_from, crash_milder, crash_never, crash_then, crash_upto}
use Rattle.paraid_txn.proofs.PutSyncedLemmas.{open_crash}
use Rattle.paraid_txn.proofs.resume.catch_up.Given.{Over}
use Rattle.paraid_txn.proofs.resume.catch_up.Goals as goal
use Rattle.paraid_txn.proofs.resume.catch_up.Goals.{After-opens, After-take}

taken : (g : Over) (c : After-take g) (j : Job) → IsSpelled j → LeadsResume j c.args.side
    → Ran (g.R.Rack.told c.args.rack.now) (g.R.Rack.told c.take.new.rack) (CrashTriple (HoldsThroughResume j c.args.side) (AreDisksSame j) (AreDisksSame j))
taken g c j good leads = take_ran c.take.ensures.does (resuming_same j good c.args.side leads) (λ s s' w a. same_read j s s' w a)

-- the gate was read
on : (g : Over) (c : After-opens g) → c.take.result ≡ Ok true
on g c = c.in_ok-read.was ∙ ap Ok c.if-not-read.false

-- the block that was read is the one at the start
found : (g : Over) (c : After-take g) (j : Job) → c.take.result ≡ Ok true → (t : Trail) → g.R.Rack.told c.args.rack.now ≡ Some t → AreDisksSame j (now t)
    → c.take.new.into ≡ j.start.block (other_log c.args.side) 0
found g c j is t tells same = read_start j (other_log c.args.side) (g.met.R.Rack.agrees c.args.rack.now) (c.take.ensures.present is) (c.take.ensures.bytes is) t tells same

-- the other log disk is live
live : (g : Over) (c : After-take g) (j : Job) → job_named j ≡ c.args.skip → c.take.result ≡ Ok true → IsLiveLog j (other_log c.args.side)
live g c j is on = (let low = c.requires.log_disk in omega arith, λ e. c.take.ensures.read on (sym is ∙ e))

-- its gate was not open at the start
not_open : (g : Over) (c : After-take g) (j : Job) → IsSpelled j → LeadsResume j c.args.side → c.take.result ≡ Ok true → is_open c.take.new.into ≡ false
    → is_open (j.start.block (other_log c.args.side) 0) ≡ true
    → Ran (g.R.Rack.told c.args.rack.now) (g.R.Rack.told c.take.new.rack) (CrashTriple (HoldsThroughResume j c.args.side) (AreDisksSame j) (λ s. ⊥))
not_open g c j good leads on shut open_then =
    upto_told (λ s t from to a b. false≢true (sym shut ∙ ap is_open (found g c j on s from a) ∙ open_then)) (taken g c j good leads)

-- what was read, in the log of the other one
heard : (g : Over) (c : After-take g) (read : Bool) → c.take.result ≡ Ok read
    → SyncedPart g.R.Rack (UsesLog c.args.skip) c.args.losses.now c.take.new.losses c.args.rack.now c.take.new.rack (Ok read)
heard g c read is = record {
  slots = c.take.ensures.slots;
  part = logs_read 0 (let low = c.requires.log_disk in omega arith) (omega arith) (CommitPart_by is c.take.ensures.part);
  still_synced = c.take.ensures.still_synced;
}

-- the other one is not skipped
beside_log : (g : Over) (c : After-take g) → c.take.result ≡ Ok true → (d : ℕ) → IsUnskippedLog (Some c.args.side) d → IsUnskippedLog c.args.skip d
beside_log g c on d is =
    let low = is.0 in
    let side = c.requires.log_disk in
    let same : other_log c.args.side ≡ d = (let apart : c.args.side ≢ d = (λ e. is.1 (ap Some e)) in elim (cases_eq c.args.side d) [ inl e ↦ absurd (apart e) | inr not ↦ omega arith ]) in
    (low, λ e. c.take.ensures.read on (e ∙ ap Some (sym same)))

pub returns-in_err-read : goal.returns-in_err-read
returns-in_err-read g c = record {
  leaves = SyncedPart_failed _ c.from_residual.ensures.1 c.take.ensures.slots (logs_read 0 (let low = c.requires.log_disk in omega arith) (omega arith) c.in_err-read.ensures.part);
  crash = λ j good is batch list same leads.
      let at = goal.at.returns-in_err-read g c in
      crash_failed _ _ c.from_residual.ensures.1 (ends (resuming_same j good c.args.side leads) (taken g at.After-take j good leads));
}

pub returns-then-not-read : goal.returns-then-not-read
returns-then-not-read g c = record {
  leaves =
      let at = goal.at.returns-then-not-read g c in
      SyncedPart_answer tt (heard g at.After-take false (c.in_ok-read.was ∙ ap Ok c.if-not-read.true));
  crash = λ j good is batch list same leads.
      let at = goal.at.returns-then-not-read g c in
      let y = other_log c.args.side in
      let off = c.in_ok-read.was ∙ ap Ok c.if-not-read.true in
      record {
        moments = ends (resuming_same j good c.args.side leads) (taken g at.After-take j good leads);
        done = upto_told (λ s t from to a b. same_lay j good c.args.side leads (now t) b (λ l there here.
            absurd (absent_by y (g.met.R.Rack.agrees c.take.new.rack t to) (c.take.ensures.passed off (λ e. l.1 (is ∙ e))) here)))
            (taken g at.After-take j good leads);
      };
}

pub returns-then-opens : goal.returns-then-opens
returns-then-opens g c = record {
  leaves =
      let at = goal.at.returns-then-opens g c in
      SyncedPart_answer tt (heard g at.After-take true (c.in_ok-read.was ∙ ap Ok c.if-not-read.false));
  crash = λ j good is batch list same leads.
      let at = goal.at.returns-then-opens g c in
      let on = on g at.After-opens in
      let opened = sym c.if-opens.ensures in
      record {
        moments = ends (resuming_same j good c.args.side leads) (taken g at.After-take j good leads);
        done = upto_told (λ s t from to a b. same_lay j good c.args.side leads (now t) b (λ l there here. elim (leads.other l there) [
          | inl shut_then ↦ absurd (false≢true (sym shut_then ∙ ap is_open (sym (found g at.After-take j on s from a)) ∙ opened))
          | inr says ↦ says
        ])) (taken g at.After-take j good leads);
      };
}

pub returns-in_err-write_log : goal.returns-in_err-write_log
returns-in_err-write_log g c = record {
  leaves =
      let at = goal.at.returns-in_err-write_log g c in
      let on = on g at.After-opens in
      SyncedPart_raised _ c.from_residual-in_err-write_log.ensures.1
      (SyncedPart_then (heard g at.After-take true on) (SyncedPart_as (CommitPart_beside (beside_log g at.After-take on)) c.in_err-write_log.ensures.leaves));
  crash = λ j good is batch list same leads.
      let at = goal.at.returns-in_err-write_log g c in
      let x = c.args.side in
      let on = on g at.After-opens in
      let shut = sym c.if-opens.ensures in
      let l = live g at.After-take j is on in
      let log = (c.in_err-write_log.ensures.crash (job_on_other_log j x) (good_beside j good x leads) refl batch list same).moments in
      crash_failed _ _ c.from_residual-in_err-write_log.ensures.1
      (elim (cases_Bool (is_open (j.start.block (other_log x) 0))) [
        | inl open_then ↦ andthen (not_open g at.After-take j good leads on shut open_then) (never log)
        | inr shut_then ↦
            let early = resuming_early j good x leads l (λ there. shut_then) in
            andthen (taken g at.After-take j good leads)
            (ends early (from (same_log j good x leads l (λ there. shut_then)) (milder early log)))
      ]);
}

pub returns : goal.returns
returns g c = record {
  leaves =
      let at = goal.at.returns g c in
      let on = on g at.After-opens in
      let beside = beside_log g at.After-take on in
      SyncedPart_then (heard g at.After-take true on) (SyncedPart_as (CommitPart_beside beside) (SyncedPart_then c.in_ok-write_log.ensures.leaves c.put_synced.ensures.leaves));
  crash = λ j good is batch list same leads.
      let at = goal.at.returns g c in
      let x = c.args.side in
      let on = on g at.After-opens in
      let shut = sym c.if-opens.ensures in
      let l = live g at.After-take j is on in
      let spelled = good_beside j good x leads in
      let both = crash_then (c.in_ok-write_log.ensures.crash (job_on_other_log j x) spelled refl batch list same)
      (crash_from (log_open j good x leads) (open_crash g.met.R.Rack.agrees (job_on_other_log j x) refl spelled 0 (omega arith) refl c.gate-opened.ensures c.put_synced.ensures.does)) in
      elim (cases_Bool (is_open (j.start.block (other_log x) 0))) [
        | inl open_then ↦ crash_after (not_open g at.After-take j good leads on shut open_then) (crash_never both)
        | inr shut_then ↦
            crash_after (taken g at.After-take j good leads)
            (crash_upto (open_lay j good x leads l (λ there. shut_then))
            (crash_from (same_log j good x leads l (λ there. shut_then)) (crash_milder (resuming_early j good x leads l (λ there. shut_then)) both)))
      ];
}

pub write_log-requires : goal.write_log-requires
write_log-requires g c = record {
  exists = let exists = c.requires.exists in let s0 = c.take.ensures.slots in omega (arith, exists, s0);
  log_disk = omega arith;
  log =
      let at = goal.at.write_log-requires g c in
      let on = on g at.After-opens in
      record { can = λ x low not. (log_stays_ready c.take.ensures.part.lasts c.requires.log).can x low (beside_log g at.After-take on x (low, not)).1 };
  few = c.requires.few;
}

pub put_synced-requires : goal.put_synced-requires
put_synced-requires g c = record {
  exists = let exists = c.requires.exists in let s0 = c.take.ensures.slots in let s1 = c.write_log.ensures.leaves.slots in omega (arith, exists, s0, s1);
  log_disk = omega arith;
  in_log = omega arith;
  log =
      let at = goal.at.put_synced-requires g c in
      let on = on g at.After-opens in
      log_stays_ready c.write_log.ensures.leaves.part.lasts
      (record { can = λ x low not. (log_stays_ready c.take.ensures.part.lasts c.requires.log).can x low (beside_log g at.After-take on x (low, not)).1 });
}

pub take-requires : goal.take-requires
take-requires g c = record {
  exists = let exists = c.requires.exists in omega (arith, exists);
  can = λ not. log_can 0 c.requires.log (omega arith) (omega arith) not;
}
