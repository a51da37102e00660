use Rattle.paraid_txn.proofs.SyncedPartLemmas.{SyncedPart_as}
use Rattle.std.specs.Prelude.{◌≡◌, Bool, Some}
use Rattle.std.proofs.Common.{refl, sym, subst}
use Rattle.paraid_rack.specs.Disks.{Disks}
use Rattle.paraid_rack.specs.Trail.{Trail, now}
use Rattle.paraid_txn.specs.Resume.{StandsWhileResumed, EndsResumed, EndsLaid}
use Rattle.paraid_image.specs.Sides.{log_state}
use Rattle.paraid_txn.specs.CommitStages.{IsSpelled, job}
use Rattle.paraid_txn.proofs.ResumePromiseLemmas.{closed_lays, closed_resumes, closed_settles, open_lays, open_resumes, open_settles}
use Rattle.paraid_txn.proofs.QuietLemmas.{quiet_closed, quiet_opened}
use Rattle.paraid_txn.proofs.StoreLemmas.{IsStartReady, start_ready}
use Rattle.paraid_txn.proofs.CommitPartLemmas.{CommitPart_logs}
use Rattle.paraid_txn.proofs.CrashSpecificationLemmas.{ok_at, on_ok_as}
use Rattle.paraid_txn.proofs.resume.end_commit.Given.{Over}
use Rattle.paraid_txn.proofs.resume.end_commit.Goals as goal
use Rattle.paraid_txn.proofs.resume.end_commit.Goals.{After-spell_meta-spelled}

-- the blocks spell the meta and the targets
good : (g : Over) (c : After-spell_meta-spelled g) (start : Disks) → IsSpelled (job start c.args.meta.now c.args.batch.now c.spell_meta-spelled.result c.spell_targets-list.result c.args.side)
good g c start = record {
  meta = record { in_range = c.requires.in_range; bytes = c.spell_meta-spelled.ensures };
  in_range = record { few = c.spell_targets-list.ensures.few; each = c.requires.each; distinct = c.spell_targets-list.ensures.distinct };
  list = c.spell_targets-list.ensures.value;
  first = c.requires.log_disk;
}

ready : (g : Over) (c : After-spell_meta-spelled g) (s : Trail) → g.R.Rack.told c.args.rack.now ≡ Some s → IsStartReady c.args.meta.now c.args.batch.now (now s)
ready g c s is = start_ready _ _ _ _ _ (g.met.R.Rack.agrees _ s is) c.requires.log c.requires.ready

pub returns-then-gate_open : goal.returns-then-gate_open
returns-then-gate_open g c = record {
  leaves = c.resume_open.ensures.leaves;
  moments =
      let at = goal.at.returns-then-gate_open g c in
      subst (λ (o : Bool). StandsWhileResumed (g.R.Rack.told c.args.rack.now) (g.R.Rack.told c.resume_open.new.rack) c.args.side (log_state o c.args.meta.now c.args.batch.now)) (sym c.if-gate_open.true)
      (open_resumes _ _ _ _ _ (good g at.After-spell_meta-spelled) c.requires.log_disk c.requires.in_array _ _ (ready g at.After-spell_meta-spelled) c.resume_open.ensures.leaves.part.calls
      (λ start leads. (c.resume_open.ensures.crash _ (good g at.After-spell_meta-spelled start) refl refl refl refl refl leads).moments));
  done =
      let at = goal.at.returns-then-gate_open g c in
      on_ok_as c.resume_open.result (λ unit ended.
      subst (λ (o : Bool). EndsResumed (g.R.Rack.told c.args.rack.now) (g.R.Rack.told c.resume_open.new.rack) c.args.side (log_state o c.args.meta.now c.args.batch.now)) (sym c.if-gate_open.true)
      (open_settles _ _ _ _ _ (good g at.After-spell_meta-spelled) c.requires.log_disk c.requires.in_array _ _ (ready g at.After-spell_meta-spelled)
      (λ start leads. ok_at _ ended (c.resume_open.ensures.crash _ (good g at.After-spell_meta-spelled start) refl refl refl refl refl leads).done)));
  laid =
      let at = goal.at.returns-then-gate_open g c in
      on_ok_as c.resume_open.result (λ unit ended.
      subst (λ (o : Bool). EndsLaid (g.R.Rack.told c.args.rack.now) (g.R.Rack.told c.resume_open.new.rack) c.args.side (log_state o c.args.meta.now c.args.batch.now)) (sym c.if-gate_open.true)
      (open_lays _ _ _ _ _ (good g at.After-spell_meta-spelled) c.requires.log_disk c.requires.in_array _ _ (ready g at.After-spell_meta-spelled)
      (λ start leads. ok_at _ ended (c.resume_open.ensures.crash _ (good g at.After-spell_meta-spelled start) refl refl refl refl refl leads).done)));
  quiet = quiet_opened c.args.meta.now c.args.batch.now c.args.gate_open _ _ _ c.if-gate_open.true c.resume_open.ensures.leaves.part.calls;
}

pub returns : goal.returns
returns g c = record {
  leaves = SyncedPart_as (CommitPart_logs c.args.meta.now c.args.batch.now c.named.ensures) c.resume_closed.ensures.leaves;
  moments =
      let at = goal.at.returns g c in
      subst (λ (o : Bool). StandsWhileResumed (g.R.Rack.told c.args.rack.now) (g.R.Rack.told c.resume_closed.new.rack) c.args.side (log_state o c.args.meta.now c.args.batch.now)) (sym c.if-gate_open.false)
      (closed_resumes _ _ _ _ _ (good g at.After-spell_meta-spelled) c.requires.log_disk c.requires.in_array _ _ (ready g at.After-spell_meta-spelled) (c.requires.empty c.if-gate_open.false)
      (SyncedPart_as (CommitPart_logs c.args.meta.now c.args.batch.now c.named.ensures) c.resume_closed.ensures.leaves).part.calls
      (λ start. (c.resume_closed.ensures.crash _ (good g at.After-spell_meta-spelled start) (sym c.named.ensures) refl).moments));
  done =
      let at = goal.at.returns g c in
      on_ok_as c.resume_closed.result (λ unit ended.
      subst (λ (o : Bool). EndsResumed (g.R.Rack.told c.args.rack.now) (g.R.Rack.told c.resume_closed.new.rack) c.args.side (log_state o c.args.meta.now c.args.batch.now)) (sym c.if-gate_open.false)
      (closed_settles _ _ _ _ _ (good g at.After-spell_meta-spelled) c.requires.log_disk c.requires.in_array _ _ (ready g at.After-spell_meta-spelled) (c.requires.empty c.if-gate_open.false)
      (λ start. ok_at _ ended (c.resume_closed.ensures.crash _ (good g at.After-spell_meta-spelled start) (sym c.named.ensures) refl).done)));
  laid =
      let at = goal.at.returns g c in
      on_ok_as c.resume_closed.result (λ unit ended.
      subst (λ (o : Bool). EndsLaid (g.R.Rack.told c.args.rack.now) (g.R.Rack.told c.resume_closed.new.rack) c.args.side (log_state o c.args.meta.now c.args.batch.now)) (sym c.if-gate_open.false)
      (closed_lays _ _ _ _ _ (good g at.After-spell_meta-spelled) c.requires.log_disk c.requires.in_array _ _ (ready g at.After-spell_meta-spelled) (c.requires.empty c.if-gate_open.false)
      (λ start. ok_at _ ended (c.resume_closed.ensures.crash _ (good g at.After-spell_meta-spelled start) (sym c.named.ensures) refl).done)));
  quiet = quiet_closed c.args.gate_open c.args.meta.now c.args.batch.now _ _ (c.resume_closed.ensures.quiet c.args.meta.now (sym c.named.ensures));
}
