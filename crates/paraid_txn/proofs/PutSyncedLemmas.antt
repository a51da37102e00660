-- A block that is written and then synced, from stage to stage.
use Rattle.std.specs.Prelude.{◌≡◌, ◌≢◌, ℕ, ◌+◌, ◌<◌, true, false, IsErrAnd}
use Rattle.std.proofs.Common.{Option, Some, Result, Ok, Err, inl, inr, refl, sym, subst}
use Rattle.paraid_base.specs.declared.block.Block.{Block}
use Rattle.paraid_rack.specs.declared.call.Call.TheVariants.{Sync, Write}
use Rattle.paraid_rack.specs.declared.rack.Rack.{Ghosts}
use Rattle.paraid_rack.specs.Disks.{Disks}
use Rattle.paraid_rack.specs.Slots.{Agrees}
use Rattle.paraid_rack.specs.Told.{Ran, CrashTriple}
use Rattle.paraid_rack.specs.Trail.{Trail, now}
use Rattle.paraid_image.specs.Sides.{is_open}
use Rattle.paraid_txn.specs.CommitStages.{CloseStage, HoldsEarly, HoldsLate, IsSpelled, Job, MarkStage, OpenStage, job_log, job_named}
use Rattle.paraid_txn.specs.CrashSpecification.{CrashSpecification}
use Rattle.paraid_txn.specs.Losses.{MayDo}
use Rattle.paraid_txn.specs.PutSynced.{MayPutSynced}
use Rattle.paraid_txn.specs.Resume.{AreDisksSame, HoldsThroughShut, ShutMetaSynced, ShutSynced}
use Rattle.paraid_txn.proofs.CrashSpecificationLemmas.{on_ok, on_ok_then}
use Rattle.paraid_txn.proofs.PutsLemmas.{Puts, Settles, put_ran, sync_slot_ran}
use Rattle.paraid_txn.proofs.ResumeStagesLemmas.{shut_mark, shut_meta, shut_sync, shut_write, shutting_done, shutting_in, shutting_marked, shutting_meta, shutting_same}
use Rattle.paraid_txn.proofs.StageCallsLemmas.{andthen, close_in_whole, close_whole, ends, mark_in_whole, mark_whole, open_in_whole, open_whole}
use Rattle.paraid_txn.proofs.StagesLemmas.{close_sync, close_write, mark_sync, mark_write, open_sync, open_write}

-- it gives up at the write
pub put_gives_up : {R T E : Type 0} {g : Ghosts R} (Q : E → Type 0) {skip : Option ℕ} {disk place : ℕ} {block : Block} {old new : R} (result : Result T E) → IsErrAnd result Q
    → MayDo (g.told old) (g.told new) (g.slot old) skip disk (λ done. Write disk place block done) → MayPutSynced g skip disk place block old new result
put_gives_up Q (Ok it) is may = absurd is
put_gives_up Q {new = new} (Err e) is may = record { between = new; writes = may; syncs = tt; ends = inr refl }

-- it comes to the sync
pub put_then_sync : {R T E : Type 0} {g : Ghosts R} {skip : Option ℕ} {disk place : ℕ} {block : Block} {old : R} (mid : R) {new : R} {result : Result T E}
    → MayDo (g.told old) (g.told mid) (g.slot old) skip disk (λ done. Write disk place block done)
    → MayDo (g.told mid) (g.told new) (g.slot mid) skip disk (λ done. Sync disk done) → MayPutSynced g skip disk place block old new result
put_then_sync mid {result = result} put sync = record { between = mid; writes = put; syncs = on_ok result sync; ends = inl sync }

module _ {R T E : Type 0} {g : Ghosts R} (agrees : (r : R) (t : Trail) → g.told r ≡ Some t → Agrees (now t) (g.slot r)) {old new : R} {result : Result T E} where
  -- by a stage before the write, one between, and one after the sync
  put_synced_crash : {P A M B : Disks → Type 0} {skip : Option ℕ} {disk place : ℕ} {block : Block} → ((s : Disks) → A s → P s) → ((s : Disks) → M s → P s) → ((s : Disks) → B s → P s)
      → ((s s' : Disks) → Puts skip s s' disk place block → A s → M s') → ((s s' : Disks) → Settles skip s s' disk → M s → B s')
      → MayPutSynced g skip disk place block old new result → CrashSpecification P A B (g.told old) (g.told new) result
  put_synced_crash {P} {A} {M} {B} is_a is_m is_b puts syncs may =
      let put : Ran (g.told old) (g.told may.between) (CrashTriple P A M) = put_ran (agrees old) may.writes is_a is_m puts in
      record {
        moments = elim may.ends [
          | inl sync ↦ ends is_b (andthen put (sync_slot_ran (agrees may.between) sync is_m is_b syncs))
          | inr same ↦ subst (λ (o : Option Trail). Ran (g.told old) o (CrashTriple P A P)) (sym same) (ends is_m put)
        ];
        done = on_ok_then result (λ sync. andthen put (sync_slot_ran (agrees may.between) sync is_m is_b syncs)) may.syncs;
      }

  module _ (j : Job) {skip : Option ℕ} (is : job_named j ≡ skip) where
    -- the disk that gets no call, by what the job says of it
    by_job : {disk place : ℕ} {block : Block} → MayPutSynced g skip disk place block old new result → MayPutSynced g (job_named j) disk place block old new result
    by_job {disk} {place} {block} may = subst (λ (o : Option ℕ). MayPutSynced g o disk place block old new result) (sym is) may

    -- and the meta, by how the job spells it
    by_spelled : {disk place : ℕ} {block : Block} → j.spelled ≡ block → MayPutSynced g skip disk place block old new result
        → MayPutSynced g (job_named j) disk place j.spelled old new result
    by_spelled {disk} {place} same may = subst (λ (b : Block). MayPutSynced g (job_named j) disk place b old new result) (sym same) (by_job may)

    module _ (good : IsSpelled j) (k : ℕ) where
      -- a gate is opened, on the disk whose turn it is
      pub open_crash : {disk : ℕ} {gate : Block} → k < 2 → job_log j k ≡ disk → is_open gate ≡ true → MayPutSynced g skip disk 0 gate old new result
          → CrashSpecification (HoldsEarly j) (OpenStage j k) (OpenStage j (k + 1)) (g.told old) (g.told new) result
      open_crash {disk} {gate} low at opens may =
          put_synced_crash (open_whole j good k) (open_in_whole j good k) (open_whole j good (k + 1)) (λ s s' w a. open_write j good k gate s s' low opens w a) (open_sync j good k)
          (subst (λ (d : ℕ). MayPutSynced g (job_named j) d 0 gate old new result) (sym at) (by_job may))

      -- the meta is written to place 1
      pub mark_crash : {block : Block} → j.spelled ≡ block → MayPutSynced g skip k 1 block old new result
          → CrashSpecification (HoldsLate j) (MarkStage j k) (MarkStage j (k + 1)) (g.told old) (g.told new) result
      mark_crash same may = put_synced_crash (mark_whole j good k) (mark_in_whole j good k) (mark_whole j good (k + 1)) (mark_write j good k) (mark_sync j good k) (by_spelled same may)

      -- a gate is closed
      pub close_crash : {gate : Block} → is_open gate ≡ false → MayPutSynced g skip k 0 gate old new result
          → CrashSpecification (HoldsLate j) (CloseStage j k) (CloseStage j (k + 1)) (g.told old) (g.told new) result
      close_crash {gate} shuts may =
          put_synced_crash (close_whole j good k) (close_in_whole j good k) (close_whole j good (k + 1)) (λ s s' w a. close_write j good k gate s s' shuts w a) (close_sync j good k) (by_job may)

    module _ (y : ℕ) (live : job_named j ≢ Some y) (opened : is_open (j.start.block y 0) ≡ true) where
      -- the same two, where only the other log disk is open
      pub shut_meta_crash : {block : Block} → j.spelled ≡ block → MayPutSynced g skip y 1 block old new result
          → CrashSpecification (HoldsThroughShut j y) (AreDisksSame j) (ShutMetaSynced j y) (g.told old) (g.told new) result
      shut_meta_crash same may =
          put_synced_crash (shutting_same j y) (shutting_meta j y live opened) (shutting_marked j y live opened) (λ s s' w a. shut_meta j y live s s' w a) (λ s s' w a. shut_mark j y live s s' w a)
          (by_spelled same may)

      pub shut_gate_crash : {gate : Block} → is_open gate ≡ false → MayPutSynced g skip y 0 gate old new result
          → CrashSpecification (HoldsThroughShut j y) (ShutMetaSynced j y) (ShutSynced j y) (g.told old) (g.told new) result
      shut_gate_crash {gate} shuts may =
          put_synced_crash (shutting_marked j y live opened) (shutting_in j y live opened) (shutting_done j y live opened) (λ s s' w a. shut_write j y live gate s s' shuts w a)
          (λ s s' w a. shut_sync j y live s s' w a) (by_job may)
