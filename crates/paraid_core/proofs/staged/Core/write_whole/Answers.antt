use Rattle.std.proofs.Common.{◌≡◌, ℕ, ap, subst, ◌∙◌, length, ◌+◌, ◌-◌, ◌*◌, ◌<◌, ◌≤◌, sym, arith}
use Rattle.std.specs.Prelude.{Bool, false, true, ◌∷◌, ◌++◌, [], if◌then◌else◌, All}
use Rattle.paraid_base.specs.History.{Entry, History}
use Rattle.paraid_base.specs.Log.{batch_room}
use Rattle.paraid_base.specs.Pairs.{pairs_of}
use Rattle.paraid_dirty.specs.Table.{is_dirty}
use Rattle.paraid_plan.specs.WrittenBits.{bits_after_writes}
use Rattle.paraid_record.specs.declared.meta.Setup.{Setup}
use Rattle.paraid_rack.specs.Told.{Ran, CrashTriple}
use Rattle.paraid_rack.specs.Disks.{Disks}
use Rattle.paraid_txn.specs.Losses.{AreTwoDown}
use Rattle.paraid_txn.specs.Stores.{named_of, store_rack}
use Rattle.paraid_core.specs.declared.staged.Core.{Core}
use Rattle.paraid_core.specs.Cores.{IsCoreHeldSinceCommit, CoreStandsFor, core_down, core_rack}
use Rattle.paraid_core.proofs.AfterLemmas.{handed}
use Rattle.paraid_core.proofs.ChainLemmas.{after_same, done_then, down_both, ended, two_after}
use Rattle.paraid_core.proofs.ErrLemmas.{none_done}
use Rattle.paraid_core.proofs.KindLemmas.{calls_then, data_after, none_gone, reads_then}
use Rattle.paraid_core.proofs.LostMarkLemmas.{marks_then}
use Rattle.paraid_core.proofs.OrderLemmas.{core_tells_then, data_bears}
use Rattle.paraid_image.specs.Out.{named_out}
use Rattle.paraid_image.specs.Lost.{TellsLosses}
use Rattle.paraid_core.proofs.UnsyncedLemmas.{gone_lost, unsynced_kept}
use Rattle.paraid_core.proofs.staged.Core.write_whole.Given.{Over}
use Rattle.paraid_core.proofs.staged.Core.write_whole.Goals as goal
use Rattle.paraid_base.specs.declared.block.Block.{Block as BlockType}
use Rattle.paraid_view.proofs.TwoLemmas.{spared_then}
use Rattle.paraid_core.proofs.StepLemmas.{dry_both}
use Rattle.paraid_core.proofs.staged.Core.write_whole.Goals.{In_ok-try_write}

-- the plan was dropped, and made once more
module _ (g : Over) (old mid new : Core g.row.R.Denot g.R.Rack) (entry : Entry) (done : Bool) (dropped : done ≡ false) (h : History) (lo : ℕ)
    (since : Ran (g.R.Rack.told (core_rack old)) (g.R.Rack.told (core_rack mid)) (CrashTriple (IsCoreHeldSinceCommit g.R.Rack.slot_count old h lo) (CoreStandsFor g.R.Rack.slot_count old h lo)
    (CoreStandsFor g.R.Rack.slot_count mid (if done then h ++ entry ∷ [] else h) lo)))
    (slots : g.R.Rack.slot_count (core_rack mid) ≡ g.R.Rack.slot_count (core_rack old)) (setup : mid.meta.setup ≡ old.meta.setup) (named : named_of mid.store ≡ named_of old.store) (C : Disks → Type 0)
    (later : Ran (g.R.Rack.told (core_rack mid)) (g.R.Rack.told (core_rack new)) (CrashTriple (IsCoreHeldSinceCommit g.R.Rack.slot_count mid h lo) (CoreStandsFor g.R.Rack.slot_count mid h lo) C)) where
  both : Ran (g.R.Rack.told (core_rack old)) (g.R.Rack.told (core_rack new)) (CrashTriple (IsCoreHeldSinceCommit g.R.Rack.slot_count old h lo) (CoreStandsFor g.R.Rack.slot_count old h lo) C)
  both =
      after_same (g.R.Rack.slot_count (core_rack old)) _ _ _ _ _ h lo _ _ C _ _ _ slots (ap (λ (z : Setup). z.geometry.disks) setup) named
      (subst (λ (b : Bool). Ran (g.R.Rack.told (core_rack old)) (g.R.Rack.told (core_rack mid)) (CrashTriple (IsCoreHeldSinceCommit g.R.Rack.slot_count old h lo) (CoreStandsFor g.R.Rack.slot_count old h lo)
      (CoreStandsFor g.R.Rack.slot_count mid (if b then h ++ entry ∷ [] else h) lo))) dropped since) later

-- the second try is not without success
again : (g : Over) (c : In_ok-try_write g) → c.in_ok-try_write.field-0 ≡ true
again g c =
    done_then (core_down c.args.self.now) (core_down c.try_write.new.self) (core_down c.try_write-2.new.self) _ _ _ _ c.in_ok-try_write.field-0
    (c.in_ok-done.ensures.lost c.if-done.false) c.in_ok-try_write.ensures.lost

pub returns-in_err-done : goal.returns-in_err-done
returns-in_err-done g c = record {
  draft = c.try_write.ensures.draft;
  reads = record {
    stays = record {
      copied = c.try_write.ensures.reads.stays.copied;
      losses = record {
        slots = c.try_write.ensures.reads.stays.losses.slots;
        spared = c.try_write.ensures.reads.stays.losses.spared;
        two = handed (AreTwoDown (core_down c.args.self.now) (g.R.Rack.slot (core_rack c.args.self.now)) (g.R.Rack.slot (core_rack c.try_write.new.self))) c.from_residual.result _ c.from_residual.ensures.1 c.in_err-done.ensures.reads.stays.losses.two;
        tells = handed (λ two. Ran (g.R.Rack.told (store_rack c.args.self.now.store)) (g.R.Rack.told (store_rack c.try_write.new.self.store)) (λ s cs. TellsLosses (named_out c.args.self.now.meta.out) two cs)) c.from_residual.result _ c.from_residual.ensures.1 c.in_err-done.ensures.reads.stays.losses.tells;
        marks = none_done _ c.from_residual.result _ c.from_residual.ensures.1;
      };
      ready = none_done _ c.from_residual.result _ c.from_residual.ensures.1;
      setup = none_done _ c.from_residual.result _ c.from_residual.ensures.1;
      down = none_done _ c.from_residual.result _ c.from_residual.ensures.1;
    };
    serves = none_done _ c.from_residual.result _ c.from_residual.ensures.1;
    epoch = none_done _ c.from_residual.result _ c.from_residual.ensures.1;
    still_synced = c.try_write.ensures.reads.still_synced;
    calls = c.try_write.ensures.reads.calls;
    reads = c.try_write.ensures.reads.reads;
    named = c.try_write.ensures.reads.named;
    moments_since = c.try_write.ensures.reads.moments_since;
  };
  staged = none_done _ c.from_residual.result _ c.from_residual.ensures.1;
  bits = none_done _ c.from_residual.result _ c.from_residual.ensures.1;
  writes = none_done _ c.from_residual.result _ c.from_residual.ensures.1;
  unsynced = none_done _ c.from_residual.result _ c.from_residual.ensures.1;
  stands = none_done _ c.from_residual.result _ c.from_residual.ensures.1;
}

pub returns-then-done : goal.returns-then-done
returns-then-done g c = record {
  draft = c.try_write.ensures.draft;
  reads = record {
    stays = record {
      copied = c.try_write.ensures.reads.stays.copied;
      losses = record {
        slots = c.try_write.ensures.reads.stays.losses.slots;
        spared = c.try_write.ensures.reads.stays.losses.spared;
        two = tt;
        tells = tt;
        marks = c.in_ok-done.ensures.reads.stays.losses.marks;
      };
      ready = c.in_ok-done.ensures.reads.stays.ready;
      setup = c.in_ok-done.ensures.reads.stays.setup;
      down = c.in_ok-done.ensures.reads.stays.down;
    };
    serves = c.in_ok-done.ensures.reads.serves;
    epoch = c.in_ok-done.ensures.reads.epoch;
    still_synced = c.try_write.ensures.reads.still_synced;
    calls = c.try_write.ensures.reads.calls;
    reads = c.try_write.ensures.reads.reads;
    named = c.try_write.ensures.reads.named;
    moments_since = c.try_write.ensures.reads.moments_since;
  };
  staged = subst (λ (b : Bool). length c.try_write.new.self.batch ≤ length c.args.self.now.batch + (if b then 10 * c.args.pairs.now.count else 0)) c.if-done.true c.in_ok-done.ensures.room;
  bits =
      let old = c.args.self.now in
      let new = c.try_write.new.self in
      c.in_ok-done.ensures.bits ∙ ap (λ (b : Bool). if b then bits_after_writes new.meta (pairs_of c.args.pairs.now) (is_dirty old.dirty) else is_dirty old.dirty) c.if-done.true;
  writes = c.in_ok-done.ensures.writes ∙ ap (λ (b : Bool). c.args.self.now.meta.writes + (if b then 1 else 0)) c.if-done.true;
  unsynced =
      let old = c.args.self.now in
      let new = c.try_write.new.self in
      let done = c.in_ok-done.ensures in
      unsynced_kept g.R.Rack.slot old new done.reads.stays.setup (gone_lost _ _ old.meta new.meta done.reads.stays.losses.marks) c.try_write.ensures.reads.stays.losses.spared c.try_write.ensures.reads.stays.copied c.try_write.ensures.reads.still_synced;
  stands = λ h lo.
      let old = c.args.self.now in
      let new = c.try_write.new.self in
      subst (λ (b : Bool). Ran (g.R.Rack.told (core_rack old)) (g.R.Rack.told (core_rack new)) (CrashTriple (IsCoreHeldSinceCommit g.R.Rack.slot_count old h lo) (CoreStandsFor g.R.Rack.slot_count old h lo)
      (CoreStandsFor g.R.Rack.slot_count new (if b then h ++ pairs_of c.args.pairs.now ∷ [] else h) lo))) c.if-done.true (c.in_ok-done.ensures.since h lo);
}

pub try_write-requires-2 : goal.try_write-requires-2
try_write-requires-2 g c = record {
  serving = record {
    ready = c.in_ok-done.ensures.reads.stays.ready;
    serves = c.in_ok-done.ensures.reads.serves;
  };
  blocks = subst (λ (z : Setup). All (λ (pair : ℕ × BlockType). pair.0 < z.geometry.rows * (z.geometry.disks - 1)) (pairs_of c.args.pairs.now)) (sym c.in_ok-done.ensures.reads.stays.setup) c.requires.blocks;
  room = subst (λ (n : ℕ). n + 10 * c.args.pairs.now.count ≤ batch_room) (ap length (sym (c.in_ok-done.ensures.dropped c.if-done.false))) c.requires.room;
  fits =
      let old = c.args.self.now in
      let first : c.try_write.new.self.meta.writes ≡ old.meta.writes + 0 = c.in_ok-done.ensures.writes ∙ ap (λ (b : Bool). old.meta.writes + (if b then 1 else 0)) c.if-done.false in
      let fits = c.requires.fits in
      omega (arith, first, fits);
}

pub returns-in_err-try_write : goal.returns-in_err-try_write
returns-in_err-try_write g c = record {
  draft = c.try_write-2.ensures.draft;
  reads = record {
    stays = record {
      copied = c.try_write-2.ensures.reads.stays.copied ∙ c.try_write.ensures.reads.stays.copied;
      losses = record {
        slots = c.try_write-2.ensures.reads.stays.losses.slots ∙ c.try_write.ensures.reads.stays.losses.slots;
        spared = spared_then _ _ _ c.try_write.ensures.reads.stays.losses.spared c.try_write-2.ensures.reads.stays.losses.spared;
        two =
            let old = c.args.self.now in
            let mid = c.try_write.new.self in
            let new = c.try_write-2.new.self in
            handed (AreTwoDown (core_down old) (g.R.Rack.slot (core_rack old)) (g.R.Rack.slot (core_rack new))) c.from_residual-in_err-try_write.result _ c.from_residual-in_err-try_write.ensures.1
            (two_after (core_down old) (core_down mid) _ _ _ _ c.in_ok-done.ensures.reads.stays.down c.in_ok-done.ensures.reads.stays.losses.spared c.in_err-try_write.ensures.reads.stays.losses.spared c.in_err-try_write.ensures.reads.stays.losses.two);
        tells =
            let old = c.args.self.now in
            let mid = c.try_write.new.self in
            let marks = c.in_ok-done.ensures.reads.stays.losses.marks in
            handed (λ two. Ran (g.R.Rack.told (store_rack c.args.self.now.store)) (g.R.Rack.told (store_rack c.try_write-2.new.self.store)) (λ s cs. TellsLosses (named_out c.args.self.now.meta.out) two cs)) c.from_residual-in_err-try_write.result _ c.from_residual-in_err-try_write.ensures.1
            (core_tells_then g.R.Rack.slot g.R.Rack.told g.met.R.Rack.agrees old mid c.requires.serving.ready.absent marks c.try_write-2.new.self _
            (data_bears g.R.Rack.slot g.R.Rack.told g.met.R.Rack.agrees old mid c.requires.serving.ready.absent marks c.try_write.ensures.reads.calls) c.in_err-try_write.ensures.reads.stays.losses.tells);
        marks = none_done _ c.from_residual-in_err-try_write.result _ c.from_residual-in_err-try_write.ensures.1;
      };
      ready = none_done _ c.from_residual-in_err-try_write.result _ c.from_residual-in_err-try_write.ensures.1;
      setup = none_done _ c.from_residual-in_err-try_write.result _ c.from_residual-in_err-try_write.ensures.1;
      down = none_done _ c.from_residual-in_err-try_write.result _ c.from_residual-in_err-try_write.ensures.1;
    };
    serves = none_done _ c.from_residual-in_err-try_write.result _ c.from_residual-in_err-try_write.ensures.1;
    epoch = none_done _ c.from_residual-in_err-try_write.result _ c.from_residual-in_err-try_write.ensures.1;
    still_synced = dry_both (g.R.Rack.slot (core_rack c.args.self.now)) (g.R.Rack.slot (core_rack c.try_write.new.self)) (g.R.Rack.slot (core_rack c.try_write-2.new.self)) c.try_write.ensures.reads.still_synced c.try_write-2.ensures.reads.still_synced c.try_write-2.ensures.reads.stays.losses.spared;
    calls =
        calls_then _ _ _ _ c.try_write.ensures.reads.calls
        (data_after c.args.self.now.meta c.try_write.new.self.meta c.in_ok-done.ensures.reads.stays.setup (λ d is. absurd (none_gone (named_of c.args.self.now.store) c.args.self.now.meta.out d (c.in_ok-done.ensures.lost c.if-done.false).none is)) _ _ c.try_write-2.ensures.reads.calls);
    reads = reads_then _ _ (ap (λ (z : Setup). z.geometry.disks) c.in_ok-done.ensures.reads.stays.setup) _ _ _ c.try_write.ensures.reads.reads c.try_write-2.ensures.reads.reads;
    named = c.try_write-2.ensures.reads.named ∙ c.try_write.ensures.reads.named;
    moments_since = λ h lo.
        let done = c.in_ok-done.ensures in
        ended _ _ (IsCoreHeldSinceCommit g.R.Rack.slot_count c.try_write.new.self h lo) _ _
        (both g c.args.self.now c.try_write.new.self c.try_write-2.new.self (pairs_of c.args.pairs.now) c.in_ok-done.done c.if-done.false h lo (done.since h lo) done.reads.stays.losses.slots done.reads.stays.setup done.reads.named
        (IsCoreHeldSinceCommit g.R.Rack.slot_count c.try_write.new.self h lo) (c.in_err-try_write.ensures.reads.moments_since h lo));
  };
  staged = none_done _ c.from_residual-in_err-try_write.result _ c.from_residual-in_err-try_write.ensures.1;
  bits = none_done _ c.from_residual-in_err-try_write.result _ c.from_residual-in_err-try_write.ensures.1;
  writes = none_done _ c.from_residual-in_err-try_write.result _ c.from_residual-in_err-try_write.ensures.1;
  unsynced = none_done _ c.from_residual-in_err-try_write.result _ c.from_residual-in_err-try_write.ensures.1;
  stands = none_done _ c.from_residual-in_err-try_write.result _ c.from_residual-in_err-try_write.ensures.1;
}

pub returns : goal.returns
returns g c = record {
  draft = c.try_write-2.ensures.draft;
  reads = record {
    stays = record {
      copied = c.try_write-2.ensures.reads.stays.copied ∙ c.try_write.ensures.reads.stays.copied;
      losses = record {
        slots = c.try_write-2.ensures.reads.stays.losses.slots ∙ c.try_write.ensures.reads.stays.losses.slots;
        spared = spared_then _ _ _ c.try_write.ensures.reads.stays.losses.spared c.try_write-2.ensures.reads.stays.losses.spared;
        two = tt;
        tells = tt;
        marks = marks_then _ _ _ _ _ _ c.in_ok-done.ensures.reads.stays.losses.marks c.in_ok-try_write.ensures.reads.stays.losses.marks c.try_write.ensures.reads.stays.losses.spared c.try_write-2.ensures.reads.stays.losses.spared;
      };
      ready = c.in_ok-try_write.ensures.reads.stays.ready;
      setup = c.in_ok-try_write.ensures.reads.stays.setup ∙ c.in_ok-done.ensures.reads.stays.setup;
      down = down_both _ _ _ _ _ _ c.in_ok-done.ensures.reads.stays.down c.try_write.ensures.reads.stays.losses.spared c.in_ok-try_write.ensures.reads.stays.down c.try_write-2.ensures.reads.stays.losses.spared;
    };
    serves = c.in_ok-try_write.ensures.reads.serves;
    epoch = c.in_ok-try_write.ensures.reads.epoch ∙ c.in_ok-done.ensures.reads.epoch;
    still_synced = dry_both (g.R.Rack.slot (core_rack c.args.self.now)) (g.R.Rack.slot (core_rack c.try_write.new.self)) (g.R.Rack.slot (core_rack c.try_write-2.new.self)) c.try_write.ensures.reads.still_synced c.try_write-2.ensures.reads.still_synced c.try_write-2.ensures.reads.stays.losses.spared;
    calls =
        calls_then _ _ _ _ c.try_write.ensures.reads.calls
        (data_after c.args.self.now.meta c.try_write.new.self.meta c.in_ok-done.ensures.reads.stays.setup (λ d is. absurd (none_gone (named_of c.args.self.now.store) c.args.self.now.meta.out d (c.in_ok-done.ensures.lost c.if-done.false).none is)) _ _ c.try_write-2.ensures.reads.calls);
    reads = reads_then _ _ (ap (λ (z : Setup). z.geometry.disks) c.in_ok-done.ensures.reads.stays.setup) _ _ _ c.try_write.ensures.reads.reads c.try_write-2.ensures.reads.reads;
    named = c.try_write-2.ensures.reads.named ∙ c.try_write.ensures.reads.named;
    moments_since = λ h lo.
        let done = c.in_ok-done.ensures in
        ended _ _ (IsCoreHeldSinceCommit g.R.Rack.slot_count c.try_write.new.self h lo) _ _
        (both g c.args.self.now c.try_write.new.self c.try_write-2.new.self (pairs_of c.args.pairs.now) c.in_ok-done.done c.if-done.false h lo (done.since h lo) done.reads.stays.losses.slots done.reads.stays.setup done.reads.named
        (IsCoreHeldSinceCommit g.R.Rack.slot_count c.try_write.new.self h lo) (c.in_ok-try_write.ensures.reads.moments_since h lo));
  };
  staged =
      let old = c.args.self.now in
      let mid = c.try_write.new.self in
      let new = c.try_write-2.new.self in
      subst (λ (n : ℕ). length new.batch ≤ n + 10 * c.args.pairs.now.count) (ap length (c.in_ok-done.ensures.dropped c.if-done.false))
      (subst (λ (b : Bool). length new.batch ≤ length mid.batch + (if b then 10 * c.args.pairs.now.count else 0)) (again g c) c.in_ok-try_write.ensures.room);
  bits =
      let old = c.args.self.now in
      let mid = c.try_write.new.self in
      let new = c.try_write-2.new.self in
      c.in_ok-try_write.ensures.bits ∙ ap (λ (b : Bool). if b then bits_after_writes new.meta (pairs_of c.args.pairs.now) (is_dirty mid.dirty) else is_dirty mid.dirty) (again g c)
      ∙ ap (bits_after_writes new.meta (pairs_of c.args.pairs.now))
      (c.in_ok-done.ensures.bits ∙ ap (λ (b : Bool). if b then bits_after_writes mid.meta (pairs_of c.args.pairs.now) (is_dirty old.dirty) else is_dirty old.dirty) c.if-done.false);
  writes =
      let old = c.args.self.now in
      let mid = c.try_write.new.self in
      let first : mid.meta.writes ≡ old.meta.writes + 0 = c.in_ok-done.ensures.writes ∙ ap (λ (b : Bool). old.meta.writes + (if b then 1 else 0)) c.if-done.false in
      let second = c.in_ok-try_write.ensures.writes ∙ ap (λ (b : Bool). mid.meta.writes + (if b then 1 else 0)) (again g c) in
      omega (arith, first, second);
  unsynced = λ was.
      let old = c.args.self.now in
      let mid = c.try_write.new.self in
      let new = c.try_write-2.new.self in
      let first = c.in_ok-done.ensures in
      let second = c.in_ok-try_write.ensures in
      unsynced_kept g.R.Rack.slot mid new second.reads.stays.setup (gone_lost _ _ mid.meta new.meta second.reads.stays.losses.marks) c.try_write-2.ensures.reads.stays.losses.spared c.try_write-2.ensures.reads.stays.copied c.try_write-2.ensures.reads.still_synced
      (unsynced_kept g.R.Rack.slot old mid first.reads.stays.setup (gone_lost _ _ old.meta mid.meta first.reads.stays.losses.marks) c.try_write.ensures.reads.stays.losses.spared c.try_write.ensures.reads.stays.copied c.try_write.ensures.reads.still_synced was);
  stands = λ h lo.
      let mid = c.try_write.new.self in
      let new = c.try_write-2.new.self in
      let done = c.in_ok-done.ensures in
      both g c.args.self.now mid new (pairs_of c.args.pairs.now) c.in_ok-done.done c.if-done.false h lo (done.since h lo) done.reads.stays.losses.slots done.reads.stays.setup done.reads.named _
      (subst (λ (b : Bool). Ran (g.R.Rack.told (core_rack mid)) (g.R.Rack.told (core_rack new)) (CrashTriple (IsCoreHeldSinceCommit g.R.Rack.slot_count mid h lo) (CoreStandsFor g.R.Rack.slot_count mid h lo)
      (CoreStandsFor g.R.Rack.slot_count new (if b then h ++ pairs_of c.args.pairs.now ∷ [] else h) lo))) (again g c) (c.in_ok-try_write.ensures.since h lo));
}

pub try_write-requires : goal.try_write-requires
try_write-requires g c = record {
  serving = record {
    ready = c.requires.serving.ready;
    serves = c.requires.serving.serves;
  };
  blocks = c.requires.blocks;
  room = c.requires.room;
  fits = c.requires.fits;
}
