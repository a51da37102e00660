use Rattle.paraid_record.specs.declared.meta.Setup.{Setup}
use Rattle.std.specs.Prelude.{true, false}
use Rattle.std.proofs.Common.{◌≡◌, ◌∙◌, arith, below_more, refl, inl, subst, ◌<◌, sym}
use Rattle.paraid_txn.specs.Losses.{IsSyncedAt}
use Rattle.paraid_txn.specs.Stores.{store_rack}
use Rattle.paraid_view.proofs.TwoLemmas.{spared_then}
use Rattle.paraid_core.specs.CoreInvariant.{is_copied}
use Rattle.paraid_core.proofs.SettleCellLemmas.{copied_none, copied_then}
use Rattle.paraid_core.proofs.SettleUnitLemmas.{units_none, units_then}
use Rattle.paraid_core.proofs.StepLemmas.{dry_both, filled_none, filled_then, still_synced, held_then, leaves_none, leaves_then, stands_none, stands_then, stands_held, two_then, marked_from_setup}
use Rattle.paraid_core.proofs.KindLemmas.{calls_none, calls_then, copy_syncs_still}
use Rattle.paraid_core.proofs.LostMarkLemmas.{marks_none, marks_then}
use Rattle.paraid_core.proofs.OrderLemmas.{core_tells_then, sync_bears}
use Rattle.paraid_rack.specs.Told.{Ran}
use Rattle.paraid_image.specs.Out.{named_out}
use Rattle.paraid_image.specs.Lost.{TellsLosses}
use Rattle.paraid_core.proofs.AfterLemmas.{handed}
use Rattle.paraid_core.proofs.ErrLemmas.{none_done}
use Rattle.paraid_core.proofs.staged.Core.settle.Goals as goal

pub loop-disk-init : goal.loop-disk-init
loop-disk-init g c = record {
  leaves = leaves_none g.R.Rack.slot_count g.R.Rack.slot g.R.Rack.told c.args.self.now c.requires.ready c.requires.still;
  still_synced = λ d here wet. inl wet;
  synced = λ d lt is. absurd (omega arith);
  copies_synced = λ d lt. absurd (omega arith);
  others = λ d le. refl;
  stands = stands_none g.R.Rack.slot_count g.R.Rack.slot g.R.Rack.told c.args.self.now;
  calls = calls_none _ (g.R.Rack.told (store_rack c.args.self.now.store));
  marks = marks_none c.args.self.now.meta c.args.self.now.meta _ _ c.args.self.now.meta.epoch c.args.self.now.meta.writes (λ d. refl) refl;
  filled = filled_none g.R.Rack.slot_count g.R.Rack.slot g.R.Rack.told c.args.self.now;
  cells = copied_none g.R.Rack.slot_count g.R.Rack.slot g.R.Rack.told c.args.self.now;
  rebuilt = units_none g.R.Rack.slot_count g.R.Rack.slot g.R.Rack.told c.args.self.now;
}

pub loop-disk-preserved : goal.loop-disk-preserved
loop-disk-preserved g c =
    let was = c.loop-disk.invariant in
    let one = c.in_ok-settle_one.ensures in
    record {
      leaves = leaves_then g.R.Rack.slot_count g.R.Rack.slot g.R.Rack.told c.args.self.now c.loop-disk.self was.leaves c.settle_one.new.self one.keeps.stays.leaves;
      still_synced = dry_both (g.R.Rack.slot (store_rack c.args.self.now.store)) (g.R.Rack.slot (store_rack c.loop-disk.self.store)) (g.R.Rack.slot (store_rack c.settle_one.new.self.store)) was.still_synced c.settle_one.ensures.keeps.stays.still_synced c.settle_one.ensures.keeps.stays.losses.spared;
      synced = below_more (λ d. is_copied c.args.self.now.copied d ≡ true → IsSyncedAt (g.R.Rack.slot (store_rack c.settle_one.new.self.store)) d) c.loop-disk.disk
          (λ d lt is. still_synced (g.R.Rack.slot (store_rack c.loop-disk.self.store)) (g.R.Rack.slot (store_rack c.settle_one.new.self.store)) d (was.synced d lt is) c.settle_one.ensures.keeps.stays.still_synced c.settle_one.ensures.keeps.stays.losses.spared)
          (λ is. one.synced (was.others c.loop-disk.disk (omega arith) ∙ is));
      copies_synced = below_more (λ d. is_copied c.settle_one.new.self.copied d ≡ false) c.loop-disk.disk
          (λ d lt. one.cleared.others d (λ is. absurd (omega arith)) ∙ was.copies_synced d lt) one.cleared.here;
      others = λ d le. one.cleared.others d (λ is. absurd (omega arith)) ∙ was.others d (omega arith);
      marks = marks_then _ _ _ _ _ _ was.marks one.keeps.stays.losses.marks was.leaves.spared c.settle_one.ensures.keeps.stays.losses.spared;
      calls = calls_then _ _ _ _ was.calls (copy_syncs_still _ _ was.leaves.meta c.loop-disk.disk _ _ was.copies_synced was.others _ _ c.settle_one.ensures.calls);
      stands = stands_then g.R.Rack.slot_count g.R.Rack.slot g.R.Rack.told c.args.self.now c.loop-disk.self was.leaves c.settle_one.new.self was.stands one.keeps.stays.stands;
      filled = filled_then g.R.Rack.slot_count g.R.Rack.slot g.R.Rack.told c.args.self.now c.loop-disk.self was.leaves c.settle_one.new.self one.keeps.stays.leaves was.filled one.keeps.filled;
      cells = copied_then g.R.Rack.slot_count g.R.Rack.slot g.R.Rack.told c.args.self.now c.loop-disk.self c.settle_one.new.self was.leaves one.keeps.stays.leaves was.cells one.keeps.cells;
      rebuilt = units_then g.R.Rack.slot_count g.R.Rack.slot g.R.Rack.told c.args.self.now c.loop-disk.self c.settle_one.new.self was.leaves one.keeps.stays.leaves was.rebuilt one.keeps.rebuilt;
    }

pub returns-in_err-settle_one : goal.returns-in_err-settle_one
returns-in_err-settle_one g c = record {
  keeps = record {
    stays = record {
      leaves = none_done _ c.from_residual.result _ c.from_residual.ensures.1;
      losses = record {
        slots = c.settle_one.ensures.keeps.stays.losses.slots ∙ c.loop-disk.invariant.leaves.slots;
        spared = spared_then _ _ _ c.loop-disk.invariant.leaves.spared c.settle_one.ensures.keeps.stays.losses.spared;
        two =
            handed _ c.from_residual.result _ c.from_residual.ensures.1
            (two_then g.R.Rack.slot_count g.R.Rack.slot g.R.Rack.told c.args.self.now c.loop-disk.self c.loop-disk.invariant.leaves c.settle_one.new.self c.settle_one.ensures.keeps.stays.losses.spared _ c.in_err-settle_one.ensures.keeps.stays.losses.two);
        tells =
            let old = c.args.self.now in
            let mid = c.loop-disk.self in
            let marks = c.loop-disk.invariant.marks in
            handed (λ two. Ran (g.R.Rack.told (store_rack c.args.self.now.store)) (g.R.Rack.told (store_rack c.settle_one.new.self.store)) (λ s cs. TellsLosses (named_out c.args.self.now.meta.out) two cs)) c.from_residual.result _ c.from_residual.ensures.1
            (core_tells_then g.R.Rack.slot g.R.Rack.told g.met.R.Rack.agrees old mid c.requires.ready.absent marks c.settle_one.new.self _
            (sync_bears g.R.Rack.slot g.R.Rack.told g.met.R.Rack.agrees old mid c.requires.ready.absent marks c.loop-disk.invariant.calls) c.in_err-settle_one.ensures.keeps.stays.losses.tells);
        marks = none_done _ c.from_residual.result _ c.from_residual.ensures.1;
      };
      still_synced = dry_both (g.R.Rack.slot (store_rack c.args.self.now.store)) (g.R.Rack.slot (store_rack c.loop-disk.self.store)) (g.R.Rack.slot (store_rack c.settle_one.new.self.store)) c.loop-disk.invariant.still_synced c.settle_one.ensures.keeps.stays.still_synced c.settle_one.ensures.keeps.stays.losses.spared;
      moments =
          let was = c.loop-disk.invariant in
          held_then g.R.Rack.slot_count g.R.Rack.slot g.R.Rack.told c.args.self.now c.loop-disk.self was.leaves c.settle_one.new.self was.stands c.settle_one.ensures.keeps.stays.moments;
      stands = none_done _ c.from_residual.result _ c.from_residual.ensures.1;
    };
    filled = none_done _ c.from_residual.result _ c.from_residual.ensures.1;
    cells = none_done _ c.from_residual.result _ c.from_residual.ensures.1;
    rebuilt = none_done _ c.from_residual.result _ c.from_residual.ensures.1;
  };
  synced = none_done _ c.from_residual.result _ c.from_residual.ensures.1;
  copies_synced = none_done _ c.from_residual.result _ c.from_residual.ensures.1;
  calls =
      let was = c.loop-disk.invariant in
      calls_then _ _ _ _ was.calls
      (copy_syncs_still _ _ was.leaves.meta c.loop-disk.disk _ _ was.copies_synced was.others _ _ c.settle_one.ensures.calls);
}

pub returns : goal.returns
returns g c = record {
  keeps = record {
    stays = record {
      leaves = c.loop-disk.invariant.leaves;
      losses = record {
        slots = c.loop-disk.invariant.leaves.slots;
        spared = c.loop-disk.invariant.leaves.spared;
        two = tt;
        tells = tt;
        marks = c.loop-disk.invariant.marks;
      };
      still_synced = c.loop-disk.invariant.still_synced;
      moments =
          let was = c.loop-disk.invariant in
          stands_held g.R.Rack.slot_count g.R.Rack.slot g.R.Rack.told c.args.self.now c.loop-disk.self was.leaves was.stands;
      stands = c.loop-disk.invariant.stands;
    };
    filled = c.loop-disk.invariant.filled;
    cells = c.loop-disk.invariant.cells;
    rebuilt = c.loop-disk.invariant.rebuilt;
  };
  synced = λ d low is. let past = c.loop-disk-test.false in c.loop-disk.invariant.synced d (omega (arith, low, past)) is;
  copies_synced = λ d low. let past = c.loop-disk-test.false in c.loop-disk.invariant.copies_synced d (omega (arith, low, past));
  calls = c.loop-disk.invariant.calls;
}

pub settle_one-requires : goal.settle_one-requires
settle_one-requires g c = record {
  ready = c.loop-disk.invariant.leaves.ready;
  still = c.loop-disk.invariant.leaves.still;
  disk = subst (λ (z : Setup). c.loop-disk.disk < z.geometry.disks) (sym (marked_from_setup c.args.self.now.meta c.loop-disk.self.meta c.loop-disk.invariant.leaves.meta)) c.loop-disk-test.true;
}
