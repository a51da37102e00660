use Rattle.std.specs.Prelude.{ℕ, Option}
use Rattle.std.proofs.Common.{◌≡◌, ◌+◌, ◌∙◌, ap, arith, length, refl, subst, sym, true}
use Rattle.paraid_record.specs.declared.meta.Setup.{Setup}
use Rattle.paraid_image.specs.Lost.{TellsLosses}
use Rattle.paraid_image.specs.Out.{named_out}
use Rattle.paraid_rack.specs.Told.{Ran}
use Rattle.paraid_rack.specs.Trail.{now}
use Rattle.paraid_txn.specs.Losses.{AreTwoDown}
use Rattle.paraid_txn.specs.Stores.{named_of, store_rack}
use Rattle.paraid_core.specs.Cores.{CoreStandsFor, IsCoreHeld, IsCoreHeldSinceCommit, core_down, core_rack}
use Rattle.paraid_core.proofs.AfterLemmas.{handed}
use Rattle.paraid_upkeep.proofs.ResultLemmas.{none_done, none_done_if}
use Rattle.paraid_core.proofs.ChainLemmas.{after_raised, ended, two_after}
use Rattle.paraid_core.proofs.CleanLemmas.{after_first}
use Rattle.paraid_core.proofs.KindLemmas.{calls_then, transfer_after}
use Rattle.paraid_core.proofs.LostMarkLemmas.{marks_then}
use Rattle.paraid_core.proofs.OldNewLemmas.{whole_then_reads}
use Rattle.paraid_core.proofs.OrderLemmas.{core_tells_then, down_is_named, transfer_bears}
use Rattle.paraid_core.proofs.UnsyncedLemmas.{gone_lost}
use Rattle.paraid_array.proofs.CheckLemmas.{counts_by, failed_one}
use Rattle.paraid_array.proofs.CountLemmas.{counts_all, counts_none, was_down, spins_then}
use Rattle.paraid_array.specs.Checked.{CountsCommitted}
use Rattle.paraid_scrub.specs.Cores.{core_view, table_view}
use Rattle.paraid_scrub.specs.Counts.{no_faults}
use Rattle.paraid_scrub.specs.declared.kind.CheckReport.{CheckReport}
use Rattle.paraid_array.proofs.counting.commit_and_count.Goals as goal

pub commit-requires : goal.commit-requires
commit-requires g c = record {
  ready = c.requires.can.ready;
  committable = record {
    epoch = c.requires.can.epoch;
    copies_synced = c.requires.can.copies_synced;
  };
}

pub returns-in_err-commit : goal.returns-in_err-commit
returns-in_err-commit g c = record {
  copied = c.commit.ensures.stays.copied;
  leaves = none_done _ c.from_residual.result _ c.from_residual.ensures.1;
  rack = record {
    slots = c.commit.ensures.stays.losses.slots;
    no_fall = c.commit.ensures.stays.losses.spared.no_fall;
    two = handed _ c.from_residual.result _ c.from_residual.ensures.1 c.in_err-commit.ensures.stays.losses.two;
    loses =
        let old = c.args.core.now in
        handed (λ two. Ran (g.R.Rack.told (store_rack old.store)) (g.R.Rack.told (store_rack c.commit.new.self.store)) (λ s cs. TellsLosses (named_out old.meta.out) two cs)) c.from_residual.result _ c.from_residual.ensures.1
        (subst (λ (o : Option ℕ). Ran (g.R.Rack.told (store_rack old.store)) (g.R.Rack.told (store_rack c.commit.new.self.store)) (λ s cs. TellsLosses o c.in_err-commit.field-0.0 cs)) (down_is_named (named_of old.store) (named_out old.meta.out) c.requires.can.serves.stays) c.in_err-commit.ensures.stays.losses.tells);
  };
  calls = c.commit.ensures.brings.calls;
  whole = c.commit.ensures.brings.whole;
  moments = c.commit.ensures.held.moments;
  stands = none_done _ c.from_residual.result _ c.from_residual.ensures.1;
  sound = none_done_if _ c.from_residual.result _ c.from_residual.ensures.1;
  counts = none_done_if _ c.from_residual.result _ c.from_residual.ensures.1;
}

pub returns-then-is_another_out : goal.returns-then-is_another_out
returns-then-is_another_out g c = record {
  copied = c.commit.ensures.stays.copied;
  leaves = record {
    draft = c.commit.ensures.cells.draft ∙ c.requires.can.no_draft;
    table = c.commit.ensures.cells.table;
    nothing = c.in_ok-commit.ensures.nothing;
    ready = c.in_ok-commit.ensures.stays.ready;
    serves = c.in_ok-commit.ensures.serves c.requires.can.serves;
    setup = c.in_ok-commit.ensures.stays.setup;
    writes = c.in_ok-commit.ensures.cells.writes;
    epoch = c.in_ok-commit.ensures.meta.epoch;
    unsynced = c.in_ok-commit.ensures.unsynced;
    named = c.in_ok-commit.ensures.meta.named;
    marks = c.in_ok-commit.ensures.stays.losses.marks;
  };
  rack = record {
    slots = c.commit.ensures.stays.losses.slots;
    no_fall = c.commit.ensures.stays.losses.spared.no_fall;
    two = tt;
    loses = tt;
  };
  calls = c.commit.ensures.brings.calls;
  whole = c.commit.ensures.brings.whole;
  moments = c.commit.ensures.held.moments;
  stands = c.in_ok-commit.ensures.held.stands;
  sound = λ h lo t tells stood some. c.nothing_counted.ensures;
  counts =
      let done = c.in_ok-commit.ensures in
      subst (λ (r : CheckReport). CountsCommitted g.R.Rack.slot g.R.Rack.told c.args.core.now c.commit.new.self r) (sym c.nothing_counted.ensures)
      (counts_none g.R.Rack.slot g.R.Rack.told c.args.core.now c.commit.new.self done.nothing c.commit.ensures.cells.table done.stays.losses.marks c.commit.ensures.brings.calls c.requires.can.ready.absent c.requires.can.fresh (λ same. c.if-is_another_out.ensures refl (c.out.ensures ∙ same ∙ sym c.out-out.ensures)));
}

pub check-requires : goal.check-requires
check-requires g c =
    let old = c.args.core.now in
    let mid = c.commit.new.self in
    let first = c.in_ok-commit.ensures in
    record {
      can = record {
        ready = first.stays.ready;
        serves = first.serves c.requires.can.serves;
        draft = c.commit.ensures.cells.draft ∙ c.requires.can.no_draft;
        nothing = first.nothing;
        fresh = spins_then (g.R.Rack.slot (core_rack old)) (g.R.Rack.slot (core_rack mid)) old.meta mid.meta first.stays.losses.marks c.requires.can.fresh;
      };
    }

pub returns-in_err-checked : goal.returns-in_err-checked
returns-in_err-checked g c = record {
  copied = c.check.ensures.leaves.copied ∙ c.commit.ensures.stays.copied;
  leaves = none_done _ c.from_residual-in_err-checked.result _ c.from_residual-in_err-checked.ensures.1;
  rack = record {
    slots = c.check.ensures.leaves.slots ∙ c.commit.ensures.stays.losses.slots;
    no_fall = λ d. omega (arith, c.commit.ensures.stays.losses.spared.no_fall d, c.check.ensures.leaves.spared.no_fall d);
    two =
        let old = c.args.core.now in
        let first = c.in_ok-commit.ensures in
        handed (AreTwoDown (core_down old) (g.R.Rack.slot (core_rack old)) (g.R.Rack.slot (core_rack c.check.new.core))) c.from_residual-in_err-checked.result _ c.from_residual-in_err-checked.ensures.1
        (two_after (core_down old) (core_down c.commit.new.self) _ _ _ _ first.stays.down c.commit.ensures.stays.losses.spared c.check.ensures.leaves.spared c.in_err-checked.ensures.leaves.two);
    loses =
        let old = c.args.core.now in
        let mid = c.commit.new.self in
        let marks = c.in_ok-commit.ensures.stays.losses.marks in
        handed (λ two. Ran (g.R.Rack.told (store_rack old.store)) (g.R.Rack.told (store_rack c.check.new.core.store)) (λ s cs. TellsLosses (named_out old.meta.out) two cs)) c.from_residual-in_err-checked.result _ c.from_residual-in_err-checked.ensures.1
        (core_tells_then g.R.Rack.slot g.R.Rack.told g.met.R.Rack.agrees old mid c.requires.can.ready.absent marks c.check.new.core _
        (transfer_bears g.R.Rack.slot g.R.Rack.told g.met.R.Rack.agrees old mid c.requires.can.ready.absent marks c.commit.ensures.brings.calls) c.in_err-checked.ensures.leaves.tells);
  };
  calls =
      let old = c.args.core.now in
      let mid = c.commit.new.self in
      let first = c.in_ok-commit.ensures in
      calls_then _ _ (g.R.Rack.told (core_rack mid)) _ c.commit.ensures.brings.calls
      (transfer_after old.meta mid.meta first.stays.setup (gone_lost _ _ old.meta mid.meta first.stays.losses.marks) _ _ c.check.ensures.leaves.calls);
  whole = λ h lo.
      let old = c.args.core.now in
      whole_then_reads (CoreStandsFor g.R.Rack.slot_count old h lo) (λ s k. k.base) (record old.meta { epoch = old.meta.epoch + 1 }) old.batch c.commit.new.self.meta.setup.geometry.disks (λ s k. k.next.setup)
      (ap (λ (z : Setup). z.geometry.disks) c.in_ok-commit.ensures.stays.setup) _ _ _ (c.commit.ensures.brings.whole h lo) c.check.ensures.leaves.reads;
  moments = λ h lo.
      let old = c.args.core.now in
      let mid = c.commit.new.self in
      let first = c.in_ok-commit.ensures in
      ended _ _ (IsCoreHeldSinceCommit g.R.Rack.slot_count mid h (length h)) _ _
      (after_raised (g.R.Rack.slot_count (core_rack old)) _ old.meta.setup.geometry.disks _ (core_down old) (named_of mid.store) (named_of old.store) old.meta old.dirty old.batch old.copied true h lo _
      (IsCoreHeldSinceCommit g.R.Rack.slot_count mid h (length h)) _ _ _
      c.commit.ensures.stays.losses.slots (ap (λ (z : Setup). z.geometry.disks) first.stays.setup) (was_down g.R.Rack.slot old c.requires.can.serves (named_of mid.store) first.meta.named)
      (first.held.stands h lo) (c.check.ensures.leaves.moments_since h (length h)));
  stands = none_done _ c.from_residual-in_err-checked.result _ c.from_residual-in_err-checked.ensures.1;
  sound = none_done_if _ c.from_residual-in_err-checked.result _ c.from_residual-in_err-checked.ensures.1;
  counts = none_done_if _ c.from_residual-in_err-checked.result _ c.from_residual-in_err-checked.ensures.1;
}

pub returns : goal.returns
returns g c = record {
  copied = c.check.ensures.leaves.copied ∙ c.commit.ensures.stays.copied;
  leaves = record {
    draft = c.in_ok-checked.ensures.serves.draft ∙ c.commit.ensures.cells.draft ∙ c.requires.can.no_draft;
    table = c.in_ok-checked.ensures.serves.table ∙ c.commit.ensures.cells.table;
    nothing = c.in_ok-checked.ensures.serves.batch ∙ c.in_ok-commit.ensures.nothing;
    ready = c.in_ok-checked.ensures.serves.ready;
    serves = c.in_ok-checked.ensures.serves.serves;
    setup = c.in_ok-checked.ensures.serves.setup ∙ c.in_ok-commit.ensures.stays.setup;
    writes = c.in_ok-checked.ensures.serves.writes ∙ c.in_ok-commit.ensures.cells.writes;
    epoch = c.in_ok-checked.ensures.serves.epoch ∙ c.in_ok-commit.ensures.meta.epoch;
    unsynced = λ was. c.in_ok-checked.ensures.serves.unsynced (c.in_ok-commit.ensures.unsynced was);
    named = c.in_ok-checked.ensures.serves.named ∙ c.in_ok-commit.ensures.meta.named;
    marks = marks_then _ _ _ _ _ _ c.in_ok-commit.ensures.stays.losses.marks c.in_ok-checked.ensures.serves.marks c.commit.ensures.stays.losses.spared c.check.ensures.leaves.spared;
  };
  rack = record {
    slots = c.check.ensures.leaves.slots ∙ c.commit.ensures.stays.losses.slots;
    no_fall = λ d. omega (arith, c.commit.ensures.stays.losses.spared.no_fall d, c.check.ensures.leaves.spared.no_fall d);
    two = tt;
    loses = tt;
  };
  calls =
      let old = c.args.core.now in
      let mid = c.commit.new.self in
      let first = c.in_ok-commit.ensures in
      calls_then _ _ (g.R.Rack.told (core_rack mid)) _ c.commit.ensures.brings.calls
      (transfer_after old.meta mid.meta first.stays.setup (gone_lost _ _ old.meta mid.meta first.stays.losses.marks) _ _ c.check.ensures.leaves.calls);
  whole = λ h lo.
      let old = c.args.core.now in
      whole_then_reads (CoreStandsFor g.R.Rack.slot_count old h lo) (λ s k. k.base) (record old.meta { epoch = old.meta.epoch + 1 }) old.batch c.commit.new.self.meta.setup.geometry.disks (λ s k. k.next.setup)
      (ap (λ (z : Setup). z.geometry.disks) c.in_ok-commit.ensures.stays.setup) _ _ _ (c.commit.ensures.brings.whole h lo) c.check.ensures.leaves.reads;
  moments = λ h lo.
      let old = c.args.core.now in
      let mid = c.commit.new.self in
      let first = c.in_ok-commit.ensures in
      ended _ _ (IsCoreHeldSinceCommit g.R.Rack.slot_count mid h (length h)) _ _
      (after_raised (g.R.Rack.slot_count (core_rack old)) _ old.meta.setup.geometry.disks _ (core_down old) (named_of mid.store) (named_of old.store) old.meta old.dirty old.batch old.copied true h lo _
      (IsCoreHeldSinceCommit g.R.Rack.slot_count mid h (length h)) _ _ _
      c.commit.ensures.stays.losses.slots (ap (λ (z : Setup). z.geometry.disks) first.stays.setup) (was_down g.R.Rack.slot old c.requires.can.serves (named_of mid.store) first.meta.named)
      (first.held.stands h lo) (c.check.ensures.leaves.moments_since h (length h)));
  stands = λ h lo.
      let old = c.args.core.now in
      let mid = c.commit.new.self in
      let first = c.in_ok-commit.ensures in
      after_raised (g.R.Rack.slot_count (core_rack old)) _ old.meta.setup.geometry.disks _ (core_down old) (named_of mid.store) (named_of old.store) old.meta old.dirty old.batch old.copied true h lo (CoreStandsFor g.R.Rack.slot_count mid h (length h))
      (CoreStandsFor g.R.Rack.slot_count c.check.new.core h (length h)) _ _ _
      c.commit.ensures.stays.losses.slots (ap (λ (z : Setup). z.geometry.disks) first.stays.setup) (was_down g.R.Rack.slot old c.requires.can.serves (named_of mid.store) first.meta.named)
      (first.held.stands h lo) (c.in_ok-checked.ensures.serves.since h (length h));
  sound = λ h lo t tells a some.
      let old = c.args.core.now in
      let mid = c.commit.new.self in
      after_first (IsCoreHeld g.R.Rack.slot_count old h lo) (CoreStandsFor g.R.Rack.slot_count old h lo) (CoreStandsFor g.R.Rack.slot_count mid h (length h)) _ (c.in_ok-checked.checked.report ≡ no_faults) _ _ _
      (c.in_ok-commit.ensures.held.stands h lo) (c.in_ok-checked.ensures.serves.since h (length h)) (λ u knows b is. c.in_ok-checked.ensures.zeros h (length h) u knows b is) t tells a some;
  counts =
      let done = c.in_ok-commit.ensures in
      let kept = c.commit.new.self in
      let new = c.check.new.core in
      let checked = c.in_ok-checked.checked in
      counts_all g.R.Rack.slot g.R.Rack.told c.args.core.now kept done.nothing c.commit.ensures.cells.table done.stays.losses.marks c.commit.ensures.brings.calls new checked.report c.commit.ensures.stays.losses.spared c.check.ensures.leaves.reads
      (λ t tells some. let it = c.in_ok-checked.ensures.by_table t tells some in
      counts_by (table_view kept (now t)) (g.R.Rack.slot (core_rack kept)) (g.R.Rack.slot (core_rack new)) checked.report checked.whole it.0 it.1 it.2 (λ part. failed_one g.R.Rack.slot kept new (c.in_ok-checked.ensures.ended part)))
      (λ t tells some bits. let it = c.in_ok-checked.ensures.counts t tells some bits in
      counts_by (core_view kept (now t)) (g.R.Rack.slot (core_rack kept)) (g.R.Rack.slot (core_rack new)) checked.report checked.whole it.0 it.1 it.2 (λ part. failed_one g.R.Rack.slot kept new (c.in_ok-checked.ensures.ended part)));
}
