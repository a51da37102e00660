use Rattle.std.proofs.lemmas.Result.{IfErr-weaker, IfOk-at_ok, on_ok_weaker}
use Rattle.paraid_core.specs.Steps.{IsPutOut}
use Rattle.paraid_txn.specs.Stores.{named_of, store_rack}
use Rattle.paraid_view.proofs.TwoLemmas.{left_spared, spared_then}
use Rattle.paraid_core.specs.declared.staged.Core.{Core}
use Rattle.paraid_core.specs.Cores.{CoreStandsFor}
use Rattle.paraid_core.specs.CellCopies.{CellsCopied, CopyingCell, copied_with}
use Rattle.paraid_core.proofs.FillLemmas.{gather_lost_leaves, gathered_leaves, can_read_whole}
use Rattle.paraid_core.proofs.CopyCellLemmas.{cell_gathered, cell_lost, cell_reads_held, disk_in}
use Rattle.paraid_core.proofs.StepLemmas.{held_runs_then, leaves_then, runs_then, two_then}
use Rattle.std.proofs.Common.{sym, ap, ◌≡◌, ℕ, ◌<◌, None, Some, refl, subst, ◌∙◌}
use Rattle.paraid_txn.specs.Commit.{gone_out}
use Rattle.paraid_core.proofs.KindLemmas.{calls_then, calls_whole}
use Rattle.paraid_core.proofs.LostMarkLemmas.{loses_read, lost_after, marks_read, marks_then}
use Rattle.paraid_core.proofs.ReadyLemmas.{some_is}
use Rattle.paraid_core.proofs.OrderLemmas.{tells_unhurt, lose_tells}
use Rattle.paraid_image.specs.Out.{named_out}
use Rattle.paraid_core.proofs.ErrLemmas.{two_lost}
use Rattle.paraid_core.proofs.staged.Core.copy_cell.Goals as goal

pub returns-in_default : goal.returns-in_default
returns-in_default g c = record {
  copies = record {
    leaves = on_ok_weaker c.write_cell.result (λ was_so. leaves_then g.R.Rack.slot_count g.R.Rack.slot g.R.Rack.told c.args.self.now (record c.args.self.now { store = c.read_value.new.store })
        (gathered_leaves g.R.Rack.slot_count g.R.Rack.slot g.R.Rack.told c.args.self.now c.requires.serving.ready c.read_value.new.store c.in_default.ensures.read c.requires.serving.serves.stays) c.write_cell.new.self was_so) c.write_cell.ensures.copies.leaves;
    same = λ is. c.write_cell.ensures.copies.same is;
    losses = record {
      slots = c.write_cell.ensures.copies.losses.slots ∙ c.in_default.ensures.read.slots;
      spared = spared_then (g.R.Rack.slot (store_rack c.args.self.now.store)) (g.R.Rack.slot (store_rack c.read_value.new.store)) (g.R.Rack.slot (store_rack c.write_cell.new.self.store)) (left_spared _ _ _ c.in_default.ensures.read.left) c.write_cell.ensures.copies.losses.spared;
      two = IfErr-weaker c.write_cell.result _ _ (λ two down. two_then g.R.Rack.slot_count g.R.Rack.slot g.R.Rack.told c.args.self.now (record c.args.self.now { store = c.read_value.new.store })
          (gathered_leaves g.R.Rack.slot_count g.R.Rack.slot g.R.Rack.told c.args.self.now c.requires.serving.ready c.read_value.new.store c.in_default.ensures.read c.requires.serving.serves.stays) c.write_cell.new.self c.write_cell.ensures.copies.losses.spared _ down) c.write_cell.ensures.copies.losses.two;
      tells = IfErr-weaker c.write_cell.result _ _ (λ two down. tells_unhurt (named_out c.args.self.now.meta.out) _ _ (g.R.Rack.told (store_rack c.read_value.new.store)) _ c.in_default.ensures.read.ends down) c.write_cell.ensures.copies.losses.tells;
      marks = on_ok_weaker c.write_cell.result (λ was_so. let m = c.args.self.now.meta in
          let left = c.in_default.ensures.read.left in
          marks_then _ (g.R.Rack.slot (store_rack c.read_value.new.store)) _ m m _ (marks_read m m None _ _ m.epoch m.writes left refl (λ d is. let z : None ≡ Some d = is in cc) (λ d x is. let z : None ≡ Some d = is in cc)) was_so (left_spared _ _ _ left) c.write_cell.ensures.copies.losses.spared) c.write_cell.ensures.copies.losses.marks;
    };
    calls =
        let old = c.args.self.now in
        calls_then _ _ (g.R.Rack.told (store_rack c.read_value.new.store)) _ (calls_whole _ _ _ (sym c.requires.serving.ready.array_is) (ap gone_out c.requires.cell.whole) _ _ c.in_default.ensures.read.calls) c.write_cell.ensures.copies.calls;
  };
  failed = λ is. record {
    disk = c.args.disk;
    low = disk_in c.args.self.now.meta c.args.disk c.requires.serving.ready.in_range c.requires.cell.rises;
    failed = lost_after _ (g.R.Rack.slot (store_rack c.read_value.new.store)) _ c.args.disk (left_spared _ _ _ c.in_default.ensures.read.left) (c.write_cell.ensures.loses.failed is);
    gone = c.write_cell.ensures.loses.gone is;
  };
  held = λ cells. record {
    copied = λ is h lo.
        let old = c.args.self.now in
        let mid : Core g.row.R.Denot g.R.Rack = record old { store = c.read_value.new.store } in
        let q = c.requires in
        runs_then g.R.Rack.slot_count g.R.Rack.slot g.R.Rack.told old mid (gathered_leaves g.R.Rack.slot_count g.R.Rack.slot g.R.Rack.told old q.serving.ready c.read_value.new.store c.in_default.ensures.read q.serving.serves.stays) c.write_cell.new.self
        (CellsCopied g.R.Rack.slot_count old h lo cells) (CopyingCell g.R.Rack.slot_count mid h lo cells c.args.r c.args.disk c.read_value.new.into)
        (CellsCopied g.R.Rack.slot_count c.write_cell.new.self h lo (copied_with cells c.args.r c.args.disk)) h lo
        (cell_gathered g.R.Rack.slot_count g.R.Rack.slot g.R.Rack.told old q.serving.ready q.cell.whole (g.met.R.Rack.agrees (store_rack old.store)) q.cell.nothing c.args.r c.args.disk c.read_value.new.store c.read_value.new.into c.in_default.ensures.read q.no_draft
        (g.met.R.Rack.agrees (store_rack c.read_value.new.store)) (g.met.R.Rack.slots_hold (store_rack c.read_value.new.store)).absent q.cell.row c.in_default.ensures.value h lo cells)
        ((c.write_cell.ensures.held cells).copied is h lo);
    lost = λ is h lo.
        let old = c.args.self.now in
        let mid : Core g.row.R.Denot g.R.Rack = record old { store = c.read_value.new.store } in
        let q = c.requires in
        runs_then g.R.Rack.slot_count g.R.Rack.slot g.R.Rack.told old mid (gathered_leaves g.R.Rack.slot_count g.R.Rack.slot g.R.Rack.told old q.serving.ready c.read_value.new.store c.in_default.ensures.read q.serving.serves.stays) c.write_cell.new.self
        (CellsCopied g.R.Rack.slot_count old h lo cells) (CopyingCell g.R.Rack.slot_count mid h lo cells c.args.r c.args.disk c.read_value.new.into)
        (CoreStandsFor g.R.Rack.slot_count c.write_cell.new.self h lo) h lo
        (cell_gathered g.R.Rack.slot_count g.R.Rack.slot g.R.Rack.told old q.serving.ready q.cell.whole (g.met.R.Rack.agrees (store_rack old.store)) q.cell.nothing c.args.r c.args.disk c.read_value.new.store c.read_value.new.into c.in_default.ensures.read q.no_draft
        (g.met.R.Rack.agrees (store_rack c.read_value.new.store)) (g.met.R.Rack.slots_hold (store_rack c.read_value.new.store)).absent q.cell.row c.in_default.ensures.value h lo cells)
        ((c.write_cell.ensures.held cells).lost is h lo);
    moments = λ h lo.
        let old = c.args.self.now in
        let mid : Core g.row.R.Denot g.R.Rack = record old { store = c.read_value.new.store } in
        let q = c.requires in
        held_runs_then g.R.Rack.slot_count g.R.Rack.slot g.R.Rack.told old mid (gathered_leaves g.R.Rack.slot_count g.R.Rack.slot g.R.Rack.told old q.serving.ready c.read_value.new.store c.in_default.ensures.read q.serving.serves.stays) c.write_cell.new.self
        (CellsCopied g.R.Rack.slot_count old h lo cells) (CopyingCell g.R.Rack.slot_count mid h lo cells c.args.r c.args.disk c.read_value.new.into) h lo
        (cell_gathered g.R.Rack.slot_count g.R.Rack.slot g.R.Rack.told old q.serving.ready q.cell.whole (g.met.R.Rack.agrees (store_rack old.store)) q.cell.nothing c.args.r c.args.disk c.read_value.new.store c.read_value.new.into c.in_default.ensures.read q.no_draft
        (g.met.R.Rack.agrees (store_rack c.read_value.new.store)) (g.met.R.Rack.slots_hold (store_rack c.read_value.new.store)).absent q.cell.row c.in_default.ensures.value h lo cells)
        ((c.write_cell.ensures.held cells).moments h lo);
  };
}

pub returns : goal.returns
returns g c = record {
  copies = record {
    leaves = on_ok_weaker c.put_out.result (λ put. gather_lost_leaves g.R.Rack.slot_count g.R.Rack.slot g.R.Rack.told c.args.self.now c.requires.serving.ready c.read_value.new.store c.in-Err.lost c.in-Err.ensures.read c.in-Err.ensures.below c.requires.cell.whole c.requires.serving.serves.stays c.put_out.new.meta
        put.marked) c.put_out.ensures.out;
    same = λ is. absurd (c.put_out.ensures.never is);
    losses = record {
      slots = c.in-Err.ensures.read.slots;
      spared = left_spared _ _ _ c.in-Err.ensures.read.left;
      two =
          let old = c.args.self.now in
          IfErr-weaker c.put_out.result _ _ (λ two down. two_lost (named_of old.store) (named_out old.meta.out) _ _ c.in-Err.lost _ c.requires.serving.serves.stays (c.in-Err.ensures.read.left.failed _ refl).risen down) c.put_out.ensures.two;
      tells = IfErr-weaker c.put_out.result _ _ (λ two down. lose_tells (named_out c.args.self.now.meta.out) (Some c.in-Err.lost) _ _ _ down c.in-Err.ensures.read.ends) c.put_out.ensures.two;
      marks = on_ok_weaker c.put_out.result (λ put. let m = c.args.self.now.meta in
          let low : (d : ℕ) → Some c.in-Err.lost ≡ Some d → d < m.setup.geometry.disks =
          (λ d is. subst (λ (z : ℕ). z < m.setup.geometry.disks) (some_is c.in-Err.lost d is) (subst (λ (z : ℕ). c.in-Err.lost < z) (sym c.requires.serving.ready.array_is) c.in-Err.ensures.below)) in
          marks_read m c.put_out.new.meta (Some c.in-Err.lost) _ _ m.epoch m.writes c.in-Err.ensures.read.left put.marked low (λ d x is k. put.alone d x is k (low d is))) c.put_out.ensures.out;
    };
    calls = calls_whole _ _ _ (sym c.requires.serving.ready.array_is) (ap gone_out c.requires.cell.whole) _ _ c.in-Err.ensures.read.calls;
  };
  failed = λ is. let put : IsPutOut c.args.self.now.meta c.put_out.new.meta (Some c.in-Err.lost) = IfOk-at_ok _ is c.put_out.ensures.out in
      loses_read c.args.self.now.meta c.put_out.new.meta c.in-Err.lost _ _ c.in-Err.ensures.read.left put.marked
      (subst (λ (z : ℕ). c.in-Err.lost < z) (sym c.requires.serving.ready.array_is) c.in-Err.ensures.below);
  held = λ cells. record {
    copied = λ is. absurd (c.put_out.ensures.never is);
    lost = λ is h lo. let put : IsPutOut c.args.self.now.meta c.put_out.new.meta (Some c.in-Err.lost) = IfOk-at_ok _ is c.put_out.ensures.out in
        let old = c.args.self.now in
        let q = c.requires in
        cell_lost g.R.Rack.slot_count g.R.Rack.slot g.R.Rack.told old q.serving.ready q.cell.whole (g.met.R.Rack.agrees (store_rack old.store)) c.read_value.new.store c.in-Err.lost c.in-Err.ensures.read c.in-Err.ensures.below q.serving.serves.stays c.put_out.new.meta put.marked
        (g.met.R.Rack.agrees (store_rack c.read_value.new.store)) (g.met.R.Rack.slots_hold (store_rack c.read_value.new.store)).absent h lo cells;
    moments = λ h lo. cell_reads_held g.R.Rack.slot_count g.R.Rack.slot g.R.Rack.told c.args.self.now c.requires.serving.ready _ c.in-Err.ensures.read.calls h lo cells;
  };
}

pub read_value-requires : goal.read_value-requires
read_value-requires g c = record {
  in_range = c.requires.serving.ready.in_range;
  row = c.requires.cell.row;
  disk = disk_in c.args.self.now.meta c.args.disk c.requires.serving.ready.in_range c.requires.cell.rises;
  rows = c.requires.serving.ready.rows_are;
  array = c.requires.serving.ready.array_is;
  ready = can_read_whole g.R.Rack.slot_count g.R.Rack.slot g.R.Rack.told c.args.self.now c.requires.serving.ready c.requires.serving.serves c.requires.cell.whole;
}

pub write_cell-requires : goal.write_cell-requires
write_cell-requires g c = record {
  serving = record {
    ready = (gathered_leaves g.R.Rack.slot_count g.R.Rack.slot g.R.Rack.told c.args.self.now c.requires.serving.ready c.read_value.new.store c.in_default.ensures.read c.requires.serving.serves.stays).ready;
    serves = (gathered_leaves g.R.Rack.slot_count g.R.Rack.slot g.R.Rack.told c.args.self.now c.requires.serving.ready c.read_value.new.store c.in_default.ensures.read c.requires.serving.serves.stays).serves c.requires.serving.serves;
  };
  cell = record {
    whole = c.requires.cell.whole;
    row = c.requires.cell.row;
    past_gear = c.requires.cell.past_gear;
    rises = c.requires.cell.rises;
    dirty = c.requires.cell.dirty;
    nothing = c.requires.cell.nothing;
  };
}
