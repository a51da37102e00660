use Rattle.std.proofs.lemmas.Result.{IfErr-weaker, on_ok_weaker}
use Rattle.paraid_base.specs.Told.{HasRisen}
use Rattle.paraid_rack.specs.Slots.{Slot}
use Rattle.paraid_txn.specs.Stores.{named_of, store_rack}
use Rattle.paraid_view.proofs.TwoLemmas.{left_spared, spared_then}
use Rattle.paraid_core.specs.declared.staged.Core.{Core}
use Rattle.paraid_core.specs.Cores.{CoreStandsFor}
use Rattle.paraid_core.specs.Units.{CopyingUnit, UnitsRebuilt}
use Rattle.paraid_core.proofs.FillLemmas.{gathered_leaves, can_read_beside}
use Rattle.paraid_core.proofs.StepLemmas.{held_runs_then, leaves_then, runs_then, two_then}
use Rattle.paraid_core.proofs.UnitWriteLemmas.{unit_gathered, unit_reads_held, rebuilding_below}
use Rattle.paraid_core.proofs.KindLemmas.{calls_then, calls_whole}
use Rattle.paraid_txn.specs.Commit.{gone_out}
use Rattle.std.proofs.Common.{inl, None, Some, ap, refl, subst, sym, ◌≡◌, ◌∙◌}
use Rattle.paraid_core.proofs.LostMarkLemmas.{marks_read, marks_then}
use Rattle.paraid_core.proofs.OrderLemmas.{tells_unhurt}
use Rattle.paraid_image.specs.Out.{named_out}
use Rattle.paraid_core.proofs.AfterLemmas.{down_named}
use Rattle.paraid_image.proofs.LostLemmas.{ran_beside}
use Rattle.paraid_core.proofs.ErrLemmas.{err_not_ok}
use Rattle.paraid_core.proofs.staged.Core.copy_unit.Goals as goal

pub returns-in_default : goal.returns-in_default
returns-in_default g c = record {
  copies = record {
    leaves = on_ok_weaker c.write_unit.result (λ was_so. leaves_then g.R.Rack.slot_count g.R.Rack.slot g.R.Rack.told c.args.self.now (record c.args.self.now { store = c.read_unit.new.store })
        (gathered_leaves g.R.Rack.slot_count g.R.Rack.slot g.R.Rack.told c.args.self.now c.requires.serving.ready c.read_unit.new.store c.in_default.ensures.read c.requires.serving.serves.stays) c.write_unit.new.self was_so) c.write_unit.ensures.copies.leaves;
    same = λ is. c.write_unit.ensures.copies.same is;
    losses = record {
      slots = c.write_unit.ensures.copies.losses.slots ∙ c.in_default.ensures.read.slots;
      spared = spared_then (g.R.Rack.slot (store_rack c.args.self.now.store)) (g.R.Rack.slot (store_rack c.read_unit.new.store)) (g.R.Rack.slot (store_rack c.write_unit.new.self.store)) (left_spared _ _ _ c.in_default.ensures.read.left) c.write_unit.ensures.copies.losses.spared;
      two = IfErr-weaker c.write_unit.result _ _ (λ two down. two_then g.R.Rack.slot_count g.R.Rack.slot g.R.Rack.told c.args.self.now (record c.args.self.now { store = c.read_unit.new.store })
          (gathered_leaves g.R.Rack.slot_count g.R.Rack.slot g.R.Rack.told c.args.self.now c.requires.serving.ready c.read_unit.new.store c.in_default.ensures.read c.requires.serving.serves.stays) c.write_unit.new.self c.write_unit.ensures.copies.losses.spared _ down) c.write_unit.ensures.copies.losses.two;
      tells = IfErr-weaker c.write_unit.result _ _ (λ two down. tells_unhurt (named_out c.args.self.now.meta.out) _ _ (g.R.Rack.told (store_rack c.read_unit.new.store)) _ c.in_default.ensures.read.ends down) c.write_unit.ensures.copies.losses.tells;
      marks = on_ok_weaker c.write_unit.result (λ was_so. let m = c.args.self.now.meta in
          let left = c.in_default.ensures.read.left in
          marks_then _ (g.R.Rack.slot (store_rack c.read_unit.new.store)) _ m m _ (marks_read m m None _ _ m.epoch m.writes left refl (λ d is. let z : None ≡ Some d = is in cc) (λ d x is. let z : None ≡ Some d = is in cc)) was_so (left_spared _ _ _ left) c.write_unit.ensures.copies.losses.spared) c.write_unit.ensures.copies.losses.marks;
    };
    calls = calls_then _ _ (g.R.Rack.told (store_rack c.read_unit.new.store)) _ (calls_whole _ _ _ (sym c.requires.serving.ready.array_is) (ap gone_out c.requires.fresh) _ _ c.in_default.ensures.read.calls) c.write_unit.ensures.copies.calls;
  };
  spins = λ is. c.write_unit.ensures.spins is;
  held = record {
    copied = λ is h lo.
        let old = c.args.self.now in
        let mid : Core g.row.R.Denot g.R.Rack = record old { store = c.read_unit.new.store } in
        let q = c.requires in
        runs_then g.R.Rack.slot_count g.R.Rack.slot g.R.Rack.told old mid (gathered_leaves g.R.Rack.slot_count g.R.Rack.slot g.R.Rack.told old q.serving.ready c.read_unit.new.store c.in_default.ensures.read q.serving.serves.stays) c.write_unit.new.self
        (UnitsRebuilt g.R.Rack.slot_count old h lo c.args.number) (CopyingUnit g.R.Rack.slot_count mid h lo c.args.number c.args.disk c.args.unit c.read_unit.new.into) _ h lo
        (unit_gathered g.R.Rack.slot_count g.R.Rack.slot g.R.Rack.told old q.serving.ready (g.met.R.Rack.agrees (store_rack old.store)) q.nothing c.args.number c.args.disk c.args.unit q.fresh q.unit c.read_unit.new.store c.read_unit.new.into c.in_default.ensures.read q.no_draft
        (g.met.R.Rack.agrees (store_rack c.read_unit.new.store)) (g.met.R.Rack.slots_hold (store_rack c.read_unit.new.store)).absent c.in_default.ensures.value h lo)
        (c.write_unit.ensures.held.copied is h lo);
    lost = λ is h lo.
        let old = c.args.self.now in
        let mid : Core g.row.R.Denot g.R.Rack = record old { store = c.read_unit.new.store } in
        let q = c.requires in
        runs_then g.R.Rack.slot_count g.R.Rack.slot g.R.Rack.told old mid (gathered_leaves g.R.Rack.slot_count g.R.Rack.slot g.R.Rack.told old q.serving.ready c.read_unit.new.store c.in_default.ensures.read q.serving.serves.stays) c.write_unit.new.self
        (UnitsRebuilt g.R.Rack.slot_count old h lo c.args.number) (CopyingUnit g.R.Rack.slot_count mid h lo c.args.number c.args.disk c.args.unit c.read_unit.new.into) (CoreStandsFor g.R.Rack.slot_count c.write_unit.new.self h lo) h lo
        (unit_gathered g.R.Rack.slot_count g.R.Rack.slot g.R.Rack.told old q.serving.ready (g.met.R.Rack.agrees (store_rack old.store)) q.nothing c.args.number c.args.disk c.args.unit q.fresh q.unit c.read_unit.new.store c.read_unit.new.into c.in_default.ensures.read q.no_draft
        (g.met.R.Rack.agrees (store_rack c.read_unit.new.store)) (g.met.R.Rack.slots_hold (store_rack c.read_unit.new.store)).absent c.in_default.ensures.value h lo)
        (c.write_unit.ensures.held.lost is h lo);
    moments = λ h lo.
        let old = c.args.self.now in
        let mid : Core g.row.R.Denot g.R.Rack = record old { store = c.read_unit.new.store } in
        let q = c.requires in
        held_runs_then g.R.Rack.slot_count g.R.Rack.slot g.R.Rack.told old mid (gathered_leaves g.R.Rack.slot_count g.R.Rack.slot g.R.Rack.told old q.serving.ready c.read_unit.new.store c.in_default.ensures.read q.serving.serves.stays) c.write_unit.new.self
        (UnitsRebuilt g.R.Rack.slot_count old h lo c.args.number) (CopyingUnit g.R.Rack.slot_count mid h lo c.args.number c.args.disk c.args.unit c.read_unit.new.into) h lo
        (unit_gathered g.R.Rack.slot_count g.R.Rack.slot g.R.Rack.told old q.serving.ready (g.met.R.Rack.agrees (store_rack old.store)) q.nothing c.args.number c.args.disk c.args.unit q.fresh q.unit c.read_unit.new.store c.read_unit.new.into c.in_default.ensures.read q.no_draft
        (g.met.R.Rack.agrees (store_rack c.read_unit.new.store)) (g.met.R.Rack.slots_hold (store_rack c.read_unit.new.store)).absent c.in_default.ensures.value h lo)
        (c.write_unit.ensures.held.moments h lo);
  };
  loses = record {
    gone = λ is. c.write_unit.ensures.loses.gone is;
    failed = λ is.
        let now = c.write_unit.ensures.loses.failed is in
        record {
          risen = subst (λ (z : Slot). HasRisen z.faults (g.R.Rack.slot (store_rack c.write_unit.new.self.store) c.args.disk).faults) (c.in_default.ensures.read.left.others c.args.disk (λ k. cc)) now.risen;
          absent = now.absent;
        };
  };
}

pub write_unit-requires : goal.write_unit-requires
write_unit-requires g c = record {
  ready =
      (gathered_leaves g.R.Rack.slot_count g.R.Rack.slot g.R.Rack.told c.args.self.now c.requires.serving.ready c.read_unit.new.store c.in_default.ensures.read c.requires.serving.serves.stays).ready;
  still = (gathered_leaves g.R.Rack.slot_count g.R.Rack.slot g.R.Rack.told c.args.self.now c.requires.serving.ready c.read_unit.new.store c.in_default.ensures.read c.requires.serving.serves.stays).still;
  fresh = c.requires.fresh;
  unit = c.requires.unit;
  from = c.requires.from;
  spins = ap (λ (s : Slot). s.power) (c.in_default.ensures.read.left.others c.args.disk (λ is. let z : None ≡ Some c.args.disk = is in cc)) ∙ c.requires.spins;
  nothing = c.requires.nothing;
}

pub returns : goal.returns
returns g c = record {
  copies = record {
    leaves = tt;
    same = λ is. err_not_ok _ _ _ is;
    losses = record {
      slots = c.in-Err.ensures.read.slots;
      spared = left_spared _ _ _ c.in-Err.ensures.read.left;
      -- the disk that is rebuilt was out, and another one has failed
      two =
          let old = c.args.self.now in
          record {
            first = inl (down_named (named_of old.store) old.meta c.requires.serving.ready.one c.args.disk (ap named_out c.requires.fresh));
            apart = λ is. c.in-Err.ensures.failed (sym is);
            second = (c.in-Err.ensures.read.left.failed _ refl).risen;
          };
      tells = ran_beside (named_out c.args.self.now.meta.out) _ _ _ (ap named_out c.requires.fresh) (λ is. c.in-Err.ensures.failed (sym is)) c.in-Err.ensures.read.ends;
      marks = tt;
    };
    calls = calls_whole _ _ _ (sym c.requires.serving.ready.array_is) (ap gone_out c.requires.fresh) _ _ c.in-Err.ensures.read.calls;
  };
  spins = λ is. err_not_ok _ _ _ is;
  held = record {
    copied = λ is. err_not_ok _ _ _ is;
    lost = λ is. err_not_ok _ _ _ is;
    moments = λ h lo. unit_reads_held g.R.Rack.slot_count g.R.Rack.slot g.R.Rack.told c.args.self.now c.requires.serving.ready _ c.in-Err.ensures.read.calls c.args.number h lo;
  };
  loses = record {
    gone = λ is. err_not_ok _ _ _ is;
    failed = λ is. err_not_ok _ _ _ is;
  };
}

pub read_unit-requires : goal.read_unit-requires
read_unit-requires g c = record {
  in_range = c.requires.serving.ready.in_range;
  disk = rebuilding_below g.R.Rack.slot_count g.R.Rack.slot g.R.Rack.told c.args.self.now c.requires.serving.ready (g.met.R.Rack.agrees (store_rack c.args.self.now.store)) c.requires.nothing c.args.number c.args.disk c.args.unit c.requires.fresh c.requires.unit;
  unit = c.requires.unit;
  rows = c.requires.serving.ready.rows_are;
  array = c.requires.serving.ready.array_is;
  ready = can_read_beside g.R.Rack.slot_count g.R.Rack.slot g.R.Rack.told c.args.self.now c.requires.serving.ready c.requires.serving.serves (Some c.args.disk) (ap named_out c.requires.fresh);
}
