use Rattle.std.proofs.lemmas.Result.{IfErr-weaker, IfOk-at_ok, on_ok_weaker}
use Rattle.paraid_core.specs.Steps.{IsPutOut}
use Rattle.paraid_base.specs.Regions.{IsGear}
use Rattle.paraid_base.specs.Soft.{stripe_count}
use Rattle.std.specs.Prelude.{ℕ, ◌+◌, ◌<◌, None}
use Rattle.std.proofs.Common.{◌∙◌, sym, ap, subst, ◌≡◌, Some, refl}
use Rattle.paraid_moves.specs.MoveMetas.{copied_block}
use Rattle.paraid_txn.specs.Stores.{named_of, store_rack}
use Rattle.paraid_view.specs.Reads.{seen_by}
use Rattle.paraid_view.proofs.TwoLemmas.{left_spared, spared_then}
use Rattle.paraid_core.specs.declared.staged.Core.{Core}
use Rattle.paraid_core.specs.Cores.{CoreStandsFor}
use Rattle.paraid_core.specs.Fills.{Filled, Filling}
use Rattle.paraid_core.proofs.FillLemmas.{gather_held, gather_lost_leaves, gather_lost_stands, gathered, gathered_leaves, can_read_whole, gear_to}
use Rattle.paraid_core.proofs.StepLemmas.{held_runs_then, leaves_then, runs_then, two_then}
use Rattle.paraid_txn.specs.Commit.{gone_out}
use Rattle.paraid_core.proofs.KindLemmas.{calls_then, calls_whole}
use Rattle.paraid_core.proofs.LostMarkLemmas.{loses_after, loses_read, marks_read, marks_then}
use Rattle.paraid_core.proofs.ReadyLemmas.{some_is}
use Rattle.paraid_core.proofs.OrderLemmas.{tells_unhurt, lose_tells}
use Rattle.paraid_image.specs.Out.{named_out}
use Rattle.paraid_core.proofs.ErrLemmas.{two_lost}
use Rattle.paraid_core.proofs.staged.Core.fill_stripe.Goals as goal

pub returns-in_default : goal.returns-in_default
returns-in_default g c = record {
  copies = record {
    leaves = on_ok_weaker c.write_members.result (λ was_so. leaves_then g.R.Rack.slot_count g.R.Rack.slot g.R.Rack.told c.args.self.now (record c.args.self.now { store = c.gather.new.store })
        (gathered_leaves g.R.Rack.slot_count g.R.Rack.slot g.R.Rack.told c.args.self.now c.requires.serving.ready c.gather.new.store c.in_default.ensures.read c.requires.serving.serves.stays) c.write_members.new.self was_so) c.write_members.ensures.copies.leaves;
    same = λ is. c.write_members.ensures.copies.same is;
    losses = record {
      slots = c.write_members.ensures.copies.losses.slots ∙ c.in_default.ensures.read.slots;
      spared = spared_then (g.R.Rack.slot (store_rack c.args.self.now.store)) (g.R.Rack.slot (store_rack c.gather.new.store)) (g.R.Rack.slot (store_rack c.write_members.new.self.store)) (left_spared _ _ _ c.in_default.ensures.read.left) c.write_members.ensures.copies.losses.spared;
      two = IfErr-weaker c.write_members.result _ _ (λ two down. two_then g.R.Rack.slot_count g.R.Rack.slot g.R.Rack.told c.args.self.now (record c.args.self.now { store = c.gather.new.store })
          (gathered_leaves g.R.Rack.slot_count g.R.Rack.slot g.R.Rack.told c.args.self.now c.requires.serving.ready c.gather.new.store c.in_default.ensures.read c.requires.serving.serves.stays) c.write_members.new.self c.write_members.ensures.copies.losses.spared _ down) c.write_members.ensures.copies.losses.two;
      tells = IfErr-weaker c.write_members.result _ _ (λ two down. tells_unhurt (named_out c.args.self.now.meta.out) _ _ (g.R.Rack.told (store_rack c.gather.new.store)) _ c.in_default.ensures.read.ends down) c.write_members.ensures.copies.losses.tells;
      marks = on_ok_weaker c.write_members.result (λ was_so. let m = c.args.self.now.meta in
          let left = c.in_default.ensures.read.left in
          marks_then _ (g.R.Rack.slot (store_rack c.gather.new.store)) _ m m _ (marks_read m m None _ _ m.epoch m.writes left refl (λ d is. let z : None ≡ Some d = is in cc) (λ d x is. let z : None ≡ Some d = is in cc)) was_so (left_spared _ _ _ left) c.write_members.ensures.copies.losses.spared) c.write_members.ensures.copies.losses.marks;
    };
    calls =
        let old = c.args.self.now in
        calls_then _ _ (g.R.Rack.told (store_rack c.gather.new.store)) _ (calls_whole _ _ _ (sym c.requires.serving.ready.array_is) (ap gone_out c.requires.fills.whole) _ _ c.in_default.ensures.read.calls) c.write_members.ensures.copies.calls;
  };
  held = record {
    copied = λ is h lo.
        let old = c.args.self.now in
        let mid : Core g.row.R.Denot g.R.Rack = record old { store = c.gather.new.store } in
        let q = c.requires in
        runs_then g.R.Rack.slot_count g.R.Rack.slot g.R.Rack.told old mid (gathered_leaves g.R.Rack.slot_count g.R.Rack.slot g.R.Rack.told old q.serving.ready c.gather.new.store c.in_default.ensures.read q.serving.serves.stays) c.write_members.new.self
        (Filled g.R.Rack.slot_count old h lo c.args.s) (Filling g.R.Rack.slot_count mid h lo c.args.s c.gather.new.blocks 0) (Filled g.R.Rack.slot_count c.write_members.new.self h lo (c.args.s + 1)) h lo
        (gathered g.R.Rack.slot_count g.R.Rack.slot g.R.Rack.told old q.serving.ready c.gather.new.store c.args.s c.gather.new.blocks c.in_default.ensures.read q.fills.whole q.fills.nothing q.no_draft q.fills.region (g.met.R.Rack.agrees (store_rack old.store))
        (g.met.R.Rack.agrees (store_rack c.gather.new.store)) (g.met.R.Rack.slots_hold (store_rack c.gather.new.store)).absent
        (λ f shows some e l. c.in_default.ensures.value f shows some e (subst (λ (z : ℕ). e < z) (sym c.to-to.ensures) l) ∙ ap (λ (z : ℕ). copied_block (seen_by old.meta old.dirty None f) z c.args.s e) c.to-to.ensures) h lo)
        (c.write_members.ensures.held.copied is h lo);
    lost = λ is h lo.
        let old = c.args.self.now in
        let mid : Core g.row.R.Denot g.R.Rack = record old { store = c.gather.new.store } in
        let q = c.requires in
        runs_then g.R.Rack.slot_count g.R.Rack.slot g.R.Rack.told old mid (gathered_leaves g.R.Rack.slot_count g.R.Rack.slot g.R.Rack.told old q.serving.ready c.gather.new.store c.in_default.ensures.read q.serving.serves.stays) c.write_members.new.self
        (Filled g.R.Rack.slot_count old h lo c.args.s) (Filling g.R.Rack.slot_count mid h lo c.args.s c.gather.new.blocks 0) (CoreStandsFor g.R.Rack.slot_count c.write_members.new.self h lo) h lo
        (gathered g.R.Rack.slot_count g.R.Rack.slot g.R.Rack.told old q.serving.ready c.gather.new.store c.args.s c.gather.new.blocks c.in_default.ensures.read q.fills.whole q.fills.nothing q.no_draft q.fills.region (g.met.R.Rack.agrees (store_rack old.store))
        (g.met.R.Rack.agrees (store_rack c.gather.new.store)) (g.met.R.Rack.slots_hold (store_rack c.gather.new.store)).absent
        (λ f shows some e l. c.in_default.ensures.value f shows some e (subst (λ (z : ℕ). e < z) (sym c.to-to.ensures) l) ∙ ap (λ (z : ℕ). copied_block (seen_by old.meta old.dirty None f) z c.args.s e) c.to-to.ensures) h lo)
        (c.write_members.ensures.held.lost is h lo);
    moments = λ h lo.
        let old = c.args.self.now in
        let mid : Core g.row.R.Denot g.R.Rack = record old { store = c.gather.new.store } in
        let q = c.requires in
        held_runs_then g.R.Rack.slot_count g.R.Rack.slot g.R.Rack.told old mid (gathered_leaves g.R.Rack.slot_count g.R.Rack.slot g.R.Rack.told old q.serving.ready c.gather.new.store c.in_default.ensures.read q.serving.serves.stays) c.write_members.new.self
        (Filled g.R.Rack.slot_count old h lo c.args.s) (Filling g.R.Rack.slot_count mid h lo c.args.s c.gather.new.blocks 0) h lo
        (gathered g.R.Rack.slot_count g.R.Rack.slot g.R.Rack.told old q.serving.ready c.gather.new.store c.args.s c.gather.new.blocks c.in_default.ensures.read q.fills.whole q.fills.nothing q.no_draft q.fills.region (g.met.R.Rack.agrees (store_rack old.store))
        (g.met.R.Rack.agrees (store_rack c.gather.new.store)) (g.met.R.Rack.slots_hold (store_rack c.gather.new.store)).absent
        (λ f shows some e l. c.in_default.ensures.value f shows some e (subst (λ (z : ℕ). e < z) (sym c.to-to.ensures) l) ∙ ap (λ (z : ℕ). copied_block (seen_by old.meta old.dirty None f) z c.args.s e) c.to-to.ensures) h lo)
        (c.write_members.ensures.held.moments h lo);
  };
  failed = λ is. loses_after _ (g.R.Rack.slot (store_rack c.gather.new.store)) _ c.args.self.now.meta _ (left_spared _ _ _ c.in_default.ensures.read.left) (c.write_members.ensures.failed is);
}

pub returns : goal.returns
returns g c = record {
  copies = record {
    leaves = on_ok_weaker c.put_out.result (λ put. gather_lost_leaves g.R.Rack.slot_count g.R.Rack.slot g.R.Rack.told c.args.self.now c.requires.serving.ready c.gather.new.store c.in-Err.disk c.in-Err.ensures.read c.in-Err.ensures.below c.requires.fills.whole c.requires.serving.serves.stays c.put_out.new.meta
        put.marked) c.put_out.ensures.out;
    same = λ is. absurd (c.put_out.ensures.never is);
    losses = record {
      slots = c.in-Err.ensures.read.slots;
      spared = left_spared _ _ _ c.in-Err.ensures.read.left;
      two =
          let old = c.args.self.now in
          IfErr-weaker c.put_out.result _ _ (λ two down. two_lost (named_of old.store) (named_out old.meta.out) _ _ c.in-Err.disk _ c.requires.serving.serves.stays (c.in-Err.ensures.read.left.failed _ refl).risen down) c.put_out.ensures.two;
      tells = IfErr-weaker c.put_out.result _ _ (λ two down. lose_tells (named_out c.args.self.now.meta.out) (Some c.in-Err.disk) _ _ _ down c.in-Err.ensures.read.ends) c.put_out.ensures.two;
      marks = on_ok_weaker c.put_out.result (λ put. let m = c.args.self.now.meta in
          let low : (d : ℕ) → Some c.in-Err.disk ≡ Some d → d < m.setup.geometry.disks =
          (λ d is. subst (λ (z : ℕ). z < m.setup.geometry.disks) (some_is c.in-Err.disk d is) (subst (λ (z : ℕ). c.in-Err.disk < z) (sym c.requires.serving.ready.array_is) c.in-Err.ensures.below)) in
          marks_read m c.put_out.new.meta (Some c.in-Err.disk) _ _ m.epoch m.writes c.in-Err.ensures.read.left put.marked low (λ d x is k. put.alone d x is k (low d is))) c.put_out.ensures.out;
    };
    calls = calls_whole _ _ _ (sym c.requires.serving.ready.array_is) (ap gone_out c.requires.fills.whole) _ _ c.in-Err.ensures.read.calls;
  };
  held = record {
    copied = λ is. absurd (c.put_out.ensures.never is);
    lost = λ is h lo. let put : IsPutOut c.args.self.now.meta c.put_out.new.meta (Some c.in-Err.disk) = IfOk-at_ok _ is c.put_out.ensures.out in
        gather_lost_stands g.R.Rack.slot_count g.R.Rack.slot g.R.Rack.told c.args.self.now c.requires.serving.ready c.gather.new.store c.in-Err.disk c.in-Err.ensures.read c.in-Err.ensures.below c.requires.fills.whole c.requires.serving.serves.stays c.put_out.new.meta
        put.marked c.requires.fills.nothing (g.met.R.Rack.agrees (store_rack c.args.self.now.store)) (g.met.R.Rack.agrees (store_rack c.gather.new.store)) (g.met.R.Rack.slots_hold (store_rack c.gather.new.store)).absent c.args.s h lo;
    moments = λ h lo. gather_held g.R.Rack.slot_count g.R.Rack.slot g.R.Rack.told c.args.self.now c.requires.serving.ready _ c.in-Err.ensures.read.calls c.args.s h lo;
  };
  failed = λ is. let put : IsPutOut c.args.self.now.meta c.put_out.new.meta (Some c.in-Err.disk) = IfOk-at_ok _ is c.put_out.ensures.out in
      loses_read c.args.self.now.meta c.put_out.new.meta c.in-Err.disk _ _ c.in-Err.ensures.read.left put.marked
      (subst (λ (z : ℕ). c.in-Err.disk < z) (sym c.requires.serving.ready.array_is) c.in-Err.ensures.below);
}

pub gather-requires : goal.gather-requires
gather-requires g c = record {
  gathers = record {
    in_range = c.requires.serving.ready.in_range;
    gear = subst (IsGear c.args.self.now.meta.setup.geometry) (sym c.to-to.ensures) (gear_to c.args.self.now.meta c.requires.serving.ready.in_range c.requires.fills.shifts);
    region = subst (λ (z : ℕ). z < c.args.self.now.meta.setup.geometry.disks) (sym c.to-to.ensures) c.requires.fills.region;
    stripe = subst (λ (z : ℕ). c.args.s < stripe_count c.args.self.now.meta.setup.geometry.disks c.args.self.now.meta.setup.geometry.rows z) (sym c.to-to.ensures) c.requires.fills.stripe;
    rows = c.requires.serving.ready.rows_are;
    array = c.requires.serving.ready.array_is;
    ready = can_read_whole g.R.Rack.slot_count g.R.Rack.slot g.R.Rack.told c.args.self.now c.requires.serving.ready c.requires.serving.serves c.requires.fills.whole;
  };
}

pub write_members-requires : goal.write_members-requires
write_members-requires g c = record {
  serving = record {
    ready = (gathered_leaves g.R.Rack.slot_count g.R.Rack.slot g.R.Rack.told c.args.self.now c.requires.serving.ready c.gather.new.store c.in_default.ensures.read c.requires.serving.serves.stays).ready;
    serves = (gathered_leaves g.R.Rack.slot_count g.R.Rack.slot g.R.Rack.told c.args.self.now c.requires.serving.ready c.gather.new.store c.in_default.ensures.read c.requires.serving.serves.stays).serves c.requires.serving.serves;
  };
  fills = record {
    whole = c.requires.fills.whole;
    shifts = c.requires.fills.shifts;
    region = c.requires.fills.region;
    from = c.requires.fills.from;
    stripe = c.requires.fills.stripe;
    nothing = c.requires.fills.nothing;
  };
}
