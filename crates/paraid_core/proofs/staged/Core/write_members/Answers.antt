use Rattle.paraid_base.specs.Regions.{IsGear, disk_size, soft_place_of}
use Rattle.paraid_core.proofs.FillLemmas.{can_read_whole, to_powered, gear_to}
use Rattle.std.specs.Prelude.{ℕ, ◌+◌}
use Rattle.std.proofs.Common.{◌≡◌, ◌<◌, ◌∙◌, sym, ap, subst, refl, arith, Ok, ◌≤◌, None, Some}
use Rattle.paraid_base.specs.States.{phase_to}
use Rattle.paraid_base.specs.Soft.{stripe_count}
use Rattle.paraid_record.specs.declared.meta.Meta.{Meta}
use Rattle.paraid_image.specs.Mark.{meta_after_loss}
use Rattle.paraid_rack.proofs.TrailsLemmas.{weaker}
use Rattle.paraid_txn.specs.Stores.{named_of, store_rack}
use Rattle.paraid_view.proofs.TwoLemmas.{spared_then}
use Rattle.paraid_core.specs.Cores.{IsCoreHeldSinceCommit, CoreStandsFor}
use Rattle.paraid_core.specs.Fills.{Filled, Filling}
use Rattle.paraid_core.specs.CoreInvariant.{HoldsBetweenCalls}
use Rattle.paraid_core.proofs.AfterLemmas.{handed}
use Rattle.paraid_core.proofs.StepLemmas.{leaves_none, leaves_then, runs_end, runs_none, runs_then, two_then}
use Rattle.paraid_core.proofs.StripeLemmas.{filling_done, members_held, shift_low}
use Rattle.paraid_core.proofs.KindLemmas.{calls_none, calls_then, data_same}
use Rattle.paraid_core.proofs.LostMarkLemmas.{lost_after, marks_none, marks_then}
use Rattle.paraid_core.proofs.OrderLemmas.{core_tells_then, data_bears}
use Rattle.paraid_rack.specs.Told.{Ran}
use Rattle.paraid_image.specs.Out.{named_out}
use Rattle.paraid_image.specs.Lost.{TellsLosses}
use Rattle.paraid_core.proofs.ErrLemmas.{done_not_dropped, none_done, none_done_as}
use Rattle.paraid_core.proofs.staged.Core.write_members.Goals as goal

pub loop-disk-init : goal.loop-disk-init
loop-disk-init g c = record {
  leaves = leaves_none g.R.Rack.slot_count g.R.Rack.slot g.R.Rack.told c.args.self.now c.requires.serving.ready c.requires.serving.serves.stays;
  meta = refl;
  calls = calls_none _ (g.R.Rack.told (store_rack c.args.self.now.store));
  marks = marks_none c.args.self.now.meta c.args.self.now.meta _ _ c.args.self.now.meta.epoch c.args.self.now.meta.writes (λ d. refl) refl;
  written = λ h lo. runs_none g.R.Rack.slot_count g.R.Rack.slot g.R.Rack.told c.args.self.now (Filling g.R.Rack.slot_count c.args.self.now h lo c.args.s c.args.blocks.now 0) h lo (λ s f. f.before.keeps);
}

pub loop-disk-preserved : goal.loop-disk-preserved
loop-disk-preserved g c =
    let was = c.loop-disk.invariant in
    let call = c.in_ok-done.ensures in
    let done = c.if-not-done.false in
    record {
      leaves = leaves_then g.R.Rack.slot_count g.R.Rack.slot g.R.Rack.told c.args.self.now c.loop-disk.self was.leaves c.write_member.new.self call.copies.leaves;
      marks = marks_then _ _ _ _ _ _ was.marks call.copies.losses.marks was.leaves.spared c.write_member.ensures.copies.losses.spared;
      calls = calls_then _ _ _ _ was.calls (data_same _ _ was.meta _ _ c.write_member.ensures.copies.calls);
      meta = call.copies.same (ap Ok done) ∙ was.meta;
      written = λ h lo.
          runs_then g.R.Rack.slot_count g.R.Rack.slot g.R.Rack.told c.args.self.now c.loop-disk.self was.leaves c.write_member.new.self
          (Filling g.R.Rack.slot_count c.args.self.now h lo c.args.s c.args.blocks.now 0) (Filling g.R.Rack.slot_count c.loop-disk.self h lo c.args.s c.args.blocks.now c.loop-disk.disk)
          (Filling g.R.Rack.slot_count c.write_member.new.self h lo c.args.s c.args.blocks.now (c.loop-disk.disk + 1)) h lo (was.written h lo)
          (call.written (ap Ok done) h lo c.args.blocks.now (c.block_of.ensures));
    }

pub returns-in_err-done : goal.returns-in_err-done
returns-in_err-done g c = record {
  copies = record {
    leaves = none_done _ c.from_residual.result _ c.from_residual.ensures.1;
    same = λ is. none_done_as _ c.from_residual.result _ _ c.from_residual.ensures.1 is;
    losses = record {
      slots = c.write_member.ensures.copies.losses.slots ∙ c.loop-disk.invariant.leaves.slots;
      spared = spared_then (g.R.Rack.slot (store_rack c.args.self.now.store)) (g.R.Rack.slot (store_rack c.loop-disk.self.store)) (g.R.Rack.slot (store_rack c.write_member.new.self.store)) c.loop-disk.invariant.leaves.spared c.write_member.ensures.copies.losses.spared;
      two =
          handed _ c.from_residual.result _ c.from_residual.ensures.1
          (two_then g.R.Rack.slot_count g.R.Rack.slot g.R.Rack.told c.args.self.now c.loop-disk.self c.loop-disk.invariant.leaves c.write_member.new.self c.write_member.ensures.copies.losses.spared _ c.in_err-done.ensures.copies.losses.two);
      tells =
          let old = c.args.self.now in
          let mid = c.loop-disk.self in
          let marks = c.loop-disk.invariant.marks in
          handed (λ two. Ran (g.R.Rack.told (store_rack c.args.self.now.store)) (g.R.Rack.told (store_rack c.write_member.new.self.store)) (λ s cs. TellsLosses (named_out c.args.self.now.meta.out) two cs)) c.from_residual.result _ c.from_residual.ensures.1
          (core_tells_then g.R.Rack.slot g.R.Rack.told g.met.R.Rack.agrees old mid c.requires.serving.ready.absent marks c.write_member.new.self _
          (data_bears g.R.Rack.slot g.R.Rack.told g.met.R.Rack.agrees old mid c.requires.serving.ready.absent marks c.loop-disk.invariant.calls) c.in_err-done.ensures.copies.losses.tells);
      marks = none_done _ c.from_residual.result _ c.from_residual.ensures.1;
    };
    calls = calls_then _ _ _ _ c.loop-disk.invariant.calls (data_same _ _ c.loop-disk.invariant.meta _ _ c.write_member.ensures.copies.calls);
  };
  held = record {
    copied = λ is. none_done_as _ c.from_residual.result _ _ c.from_residual.ensures.1 is;
    lost = λ is. none_done_as _ c.from_residual.result _ _ c.from_residual.ensures.1 is;
    moments = λ h lo.
        members_held g.R.Rack.slot_count g.R.Rack.slot g.R.Rack.told c.args.self.now c.loop-disk.self c.write_member.new.self c.loop-disk.invariant.leaves c.args.s c.args.blocks.now c.loop-disk.disk h lo
        (c.loop-disk.invariant.written h lo) (c.write_member.ensures.moments h lo);
  };
  failed = λ is. none_done_as _ c.from_residual.result _ _ c.from_residual.ensures.1 is;
}

pub returns-then-not-done : goal.returns-then-not-done
returns-then-not-done g c = record {
  copies = record {
    leaves = leaves_then g.R.Rack.slot_count g.R.Rack.slot g.R.Rack.told c.args.self.now c.loop-disk.self c.loop-disk.invariant.leaves c.write_member.new.self c.in_ok-done.ensures.copies.leaves;
    same = λ is. done_not_dropped _ _ is refl;
    losses = record {
      slots = c.write_member.ensures.copies.losses.slots ∙ c.loop-disk.invariant.leaves.slots;
      spared = spared_then (g.R.Rack.slot (store_rack c.args.self.now.store)) (g.R.Rack.slot (store_rack c.loop-disk.self.store)) (g.R.Rack.slot (store_rack c.write_member.new.self.store)) c.loop-disk.invariant.leaves.spared c.write_member.ensures.copies.losses.spared;
      two = tt;
      tells = tt;
      marks = marks_then _ _ _ _ _ _ c.loop-disk.invariant.marks c.in_ok-done.ensures.copies.losses.marks c.loop-disk.invariant.leaves.spared c.write_member.ensures.copies.losses.spared;
    };
    calls = calls_then _ _ _ _ c.loop-disk.invariant.calls (data_same _ _ c.loop-disk.invariant.meta _ _ c.write_member.ensures.copies.calls);
  };
  held = record {
    copied = λ is. done_not_dropped _ _ is refl;
    lost = λ is h lo.
        let was = c.loop-disk.invariant in
        runs_then g.R.Rack.slot_count g.R.Rack.slot g.R.Rack.told c.args.self.now c.loop-disk.self was.leaves c.write_member.new.self
        (Filling g.R.Rack.slot_count c.args.self.now h lo c.args.s c.args.blocks.now 0) (Filling g.R.Rack.slot_count c.loop-disk.self h lo c.args.s c.args.blocks.now c.loop-disk.disk) (CoreStandsFor g.R.Rack.slot_count c.write_member.new.self h lo) h lo (was.written h lo)
        (weaker (IsCoreHeldSinceCommit g.R.Rack.slot_count c.loop-disk.self h lo) (CoreStandsFor g.R.Rack.slot_count c.loop-disk.self h lo) (Filling g.R.Rack.slot_count c.loop-disk.self h lo c.args.s c.args.blocks.now c.loop-disk.disk) _ _ _ _
        (λ s f. subst (λ (z : _). HoldsBetweenCalls (g.R.Rack.slot_count (store_rack c.loop-disk.self.store)) (named_of c.loop-disk.self.store) c.loop-disk.self.meta c.loop-disk.self.dirty z c.loop-disk.self.copied h lo s) (sym (was.leaves.batch ∙ c.requires.fills.nothing)) f.before.keeps) (λ s p. p)
        (c.in_ok-done.ensures.lost (ap Ok c.if-not-done.true) h lo));
    moments = λ h lo.
        members_held g.R.Rack.slot_count g.R.Rack.slot g.R.Rack.told c.args.self.now c.loop-disk.self c.write_member.new.self c.loop-disk.invariant.leaves c.args.s c.args.blocks.now c.loop-disk.disk h lo
        (c.loop-disk.invariant.written h lo) (c.write_member.ensures.moments h lo);
  };
  failed = λ is.
      let was = c.loop-disk.invariant in
      let call = c.in_ok-done.ensures in
      let now = ap Ok c.if-not-done.true in
      record {
        disk = c.loop-disk.disk;
        low = (let to = c.to-to.ensures in let test = c.loop-disk-test.true in let region = c.requires.fills.region in omega arith);
        failed = lost_after _ (g.R.Rack.slot (store_rack c.loop-disk.self.store)) _ c.loop-disk.disk was.leaves.spared (call.loses.failed now);
        gone = call.loses.gone now ∙ ap (λ (z : Meta). meta_after_loss z c.loop-disk.disk) was.meta;
      };
}

pub returns : goal.returns
returns g c = record {
  copies = record {
    leaves = c.loop-disk.invariant.leaves;
    same = λ is. c.loop-disk.invariant.meta;
    losses = record {
      slots = c.loop-disk.invariant.leaves.slots;
      spared = c.loop-disk.invariant.leaves.spared;
      two = tt;
      tells = tt;
      marks = c.loop-disk.invariant.marks;
    };
    calls = c.loop-disk.invariant.calls;
  };
  held = record {
    copied = λ is h lo.
        let was = c.loop-disk.invariant in
        let l = c.loop-disk.self in
        let all : c.loop-disk.disk ≡ phase_to l.meta.phase = (let to = c.to-to.ensures in let same = ap (λ (z : Meta). phase_to z.phase) was.meta in let test = c.loop-disk-test.false in let end = c.loop-disk.auto.disk-end in omega arith) in
        weaker _ _ _ (Filling g.R.Rack.slot_count l h lo c.args.s c.args.blocks.now c.loop-disk.disk) (Filled g.R.Rack.slot_count l h lo (c.args.s + 1)) _ _ (λ s a. a)
        (λ s f. filling_done _ _ l.meta _ _ h lo c.args.s s c.args.blocks.now was.leaves.ready.in_range (ap (λ (z : Meta). z.out) was.meta ∙ c.requires.fills.whole)
        (shift_low l.meta was.leaves.ready.in_range (subst (λ (z : Meta). 0 < phase_to z.phase) (sym was.meta) c.requires.fills.shifts))
        (subst (λ (d : ℕ). Filling g.R.Rack.slot_count l h lo c.args.s c.args.blocks.now d s) all f)) (was.written h lo);
    lost = λ is. done_not_dropped _ _ refl is;
    moments = λ h lo. runs_end g.R.Rack.slot_count g.R.Rack.slot g.R.Rack.told c.args.self.now _ _ _ h lo (c.loop-disk.invariant.written h lo);
  };
  failed = λ is. done_not_dropped _ _ refl is;
}

pub write_member-requires : goal.write_member-requires
write_member-requires g c = record {
  ready = c.loop-disk.invariant.leaves.ready;
  still = c.loop-disk.invariant.leaves.still;
  fills = record {
    whole = ap (λ (z : Meta). z.out) c.loop-disk.invariant.meta ∙ c.requires.fills.whole;
    shifts = subst (λ (z : Meta). 0 < phase_to z.phase) (sym c.loop-disk.invariant.meta) c.requires.fills.shifts;
    region = subst (λ (z : Meta). phase_to z.phase < z.setup.geometry.disks) (sym c.loop-disk.invariant.meta) c.requires.fills.region;
    from = subst (λ (z : Meta). z.fill ≤ c.args.s) (sym c.loop-disk.invariant.meta) c.requires.fills.from;
    stripe =
        subst (λ (z : Meta). c.args.s < stripe_count z.setup.geometry.disks z.setup.geometry.rows (phase_to z.phase)) (sym c.loop-disk.invariant.meta) c.requires.fills.stripe;
    nothing = c.loop-disk.invariant.leaves.batch ∙ c.requires.fills.nothing;
  };
  disk = let to = c.to-to.ensures in let same = ap (λ (z : Meta). phase_to z.phase) c.loop-disk.invariant.meta in let test = c.loop-disk-test.true in let region = subst (λ (z : Meta). phase_to z.phase < z.setup.geometry.disks) (sym c.loop-disk.invariant.meta) c.requires.fills.region in omega (arith, to, same, test, region);
  spins = (can_read_whole g.R.Rack.slot_count g.R.Rack.slot g.R.Rack.told c.loop-disk.self c.loop-disk.invariant.leaves.ready (c.loop-disk.invariant.leaves.serves c.requires.serving.serves) (ap (λ (z : Meta). z.out) c.loop-disk.invariant.meta ∙ c.requires.fills.whole)).spins c.loop-disk.disk (to_powered c.loop-disk.self.meta c.loop-disk.disk c.loop-disk.invariant.leaves.ready.in_range (let to = c.to-to.ensures in let same = ap (λ (z : Meta). phase_to z.phase) c.loop-disk.invariant.meta in let test = c.loop-disk-test.true in omega (arith, to, same, test))) (λ is. let z : None ≡ Some c.loop-disk.disk = is in cc);
  place = c.soft_place-place.ensures.value ∙ ap (λ (z : ℕ). soft_place_of c.args.self.now.meta.setup.geometry z c.args.s) c.to-to.ensures ∙ ap (λ (z : Meta). soft_place_of z.setup.geometry (phase_to z.phase) c.args.s) (sym c.loop-disk.invariant.meta);
  within = let large = (can_read_whole g.R.Rack.slot_count g.R.Rack.slot g.R.Rack.told c.loop-disk.self c.loop-disk.invariant.leaves.ready (c.loop-disk.invariant.leaves.serves c.requires.serving.serves) (ap (λ (z : Meta). z.out) c.loop-disk.invariant.meta ∙ c.requires.fills.whole)).large c.loop-disk.disk (to_powered c.loop-disk.self.meta c.loop-disk.disk c.loop-disk.invariant.leaves.ready.in_range (let to = c.to-to.ensures in let same = ap (λ (z : Meta). phase_to z.phase) c.loop-disk.invariant.meta in let test = c.loop-disk-test.true in omega (arith, to, same, test))) (λ is. let z : None ≡ Some c.loop-disk.disk = is in cc) in let fits = subst (λ (z : Meta). c.soft_place-place.result < disk_size z.setup.geometry) (sym c.loop-disk.invariant.meta) c.soft_place-place.ensures.in_size in omega (arith, large, fits);
}

pub soft_place-place-requires : goal.soft_place-place-requires
soft_place-place-requires g c = record {
  gear = subst (IsGear c.args.self.now.meta.setup.geometry) (sym c.to-to.ensures) (gear_to c.args.self.now.meta c.requires.serving.ready.in_range c.requires.fills.shifts);
  region = subst (λ (z : ℕ). z < c.args.self.now.meta.setup.geometry.disks) (sym c.to-to.ensures) c.requires.fills.region;
  stripe_in = subst (λ (z : ℕ). c.args.s < stripe_count c.args.self.now.meta.setup.geometry.disks c.args.self.now.meta.setup.geometry.rows z) (sym c.to-to.ensures) c.requires.fills.stripe;
}
