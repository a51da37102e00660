use Rattle.paraid_core.proofs.AfterLemmas.{handed}
use Rattle.paraid_core.proofs.ErrLemmas.{none_done}
use Rattle.std.proofs.Common.{◌≡◌, ◌<◌, ◌+◌, ◌∙◌, sym, ap, subst, arith}
use Rattle.paraid_base.specs.Sums.{without, xor_upto}
use Rattle.paraid_record.specs.declared.meta.Meta.{Meta}
use Rattle.paraid_image.specs.Out.{named_out}
use Rattle.paraid_image.specs.Value.{reconstructed_value, stored_value}
use Rattle.paraid_scrub.proofs.CellLemmas.{far_read}
use Rattle.paraid_scrub.proofs.LookedLemmas.{keeps_none, keeps_so, keeps_then, sum_more, sum_none}
use Rattle.paraid_scrub.proofs.value.read_far.Goals as goal

pub loop-disk-init : goal.loop-disk-init
loop-disk-init g c = record {
  kept = keeps_none c.args.core.now (g.met.C.Stored.stays c.args.core.now c.requires.usable) c.requires.usable (λ v s. sum_none _ _ c.zero.ensures);
}

pub add_near-requires : goal.add_near-requires
add_near-requires g c = record {
  usable = c.loop-disk.invariant.kept.still;
  row = subst (λ (z : Meta). c.args.row < z.setup.geometry.rows) (sym c.loop-disk.invariant.kept.same) c.requires.row;
  disk =
      let low : c.loop-disk.disk < (g.C.Stored.meta c.args.core.now).setup.geometry.disks = subst (λ (z : Meta). c.loop-disk.disk < z.setup.geometry.disks) c.meta.ensures.value (let e = c.disks-disks.ensures in omega (arith, e)) in
      subst (λ (z : Meta). c.loop-disk.disk < z.setup.geometry.disks) (sym c.loop-disk.invariant.kept.same) low;
  out = ap (λ (z : Meta). named_out z.out) c.loop-disk.invariant.kept.same ∙ c.requires.out;
}

pub loop-disk-preserved : goal.loop-disk-preserved
loop-disk-preserved g c = record {
  kept = keeps_then (λ v. c.add_near.new.sum ≡ xor_upto (without (stored_value v c.args.row) c.args.out) (c.loop-disk.disk + 1)) g.met.C.Stored.then g.met.C.Stored.told c.loop-disk.invariant.kept c.in_ok-add_near.ensures.shown
      (λ v s sum is. sum_more (without (stored_value v c.args.row) c.args.out) c.loop-disk.disk _ _ sum is);
}

pub returns : goal.returns
returns g c = record {
  shown =
      let m = g.C.Stored.meta c.args.core.now in
      let all : c.loop-disk.disk ≡ m.setup.geometry.disks = (let e = c.disks-disks.ensures in let k : c.loop-disk.disk ≡ c.disks-disks.result = omega arith in k ∙ e ∙ ap (λ (z : Meta). z.setup.geometry.disks) c.meta.ensures.value) in
      keeps_so (λ v. c.loop-disk.into ≡ reconstructed_value v c.args.row c.args.out) c.loop-disk.invariant.kept
      (λ v s is. far_read v m (g.met.C.Stored.agrees c.args.core.now v s).0 c.args.row c.args.out _ (is ∙ ap (xor_upto (without (stored_value v c.args.row) c.args.out)) all));
  lost = tt;
}

pub returns-in_err-add_near : goal.returns-in_err-add_near
returns-in_err-add_near g c = record {
  shown = none_done _ c.from_residual.result _ c.from_residual.ensures.1;
  lost = handed (g.C.Stored.loses c.args.core.now c.add_near.new.core) c.from_residual.result _ c.from_residual.ensures.1 (g.met.C.Stored.then_lost _ _ _ _ c.loop-disk.invariant.kept.goes c.in_err-add_near.ensures.lost);
}
