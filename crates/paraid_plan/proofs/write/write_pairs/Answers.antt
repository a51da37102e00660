use Rattle.std.proofs.Common.{◌≡◌, ◌∙◌, ap, subst, arith}
use Rattle.paraid_base.specs.History.{Entry}
use Rattle.paraid_base.specs.Pairs.{pairs_of}
use Rattle.paraid_plan.specs.Leaves.{WritesCells}
use Rattle.paraid_plan.specs.RowWrites.{count_in_row, pairs_before}
use Rattle.paraid_plan.proofs.LeavesLemmas.{cells_written_next, cells_written_none, failed}
use Rattle.paraid_plan.proofs.ManyLemmas.{pair_below}
use Rattle.paraid_plan.proofs.PairLemmas.{before_all, count_before}
use Rattle.paraid_plan.proofs.write.write_pairs.Goals as goal

pub write_pair-requires : goal.write_pair-requires
write_pair-requires g c =
    record {
      serves = c.loop-at.invariant.written.goes_on;
      in_range = c.requires.in_range;
      row = c.requires.row;
      at = c.loop-at-test.true;
      kept = λ soft. c.loop-at.invariant.written.kept ∙ c.requires.kept soft;
      block = pair_below c.args.pairs.now _ c.loop-at.at c.requires.blocks c.loop-at-test.true;
      room = (let less = count_before c.args.m.now.setup.geometry.disks c.args.pairs.now c.loop-at.at c.args.r c.loop-at-test.true in
          let few = c.loop-at.invariant.written.room in
          let room = c.requires.room in
          omega (arith, less, few, room));
      bits = (let less = count_before c.args.m.now.setup.geometry.disks c.args.pairs.now c.loop-at.at c.args.r c.loop-at-test.true in
          let few = c.loop-at.invariant.written.changes in
          let bits = c.requires.bits in
          omega (arith, less, few, bits));
    }

pub loop-at-init : goal.loop-at-init
loop-at-init g c = record {
  written = cells_written_none g.P.WritePlan c.args.m.now c.args.pairs.now c.args.r c.args.old.now c.args.plan.now c.requires.serves;
  leads = g.met.P.WritePlan.stays c.args.plan.now;
}

pub loop-at-preserved : goal.loop-at-preserved
loop-at-preserved g c = record {
  written = cells_written_next g.P.WritePlan c.args.m.now c.args.pairs.now c.loop-at.at c.args.r c.args.old.now c.loop-at.old c.write_pair.new.old c.args.plan.now c.loop-at.plan c.write_pair.new.plan
      c.loop-at-test.true (g.met.P.WritePlan.told c.loop-at.plan c.write_pair.new.plan c.write_pair.ensures.leads) c.loop-at.invariant.written c.in_ok-write_pair.ensures.ok;
  leads = g.met.P.WritePlan.then _ _ _ c.loop-at.invariant.leads c.write_pair.ensures.leads;
}

pub returns-in_err-write_pair : goal.returns-in_err-write_pair
returns-in_err-write_pair g c = failed g.P.WritePlan _ _ _ _ c.from_residual.ensures.1 c.in_err-write_pair.ensures.fails (g.met.P.WritePlan.then _ _ _ c.loop-at.invariant.leads c.write_pair.ensures.leads)

pub returns : goal.returns
returns g c =
    let m = c.args.m.now in
    let past = c.loop-at-test.false in
    let until = c.loop-at.auto.at-end in
    let p = c.args.pairs.now in
    let same : c.loop-at.at ≡ p.count = omega (arith, past, until) in
    record {
      ok = subst (λ (z : Entry). WritesCells g.P.WritePlan m (pairs_of p) z c.args.r (count_in_row m.setup.geometry.disks z c.args.r) c.args.old.now c.loop-at.old c.args.plan.now c.loop-at.plan)
          (ap (pairs_before p) same ∙ before_all p) c.loop-at.invariant.written;
      fails = tt;
      leads = c.loop-at.invariant.leads;
    }
