use Rattle.std.specs.Prelude.{◌&&◌}
use Rattle.std.proofs.Common.{◌≡◌, ◌∙◌, ◌+◌, ℕ, ap, refl, sym, subst, arith}
use Rattle.paraid_base.specs.History.{Entry, last_of}
use Rattle.paraid_base.specs.Pairs.{pairs_of}
use Rattle.paraid_base.proofs.PairsLemmas.{length-pairs_of}
use Rattle.paraid_plan.specs.RowBits.{TurnsBits, turns_cell_of, turns_in_new_row}
use Rattle.paraid_plan.specs.RowWrites.{names_row, pairs_before, row_change}
use Rattle.paraid_plan.proofs.GrowthLemmas.{pair_grows}
use Rattle.paraid_plan.proofs.LeavesLemmas.{at_err, not_ok}
use Rattle.paraid_plan.proofs.PairLemmas.{before_all, before_none, change_all, change_next, change_none, counted_few, counted_next, rows_change}
use Rattle.paraid_plan.proofs.RowBitsLemmas.{bits_none, bits_then, rows_turn_next, rows_turn_none, writes_turn}
use Rattle.paraid_plan.proofs.RowLemmas.{stages_none, stages_same, stages_then}
use Rattle.paraid_plan.proofs.write.write_blocks.Goals as goal

pub loop-at-init : goal.loop-at-init
loop-at-init g c =
    let m = c.args.m.now in
    let n = m.setup.geometry.disks in
    let p = c.args.pairs.now in
    let s = g.P.WritePlan.desk c.args.plan.now in
    record {
      writes = λ tells. stages_same m s s (λ i x. x) (rows_change n (pairs_before p 0) (pairs_of p))
          (λ i x. ap (λ (z : Entry). rows_change n z (pairs_of p) i x) (before_none p) ∙ change_none n (pairs_of p) i x) (stages_none m s);
      bits = bits_none m s.dirty s.dirty _ refl (λ q e. rows_turn_none n p q e);
      few = omega arith;
      grows = λ tells some. omega (arith, some);
      changes = omega arith;
      goes_on = c.requires.serves;
      leads = g.met.P.WritePlan.stays c.args.plan.now;
    }

pub write_row_of-requires : goal.write_row_of-requires
write_row_of-requires g c = record {
  serves = c.loop-at.invariant.goes_on;
  in_range = c.requires.in_range;
  at = c.loop-at-test.true;
  blocks = c.requires.blocks;
  room =
      let n = c.args.m.now.setup.geometry.disks in
      let p = c.args.pairs.now in
      let next = counted_next n p c.loop-at.at c.loop-at-test.true in
      let most = counted_few n (pairs_before p (c.loop-at.at + 1)) (pairs_of p) in
      let long = length-pairs_of p in
      let few = c.loop-at.invariant.few in
      let room = c.requires.room in
      omega (arith, next, most, long, few, room);
  bits =
      let n = c.args.m.now.setup.geometry.disks in
      let p = c.args.pairs.now in
      let next = counted_next n p c.loop-at.at c.loop-at-test.true in
      let most = counted_few n (pairs_before p (c.loop-at.at + 1)) (pairs_of p) in
      let long = length-pairs_of p in
      let few = c.loop-at.invariant.changes in
      let bits = c.requires.bits in
      omega (arith, next, most, long, few, bits);
}

pub loop-at-preserved : goal.loop-at-preserved
loop-at-preserved g c =
    let m = c.args.m.now in
    let n = m.setup.geometry.disks in
    let p = c.args.pairs.now in
    let at = c.loop-at.at in
    let test = c.loop-at-test.true in
    let before = c.loop-at.invariant in
    let call = c.in_ok-write_row_of.ensures.ok in
    let leads = c.write_row_of.ensures.leads in
    let next = counted_next n p at test in
    let few = before.few in
    let more = call.few in
    let turned = before.changes in
    let bit = call.changes in
    record {
      writes = λ tells.
          stages_same m (g.P.WritePlan.desk c.args.plan.now) (g.P.WritePlan.desk c.write_row_of.new.plan) (λ i x. row_change n p at i (rows_change n (pairs_before p at) (pairs_of p) i x))
          (rows_change n (pairs_before p (at + 1)) (pairs_of p)) (λ i x. change_next n p at i x test)
          (stages_then m (g.P.WritePlan.desk c.args.plan.now) (g.P.WritePlan.desk c.loop-at.plan) (g.P.WritePlan.desk c.write_row_of.new.plan) (rows_change n (pairs_before p at) (pairs_of p)) (row_change n p at)
          (before.writes (g.met.P.WritePlan.told c.loop-at.plan c.write_row_of.new.plan leads tells)) (call.write tells));
      bits = bits_then m (g.P.WritePlan.desk c.args.plan.now).dirty (g.P.WritePlan.desk c.loop-at.plan).dirty (g.P.WritePlan.desk c.write_row_of.new.plan).dirty
          (λ q e. names_row n (pairs_before p at) q && turns_cell_of n (pairs_of p) q e) (turns_in_new_row n p at) _ (λ q e. rows_turn_next n p at q e test) before.bits call.bits;
      few = omega (arith, next, few, more);
      grows = λ tells some.
          let was = g.met.P.WritePlan.told c.loop-at.plan c.write_row_of.new.plan leads tells in
          pair_grows n p at m (g.P.WritePlan.desk c.args.plan.now) (g.P.WritePlan.desk c.loop-at.plan) (g.P.WritePlan.desk c.write_row_of.new.plan) (before.writes was).adds (call.write tells).adds (before.grows was) (call.grows tells);
      changes = omega (arith, next, turned, bit);
      goes_on = call.goes_on;
      leads = g.met.P.WritePlan.then _ _ _ before.leads leads;
    }

pub returns-in_err-write_row_of : goal.returns-in_err-write_row_of
returns-in_err-write_row_of g c = record {
  writes = not_ok _ _ c.from_residual.result c.from_residual.ensures.1;
  bits = not_ok _ _ c.from_residual.result c.from_residual.ensures.1;
  few = not_ok _ _ c.from_residual.result c.from_residual.ensures.1;
  grows = not_ok _ _ c.from_residual.result c.from_residual.ensures.1;
  goes_on = not_ok _ _ c.from_residual.result c.from_residual.ensures.1;
  fails = at_err c.from_residual.result c.in_err-write_row_of.ensures.fails;
  leads = g.met.P.WritePlan.then _ _ _ c.loop-at.invariant.leads c.write_row_of.ensures.leads;
}

pub returns : goal.returns
returns g c = record {
  writes = λ tells.
      let m = c.args.m.now in
      let n = m.setup.geometry.disks in
      let p = c.args.pairs.now in
      let past = c.loop-at-test.false in
      let until = c.loop-at.auto.at-end in
      let same : c.loop-at.at ≡ p.count = omega (arith, past, until) in
      stages_same m (g.P.WritePlan.desk c.args.plan.now) (g.P.WritePlan.desk c.loop-at.plan) (rows_change n (pairs_before p c.loop-at.at) (pairs_of p)) (λ i x. last_of i x (pairs_of p))
      (λ i x. change_all n p i x ∙ ap (λ (z : ℕ). rows_change n (pairs_before p z) (pairs_of p) i x) (sym same)) (c.loop-at.invariant.writes tells);
  bits =
      let m = c.args.m.now in
      let n = m.setup.geometry.disks in
      let p = c.args.pairs.now in
      let past = c.loop-at-test.false in
      let until = c.loop-at.auto.at-end in
      let same : c.loop-at.at ≡ p.count = omega (arith, past, until) in
      let all : TurnsBits m (g.P.WritePlan.desk c.args.plan.now).dirty (g.P.WritePlan.desk c.loop-at.plan).dirty (λ q e. names_row n (pairs_of p) q && turns_cell_of n (pairs_of p) q e) =
      subst (λ (z : Entry). TurnsBits m (g.P.WritePlan.desk c.args.plan.now).dirty (g.P.WritePlan.desk c.loop-at.plan).dirty (λ q e. names_row n z q && turns_cell_of n (pairs_of p) q e))
      (ap (pairs_before p) same ∙ before_all p) c.loop-at.invariant.bits in
      λ t. λ q e. (all q e ∙ sym (writes_turn m (pairs_of p) (g.P.WritePlan.desk c.args.plan.now).dirty q e)) t;
  few =
      let p = c.args.pairs.now in
      let most = counted_few c.args.m.now.setup.geometry.disks (pairs_before p c.loop-at.at) (pairs_of p) in
      let long = length-pairs_of p in
      let few = c.loop-at.invariant.few in
      omega (arith, most, long, few);
  grows = λ tells.
      let past = c.loop-at-test.false in
      let until = c.loop-at.auto.at-end in
      let p = c.args.pairs.now in
      let some = p.some in
      c.loop-at.invariant.grows tells (omega (arith, past, until, some));
  goes_on = c.loop-at.invariant.goes_on;
  fails = tt;
  leads = c.loop-at.invariant.leads;
}
