use Rattle.std.proofs.lemmas.Result.{on_ok_weaker}
use Rattle.paraid_plan.proofs.LeavesLemmas.{failed, leaves_as, not_ok, stays_none, stays_then}
use Rattle.std.proofs.Common.{◌≡◌, ◌≢◌, ◌+◌, ℕ, true, ◌∙◌, refl, sym, ap, subst, arith, inl, inr, below_more}
use Rattle.std.proofs.lemmas.Bool.{cases_eq}
use Rattle.paraid_base.specs.Cells.{parity_disk}
use Rattle.paraid_base.specs.Pairs.{pairs_of}
use Rattle.paraid_base.specs.Sums.{without, xor_upto}
use Rattle.paraid_base.proofs.CellsLemmas.{parity_disk_below}
use Rattle.paraid_base.proofs.SumsLemmas.{others_none}
use Rattle.paraid_plan.specs.Desk.{Desk, sees}
use Rattle.paraid_plan.specs.RowWrites.{IsOldOf, is_changed, parity_part}
use Rattle.paraid_plan.specs.WriteTargets.{needs_old}
use Rattle.paraid_image.specs.Value.{value}
use Rattle.paraid_plan.proofs.PartLemmas.{whole_part}
use Rattle.paraid_plan.proofs.read.read_cells.Goals as goal

pub loop-d-init : goal.loop-d-init
loop-d-init g c = record {
  sum = λ tells needed. c.requires.empty ∙ others_none _ _;
  olds = λ tells e l apart changed old. absurd (omega (arith, l));
  kept = refl;
  stays = stays_none g.P.WritePlan _ _ c.requires.serves;
  leads = g.met.P.WritePlan.stays c.args.plan.now;
}

pub loop-d-preserved : goal.loop-d-preserved
loop-d-preserved g c =
    let m = c.args.m.now in
    let n = m.setup.geometry.disks in
    let p : ℕ = parity_disk n c.args.r in
    let ws = pairs_of c.args.pairs.now in
    let before = c.loop-d.invariant in
    let call = c.in_ok-read_data.ensures in
    let law = g.met.P.WritePlan.told c.loop-d.plan c.read_data.new.plan call.reads.leads in
    record {
      sum = λ tells needed.
          subst (λ (z : Desk). c.loop-d.sum ≡ xor_upto (without (parity_part n ws c.args.r (value (sees m z) c.args.r) c.args.anew) p) c.loop-d.d
          → c.read_data.new.sum ≡ xor_upto (without (parity_part n ws c.args.r (value (sees m z) c.args.r) c.args.anew) p) (c.loop-d.d + 1))
          (before.stays.same (law tells)) (call.sum tells needed) (before.sum (law tells) needed);
      olds = λ tells. below_more (λ e. e ≢ p → is_changed n ws c.args.r e ≡ true → needs_old (sees m (g.P.WritePlan.desk c.args.plan.now)) c.args.r e ≡ true
          → IsOldOf c.read_data.new.old e (value (sees m (g.P.WritePlan.desk c.args.plan.now)) c.args.r e)) c.loop-d.d
          (λ e l apart changed old. call.others e _ (λ is. absurd (omega (arith, l, is))) (before.olds (law tells) e l apart changed old))
          (λ apart changed old.
          subst (λ (z : Desk). needs_old (sees m z) c.args.r c.loop-d.d ≡ true → IsOldOf c.read_data.new.old c.loop-d.d (value (sees m z) c.args.r c.loop-d.d))
          (before.stays.same (law tells)) (λ k. call.here tells apart changed k) old);
      kept = call.kept ∙ before.kept;
      stays = stays_then g.P.WritePlan m _ _ _ law before.stays call.reads.ok;
      leads = g.met.P.WritePlan.then _ _ _ before.leads call.reads.leads;
    }

pub returns : goal.returns
returns g c =
    record {
      old = (on_ok_weaker c.read_cell.result (λ here tells.
          let m = c.args.m.now in
          let n = m.setup.geometry.disks in
          let ws = pairs_of c.args.pairs.now in
          let before = c.loop-d.invariant in
          let call = c.read_cell.ensures in
          let t = g.met.P.WritePlan.told c.loop-d.plan c.read_cell.new.plan call.reads.leads tells in
          let p = c.args.p in
          let past = c.loop-d-test.false in
          let until = c.loop-d.auto.d-end in
          record {
            read = λ e le changed old. elim (cases_eq e c.args.p) [
              | inl is ↦
                  subst (λ (z : ℕ). IsOldOf c.read_cell.new.old z (value (sees m (g.P.WritePlan.desk c.args.plan.now)) c.args.r z)) (sym is)
                  (subst (λ (z : Desk). needs_old (sees m z) c.args.r c.args.p ≡ true → IsOldOf c.read_cell.new.old c.args.p (value (sees m z) c.args.r c.args.p))
                  (before.stays.same t) (λ k. here tells (subst (λ (z : ℕ). is_changed n ws c.args.r z ≡ true) is changed) k) (subst (λ (z : ℕ). needs_old (sees m (g.P.WritePlan.desk c.args.plan.now)) c.args.r z ≡ true) is old))
              | inr off ↦ call.others e _ off (before.olds t e (omega (arith, le, past, until)) (λ is. off (is ∙ sym c.requires.parity)) changed old)
            ];
          }) c.read_cell.ensures.here);
      sum = (on_ok_weaker c.read_cell.result (λ sum tells needed.
          let m = c.args.m.now in
          let n = m.setup.geometry.disks in
          let low = m.setup.geometry.disks_low in
          let ws = pairs_of c.args.pairs.now in
          let before = c.loop-d.invariant in
          let call = c.read_cell.ensures in
          let t = g.met.P.WritePlan.told c.loop-d.plan c.read_cell.new.plan call.reads.leads tells in
          let past = c.loop-d-test.false in
          let until = c.loop-d.auto.d-end in
          let same : c.loop-d.d ≡ n = omega (arith, past, until) in
          whole_part (parity_part n ws c.args.r (value (sees m (g.P.WritePlan.desk c.args.plan.now)) c.args.r) c.args.anew) (parity_disk n c.args.r) c.args.p n c.loop-d.d _ _ _
          c.requires.parity (parity_disk_below n c.args.r (omega (arith, low))) same (before.sum t needed)
          (ap (λ (z : Desk). parity_part n ws c.args.r (value (sees m z) c.args.r) c.args.anew c.args.p) (before.stays.same t)) (sum tells needed)) c.read_cell.ensures.sum);
      kept = on_ok_weaker c.read_cell.result (λ kept. kept ∙ c.loop-d.invariant.kept) c.read_cell.ensures.kept;
      reads = (leaves_as g.P.WritePlan _ _ _ c.read_cell.result
          (stays_then g.P.WritePlan c.args.m.now _ _ _ (g.met.P.WritePlan.told _ _ c.read_cell.ensures.reads.leads) c.loop-d.invariant.stays)
          (g.met.P.WritePlan.then _ _ _ c.loop-d.invariant.leads) c.read_cell.ensures.reads);
    }

pub returns-in_err-read_data : goal.returns-in_err-read_data
returns-in_err-read_data g c =
    record {
      old = not_ok _ _ c.from_residual.result c.from_residual.ensures.1;
      sum = not_ok _ _ c.from_residual.result c.from_residual.ensures.1;
      kept = not_ok _ _ c.from_residual.result c.from_residual.ensures.1;
      reads = failed g.P.WritePlan _ _ _ _ c.from_residual.ensures.1 c.in_err-read_data.ensures.reads.fails (g.met.P.WritePlan.then _ _ _ c.loop-d.invariant.leads c.read_data.ensures.reads.leads);
    }

pub read_data-requires : goal.read_data-requires
read_data-requires g c =
    record {
      serves = c.loop-d.invariant.stays.goes_on;
      in_range = c.requires.in_range;
      row = c.requires.row;
      disk = c.loop-d-test.true;
      parity = c.requires.parity;
      given = c.requires.given;
      kept = λ soft. c.loop-d.invariant.kept ∙ c.requires.kept soft;
    }

pub read_cell-requires : goal.read_cell-requires
read_cell-requires g c =
    record {
      serves = c.loop-d.invariant.stays.goes_on;
      in_range = c.requires.in_range;
      row = c.requires.row;
      disk = c.requires.parity_disk;
      parity = c.requires.parity;
      given = c.requires.given;
      kept = λ soft. c.loop-d.invariant.kept ∙ c.requires.kept soft;
    }
