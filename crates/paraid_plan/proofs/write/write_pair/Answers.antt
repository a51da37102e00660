use Rattle.std.specs.Prelude.{◌==◌, ◌&&◌, Bool}
use Rattle.std.proofs.Common.{◌∙◌, ℕ, ap, refl, subst, sym, arith, get_or}
use Rattle.paraid_base.specs.declared.block.Block.{Block}
use Rattle.paraid_base.specs.Cells.{cell_block, parity_disk}
use Rattle.paraid_base.specs.Xor.{zero_block}
use Rattle.paraid_plan.specs.Desk.{cell_desk}
use Rattle.paraid_plan.specs.RowWrites.{IsOldOf}
use Rattle.paraid_image.specs.Out.{named_out}
use Rattle.paraid_plan.proofs.DeskLemmas.{old_fits}
use Rattle.paraid_plan.proofs.GrowthLemmas.{cell_grows}
use Rattle.paraid_base.specs.Pairs.{pairs_of}
use Rattle.paraid_plan.proofs.LeavesLemmas.{failed}
use Rattle.paraid_plan.proofs.OutsLemmas.{only_out}
use Rattle.paraid_plan.proofs.PairLemmas.{one_away_is, one_here_is, pair_named}
use Rattle.paraid_plan.proofs.PartLemmas.{elsewhere_old, elsewhere_turns, pair_old, pair_turns}
use Rattle.paraid_plan.proofs.RowBitsLemmas.{and_false, bits_cell, bits_none, one_named, one_unnamed}
use Rattle.paraid_plan.proofs.RowLemmas.{adds_cell, adds_none, cell_bit_off}
use Rattle.paraid_plan.proofs.write.write_pair.Goals as goal

pub write_cell-requires : goal.write_cell-requires
write_cell-requires g c =
    record {
      serves = c.requires.serves;
      in_range = c.requires.in_range;
      row = c.requires.row;
      disk = c.home-q.ensures.disk_in;
      room = (let one = one_here_is c.args.m.now.setup.geometry.disks (get_or c.args.pairs.now.blocks c.args.at 0) c.args.r c.home-q.result.0 c.home-q.ensures.row c.if-q-r.false in
          let room = c.requires.room in
          omega (arith, one, room));
      few = (let one = one_here_is c.args.m.now.setup.geometry.disks (get_or c.args.pairs.now.blocks c.args.at 0) c.args.r c.home-q.result.0 c.home-q.ensures.row c.if-q-r.false in
          let bits = c.requires.bits in
          omega (arith, one, bits));
    }

pub keep_if-requires : goal.keep_if-requires
keep_if-requires g c h =
    old_fits c.args.m.now (g.P.WritePlan.desk c.write_cell.new.plan) c.args.r c.home-q.result.1 c.args.old.now c.home-q.ensures.disk_in c.requires.kept (sym c.needs_old-depends.ensures ∙ h)

pub returns-then-q-r : goal.returns-then-q-r
returns-then-q-r g c =
    let m = c.args.m.now in
    let n = m.setup.geometry.disks in
    let r = c.args.r in
    let s = g.P.WritePlan.desk c.args.plan.now in
    let block = get_or c.args.pairs.now.blocks c.args.at 0 in
    let bytes : Block = get_or c.args.pairs.now.bytes c.args.at zero_block in
    let none = one_away_is n block r c.home-q.result.0 c.home-q.ensures.row c.if-q-r.true in
    record {
      ok = record {
        adds = λ tells. adds_none m s;
        turns = λ tells row was. elsewhere_turns m s block r bytes row (λ is. c.if-q-r.true (c.home-q.ensures.row ∙ is));
        reads = λ tells row was. elsewhere_old m s (pairs_of c.args.pairs.now) block r bytes c.args.old.now row (λ is. c.if-q-r.true (c.home-q.ensures.row ∙ is)) was;
        kept = refl;
        parity = λ tells. refl;
        bits = bits_none m s.dirty s.dirty _ refl
            (λ q e. ap (λ (z : Bool). q == r && z) (one_unnamed n block r c.home-q.result.0 bytes e c.home-q.ensures.row c.if-q-r.true) ∙ and_false (q == r));
        room = omega (arith, none);
        some = λ tells out. omega (arith, none);
        changes = omega (arith, none);
        goes_on = c.requires.serves;
      };
      fails = tt;
      leads = g.met.P.WritePlan.stays c.args.plan.now;
    }

pub returns-in_err-write_cell : goal.returns-in_err-write_cell
returns-in_err-write_cell g c = failed g.P.WritePlan _ _ _ _ c.from_residual.ensures.1 c.in_err-write_cell.ensures.fails c.write_cell.ensures.leads

pub returns : goal.returns
returns g c =
    let m = c.args.m.now in
    let n = m.setup.geometry.disks in
    let r = c.args.r in
    let s = g.P.WritePlan.desk c.args.plan.now in
    let t = g.P.WritePlan.desk c.write_cell.new.plan in
    let d = c.home-q.result.1 in
    let ws = pairs_of c.args.pairs.now in
    let block = get_or c.args.pairs.now.blocks c.args.at 0 in
    let bytes : Block = get_or c.args.pairs.now.bytes c.args.at zero_block in
    let apart = c.home-q.ensures.not_parity in
    let back = ap (λ (z : ℕ). cell_block n z d) (sym c.if-q-r.false) ∙ c.home-q.ensures.back in
    let one = one_here_is n block r c.home-q.result.0 c.home-q.ensures.row c.if-q-r.false in
    let call = c.in_ok-write_cell.ensures in
    let room = call.room in
    let changes = call.changes in
    record {
      ok = record {
        adds = λ tells. adds_cell m s t r d _ _ c.requires.in_range c.requires.row c.home-q.ensures.disk_in (call.desk tells);
        turns = λ tells row was.
            pair_turns m s t ws block r d bytes c.kept_or.result.now c.args.old.now row
            c.requires.in_range c.requires.row c.home-q.ensures.disk_in (λ is. apart (is ∙ ap (parity_disk n) (sym c.if-q-r.false))) back c.kept_or.ensures
            (call.desk tells ∙ ap (λ (z : Block). cell_desk m s r d c.kept_or.result.now z) c.block_of-bytes.ensures) was (pair_named c.args.pairs.now c.args.at c.requires.at);
        reads = λ tells row was.
            pair_old m s t ws block r d bytes c.kept_or.result.now c.args.old.now row
            c.requires.in_range c.requires.row c.home-q.ensures.disk_in (λ is. apart (is ∙ ap (parity_disk n) (sym c.if-q-r.false))) back c.kept_or.ensures
            (call.desk tells ∙ ap (λ (z : Block). cell_desk m s r d c.kept_or.result.now z) c.block_of-bytes.ensures) was
            c.keep_if.new.kept (λ h. subst (IsOldOf c.keep_if.new.kept d) c.block_of-bytes.ensures (c.keep_if.ensures.here (c.needs_old-depends.ensures ∙ h))) c.keep_if.ensures.others;
        kept = c.keep_if.ensures.length;
        parity = λ tells. cell_bit_off m s t r d (parity_disk n r) _ _ (call.desk tells) (λ is. apart (sym is ∙ ap (parity_disk n) (sym c.if-q-r.false)));
        bits = bits_cell m r d s.dirty t.dirty _ call.bits
            (λ q e. ap (λ (z : Bool). q == r && z) (one_named n block r c.home-q.result.0 d bytes e c.home-q.ensures.row c.home-q.ensures.disk c.if-q-r.false));
        room = omega (arith, one, room);
        some = λ tells out.
            let more = cell_grows m s t r d _ _ (call.desk tells)
            (only_out (named_out m.out) (parity_disk n r) d out (λ is. apart (is ∙ ap (parity_disk n) (sym c.if-q-r.false)))) in
            omega (arith, one, more);
        changes = omega (arith, one, changes);
        goes_on = call.goes_on;
      };
      fails = tt;
      leads = c.write_cell.ensures.leads;
    }

pub needs_old-depends-requires : goal.needs_old-depends-requires
needs_old-depends-requires g c =
    record {
      serves = c.in_ok-write_cell.ensures.goes_on;
      in_range = c.requires.in_range;
      row = c.requires.row;
      disk = c.home-q.ensures.disk_in;
    }
