use Rattle.std.specs.Prelude.{◌&&◌}
use Rattle.std.proofs.Common.{◌≤◌, ◌==◌, ◌∙◌, ℕ, ap, sym, subst, arith, if◌then◌else◌}
use Rattle.paraid_base.specs.Cells.{home_row}
use Rattle.paraid_base.specs.History.{last_of}
use Rattle.paraid_base.specs.Pairs.{pairs_of}
use Rattle.paraid_plan.specs.RowWrites.{count_in_row, names_row, pairs_before, row_change}
use Rattle.paraid_plan.proofs.GrowthLemmas.{old_row_none}
use Rattle.paraid_plan.proofs.LeavesLemmas.{leaves_as, row_none, row_same}
use Rattle.paraid_plan.proofs.ManyLemmas.{pair_below}
use Rattle.paraid_plan.proofs.PairLemmas.{new_row_change, new_row_some, old_row_change, pair_counted}
use Rattle.paraid_plan.specs.RowBits.{turns_cell_of}
use Rattle.paraid_plan.proofs.RowBitsLemmas.{new_row_turns, old_row_turns}
use Rattle.paraid_plan.proofs.write.write_row_of.Goals as goal

pub home-r-requires : goal.home-r-requires
home-r-requires g c = pair_below c.args.pairs.now _ c.args.at c.requires.blocks c.requires.at

pub write_row-requires : goal.write_row-requires
write_row-requires g c =
    record {
      serves = c.requires.serves;
      in_range = c.requires.in_range;
      row = c.home-r.ensures.row_in;
      blocks = c.requires.blocks;
      some = (let n = c.args.m.now.setup.geometry.disks in
          let p = c.args.pairs.now in
          subst (λ (z : ℕ). 1 ≤ count_in_row n (pairs_of p) z) (sym c.home-r.ensures.row) (pair_counted n p c.args.at c.requires.at));
      room = (let n = c.args.m.now.setup.geometry.disks in
          let p = c.args.pairs.now in
          let new = new_row_some n p c.args.at (ap (names_row n (pairs_before p c.args.at)) (sym c.home-r.ensures.row) ∙ sym c.is_row_before.ensures ∙ c.if-is_row_before.false)
          ∙ ap (count_in_row n (pairs_of p)) (sym c.home-r.ensures.row) in
          let room = c.requires.room in
          omega (arith, new, room));
      bits = (let n = c.args.m.now.setup.geometry.disks in
          let p = c.args.pairs.now in
          let new = new_row_some n p c.args.at (ap (names_row n (pairs_before p c.args.at)) (sym c.home-r.ensures.row) ∙ sym c.is_row_before.ensures ∙ c.if-is_row_before.false)
          ∙ ap (count_in_row n (pairs_of p)) (sym c.home-r.ensures.row) in
          let bits = c.requires.bits in
          omega (arith, new, bits));
    }

pub returns-then-is_row_before : goal.returns-then-is_row_before
returns-then-is_row_before g c =
    let n = c.args.m.now.setup.geometry.disks in
    let p = c.args.pairs.now in
    let before = ap (names_row n (pairs_before p c.args.at)) (sym c.home-r.ensures.row) ∙ sym c.is_row_before.ensures ∙ c.if-is_row_before.true in
    record {
      ok = row_none g.P.WritePlan c.args.m.now _ (row_change n p c.args.at) _ c.args.plan.now c.requires.serves (old_row_none n p c.args.at before)
          (old_row_change n p c.args.at before) (λ q e. old_row_turns n p c.args.at q e before);
      fails = tt;
      leads = g.met.P.WritePlan.stays c.args.plan.now;
    }

pub returns : goal.returns
returns g c =
    let n = c.args.m.now.setup.geometry.disks in
    let p = c.args.pairs.now in
    let r = c.home-r.ensures.row in
    let new = ap (names_row n (pairs_before p c.args.at)) (sym r) ∙ sym c.is_row_before.ensures ∙ c.if-is_row_before.false in
    leaves_as g.P.WritePlan _ _ _ c.write_row.result
    (row_same g.P.WritePlan c.args.m.now _ _ (λ i x. if home_row n i == c.home-r.result.0 then last_of i x (pairs_of p) else x) (row_change n p c.args.at) (λ q e. q == c.home-r.result.0 && turns_cell_of n (pairs_of p) c.home-r.result.0 e) _ _ _
    (new_row_some n p c.args.at new ∙ ap (count_in_row n (pairs_of p)) (sym r))
    (λ i x. new_row_change n p c.args.at new i x ∙ ap (λ (z : ℕ). if home_row n i == z then last_of i x (pairs_of p) else x) (sym r))
    (λ q e. new_row_turns n p c.args.at q e c.home-r.result.0 r new))
    (λ leads. leads) c.write_row.ensures
