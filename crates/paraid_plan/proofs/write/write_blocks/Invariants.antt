use Rattle.std.specs.Prelude.{◌&&◌, ◌+◌, ◌*◌, ◌≤◌, length}
use Rattle.paraid_base.specs.Pairs.{pairs_of}
use Rattle.paraid_plan.specs.RowBits.{TurnsBits, turns_cell_of}
use Rattle.paraid_plan.specs.RowWrites.{StagesBlocks, names_row, pairs_before}
use Rattle.paraid_plan.proofs.PairLemmas.{counted, rows_change}
use Rattle.paraid_plan.proofs.write.write_blocks.Given as goal

-- the rows of the pairs before this one are written
abbrev pub invariant-loop-at : goal.invariant-loop-at
invariant-loop-at g l = record {
  writes : g.P.WritePlan.tells l.plan
      → StagesBlocks l.fn.m (g.P.WritePlan.desk l.fn.plan) (g.P.WritePlan.desk l.plan) (rows_change l.fn.m.setup.geometry.disks (pairs_before l.fn.pairs l.at) (pairs_of l.fn.pairs));
  bits : TurnsBits l.fn.m (g.P.WritePlan.desk l.fn.plan).dirty (g.P.WritePlan.desk l.plan).dirty (λ q e. names_row l.fn.m.setup.geometry.disks (pairs_before l.fn.pairs l.at) q && turns_cell_of l.fn.m.setup.geometry.disks (pairs_of l.fn.pairs) q e);
  few : length (g.P.WritePlan.desk l.plan).staged ≤ length (g.P.WritePlan.desk l.fn.plan).staged + 10 * counted l.fn.m.setup.geometry.disks (pairs_before l.fn.pairs l.at) (pairs_of l.fn.pairs);
  grows : g.P.WritePlan.tells l.plan → 1 ≤ l.at → length (g.P.WritePlan.desk l.fn.plan).staged + 1 ≤ length (g.P.WritePlan.desk l.plan).staged;
  changes : g.P.WritePlan.changes l.plan ≤ g.P.WritePlan.changes l.fn.plan + 2 * counted l.fn.m.setup.geometry.disks (pairs_before l.fn.pairs l.at) (pairs_of l.fn.pairs);
  goes_on : g.P.WritePlan.serves l.plan l.fn.m;
  leads : g.P.WritePlan.leads l.fn.plan l.plan;
}
