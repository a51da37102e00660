use Rattle.paraid_base.specs.Pairs.{pairs_of}
use Rattle.paraid_plan.specs.Leaves.{WritesCells}
use Rattle.paraid_plan.specs.RowWrites.{count_in_row, pairs_before}
use Rattle.paraid_plan.proofs.write.write_pairs.Given as goal

-- the cells of the pairs before this one are written
abbrev pub invariant-loop-at : goal.invariant-loop-at
invariant-loop-at g l = record {
  written : WritesCells g.P.WritePlan l.fn.m (pairs_of l.fn.pairs) (pairs_before l.fn.pairs l.at) l.fn.r (count_in_row l.fn.m.setup.geometry.disks (pairs_before l.fn.pairs l.at) l.fn.r) l.fn.old l.old l.fn.plan l.plan;
  leads : g.P.WritePlan.leads l.fn.plan l.plan;
}
