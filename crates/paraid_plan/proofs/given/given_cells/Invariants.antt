use Rattle.paraid_plan.specs.RowWrites.{AreGivenBy, pairs_before}
use Rattle.paraid_plan.proofs.given.given_cells.Given as goal

-- what the pairs before this one give
abbrev pub invariant-loop-at : goal.invariant-loop-at
invariant-loop-at l = AreGivenBy l.fn.pairs.bytes l.fn.g.disks (pairs_before l.fn.pairs l.at) l.fn.r l.given
