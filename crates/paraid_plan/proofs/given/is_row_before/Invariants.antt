use Rattle.std.specs.Prelude.{◌≡◌}
use Rattle.paraid_plan.specs.RowWrites.{names_row, pairs_before}
use Rattle.paraid_plan.proofs.given.is_row_before.Given as goal

-- whether one of the pairs so far lies in the row
abbrev pub invariant-loop-before : goal.invariant-loop-before
invariant-loop-before l = names_row l.fn.g.disks (pairs_before l.fn.pairs l.before) l.fn.r ≡ l.found
