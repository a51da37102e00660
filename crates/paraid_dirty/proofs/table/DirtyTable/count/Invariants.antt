use Rattle.std.proofs.Common.{◌≡◌, ◌≤◌, ◌*◌}
use Rattle.paraid_base.specs.Sums.{sum_before}
use Rattle.paraid_dirty.proofs.CountLemmas.{flat}
use Rattle.paraid_dirty.proofs.table.DirtyTable.count.Given as goal

abbrev pub invariant-loop-at : goal.invariant-loop-at
invariant-loop-at l = record {
  counted : l.count ≡ sum_before (flat l.self-inside.words.items l.lo l.hi) (64 * l.at);
  small : l.count ≤ 64 * l.at;
}
