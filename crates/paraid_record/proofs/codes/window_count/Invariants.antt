use Rattle.std.proofs.Common.{◌≡◌, ◌≤◌, take, nat_lt}
use Rattle.std.specs.Prelude.{count_by}
use Rattle.paraid_record.proofs.codes.window_count.Given as goal

abbrev pub invariant-loop-length : goal.invariant-loop-length
invariant-loop-length l = (l.count ≡ count_by (nat_lt 0) (take l.length-index l.windows)) × (l.count ≤ l.length-index)
