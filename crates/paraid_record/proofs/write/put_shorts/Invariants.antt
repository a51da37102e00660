use Rattle.std.proofs.Common.{◌≡◌, ◌+◌, ◌*◌, ◌++◌, length, take}
use Rattle.paraid_record.specs.Spelling.{shorts}
use Rattle.paraid_record.proofs.write.put_shorts.Given as goal

abbrev pub invariant-loop-value : goal.invariant-loop-value
invariant-loop-value l = (l.pen ≡ l.fn.pen ++ shorts (take l.value-index l.values)) × (length l.pen ≡ length l.fn.pen + 2 * l.value-index)
