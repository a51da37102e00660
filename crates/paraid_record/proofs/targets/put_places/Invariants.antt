use Rattle.std.proofs.Common.{◌≡◌, ◌+◌, ◌*◌, ◌++◌, length, take}
use Rattle.paraid_record.specs.Targets.{places_bytes}
use Rattle.paraid_record.proofs.targets.put_places.Given as goal

abbrev pub invariant-loop-target : goal.invariant-loop-target
invariant-loop-target l =
    (l.pen ≡ l.fn.pen ++ places_bytes (take l.target-index l.targets)) × (length l.pen ≡ length l.fn.pen + 5 * l.target-index)
