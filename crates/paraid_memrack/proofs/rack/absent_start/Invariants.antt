use Rattle.std.proofs.Common.{◌≡◌, [], length, vec_capacity, replicate, map}
use Rattle.paraid_rack.specs.declared.call.Power.TheVariants.{Absent}
use Rattle.paraid_memrack.specs.Tells.{beginning_of}
use Rattle.paraid_memrack.proofs.rack.absent_start.Given as goal

abbrev pub invariant-loop-i : goal.invariant-loop-i
invariant-loop-i l = (vec_capacity l.start ≡ l.count) × (length l.start.items ≡ l._i) × (map beginning_of l.start.items ≡ replicate l._i (record { power = Absent; blocks = [] }))
