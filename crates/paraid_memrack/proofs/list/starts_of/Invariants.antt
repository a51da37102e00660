use Rattle.std.proofs.Common.{◌≡◌, length, map, take, vec_capacity}
use Rattle.paraid_memrack.specs.Tells.{beginning_of}
use Rattle.paraid_memrack.proofs.list.starts_of.Given as goal

abbrev pub invariant-loop-slot : goal.invariant-loop-slot
invariant-loop-slot l = (vec_capacity l.starts ≡ length l.start.items) × (map beginning_of l.starts.items ≡ map beginning_of (take l.slot-index l.start.items))
