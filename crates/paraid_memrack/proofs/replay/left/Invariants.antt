use Rattle.std.proofs.Common.{◌≡◌, length, map, take, vec_capacity}
use Rattle.paraid_memrack.specs.declared.log.Start.{Start}
use Rattle.paraid_memrack.specs.declared.past.PastSlot.{PastSlot}
use Rattle.paraid_memrack.specs.Past.{past_of, in_bytes, left_in_bytes}
use Rattle.paraid_memrack.specs.Tells.{beginning_of}
use Rattle.paraid_memrack.proofs.replay.left.Given as goal

abbrev pub invariant-loop-slot : goal.invariant-loop-slot
invariant-loop-slot l =
    (vec_capacity l.start ≡ length l.slots.items)
    × (map (λ (s : Start). in_bytes (beginning_of s)) l.start.items ≡ map (λ (s : PastSlot). left_in_bytes l.pick (past_of s)) (take l.slot-index l.slots.items))
