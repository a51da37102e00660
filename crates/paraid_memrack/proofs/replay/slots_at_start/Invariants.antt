use Rattle.std.proofs.Common.{◌≡◌, length, map, take, vec_capacity}
use Rattle.paraid_memrack.specs.declared.log.Start.{Start}
use Rattle.paraid_memrack.specs.Past.{past_of, past_start}
use Rattle.paraid_memrack.specs.Tells.{beginning_of}
use Rattle.paraid_memrack.proofs.replay.slots_at_start.Given as goal

abbrev pub invariant-loop-slot : goal.invariant-loop-slot
invariant-loop-slot l =
    (vec_capacity l.slots ≡ length l.start.items) × (map past_of l.slots.items ≡ map (λ (s : Start). past_start (beginning_of s)) (take l.slot-index l.start.items))
