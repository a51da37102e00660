use Rattle.std.proofs.Common.{◌≡◌, length, map}
use Rattle.paraid_rack.specs.Trail.{Trail}
use Rattle.paraid_memrack.specs.Past.{AllPastAt}
use Rattle.paraid_memrack.specs.Tells.{beginning_of}
use Rattle.paraid_memrack.proofs.log.Log.slots_at.Given as goal

abbrev pub invariant-loop-m : goal.invariant-loop-m
invariant-loop-m l =
    let t : Trail = record { start = map beginning_of l.self.start.items; calls = l.self.calls.items } in
    (length l.slots.items ≡ length l.self.start.items) × AllPastAt t l.m l.slots.items
