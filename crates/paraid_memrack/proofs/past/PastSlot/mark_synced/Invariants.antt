use Rattle.std.proofs.Common.{◌≡◌, ◌++◌, map, take, drop}
use Rattle.paraid_memrack.specs.Versions.{after_block_sync}
use Rattle.paraid_memrack.proofs.past.PastSlot.mark_synced.Given as goal

abbrev pub invariant-loop-at : goal.invariant-loop-at
invariant-loop-at l =
    (l.self.power ≡ l.initial.self.power) × (l.self.versions.items ≡ map after_block_sync (take l.at l.initial.self.versions.items) ++ drop l.at l.initial.self.versions.items)
