use Rattle.std.proofs.Common.{◌≤◌, ◌+◌, length}
use Rattle.paraid_gather.proofs.BulkLemmas.{IsWritten}
use Rattle.paraid_gather.proofs.bulk.BulkRack.write_blocks.Given as goal

abbrev pub invariant-loop-place : goal.invariant-loop-place
invariant-loop-place g l = (l.first ≤ l.place) × (l.place ≤ l.first + length l.blocks) × IsWritten l.disk (record { first = l.first; blocks = l.blocks }) g.Self.Rack l.fn.self l.self l.place
