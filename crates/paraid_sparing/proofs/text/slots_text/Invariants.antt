use Rattle.std.proofs.Common.{◌≡◌, ◌+◌, ◌*◌, ◌≤◌, ◌++◌, length}
use Rattle.paraid_spare.specs.Pools.{spins_of}
use Rattle.paraid_sparing.specs.Texts.{slot_words}
use Rattle.paraid_sparing.proofs.text.slots_text.Given as goal

abbrev pub invariant-loop-disk : goal.invariant-loop-disk
invariant-loop-disk l = record {
  value : l.text ≡ l.initial.text ++ slot_words (spins_of l.pool) l.disk;
  room : length l.text ≤ 200 + 41 * l.disk;
}
