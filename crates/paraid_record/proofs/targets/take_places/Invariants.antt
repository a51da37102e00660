use Rattle.std.proofs.Common.{◌≡◌, ℕ, ◌+◌, ◌-◌, ◌*◌, List, ◌++◌, length, drop, take, replicate}
use Rattle.std.specs.Prelude.{All}
use Rattle.paraid_base.specs.Log.{batch_room}
use Rattle.paraid_record.specs.declared.targets.Target.{Target}
use Rattle.paraid_record.specs.Targets.{FitsBytes, no_target, places_bytes}
use Rattle.paraid_record.proofs.targets.take_places.Given as goal

abbrev pub invariant-loop-at : goal.invariant-loop-at
invariant-loop-at l = record {
  room : length l.reader + 5 * l.at ≡ length l.fn.reader;
  long : length l.list ≡ batch_room;
  rest : drop l.at l.list ≡ replicate (batch_room - l.at) no_target;
  reads : (ts : List Target) (rest : List ℕ) → length ts ≡ l.fn.count → All FitsBytes ts → l.fn.reader ≡ places_bytes ts ++ rest
      → (l.reader ≡ places_bytes (drop l.at ts) ++ rest) × (take l.at l.list ≡ take l.at ts);
}
