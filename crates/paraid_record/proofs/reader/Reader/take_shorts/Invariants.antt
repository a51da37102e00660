use Rattle.std.proofs.Common.{◌≡◌, ℕ, ◌+◌, ◌*◌, ◌<◌, ◌^◌, List, ◌++◌, length, drop, take, slice_index}
use Rattle.paraid_record.specs.Spelling.{shorts}
use Rattle.paraid_record.proofs.reader.Reader.take_shorts.Given as goal

abbrev pub invariant-loop-at : goal.invariant-loop-at
invariant-loop-at l = record {
  room : length l.self + 2 * l.at ≡ length l.fn.self;
  same : (length l.into ≡ length l.fn.into) × (l.at-end ≡ length l.fn.into);
  reads : (xs rest : List ℕ) → length xs ≡ length l.fn.into → ((k : ℕ) → slice_index xs k < 2 ^ 16) → l.fn.self ≡ shorts xs ++ rest
      → (l.self ≡ shorts (drop l.at xs) ++ rest) × (take l.at l.into ≡ take l.at xs);
}
