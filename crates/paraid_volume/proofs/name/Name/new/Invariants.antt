use Rattle.std.proofs.Common.{◌≡◌, ℕ, ◌<◌, ◌≤◌, length, slice_index, true}
use Rattle.paraid_volume.specs.Names.{is_letter}
use Rattle.paraid_volume.proofs.name.Name.new.Given as goal

abbrev pub invariant-loop-at : goal.invariant-loop-at
invariant-loop-at l = record {
  long : length l.text ≡ 16;
  done : (k : ℕ) → k < l.at → slice_index l.text k ≡ slice_index l.bytes k;
  rest : (k : ℕ) → l.at ≤ k → slice_index l.text k ≡ 0;
  letters : (k : ℕ) → k < l.at → is_letter (slice_index l.bytes k) ≡ true;
}
