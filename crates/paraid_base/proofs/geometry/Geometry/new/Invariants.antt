use Rattle.std.proofs.Common.{◌≡◌, ℕ, ◌+◌, ◌-◌, ◌<◌, ◌≤◌, length, get_or, true, false}
use Rattle.paraid_base.specs.Gears.{is_bad_gear, AreFlagsOf}
use Rattle.paraid_base.proofs.geometry.Geometry.new.Given as goal

abbrev pub invariant-loop-at : goal.invariant-loop-at
invariant-loop-at l = record {
  climbs : l.at + 2 ≤ l.last;
  low : l.last ≤ l.disks;
  first : l.at ≡ 0 → l.last ≡ 2;
  later : 0 < l.at → l.last ≡ get_or l.gears (l.at - 1) 0;
  good : (k : ℕ) → k < l.at → is_bad_gear l.disks l.gears k ≡ false;
  long : length l.flags ≡ 9;
  flags_low : (a : ℕ) → get_or l.flags a false ≡ true → 3 ≤ a;
  flags_high : (a : ℕ) → get_or l.flags a false ≡ true → a ≤ l.disks;
  marks : AreFlagsOf l.gears l.at l.flags;
}
