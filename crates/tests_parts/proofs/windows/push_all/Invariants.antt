use Rattle.std.specs.Prelude.{◌≡◌}
use Rattle.paraid_gear.specs.ThreeWindows.{lengths_of}
use Rattle.tests_parts.proofs.windows.push_all.Given as goal

abbrev pub invariant-loop : goal.invariant-loop
invariant-loop l = lengths_of l.windows ≡ lengths_of l.fn.windows
