use Rattle.std.proofs.Common.{◌≡◌, ◌++◌, take}
use Rattle.paraid_trace.specs.StateTexts.{numbers_text}
use Rattle.paraid_planning.proofs.text.push_gears.Given as goal

abbrev pub invariant-loop-gear : goal.invariant-loop-gear
invariant-loop-gear l = l.text.items ≡ l.initial.text.items ++ numbers_text (take l.gear-index l.gears)
