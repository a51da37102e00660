use Rattle.std.proofs.Common.{◌≡◌, length}
use Rattle.paraid_record.specs.Codes.{gears_below}
use Rattle.paraid_record.specs.Spelling.{zero_filled}
use Rattle.paraid_record.proofs.codes.gear_list.Given as goal

abbrev pub invariant-loop-gear : goal.invariant-loop-gear
invariant-loop-gear l = (l.list ≡ zero_filled 8 (gears_below l.geometry l.gear)) × (l.count ≡ length (gears_below l.geometry l.gear))
