use Rattle.std.proofs.Common.{◌≡◌, ◌^◌, ◌<◌, ◌≤◌, length}
use Rattle.paraid_base.specs.Regions.{IsGear}
use Rattle.paraid_schedule.specs.Solved.{IsWalk}
use Rattle.paraid_schedule.proofs.planner.follow.Given as goal

abbrev pub invariant-loop-t : goal.invariant-loop-t
invariant-loop-t l = record {
  walk : IsWalk l.setup l.demand l.ups l.bounds l.gears.items l.gear l.left;
  count : length l.gears.items ≡ l.t;
  gear : IsGear l.setup.geometry l.gear;
  left_few : l.left ≤ l.ups;
  small : l.setup.spinning_mj < 2 ^ 32;
}
