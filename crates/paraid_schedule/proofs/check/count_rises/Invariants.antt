use Rattle.std.proofs.Common.{◌≡◌, ◌-◌, ◌<◌}
use Rattle.paraid_schedule.specs.Schedule.{rises_before}
use Rattle.paraid_schedule.proofs.check.count_rises.Given as goal

abbrev pub invariant-loop-t : goal.invariant-loop-t
invariant-loop-t l = record {
  counted : l.count ≡ rises_before l.gears (l.t - 1);
  few : l.count < l.t;
}
