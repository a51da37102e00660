use Rattle.std.proofs.Common.{◌≡◌, ◌≤◌, ◌+◌, ◌*◌}
use Rattle.paraid_base.specs.Regions.{soft_start}
use Rattle.paraid_base.proofs.geometry.Geometry.soft_start.Given as goal

abbrev pub invariant-loop-e : goal.invariant-loop-e
invariant-loop-e l = record {
  start : l.start ≡ soft_start l.self l.e;
  small : l.start ≤ 70000 + l.e * 400000;
}
