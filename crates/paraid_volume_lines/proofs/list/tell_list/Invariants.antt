use Rattle.std.proofs.Common.{◌-◌, ◌≤◌}
use Rattle.paraid_volume.specs.Values.{device_of, volume_table}
use Rattle.paraid_volume_lines.specs.Lists.{ListsFirst}
use Rattle.paraid_volume_lines.proofs.list.tell_list.Given as goal

abbrev pub invariant-loop-id : goal.invariant-loop-id
invariant-loop-id g l = record {
  few : l.id ≤ 31;
  lists : ListsFirst (g.B.Blocks.block_count (device_of l.volumes)) (volume_table l.volumes) l.id l.into;
}

abbrev pub decreases-loop-id : goal.decreases-loop-id
decreases-loop-id g l = 31 - l.id
