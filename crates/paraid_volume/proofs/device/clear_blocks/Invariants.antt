use Rattle.std.proofs.Common.{◌≡◌, ◌<◌, None}
use Rattle.paraid_volume.specs.Device.{DeviceGoesOn, DeviceHolds, SinceHistory, KeepsMore, IsWriteEvent, Clears, Between}
use Rattle.std.specs.Prelude.{◌-◌}
use Rattle.std.specs.List.{range_with_len}
use Rattle.paraid_volume.specs.TableCalls.{AreZerosTo, KeepsThen}
use Rattle.paraid_volume.proofs.device.clear_blocks.Given as goal

abbrev pub invariant-loop-at : goal.invariant-loop-at
invariant-loop-at g l = record {
  went : DeviceGoesOn g.B.Blocks.block_count g.B.Blocks.halts g.B.Blocks.halted g.B.Blocks.tells l.fn.device l.device;
  grown : KeepsMore g.B.Blocks.kept g.B.Blocks.tells IsWriteEvent l.fn.device l.device;
  none : l.start < l.at → g.B.Blocks.halted l.device ≡ None;
  clears : (from : SinceHistory _) → Clears (DeviceHolds g.B.Blocks.stands g.B.Blocks.kept from) g.B.Blocks.tells l.fn.device l.device (Between l.start l.at);
  events : KeepsThen g.B.Blocks.kept (AreZerosTo (range_with_len l.start (l.at - l.start))) l.fn.device l.device;
}
