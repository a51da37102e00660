use Rattle.std.proofs.Common.{◌≡◌, None}
use Rattle.paraid_volume.specs.Device.{DeviceGoesOn, DeviceHolds, SinceHistory, KeepsMore, IsWriteEvent, Clears, InExtent}
use Rattle.paraid_volume.specs.TableBlocks.{in_table}
use Rattle.paraid_volume.specs.Tables.{owner_in}
use Rattle.paraid_volume.specs.TableCalls.{AreZerosTo, KeepsThen, owned_blocks}
use Rattle.paraid_volume.proofs.device.clear_extents.Given as goal

abbrev pub invariant-loop-extent : goal.invariant-loop-extent
invariant-loop-extent g l = record {
  went : DeviceGoesOn g.B.Blocks.block_count g.B.Blocks.halts g.B.Blocks.halted g.B.Blocks.tells l.fn.device l.device;
  grown : KeepsMore g.B.Blocks.kept g.B.Blocks.tells IsWriteEvent l.fn.device l.device;
  none : g.B.Blocks.halted l.device ≡ None;
  clears : (from : SinceHistory _) → Clears (DeviceHolds g.B.Blocks.stands g.B.Blocks.kept from) g.B.Blocks.tells l.fn.device l.device (InExtent (owner_in (in_table l.table)) l.id l.size l.extent);
  events : KeepsThen g.B.Blocks.kept (AreZerosTo (owned_blocks (owner_in (in_table l.table)) l.id l.size l.extent)) l.fn.device l.device;
}
