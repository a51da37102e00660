use Rattle.std.proofs.Common.{◌≡◌, ℕ, ◌<◌, None}
use Rattle.std.specs.Prelude.{IsTrue, ◌++◌}
use Rattle.paraid_base.specs.History.{History, after_all}
use Rattle.paraid_volume.specs.Device.{DeviceGoesOn, DeviceHolds, SinceHistory, KeepsMore, IsReadEvent, KeepsHistories}
use Rattle.paraid_volume.specs.TableBlocks.{in_table}
use Rattle.paraid_base.specs.BlockAnswers.{Answers}
use Rattle.paraid_volume.specs.TableCalls.{table_reads}
use Rattle.paraid_volume.proofs.device.read_table.Given as goal

abbrev pub invariant-loop-at : goal.invariant-loop-at
invariant-loop-at g l = record {
  went : DeviceGoesOn g.B.Blocks.block_count g.B.Blocks.halts g.B.Blocks.halted g.B.Blocks.tells l.fn.device l.device;
  grown : KeepsMore g.B.Blocks.kept g.B.Blocks.tells IsReadEvent l.fn.device l.device;
  none : 0 < l.at → g.B.Blocks.halted l.device ≡ None;
  keeps : (from : SinceHistory _) → KeepsHistories (DeviceHolds g.B.Blocks.stands g.B.Blocks.kept from) g.B.Blocks.tells l.fn.device l.device;
  read : (h : History) → g.B.Blocks.stands l.fn.device h → IsTrue (g.B.Blocks.tells l.device) → (k : ℕ) → k < l.at → in_table l.table k ≡ after_all h k;
  reads : (first : _) (events : Answers) → g.B.Blocks.kept first l.fn.device events → g.B.Blocks.kept first l.device (events ++ table_reads (in_table l.table) l.at);
}
