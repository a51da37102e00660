use Rattle.std.specs.Prelude.{Ok}
use Rattle.paraid_recover.specs.Powers.{ArePowered}
use Rattle.paraid_recover.proofs.powering.power_disks.Given as goal

abbrev pub invariant-loop-disk : goal.invariant-loop-disk
invariant-loop-disk g l = record {
  part : ArePowered g.R.Rack l.meta l.disk l.fn.store l.store (Ok tt);
}
