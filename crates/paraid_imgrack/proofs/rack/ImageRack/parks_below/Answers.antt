use Rattle.std.proofs.Common.{arith}
use Rattle.paraid_imgrack.proofs.LooksLemmas.{awake_whole}
use Rattle.paraid_imgrack.proofs.rack.ImageRack.parks_below.Goals as goal

pub returns-clause-none : goal.returns-clause-none
returns-clause-none g c _ = awake_whole c.args.self.now.images.items c.args.disks c.loop-disk.disk (omega (arith, c.loop-disk-test.false)) c.loop-disk.invariant
