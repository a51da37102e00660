use Rattle.std.proofs.Common.{arith}
use Rattle.paraid_imgrack.proofs.LooksLemmas.{unmissed_whole}
use Rattle.paraid_imgrack.proofs.rack.ImageRack.misses_one.Goals as goal

pub returns-clause-none : goal.returns-clause-none
returns-clause-none g c _ = unmissed_whole c.args.self.now.images.items c.args.identity.now c.loop-disk.disk (omega (arith, c.loop-disk-test.false)) c.loop-disk.invariant
