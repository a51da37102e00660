use Rattle.std.proofs.Common.{refl}
use Rattle.paraid_plain.proofs.ImageLemmas.{disks-set_power}
use Rattle.paraid_plain.proofs.image.Image.set_power.Goals as goal

pub returns-clause-disks : goal.returns-clause-disks
returns-clause-disks c = disks-set_power c.args.self.now.slots.items c.args.disk _ c.index_mut.result.now c.requires c.index_mut.ensures.value refl
