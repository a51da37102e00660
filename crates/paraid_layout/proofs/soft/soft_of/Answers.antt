use Rattle.paraid_layout.proofs.CopyLemmas.{row_of_number-copy, disk_of_number-copy}
use Rattle.paraid_layout.proofs.soft.soft_of.Goals as goal

pub returns-clause-back : goal.returns-clause-back
returns-clause-back c =
    rw c.disk_of_index.ensures (rw c.stripe_parity.ensures.value (
      row_of_number-copy c.args.g.now.disks c.args.a c.args.r c.args.d c.requires.parked c.requires.disk_in,
      disk_of_number-copy c.args.g.now.disks c.args.a c.args.r c.args.d c.requires.parked c.requires.disk_in,
    ))
