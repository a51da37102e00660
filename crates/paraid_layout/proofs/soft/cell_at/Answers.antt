use Rattle.std.proofs.Common.{refl, arith}
use Rattle.paraid_base.specs.Soft.{number_at}
use Rattle.paraid_base.proofs.SoftLemmas.{disk_of_number_below, row_of_number_below, soft_disk_at, soft_stripe_at}
use Rattle.paraid_layout.proofs.CopyLemmas.{soft_index_at}
use Rattle.paraid_layout.proofs.soft.cell_at.Goals as goal

pub returns-else-number-g : goal.returns-else-number-g
returns-else-number-g c =
    let n = c.args.g.now.disks in
    let a = c.args.a in
    let s = c.args.s in
    let i = c.args.i in
    let number = number_at a s i in
    let below = c.if-number-g.false in
    record {
      value = (below, refl, refl);
      row_in = row_of_number_below n a number c.args.g.now.rows c.requires.region below;
      parked = omega arith;
      disk_in = disk_of_number_below n a number c.requires.region;
      back = (
        soft_stripe_at n a s i c.requires.region c.requires.index_in,
        soft_index_at n a s i c.requires.region c.requires.index_in,
        soft_disk_at n a s i c.requires.region c.requires.index_in,
      );
    }
