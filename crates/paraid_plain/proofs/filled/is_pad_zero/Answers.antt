use Rattle.paraid_plain.proofs.PadLemmas.{cells_fit, pad_disk_fits, pad_number_fits, stripe_number_fits}
use Rattle.paraid_plain.proofs.filled.is_pad_zero.Goals as goal

pub overflow_mul-cells : goal.overflow_mul-cells
overflow_mul-cells c = cells_fit c.args.says.now.meta.setup.geometry c.args.gear c.requires.gear

pub overflow_mul-at : goal.overflow_mul-at
overflow_mul-at c = stripe_number_fits c.args.says.now.meta.setup.geometry c.args.gear c.requires.gear c.args.at c.args.index c.requires.stripe c.requires.index

pub overflow_add-at : goal.overflow_add-at
overflow_add-at c = pad_number_fits c.args.says.now.meta.setup.geometry c.args.gear c.requires.gear c.args.at c.args.index c.requires.stripe c.requires.index

pub overflow_add-disk : goal.overflow_add-disk
overflow_add-disk c = pad_disk_fits c.args.says.now.meta.setup.geometry c.args.gear c.requires.gear c.args.at c.args.index c.requires.stripe c.requires.index
