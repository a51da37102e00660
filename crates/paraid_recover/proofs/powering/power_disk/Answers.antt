use Rattle.std.specs.Prelude.{Err}
use Rattle.std.proofs.Common.{subst}
use Rattle.paraid_txn.specs.declared.store.Lost.{Lost}
use Rattle.paraid_recover.specs.Powers.{HasChangedPower}
use Rattle.paraid_recover.proofs.PowersLemmas.{powered_ok, powered_one, powered_two}
use Rattle.paraid_recover.proofs.powering.power_disk.Goals as goal

pub returns-in-Ok : goal.returns-in-Ok
returns-in-Ok g c =
    powered_ok g.R.Rack c.args.meta.now c.args.disk c.args.store.now c.power_one.new.store c.requires.low c.requires.disks c.requires.named c.in-Ok.ensures

pub returns-in-Err-One : goal.returns-in-Err-One
returns-in-Err-One g c =
    powered_one g.R.Rack c.args.meta.now c.args.disk c.args.store.now c.power_one.new.store c.requires.low c.requires.disks c.requires.named _
    (subst (λ (x : Lost). HasChangedPower g.R.Rack c.args.meta.now c.args.disk c.args.store.now c.power_one.new.store (Err x)) c.in-Err-One.field-0-is c.in-Err-One.ensures)

pub returns-in-Err-Two : goal.returns-in-Err-Two
returns-in-Err-Two g c =
    powered_two g.R.Rack c.args.meta.now c.args.disk c.args.store.now c.power_one.new.store c.requires.low c.requires.disks c.requires.named _
    (subst (λ (x : Lost). HasChangedPower g.R.Rack c.args.meta.now c.args.disk c.args.store.now c.power_one.new.store (Err x)) c.in-Err-Two.field-0-is c.in-Err-Two.ensures)
