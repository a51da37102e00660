use Rattle.std.proofs.Common.{ap, arith, sym, ◌∙◌}
use Rattle.paraid_rack.specs.Disks.{is_present}
use Rattle.paraid_rack.specs.Slots.{Slot}
use Rattle.paraid_recover.proofs.PowersLemmas.{powers_none, powers_raised, powers_then}
use Rattle.paraid_recover.proofs.powering.power_disks.Goals as goal

pub loop-disk-init : goal.loop-disk-init
loop-disk-init g c = record { part = powers_none g.R.Rack c.args.meta.now c.args.store.now }

pub loop-disk-preserved : goal.loop-disk-preserved
loop-disk-preserved g c = record {
  part = powers_then g.R.Rack c.args.meta.now c.loop-disk.disk c.args.store.now c.loop-disk.store c.power_disk.new.store c.loop-disk.invariant.part c.in_ok-power_disk.ensures;
}

pub returns-in_err-power_disk : goal.returns-in_err-power_disk
returns-in_err-power_disk g c =
    powers_raised g.R.Rack c.args.meta.now c.loop-disk.disk c.args.store.now c.loop-disk.store c.power_disk.new.store c.from_residual.result c.in_err-power_disk.field-0.0 (omega arith)
    c.from_residual.ensures.1 c.loop-disk.invariant.part c.in_err-power_disk.ensures

pub power_disk-requires : goal.power_disk-requires
power_disk-requires g c =
    let part = c.loop-disk.invariant.part in
    let low = c.loop-disk-test.true in
    let rest = part.rest c.loop-disk.disk (omega arith) in
    record {
      exists = (let slots = part.slots in let there = c.requires.exists in omega arith);
      low = low;
      disks = part.same.disks ∙ c.requires.disks;
      named = part.same.named ∙ c.requires.named;
      awake = λ below not parked. c.requires.awake c.loop-disk.disk below not (ap (λ (s : Slot). s.power) (sym rest) ∙ parked);
      synced = λ not here. ap (λ (s : Slot). s.unsynced) rest ∙ c.requires.synced c.loop-disk.disk low not (ap (λ (s : Slot). is_present s.power) (sym rest) ∙ here);
    }
