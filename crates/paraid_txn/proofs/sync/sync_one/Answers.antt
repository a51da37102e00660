use Rattle.std.specs.Prelude.{◌≡◌, ◌≢◌}
use Rattle.std.proofs.Common.{rules, arith}
use Rattle.paraid_rack.specs.declared.call.Power.TheVariants.{Spinning}
use Rattle.paraid_txn.proofs.CommitPartLemmas.{CommitPart_none}
use Rattle.paraid_txn.proofs.SyncLemmas.{syncs, synced_unless_spinning}
use Rattle.paraid_txn.proofs.sync.sync_one.Goals as goal

pub sync_slot-requires : goal.sync_slot-requires
sync_slot-requires g c = record {
  exists = let exists = c.requires.exists in let low = c.requires.low in omega (arith, exists, low);
  can = λ not.
      let spins : (g.R.Rack.slot c.args.rack.now c.args.disk).power ≡ Spinning = search rules in
      record { spins = λ here. spins; within = λ here. c.requires.can.within c.args.disk c.requires.low not spins };
}

pub returns : goal.returns
returns g c = record {
  slots = search rules;
  part = syncs c.args.disks c.requires.low c.sync_slot.ensures.part;
  still_synced = search rules;
  synced = search rules;
}

pub returns-then-ne : goal.returns-then-ne
returns-then-ne g c = record {
  slots = search rules;
  part = CommitPart_none _ _ _ _ tt;
  still_synced = search rules;
  synced =
      let not : (g.R.Rack.slot c.args.rack.now c.args.disk).power ≢ Spinning = search rules in
      λ skipped. synced_unless_spinning _ _ _ (g.met.R.Rack.slots_hold c.args.rack.now) not;
}
