use Rattle.std.proofs.Common.{◌<◌, length, arith, subst, sym, ℕ}
use Rattle.paraid_dirty.specs.Table.{is_dirty}
use Rattle.paraid_plan.specs.WriteTargets.{overlaid_blocks}
use Rattle.paraid_txn.specs.Stores.{store_rack}
use Rattle.paraid_core.specs.declared.changes.Change.{Change}
use Rattle.paraid_core.specs.Leads.{leads_stays}
use Rattle.paraid_core.specs.Plans.{base_of}
use Rattle.paraid_core.proofs.PlanLemmas.{desk_bit, logged_more, undone_change}
use Rattle.paraid_core.proofs.plan.CoreWritePlan.set_dirty.Goals as goal

pub returns-clause-desk : goal.returns-clause-desk
returns-clause-desk g c =
    let old = c.args.self.now in
    desk_bit (overlaid_blocks old.draft (base_of (g.R.Rack.told (store_rack old.store)) old.batch)) (is_dirty old.dirty) (is_dirty c.put.new.self) old.draft c.args.r c.args.d c.args.bit c.put.ensures.cells

pub returns-clause-leads : goal.returns-clause-leads
returns-clause-leads g c =
    let old = c.args.self.now in
    let stay = leads_stays g.R.Rack.slot_count g.R.Rack.slot g.R.Rack.told old in
    let change : Change = record { row = c.args.r; disk = c.args.d; was = c.has-was.result } in
    let rows = c.requires.serves.rows in
    let low = c.requires.row in
    let high = c.args.m.now.setup.geometry.disks_high in
    let disk = c.requires.disk in
    let below : (c.args.r < length old.dirty) × (c.args.d < 8) = (omega arith, omega arith) in
    record {
      slots = stay.slots;
      same = stay.same;
      meta = stay.meta;
      batch = stay.batch;
      copied = stay.copied;
      rows = c.put.ensures.rows;
      undone_same = undone_change old.changes c.push.new.self (is_dirty old.dirty) (is_dirty c.put.new.self) change c.args.bit c.push.ensures c.has-was.ensures c.put.ensures.cells;
      logged = λ are. logged_more _ _ old.changes c.push.new.self change c.put.ensures.rows c.push.ensures below are;
      calls = stay.calls;
      off = stay.off;
      left = stay.left;
      ends = stay.ends;
      over = stay.over;
      still = stay.still;
      below = stay.below;
    }

pub has-was-requires : goal.has-was-requires
has-was-requires g c = record {
  row = (subst (λ (n : ℕ). c.args.r < n) (sym c.requires.serves.rows) c.requires.row);
  disk = let low = c.requires.disk in let high = c.args.m.now.setup.geometry.disks_high in omega (arith, low, high);
}

pub put-requires : goal.put-requires
put-requires g c = record {
  row = (subst (λ (n : ℕ). c.args.r < n) (sym c.requires.serves.rows) c.requires.row);
  disk = let low = c.requires.disk in let high = c.args.m.now.setup.geometry.disks_high in omega (arith, low, high);
}

pub push-requires : goal.push-requires
push-requires g c = c.requires.few
