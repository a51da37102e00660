use Rattle.paraid_dirty.specs.Table.{is_dirty}
use Rattle.paraid_txn.specs.Stores.{store_rack}
use Rattle.paraid_core.specs.Leads.{leads_stays}
use Rattle.paraid_core.specs.Plans.{base_of}
use Rattle.paraid_core.proofs.PlanLemmas.{desk_pushed}
use Rattle.paraid_core.proofs.plan.CoreWritePlan.stage.Goals as goal

pub returns-clause-desk : goal.returns-clause-desk
returns-clause-desk g c =
    let old = c.args.self.now in
    desk_pushed (base_of (g.R.Rack.told (store_rack old.store)) old.batch) (is_dirty old.dirty) old.draft c.push.new.self (record { disk = c.args.disk; place = c.args.place }, c.args.block.now) c.push.ensures

pub returns-clause-leads : goal.returns-clause-leads
returns-clause-leads g c =
    let stay = leads_stays g.R.Rack.slot_count g.R.Rack.slot g.R.Rack.told c.args.self.now in
    record {
      slots = stay.slots;
      same = stay.same;
      meta = stay.meta;
      batch = stay.batch;
      copied = stay.copied;
      rows = stay.rows;
      undone_same = stay.undone_same;
      logged = stay.logged;
      calls = stay.calls;
      off = stay.off;
      left = stay.left;
      ends = stay.ends;
      over = stay.over;
      still = stay.still;
      below = stay.below;
    }
