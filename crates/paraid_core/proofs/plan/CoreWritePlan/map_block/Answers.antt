use Rattle.paraid_core.specs.Leads.{leads_stays}
use Rattle.paraid_core.proofs.plan.CoreWritePlan.map_block.Goals as goal

pub returns-clause-leads : goal.returns-clause-leads
returns-clause-leads g c = leads_stays g.R.Rack.slot_count g.R.Rack.slot g.R.Rack.told c.args.self.now
