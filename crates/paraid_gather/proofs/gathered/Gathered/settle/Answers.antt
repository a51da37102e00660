use Rattle.std.proofs.Common.{is_ok, sym, ◌∙◌}
use Rattle.paraid_gather.specs.Gathers.{rack_below, waiting_in}
use Rattle.paraid_gather.proofs.FinishLemmas.{below_lost, below_still}
use Rattle.paraid_gather.proofs.gathered.Gathered.settle.Goals as goal

pub returns-in-Spinning-clause-below : goal.returns-in-Spinning-clause-below
returns-in-Spinning-clause-below g c = below_lost (g.R.Rack.slot (rack_below c.args.self.now)) (g.R.Rack.slot (rack_below c.write_out.new.self)) c.args.disk (waiting_in c.args.self.now c.args.disk) (is_ok c.write_out.result) (sym c.power.ensures ∙ c.in-Spinning.is) c.write_out.ensures.below
    (g.R.Rack.told (rack_below c.args.self.now)) (g.R.Rack.told (rack_below c.write_out.new.self)) (waiting_in c.args.self.now) (waiting_in c.write_out.new.self) c.write_out.ensures.power_calls c.write_out.ensures.above

pub returns-in_default-clause-below : goal.returns-in_default-clause-below
returns-in_default-clause-below g c = below_still c.args.disk (g.R.Rack.slot (rack_below c.args.self.now) c.args.disk) (g.R.Rack.told (rack_below c.args.self.now)) (waiting_in c.args.self.now)
