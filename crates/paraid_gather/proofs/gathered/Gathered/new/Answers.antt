use Rattle.std.proofs.Common.{ap}
use Rattle.paraid_rack.specs.Trail.{now}
use Rattle.paraid_gather.specs.Waiting.{waits}
use Rattle.paraid_gather.proofs.AboveLemmas.{above_start}
use Rattle.paraid_gather.proofs.DoesLemmas.{none_waiting}
use Rattle.paraid_gather.proofs.StandsLemmas.{stands_new}
use Rattle.paraid_gather.proofs.gathered.Gathered.new.Goals as goal

pub returns-clause-above : goal.returns-clause-above
returns-clause-above g c = λ t is. above_start (now t) _ (λ d p. none_waiting _ (ap waits (c.in_ok-runs.ensures.none d)) p)

pub invariant_of-result-clause-stands : goal.invariant_of-result-clause-stands
invariant_of-result-clause-stands g c = stands_new (g.R.Rack.told c.args.rack) (g.L.Noted.noted c.args.log) (g.R.Rack.slot c.args.rack) _ c.requires.begun (g.met.R.Rack.agrees c.args.rack) (g.met.R.Rack.lawful c.args.rack)
    (λ d p. none_waiting _ (ap waits (c.in_ok-runs.ensures.none d)) p)
