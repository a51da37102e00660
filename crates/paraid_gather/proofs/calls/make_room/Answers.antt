use Rattle.std.proofs.Common.{refl}
use Rattle.paraid_gather.specs.Waiting.{run_of}
use Rattle.paraid_gather.proofs.DoesLemmas.{does_none}
use Rattle.paraid_gather.proofs.PowerCallsLemmas.{power_calls_none}
use Rattle.paraid_gather.proofs.calls.make_room.Goals as goal

pub returns-then-joins-clause-does : goal.returns-then-joins-clause-does
returns-then-joins-clause-does g c = does_none g.R.Rack c.args.rack.now c.args.disk (run_of c.args.run.now) (run_of c.args.run.now) _ _ _ c.requires.fits refl (λ w s t is a. a)

pub returns-then-joins-clause-power_calls : goal.returns-then-joins-clause-power_calls
returns-then-joins-clause-power_calls g c = power_calls_none (g.R.Rack.told c.args.rack.now)
