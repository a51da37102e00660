use Rattle.paraid_schedule.proofs.CertificateLemmas.{start_bounds_cost}
use Rattle.paraid_schedule.proofs.laws.right_bounds_certify_a_cost.Goals as goal

pub returns-clause-bound : goal.returns-clause-bound
returns-clause-bound c = λ demand bounds ups demanded right gears is. start_bounds_cost c.args.setup.now demand ups gears is bounds demanded right

pub returns-clause-claim : goal.returns-clause-claim
returns-clause-claim c = λ demand ups claim demanded certified gears is.
    rw certified.start (start_bounds_cost c.args.setup.now demand ups gears is claim.bounds demanded certified.bounds)
