use Rattle.std.proofs.Common.{inl, arith}
use Rattle.std.proofs.lemmas.Bool.{eq-eqb}
use Rattle.paraid_schedule.proofs.LoadLemmas.{product_fits, load_fits, demand_fits, served_test}
use Rattle.paraid_schedule.proofs.check.is_served.Goals as goal

pub overflow_mul-result : goal.overflow_mul-result
overflow_mul-result c = demand_fits c.args.demanded (omega arith)

pub overflow_mul-result-else-gear-setup : goal.overflow_mul-result-else-gear-setup
overflow_mul-result-else-gear-setup c =
    let s = c.args.setup.now in
    product_fits s.up s.service (omega arith) (omega arith)

pub overflow_mul-result-else-gear-setup-2 : goal.overflow_mul-result-else-gear-setup-2
overflow_mul-result-else-gear-setup-2 c =
    let s = c.args.setup.now in
    load_fits s.up s.service c.args.gear (omega arith) (omega arith) (omega arith)

pub returns-then-gear-setup : goal.returns-then-gear-setup
returns-then-gear-setup c = (λ _. inl c.if-gear-setup.true, λ _. eq-eqb _ _ c.if-gear-setup.true)

pub returns-else-gear-setup : goal.returns-else-gear-setup
returns-else-gear-setup c = served_test c.args.setup.now c.args.demanded c.args.gear c.if-gear-setup.false
