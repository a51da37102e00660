use Rattle.std.specs.Prelude.{◌≡◌}
use Rattle.std.proofs.Common.{ap, arith, subst, sym, ◌∙◌}
use Rattle.std.proofs.lemmas.Bool.Decides.{nat_tests}
use Rattle.paraid_image.specs.Sides.{Batch, log_state}
use Rattle.paraid_recover.specs.Examined.{IsAgreed, batch_at, logs_of, side_of}
use Rattle.paraid_recover.proofs.ExaminedLogLemmas.{standing_low}
use Rattle.paraid_recover.proofs.standing.stand.Goals as goal

pub agreed-requires : goal.agreed-requires
agreed-requires c = record { first_form = c.requires.first_form; second_form = c.requires.second_form }

pub returns-in-Err : goal.returns-in-Err
returns-in-Err c = record { err = c.in-Err.ensures.err; ok = tt }

pub returns-then-standing-eq1 : goal.returns-then-standing-eq1
returns-then-standing-eq1 c =
    let it = c.in-Ok.standing in
    let logs = logs_of c.args.sides.now c.args.batch.now c.args.other.now in
    let is : it.side ≡ 1 = c.if-standing-eq1.true in
    record { err = tt; ok = subst (λ (b : Batch). IsAgreed logs it.side (log_state it.gate_open it.meta b)) (ap (batch_at logs) is ∙ sym c.swap.ensures.x_after) c.in-Ok.ensures.ok }

pub returns : goal.returns
returns c =
    let it = c.in-Ok.standing in
    let logs = logs_of c.args.sides.now c.args.batch.now c.args.other.now in
    let test = c.if-standing-eq1.false in
    let low = standing_low (side_of logs 0) (side_of logs 1) it.side c.in-Ok.ensures.ok.standing.stands in
    let is : it.side ≡ 0 = grind (arith, nat_tests, test, low) in
    record { err = tt; ok = subst (λ (b : Batch). IsAgreed logs it.side (log_state it.gate_open it.meta b)) (ap (batch_at logs) is) c.in-Ok.ensures.ok }
