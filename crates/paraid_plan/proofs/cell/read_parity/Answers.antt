use Rattle.paraid_plan.proofs.LeavesLemmas.{failed, stays_none}
use Rattle.std.proofs.Common.{arith, rules}
use Rattle.paraid_plan.proofs.cell.read_parity.Goals as goal
use Rattle.paraid_plan.proofs.RoomLemmas.{parity_read, unit_small}
use Rattle.paraid_plan.specs.Desk.{sees}

pub overflow_add-m : goal.overflow_add-m
overflow_add-m g c =
    let small = unit_small c.args.m.now.setup.geometry c.args.m.now.gear c.soft_of-s.result.0 c.requires.in_range.gear c.soft_of-s.ensures.stripe_in in
    omega (arith, small)

pub soft_of-s-requires : goal.soft_of-s-requires
soft_of-s-requires g c = record {
  gear =
      c.requires.in_range.gear;
  parked = c.requires.parked;
  disk_in = c.requires.disk;
  row_in = c.requires.row;
}

pub soft_parity-parity-requires : goal.soft_parity-parity-requires
soft_parity-parity-requires g c = record {
  gear =
      c.requires.in_range.gear;
  region =
      let parked = c.requires.parked in let low = c.requires.disk in omega (arith, parked, low);
  stripe_in = c.soft_of-s.ensures.stripe_in;
}

pub stripe-requires : goal.stripe-requires
stripe-requires g c = record {
  serves = c.requires.serves;
  in_range = c.requires.in_range;
  stripe =
      c.soft_of-s.ensures.stripe_in;
  disk =
      c.soft_parity-parity.ensures.below;
}

pub returns-then-not-is_written : goal.returns-then-not-is_written
returns-then-not-is_written g c = record {
  ok = search rules;
  reads = record { ok = stays_none g.P.WritePlan c.args.m.now c.args.plan.now c.requires.serves; fails = tt; leads = g.met.P.WritePlan.stays c.args.plan.now };
}

pub returns-in_err-stripe : goal.returns-in_err-stripe
returns-in_err-stripe g c = record {
  ok = search rules;
  reads = failed g.P.WritePlan _ _ _ _ c.from_residual.ensures.1 c.in_err-stripe.ensures.fails c.stripe.ensures.leads;
}

pub returns : goal.returns
returns g c = record {
  ok = λ tells written.
      parity_read (sees c.args.m.now (g.P.WritePlan.desk c.args.plan.now)) _ c.soft_of-s.result.0 c.soft_parity-parity.result c.stripe.new.into c.xor_into.new.to c.xor_into-2.new.to c.args.old.now c.args.new.now
      c.soft_of-s.ensures.stripe c.soft_parity-parity.ensures.value (c.in_ok-stripe.ensures.ok tells) c.xor_into.ensures c.xor_into-2.ensures;
  reads = record {
    ok = record { same = c.in_ok-stripe.ensures.same; bits = c.in_ok-stripe.ensures.bits; staged = c.in_ok-stripe.ensures.staged; changes = c.in_ok-stripe.ensures.changes; goes_on = c.in_ok-stripe.ensures.goes_on };
    fails = tt;
    leads = c.in_ok-stripe.ensures.leads;
  };
}
