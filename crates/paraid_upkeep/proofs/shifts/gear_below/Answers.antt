use Rattle.std.proofs.Common.{ℕ, Some, None, refl, subst, arith}
use Rattle.paraid_ration.specs.Ration.{IsFirstUsedUp, IsWithinAllowance}
use Rattle.paraid_core.proofs.AfterLemmas.{handed}
use Rattle.paraid_upkeep.proofs.ResultLemmas.{none_done, none_done_if}
use Rattle.paraid_upkeep.proofs.RefusalLemmas.{down_hindered, down_worn, lowest, may_go_down}
use Rattle.paraid_upkeep.proofs.shifts.gear_below.Goals as goal

pub lower-requires : goal.lower-requires
lower-requires c = c.args.meta.now.setup.geometry.gears_high c.args.meta.now.gear c.requires.in_range.gear

pub allowance-allowed-requires : goal.allowance-allowed-requires
allowance-allowed-requires c = c.requires.in_range.setup.period.0

pub may_park-requires : goal.may_park-requires
may_park-requires c =
    let m = c.args.meta.now in
    let below = c.in-Some.ensures.0 in
    let high = m.setup.geometry.gears_high m.gear c.requires.in_range.gear in
    let eight = m.setup.geometry.disks_high in
    record { order = omega (arith, below); high = omega (arith, high, eight) }

pub returns-in_default : goal.returns-in_default
returns-in_default c = record {
  next = tt;
  steady = tt;
  whole = tt;
  spared = tt;
  may = tt;
  refused = λ s of. lowest c.args.meta.now s of None refl c.in_default.ensures;
}

pub returns-in_err-hindrance : goal.returns-in_err-hindrance
returns-in_err-hindrance c = record {
  next = none_done_if _ c.from_residual.result _ c.from_residual.ensures.1;
  steady = none_done _ c.from_residual.result _ c.from_residual.ensures.1;
  whole = none_done _ c.from_residual.result _ c.from_residual.ensures.1;
  spared = none_done_if _ c.from_residual.result _ c.from_residual.ensures.1;
  may = none_done_if _ c.from_residual.result _ c.from_residual.ensures.1;
  refused = handed _ c.from_residual.result _ c.from_residual.ensures.1 (λ s of. down_hindered c.args.meta.now s of (Some c.in-Some.to) c.in-Some.to _ refl c.in-Some.ensures c.in_err-hindrance.ensures.hinders);
}

pub returns-in-Ok : goal.returns-in-Ok
returns-in-Ok c =
    let m = c.args.meta.now in
    let within = subst (λ (z : ℕ). IsWithinAllowance m.spins z c.in-Some.to m.gear) c.allowance-allowed.ensures c.in-Ok.ensures.ok in
    record {
      next = record { below = c.in-Some.ensures.0; lower_gear = c.in-Some.ensures.1; higher_gear = c.requires.in_range.gear; between = c.in-Some.ensures.2 };
      steady = c.in_ok-hindrance.ensures.steady;
      whole = c.in_ok-hindrance.ensures.whole;
      spared = within.within;
      may = λ s of. may_go_down m s of (Some c.in-Some.to) c.in-Some.to refl c.in-Some.ensures c.in_ok-hindrance.ensures.steady c.in_ok-hindrance.ensures.whole within;
      refused = tt;
    }

pub returns-in-Err : goal.returns-in-Err
returns-in-Err c = record {
  next = tt;
  steady = tt;
  whole = tt;
  spared = tt;
  may = tt;
  refused = λ s of.
      let m = c.args.meta.now in
      down_worn m s of (Some c.in-Some.to) c.in-Some.to c.in-Err.disk refl c.in-Some.ensures c.in_ok-hindrance.ensures.steady c.in_ok-hindrance.ensures.whole
      (subst (λ (z : ℕ). IsFirstUsedUp m.spins z c.in-Some.to m.gear c.in-Err.disk) c.allowance-allowed.ensures c.in-Err.ensures.err);
}
