use Rattle.std.proofs.Common.{Some, None, refl}
use Rattle.paraid_core.proofs.AfterLemmas.{handed}
use Rattle.paraid_upkeep.proofs.ResultLemmas.{none_done, none_done_if}
use Rattle.paraid_upkeep.proofs.RefusalLemmas.{highest, may_go_up, up_hindered}
use Rattle.paraid_upkeep.proofs.shifts.gear_above.Goals as goal

pub higher-requires : goal.higher-requires
higher-requires c = c.args.meta.now.setup.geometry.gears_high c.args.meta.now.gear c.requires.in_range.gear

pub returns-in_default : goal.returns-in_default
returns-in_default c = record {
  next = tt;
  steady = tt;
  whole = tt;
  may = tt;
  refused = λ s of. highest c.args.meta.now s of None refl c.in_default.ensures;
}

pub returns-in_err-hindrance : goal.returns-in_err-hindrance
returns-in_err-hindrance c = record {
  next = none_done_if _ c.from_residual.result _ c.from_residual.ensures.1;
  steady = none_done _ c.from_residual.result _ c.from_residual.ensures.1;
  whole = none_done _ c.from_residual.result _ c.from_residual.ensures.1;
  may = none_done_if _ c.from_residual.result _ c.from_residual.ensures.1;
  refused = handed _ c.from_residual.result _ c.from_residual.ensures.1 (λ s of. up_hindered c.args.meta.now s of (Some c.in-Some.to) c.in-Some.to _ refl c.in-Some.ensures c.in_err-hindrance.ensures.hinders);
}

pub returns : goal.returns
returns c = record {
  next = record { below = c.in-Some.ensures.0; lower_gear = c.requires.in_range.gear; higher_gear = c.in-Some.ensures.1; between = c.in-Some.ensures.2 };
  steady = c.in_ok-hindrance.ensures.steady;
  whole = c.in_ok-hindrance.ensures.whole;
  may = λ s of. may_go_up c.args.meta.now s of (Some c.in-Some.to) c.in-Some.to refl c.in-Some.ensures c.in_ok-hindrance.ensures.steady c.in_ok-hindrance.ensures.whole;
  refused = tt;
}
