use Rattle.std.proofs.Common.{refl}
use Rattle.paraid_core.proofs.AfterLemmas.{handed}
use Rattle.paraid_core.proofs.ErrLemmas.{done_not_dropped, none_done, none_done_as}
use Rattle.paraid_core.proofs.staged.put_out.Goals as goal

pub returns-in_err-lose : goal.returns-in_err-lose
returns-in_err-lose c = record {
  never = λ is. none_done_as _ c.from_residual.result _ _ c.from_residual.ensures.1 is;
  out = none_done _ c.from_residual.result _ c.from_residual.ensures.1;
  two = handed _ c.from_residual.result _ c.from_residual.ensures.1 c.in_err-lose.ensures.two;
}

pub returns : goal.returns
returns c = record {
  never = λ is. done_not_dropped _ _ is refl;
  out = record { marked = c.in_ok-lose.ensures.marked; alone = c.in_ok-lose.ensures.alone };
  two = tt;
}
