use Rattle.paraid_config.proofs.PartLemmas.{here, here_of, later}
use Rattle.paraid_config.proofs.ExitLemmas.{none_done_if, handed}
use Rattle.toml.specs.View.{table_view}
use Rattle.paraid_config.specs.Parts.{IsFirstFault, wear_faults}
use Rattle.paraid_config.proofs.setup.wear_of.Goals as goal

pub returns-in_err-windows : goal.returns-in_err-windows
returns-in_err-windows c =
    let fr = c.from_residual in
    record {
      ok = none_done_if _ fr.result _ fr.ensures.1;
      err = handed (IsFirstFault (wear_faults (table_view c.args.table.now))) fr.result _ fr.ensures.1 (here_of _ _ _ c.in_err-windows.ensures.err);
    }

pub returns-in_err-ration : goal.returns-in_err-ration
returns-in_err-ration c =
    let fr = c.from_residual-in_err-ration in
    record {
      ok = none_done_if _ fr.result _ fr.ensures.1;
      err = handed (IsFirstFault (wear_faults (table_view c.args.table.now))) fr.result _ fr.ensures.1 (later _ _ _ c.in_ok-windows.ensures.accepted (here _ _ _ c.in_err-ration.ensures.err));
    }

pub returns-in_err-burst : goal.returns-in_err-burst
returns-in_err-burst c =
    let fr = c.from_residual-in_err-burst in
    record {
      ok = none_done_if _ fr.result _ fr.ensures.1;
      err = handed (IsFirstFault (wear_faults (table_view c.args.table.now))) fr.result _ fr.ensures.1 (later _ _ _ c.in_ok-windows.ensures.accepted (later _ _ _ c.in_ok-ration.ensures.accepted (here _ _ _ c.in_err-burst.ensures.err)));
    }

pub returns-in_err-period : goal.returns-in_err-period
returns-in_err-period c =
    let fr = c.from_residual-in_err-period in
    record {
      ok = none_done_if _ fr.result _ fr.ensures.1;
      err = handed (IsFirstFault (wear_faults (table_view c.args.table.now))) fr.result _ fr.ensures.1 (later _ _ _ c.in_ok-windows.ensures.accepted (later _ _ _ c.in_ok-ration.ensures.accepted (later _ _ _ c.in_ok-burst.ensures.accepted (here _ _ _ c.in_err-period.ensures.err))));
    }
