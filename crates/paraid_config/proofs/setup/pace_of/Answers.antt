use Rattle.paraid_config.proofs.PartLemmas.{here, later}
use Rattle.paraid_config.proofs.ExitLemmas.{none_done_if, handed}
use Rattle.toml.specs.View.{table_view}
use Rattle.paraid_config.specs.Parts.{IsFirstFault, pace_faults}
use Rattle.paraid_config.proofs.setup.pace_of.Goals as goal

pub returns-in_err-mode : goal.returns-in_err-mode
returns-in_err-mode c =
    let fr = c.from_residual in
    record {
      ok = none_done_if _ fr.result _ fr.ensures.1;
      err = handed (IsFirstFault (pace_faults (table_view c.args.table.now))) fr.result _ fr.ensures.1 (here _ _ _ c.in_err-mode.ensures.err);
    }

pub returns-in_err-rate : goal.returns-in_err-rate
returns-in_err-rate c =
    let fr = c.from_residual-in_err-rate in
    record {
      ok = none_done_if _ fr.result _ fr.ensures.1;
      err = handed (IsFirstFault (pace_faults (table_view c.args.table.now))) fr.result _ fr.ensures.1 (later _ _ _ c.in_ok-mode.ensures.accepted (here _ _ _ c.in_err-rate.ensures.err));
    }

pub returns-in_err-service : goal.returns-in_err-service
returns-in_err-service c =
    let fr = c.from_residual-in_err-service in
    record {
      ok = none_done_if _ fr.result _ fr.ensures.1;
      err = handed (IsFirstFault (pace_faults (table_view c.args.table.now))) fr.result _ fr.ensures.1 (later _ _ _ c.in_ok-mode.ensures.accepted (later _ _ _ c.in_ok-rate.ensures.accepted (here _ _ _ c.in_err-service.ensures.err)));
    }

pub returns-in_err-up : goal.returns-in_err-up
returns-in_err-up c =
    let fr = c.from_residual-in_err-up in
    record {
      ok = none_done_if _ fr.result _ fr.ensures.1;
      err = handed (IsFirstFault (pace_faults (table_view c.args.table.now))) fr.result _ fr.ensures.1 (later _ _ _ c.in_ok-mode.ensures.accepted (later _ _ _ c.in_ok-rate.ensures.accepted (later _ _ _ c.in_ok-service.ensures.accepted (here _ _ _ c.in_err-up.ensures.err))));
    }

pub returns-in_err-down : goal.returns-in_err-down
returns-in_err-down c =
    let fr = c.from_residual-in_err-down in
    record {
      ok = none_done_if _ fr.result _ fr.ensures.1;
      err = handed (IsFirstFault (pace_faults (table_view c.args.table.now))) fr.result _ fr.ensures.1 (later _ _ _ c.in_ok-mode.ensures.accepted (later _ _ _ c.in_ok-rate.ensures.accepted (later _ _ _ c.in_ok-service.ensures.accepted (later _ _ _ c.in_ok-up.ensures.accepted (here _ _ _ c.in_err-down.ensures.err)))));
    }
