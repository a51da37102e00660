use Rattle.paraid_config.proofs.PartLemmas.{here, here_of, later}
use Rattle.paraid_config.proofs.ExitLemmas.{none_done_if, handed}
use Rattle.toml.specs.View.{table_view}
use Rattle.paraid_config.specs.Parts.{IsFirstFault, shape_faults}
use Rattle.paraid_config.proofs.setup.shape_of.Goals as goal

pub returns-in_err-disks : goal.returns-in_err-disks
returns-in_err-disks c =
    let fr = c.from_residual in
    record {
      ok = none_done_if _ fr.result _ fr.ensures.1;
      err = handed (IsFirstFault (shape_faults (table_view c.args.table.now))) fr.result _ fr.ensures.1 (here _ _ _ c.in_err-disks.ensures.err);
    }

pub returns-in_err-rows : goal.returns-in_err-rows
returns-in_err-rows c =
    let fr = c.from_residual-in_err-rows in
    record {
      ok = none_done_if _ fr.result _ fr.ensures.1;
      err = handed (IsFirstFault (shape_faults (table_view c.args.table.now))) fr.result _ fr.ensures.1 (later _ _ _ c.in_ok-disks.ensures.accepted (here _ _ _ c.in_err-rows.ensures.err));
    }

pub returns-in_err-gears : goal.returns-in_err-gears
returns-in_err-gears c =
    let fr = c.from_residual-in_err-gears in
    record {
      ok = none_done_if _ fr.result _ fr.ensures.1;
      err = handed (IsFirstFault (shape_faults (table_view c.args.table.now))) fr.result _ fr.ensures.1 (later _ _ _ c.in_ok-disks.ensures.accepted (later _ _ _ c.in_ok-rows.ensures.accepted (here_of _ _ _ c.in_err-gears.ensures.err)));
    }
