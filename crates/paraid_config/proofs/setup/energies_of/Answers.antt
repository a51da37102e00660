use Rattle.paraid_config.proofs.PartLemmas.{here, later}
use Rattle.paraid_config.proofs.ExitLemmas.{none_done_if, handed}
use Rattle.toml.specs.View.{table_view}
use Rattle.paraid_config.specs.Parts.{IsFirstFault, energy_faults}
use Rattle.paraid_config.proofs.setup.energies_of.Goals as goal

pub returns-in_err-spinning_mj : goal.returns-in_err-spinning_mj
returns-in_err-spinning_mj c =
    let fr = c.from_residual in
    record {
      ok = none_done_if _ fr.result _ fr.ensures.1;
      err = handed (IsFirstFault (energy_faults (table_view c.args.table.now))) fr.result _ fr.ensures.1 (here _ _ _ c.in_err-spinning_mj.ensures.err);
    }

pub returns-in_err-parked_mj : goal.returns-in_err-parked_mj
returns-in_err-parked_mj c =
    let fr = c.from_residual-in_err-parked_mj in
    record {
      ok = none_done_if _ fr.result _ fr.ensures.1;
      err = handed (IsFirstFault (energy_faults (table_view c.args.table.now))) fr.result _ fr.ensures.1 (later _ _ _ c.in_ok-spinning_mj.ensures.accepted (here _ _ _ c.in_err-parked_mj.ensures.err));
    }

pub returns-in_err-spinup_mj : goal.returns-in_err-spinup_mj
returns-in_err-spinup_mj c =
    let fr = c.from_residual-in_err-spinup_mj in
    record {
      ok = none_done_if _ fr.result _ fr.ensures.1;
      err = handed (IsFirstFault (energy_faults (table_view c.args.table.now))) fr.result _ fr.ensures.1 (later _ _ _ c.in_ok-spinning_mj.ensures.accepted (later _ _ _ c.in_ok-parked_mj.ensures.accepted (here _ _ _ c.in_err-spinup_mj.ensures.err)));
    }
