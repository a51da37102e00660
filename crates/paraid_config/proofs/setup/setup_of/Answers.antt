use Rattle.std.proofs.Common.{sym, ◌∙◌}
use Rattle.toml.specs.View.{table_view}
use Rattle.paraid_config.proofs.PartLemmas.{by_unknown, by_shape, by_pace, by_wear, by_energies, by_geometry, none_refused, setup_read, setup_in_range}
use Rattle.paraid_config.proofs.ExitLemmas.{none_done, none_done_if, handed}
use Rattle.paraid_config.specs.Config.{IsDocumentFault}
use Rattle.paraid_config.proofs.setup.setup_of.Goals as goal

pub returns-in_err-disks : goal.returns-in_err-disks
returns-in_err-disks c =
    let fr = c.from_residual in
    record {
      ok = none_done_if _ fr.result _ fr.ensures.1;
      range = none_done_if _ fr.result _ fr.ensures.1;
      accepted = none_done _ fr.result _ fr.ensures.1;
      err = handed (IsDocumentFault (table_view c.args.table.now)) fr.result _ fr.ensures.1 (by_shape (table_view c.args.table.now) (sym c.first_unknown.ensures ∙ c.in_default.is) _ c.in_err-disks.ensures.err);
    }

pub returns-in_err-pace : goal.returns-in_err-pace
returns-in_err-pace c =
    let fr = c.from_residual-in_err-pace in
    record {
      ok = none_done_if _ fr.result _ fr.ensures.1;
      range = none_done_if _ fr.result _ fr.ensures.1;
      accepted = none_done _ fr.result _ fr.ensures.1;
      err = handed (IsDocumentFault (table_view c.args.table.now)) fr.result _ fr.ensures.1 (by_pace (table_view c.args.table.now) (sym c.first_unknown.ensures ∙ c.in_default.is) c.in_ok-disks.ensures.ok.accepted _ c.in_err-pace.ensures.err);
    }

pub returns-in_err-wear : goal.returns-in_err-wear
returns-in_err-wear c =
    let fr = c.from_residual-in_err-wear in
    record {
      ok = none_done_if _ fr.result _ fr.ensures.1;
      range = none_done_if _ fr.result _ fr.ensures.1;
      accepted = none_done _ fr.result _ fr.ensures.1;
      err = handed (IsDocumentFault (table_view c.args.table.now)) fr.result _ fr.ensures.1 (by_wear (table_view c.args.table.now) (sym c.first_unknown.ensures ∙ c.in_default.is) c.in_ok-disks.ensures.ok.accepted c.in_ok-pace.ensures.ok.accepted _ c.in_err-wear.ensures.err);
    }

pub returns-in_err-energies : goal.returns-in_err-energies
returns-in_err-energies c =
    let fr = c.from_residual-in_err-energies in
    record {
      ok = none_done_if _ fr.result _ fr.ensures.1;
      range = none_done_if _ fr.result _ fr.ensures.1;
      accepted = none_done _ fr.result _ fr.ensures.1;
      err = handed (IsDocumentFault (table_view c.args.table.now)) fr.result _ fr.ensures.1 (by_energies (table_view c.args.table.now) (sym c.first_unknown.ensures ∙ c.in_default.is) c.in_ok-disks.ensures.ok.accepted c.in_ok-pace.ensures.ok.accepted c.in_ok-wear.ensures.ok.accepted _ c.in_err-energies.ensures.err);
    }

pub returns-in-Some : goal.returns-in-Some
returns-in-Some c = record {
  ok = tt;
  range = tt;
  accepted = tt;
  err = by_unknown (table_view c.args.table.now) c.in-Some.at (sym c.first_unknown.ensures ∙ c.in-Some.is);
}

pub returns-in-Ok : goal.returns-in-Ok
returns-in-Ok c =
    let shape = c.in_ok-disks.ensures.ok in
    let pace = c.in_ok-pace.ensures.ok in
    let wear = c.in_ok-wear.ensures.ok in
    let energies = c.in_ok-energies.ensures.ok in
    record {
      ok = setup_read (table_view c.args.table.now) _ _ _ _ shape pace wear energies _ _ c.deref.ensures.value c.in-Ok.ensures.numbers c.in-Ok.ensures.gears;
      range = setup_in_range (table_view c.args.table.now) _ _ _ _ shape pace wear energies _;
      accepted = none_refused (table_view c.args.table.now) _ _ _ _ shape pace wear energies (sym c.first_unknown.ensures ∙ c.in_default.is);
      err = tt;
    }

pub returns : goal.returns
returns c =
    let shape = c.in_ok-disks.ensures.ok in
    let pace = c.in_ok-pace.ensures.ok in
    let wear = c.in_ok-wear.ensures.ok in
    let energies = c.in_ok-energies.ensures.ok in
    record {
      ok = tt;
      range = tt;
      accepted = tt;
      err = by_geometry (table_view c.args.table.now) _ _ _ _ shape pace wear energies (sym c.first_unknown.ensures ∙ c.in_default.is) _ c.deref.ensures.value _ c.in-Err.ensures.err;
    }
