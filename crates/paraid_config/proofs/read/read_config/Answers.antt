use Rattle.std.proofs.Common.{arith}
use Rattle.toml.specs.View.{table_view}
use Rattle.paraid_config.specs.Config.{IsDocumentOf}
use Rattle.paraid_config.proofs.PartLemmas.{read_ok, read_refused}
use Rattle.paraid_config.proofs.read.read_config.Goals as goal

pub returns-in-Ok : goal.returns-in-Ok
returns-in-Ok c =
    let is : IsDocumentOf c.args.bytes.now (table_view c.in-Ok.table) = record { short = omega arith; utf8 = c.in-Ok.ensures.ok.0; parsed = c.in-Ok.ensures.ok.1 } in
    record {
      ok = read_ok c.args.bytes.now (table_view c.in-Ok.table) c.setup_of.result is c.setup_of.ensures.ok c.setup_of.ensures.accepted;
      range = c.setup_of.ensures.range;
      err = read_refused c.args.bytes.now (table_view c.in-Ok.table) c.setup_of.result is c.setup_of.ensures.err;
    }
