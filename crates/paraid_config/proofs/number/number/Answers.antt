use Rattle.std.proofs.Common.{ℤ, Some, ap, sym, ◌∙◌, rules, w64, SFits}
use Rattle.std.proofs.lemmas.Int.{to_z-of_z}
use Rattle.toml.specs.Data.{integer}
use Rattle.toml.specs.View.{table_view}
use Rattle.paraid_config.proofs.NumberLemmas.{number_read, number_accepted, number_refused}
use Rattle.paraid_config.proofs.number.number.Goals as goal

pub returns-in-Ok : goal.returns-in-Ok
returns-in-Ok c =
    let fits : SFits w64 c.in-Ok.value = search rules in
    let same = to_z-of_z w64 c.in-Ok.value fits in
    let document = table_view c.args.table.now in
    let there = c.in-Ok.ensures.value ∙ ap (λ (z : ℤ). Some (integer z)) (sym same) in
    let said = c.in_range.ensures in
    record {
      value = number_read document c.args.key _ c.in_range.result there said.value;
      low = said.low;
      high = said.high;
      accepted = number_accepted document c.args.key _ c.in_range.result there said.accepted;
      err = number_refused document c.args.key _ c.in_range.result there said.err;
    }

pub returns-in-Err : goal.returns-in-Err
returns-in-Err c = record { value = tt; low = tt; high = tt; accepted = tt; err = c.in-Err.ensures.err }
