use Rattle.std.proofs.Common.{ℕ, ℤ, ◌≤◌, Some, option_map, inr, refl, ap, sym, subst, ◌∙◌, rules, w64, SFits}
use Rattle.std.proofs.lemmas.Int.{to_z-of_z}
use Rattle.std.specs.Prelude.{IfOk}
use Rattle.toml.specs.Data.{integer}
use Rattle.toml.specs.View.{table_view}
use Rattle.paraid_config.proofs.NumberLemmas.{number_or_read, optional_accepted, optional_refused, optional_absent}
use Rattle.paraid_config.proofs.number.number_or.Goals as goal

pub returns-in-Ok-Some : goal.returns-in-Ok-Some
returns-in-Ok-Some c =
    let fits : SFits w64 c.in-Ok-Some.value = search rules in
    let same = to_z-of_z w64 c.in-Ok-Some.value fits in
    let document = table_view c.args.table.now in
    let there = c.in-Ok-Some.ensures.value ∙ ap (option_map (λ (y : ℤ). integer y)) c.in-Ok-Some.field-0-is ∙ ap (λ (y : ℤ). Some (integer y)) (sym same) in
    let low = c.limits-low.ensures.low in
    let said = c.within.ensures in
    record {
      value = number_or_read document c.args.key _ c.within.result there c.args.absent said.value;
      low = subst (λ (b : ℕ). IfOk c.within.result (λ n. b ≤ n)) low said.low;
      high = said.high;
      accepted = optional_accepted document c.args.key _ c.within.result there _ c.args.high low said.accepted;
      err = optional_refused document c.args.key _ c.within.result there _ c.args.high low said.err;
    }

pub returns-in-Ok-None : goal.returns-in-Ok-None
returns-in-Ok-None c =
    let none = c.in-Ok-None.ensures.value ∙ ap (option_map (λ (y : ℤ). integer y)) c.in-Ok-None.field-0-is in
    record {
      value = inr (none, refl);
      low = c.requires.low;
      high = c.requires.high;
      accepted = optional_absent (table_view c.args.table.now) c.args.key c.args.high none;
      err = tt;
    }

pub returns-in-Err : goal.returns-in-Err
returns-in-Err c = record { value = tt; low = tt; high = tt; accepted = tt; err = c.in-Err.ensures.err c.args.high }
