use Rattle.std.proofs.Common.{refl, sym, ◌∙◌}
use Rattle.paraid_recover.specs.Examined.{logs_of, side_of}
use Rattle.paraid_recover.specs.Examined.IsRefusedByLogs.{by_itself, by_sides, unpaired}
use Rattle.paraid_recover.proofs.ExaminedLogLemmas.{not_named, out_named, standing_low}
use Rattle.paraid_recover.proofs.standing.agreed.Goals as goal

pub refusal_by_pair-requires : goal.refusal_by_pair-requires
refusal_by_pair-requires c =
    let logs = logs_of c.args.sides.now c.args.first.now c.args.second.now in
    record {
      first_form = c.requires.first_form;
      second_form = c.requires.second_form;
      side = standing_low (side_of logs 0) (side_of logs 1) c.in-Some-standing_of.standing.side (c.in-Some-standing_of.ensures.some c.args.first.now c.args.second.now).stands;
    }

pub returns-in-Some : goal.returns-in-Some
returns-in-Some c = record { err = by_sides c.in-Some.ensures; ok = tt }

pub returns-in_default-standing_of : goal.returns-in_default-standing_of
returns-in_default-standing_of c = record { err = absurd (c.in_default-standing_of.ensures.none refl c.in_default.ensures); ok = tt }

pub returns-then-names : goal.returns-then-names
returns-then-names c = record {
  err = by_itself c.in_default.ensures _ _ (c.in-Some-standing_of.ensures.some c.args.first.now c.args.second.now)
      (out_named _ _ (sym c.names.ensures ∙ c.if-names.true)) refl;
  ok = tt;
}

pub returns-in-Some-refusal_by_pair : goal.returns-in-Some-refusal_by_pair
returns-in-Some-refusal_by_pair c = record {
  err = unpaired c.in_default.ensures _ _ (c.in-Some-standing_of.ensures.some c.args.first.now c.args.second.now)
      (not_named _ _ (sym c.names.ensures ∙ c.if-names.false)) c.in-Some-refusal_by_pair.ensures.0 c.in-Some-refusal_by_pair.ensures.1;
  ok = tt;
}

pub returns : goal.returns
returns c = record {
  err = tt;
  ok = record {
    formed = c.in_default.ensures;
    standing = c.in-Some-standing_of.ensures.some c.args.first.now c.args.second.now;
    live = not_named _ _ (sym c.names.ensures ∙ c.if-names.false);
    paired = c.in_default-refusal_by_pair.ensures;
  };
}
