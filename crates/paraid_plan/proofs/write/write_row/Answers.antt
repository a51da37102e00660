use Rattle.std.proofs.Common.{◌∙◌, rules, sym}
use Rattle.std.proofs.lemmas.Bool.{true≢false}
use Rattle.paraid_plan.proofs.write.write_row.Goals as goal

pub returns-then-has_soft : goal.returns-then-has_soft
returns-then-has_soft g c = c.write_row_in.ensures

pub returns : goal.returns
returns g c = c.write_row_in-2.ensures

pub write_row_in-requires : goal.write_row_in-requires
write_row_in-requires g c =
    record {
      serves = c.requires.serves;
      in_range = c.requires.in_range;
      row = c.requires.row;
      blocks = search rules;
      kept = λ soft. c.none_kept.ensures;
      some = c.requires.some;
      room = c.requires.room;
      bits = c.requires.bits;
    }

pub write_row_in-requires-2 : goal.write_row_in-requires-2
write_row_in-requires-2 g c =
    record {
      serves = c.requires.serves;
      in_range = c.requires.in_range;
      row = c.requires.row;
      blocks = search rules;
      kept = λ soft. absurd (true≢false (sym soft ∙ sym c.has_soft.ensures ∙ c.if-has_soft.false));
      some = c.requires.some;
      room = c.requires.room;
      bits = c.requires.bits;
    }
