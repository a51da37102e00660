use Rattle.std.proofs.Common.{sym, ◌∙◌}
use Rattle.std.proofs.lemmas.Bool.{false≢true}
use Rattle.paraid_record.proofs.meta.Meta.is_in_range.Goals as goal

pub returns-then-not-is_phase_in_range : goal.returns-then-not-is_phase_in_range
returns-then-not-is_phase_in_range c = (λ is. absurd (false≢true is), λ all. sym c.if-not-is_phase_in_range.true ∙ c.is_phase_in_range.ensures.1 all.phase)

pub returns-then-not-is_out_in_range : goal.returns-then-not-is_out_in_range
returns-then-not-is_out_in_range c = (λ is. absurd (false≢true is), λ all. sym c.if-not-is_out_in_range.true ∙ c.is_out_in_range.ensures.1 all.out)

pub returns-else-is_shift_in_range : goal.returns-else-is_shift_in_range
returns-else-is_shift_in_range c =
    (λ is. absurd (false≢true (sym c.if-is_shift_in_range.false ∙ is)), λ all. c.is_shift_in_range.ensures.1 all.shift)
