use Rattle.std.proofs.Common.{◌∙◌, ℕ, arith, inl, inr, subst, sym, rules, ap}
use Rattle.paraid_commands.proofs.OutcomeLemmas.{refused, status_is}
use Rattle.paraid_commands.specs.Lines.{formatted_line, refusal_line, refusal_status}
use Rattle.paraid_commands.specs.Outcome.{IsFormatStatus}
use Rattle.paraid_commands.specs.Outcome.FormatOutcome.{done}
use Rattle.paraid_serve.proofs.StatusLemmas.{ends_there, err_is, ok_not_err}
use Rattle.paraid_commands.proofs.format_command.format_array.Goals as goal

pub returns-in-Ok : goal.returns-in-Ok
returns-in-Ok g c = record {
  formats = record {
    code = 0;
    line = formatted_line c.in-Ok.setup;
    outcome = done c.in-Ok.setup c.in-Ok.ensures.configured c.in-Ok.ensures.made;
    ends = rw (c.as_slice.ensures.value, c.formatted_text.ensures) at c.last.ensures.ends;
  };
  slots = search rules;
  status = elim c.last.ensures.ends.whole [ inl failed ↦ inr (inr (inl failed)) | inr told ↦ inl told.1 ];
  end = λ zero. c.in-Ok.ensures.configured.end;
  source = λ three. elim c.last.ensures.ends.whole [ inl failed ↦ absurd (omega (arith, three, failed)) | inr told ↦ absurd (omega (arith, three, told.1)) ];
  sink = λ four. (c.last.ensures.cause (λ e. omega (arith, four, e))).1;
  unhurt = record { sink = c.last.ensures.still; source = λ n m. c.in-Ok.ensures.still (λ is. ok_not_err is) };
}

pub returns-in-Err : goal.returns-in-Err
returns-in-Err g c = record {
  formats = record {
    code = refusal_status c.in-Err.refusal;
    line = refusal_line c.in-Err.refusal;
    outcome = refused _ _ _ c.in-Err.refusal c.in-Err.ensures.refused;
    ends = rw (c.as_slice-in-Err.ensures.value, c.refusal_text.ensures, c.refusal_status.ensures) at c.last-in-Err.ensures.ends;
  };
  slots = search rules;
  status = elim c.last-in-Err.ensures.ends.whole [
    | inl failed ↦ inr (inr (inl failed))
    | inr told ↦ subst (λ (n : ℕ). IsFormatStatus n) (sym (told.1 ∙ c.refusal_status.ensures)) (status_is c.in-Err.refusal).known
  ];
  end = λ zero. elim c.last-in-Err.ensures.ends.whole [
    | inl failed ↦ absurd (omega (arith, zero, failed))
    | inr told ↦ absurd ((status_is c.in-Err.refusal).not_done (sym (told.1 ∙ c.refusal_status.ensures) ∙ zero))
  ];
  source = λ three. elim c.last-in-Err.ensures.ends.whole [
    | inl failed ↦ absurd (omega (arith, three, failed))
    | inr told ↦ (rw ((status_is c.in-Err.refusal).source (sym (told.1 ∙ c.refusal_status.ensures) ∙ three)) at c.in-Err.ensures.refused).0.cause.0
  ];
  sink = λ four. (c.last-in-Err.ensures.cause (λ e. (status_is c.in-Err.refusal).not_sink (sym (e ∙ c.refusal_status.ensures) ∙ four))).1;
  unhurt = record {
    sink = c.last-in-Err.ensures.still;
    source = λ n m. c.in-Err.ensures.still (λ is. ends_there _ _ _ _ _ c.last-in-Err.ensures.ends m (λ e. n (e ∙ c.refusal_status.ensures ∙ ap refusal_status (err_is is))));
  };
}
