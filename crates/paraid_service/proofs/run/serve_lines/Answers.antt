use Rattle.std.proofs.Common.{ap, refl, ◌∙◌}
use Rattle.std.specs.Prelude.{Err}
use Rattle.paraid_serve.proofs.StatusLemmas.{ok_not_err}
use Rattle.paraid_service.proofs.RunLemmas.{runs_first}
use Rattle.paraid_service.proofs.TakeLemmas.{ends_at_sink, ends_at_source, ends_done, ends_too_long, taken_more, taken_start}
use Rattle.paraid_service.proofs.run.serve_lines.Goals as goal

pub lines-init : goal.lines-init
lines-init g c = record {
  taken = rw c.new-reader.ensures (taken_start g.B.Blocks c.args.blocks _ _ c.open_shelf-shelved.result.shelf c.open_shelf-shelved.result.halt (runs_first g.B.Blocks c.args.blocks c.open_shelf-shelved.result.shelf c.open_shelf-shelved.result.halt c.open_shelf-shelved.ensures.opens c.open_shelf-shelved.ensures.begins));
  source = refl;
  sink = refl;
}

pub returns-in-Ok-None-clause-lines : goal.returns-in-Ok-None-clause-lines
returns-in-Ok-None-clause-lines g c = rw (c.run_ended.ensures.0, c.run_ended.ensures.1) (ends_done c.lines.invariant.taken (rw c.in-Ok-None.field-0-is at c.in-Ok-None.ensures.heard))

pub returns-in-Err-Source-clause-lines : goal.returns-in-Err-Source-clause-lines
returns-in-Err-Source-clause-lines g c = rw (c.run_ended-in-Err-Source.ensures.0, c.run_ended-in-Err-Source.ensures.1) (ends_at_source c.lines.invariant.taken c.in-Err-Source.ensures.heard)

pub returns-in-Err-TooLong-clause-lines : goal.returns-in-Err-TooLong-clause-lines
returns-in-Err-TooLong-clause-lines g c = rw (c.run_ended-in-Err-TooLong.ensures.0, c.run_ended-in-Err-TooLong.ensures.1) (ends_too_long c.lines.invariant.taken c.in-Err-TooLong.ensures.heard (c.in-Err-TooLong.ensures.too_long c.in-Err-TooLong.field-0-0 (ap Err c.in-Err-TooLong.field-0-is)))

pub lines-preserved : goal.lines-preserved
lines-preserved g c =
    let i = c.lines.invariant in
    let k = c.in-Ok.ensures in
    record {
      taken = taken_more i.taken (rw c.in-Ok-Some.field-0-is at c.in-Ok-Some.ensures.heard) c.answer_volume_line-shelved.result.shelf c.answer_volume_line-shelved.result.halt c.answer_volume_line-shelved.new.into c.answer_volume_line-shelved.ensures.runs c.in-Ok-Some.ensures.goes_on _ (rw c.as_slice.ensures.value at k.grows);
      source = c.in-Ok-Some.ensures.still (λ is. ok_not_err is) ∙ i.source;
      sink = k.still ∙ i.sink;
    }

pub returns-in_default-clause-lines : goal.returns-in_default-clause-lines
returns-in_default-clause-lines g c =
    let p = c.in_default.ensures.part in
    rw (c.run_ended-in_default.ensures.0, c.run_ended-in_default.ensures.1) (ends_at_sink c.lines.invariant.taken (rw c.in-Ok-Some.field-0-is at c.in-Ok-Some.ensures.heard) c.answer_volume_line-shelved.result.shelf c.answer_volume_line-shelved.result.halt c.answer_volume_line-shelved.new.into c.answer_volume_line-shelved.ensures.runs _ p.0 (rw c.as_slice.ensures.value at p.1) (rw c.as_slice.ensures.value at p.2))
