use Rattle.std.proofs.Common.{arith, ◌∙◌}
use Rattle.paraid_service.proofs.EndLemmas.{low_not_halt}
use Rattle.paraid_service.proofs.TextLemmas.{flush_halted, flush_kept}
use Rattle.paraid_service.specs.LinesEnds.EndsSession.{halted, kept}
use Rattle.paraid_service.proofs.session.end_done.Goals as goal

pub returns-in-Ok : goal.returns-in-Ok
returns-in-Ok g c =
    let e = c.in-Ok.ensures in
    record {
      cause = λ four. (c.last.ensures.cause (λ no. omega (arith, four, no))).1;
      later = c.last.ensures.later;
      still = c.last.ensures.still;
      ends = kept c.in-Ok.writes c.last.result (flush_kept g.A.Serves c.args.device.now c.flush.new.self c.in-Ok.writes e.events e.halt e.again (λ h at is. (e.history h at is).0)) (rw (c.as_slice.ensures.value, c.end_text.ensures) at c.last.ensures.ends);
    }

pub returns-in-Err : goal.returns-in-Err
returns-in-Err g c =
    let e = c.in-Err.ensures in
    record {
      cause = λ four. (c.last-in-Err.ensures.cause (λ no. low_not_halt c.in-Err.halt c.last-in-Err.result 4 (no ∙ c.halt_status.ensures) four (omega arith))).1;
      later = c.last-in-Err.ensures.later;
      still = c.last-in-Err.ensures.still;
      ends = halted c.in-Err.halt c.last-in-Err.result (flush_halted g.A.Serves c.args.device.now c.flush.new.self c.in-Err.halt e.events e.halt e.again) (rw (c.as_slice-in-Err.ensures.value, c.reply.ensures.value, c.halt_status.ensures) at c.last-in-Err.ensures.ends);
    }
