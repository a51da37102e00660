use Rattle.std.specs.Prelude.{Err}
use Rattle.std.proofs.Common.{ap}
use Rattle.paraid_serve.proofs.StatusLemmas.{err_is, ok_not_err}
use Rattle.paraid_serve.proofs.HearLemmas.{heard_end, heard_fault, risen_by, taken_by}
use Rattle.paraid_service.proofs.TakeLemmas.{volumes_long, volumes_whole}
use Rattle.paraid_service.proofs.hear.hear_volumes.Goals as goal

pub returns-in-Ok-Whole : goal.returns-in-Ok-Whole
returns-in-Ok-Whole g c = record {
  heard =
      let e = rw c.line.ensures at c.parse_volume_line.ensures.value in
      volumes_whole c.parse_volume_line.new.bytes c.parse_volume_line.result (rw c.in-Ok-Whole.field-0-is at (c.in-Ok-Whole.ensures.step c.requires)) e;
  goes_on = c.in-Ok-Whole.ensures.cause c.requires;
  later = c.next.ensures.later;
  still = λ n. c.in-Ok-Whole.ensures.still (λ is. ok_not_err is);
  cause = λ is. absurd (ok_not_err is);
  too_long = λ n is. absurd (ok_not_err is);
}

pub returns-in-Ok-Long : goal.returns-in-Ok-Long
returns-in-Ok-Long g c = record {
  heard = volumes_long c.args.bytes.now (rw c.in-Ok-Long.field-0-is at (c.in-Ok-Long.ensures.step c.requires));
  goes_on = c.in-Ok-Long.ensures.cause c.requires;
  later = c.next.ensures.later;
  still = λ n. c.in-Ok-Long.ensures.still (λ is. ok_not_err is);
  cause = λ is. absurd (ok_not_err is);
  too_long = λ n is. absurd (ok_not_err is);
}

pub returns-in-Err : goal.returns-in-Err
returns-in-Err g c = record {
  heard = heard_fault (c.in-Err.ensures.step c.requires);
  goes_on = tt;
  later = c.next.ensures.later;
  still = λ n. c.in-Err.ensures.still (λ is. n (ap Err (err_is is)));
  cause = risen_by c.in-Err.fault _ _ _ (c.in-Err.ensures.cause c.requires);
  too_long = λ n. taken_by c.in-Err.fault _ _ _ n (c.in-Err.ensures.cause c.requires);
}

pub returns-in-Ok-End : goal.returns-in-Ok-End
returns-in-Ok-End g c = record {
  heard = heard_end (rw c.in-Ok-End.field-0-is at (c.in-Ok-End.ensures.step c.requires));
  goes_on = c.in-Ok-End.ensures.cause c.requires;
  later = c.next.ensures.later;
  still = λ n. c.in-Ok-End.ensures.still (λ is. ok_not_err is);
  cause = λ is. absurd (ok_not_err is);
  too_long = λ n is. absurd (ok_not_err is);
}
