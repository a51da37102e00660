use Rattle.std.proofs.Common.{arith, refl}
use Rattle.paraid_service.specs.LinesEnds.EndsSession.{at_sink, at_source, too_long}
use Rattle.paraid_service.proofs.session.end_session.Goals as goal

pub returns-in-Source : goal.returns-in-Source
returns-in-Source g c = record { cause = λ four not. (c.last.ensures.cause (λ no. omega (arith, four, no))).1; later = c.last.ensures.later; still = c.last.ensures.still; ends = rw c.in-Source.is (at_source c.last.result refl c.last.ensures.ends) }

pub returns-in-TooLong : goal.returns-in-TooLong
returns-in-TooLong g c = record { cause = λ four not. (c.last-in-TooLong.ensures.cause (λ no. omega (arith, four, no))).1; later = c.last-in-TooLong.ensures.later; still = c.last-in-TooLong.ensures.still; ends = rw c.in-TooLong.is (too_long c.last-in-TooLong.result refl c.last-in-TooLong.ensures.ends) }

pub returns-in-Sink : goal.returns-in-Sink
returns-in-Sink g c = record { cause = λ four not. absurd (not c.in-Sink.is); later = omega arith; still = λ n. absurd (n refl); ends = rw c.in-Sink.is (at_sink refl refl) }
