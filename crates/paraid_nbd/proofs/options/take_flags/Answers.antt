use Rattle.std.proofs.Common.{◌≡◌, length, arith, refl}
use Rattle.std.proofs.lemmas.Result.{err_from_is_err_and}
use Rattle.paraid_nbd.specs.Numbers.{number}
use Rattle.paraid_nbd.specs.Handshake.StopsFlags.{CutFlags, WrongFlags}
use Rattle.paraid_nbd.proofs.TakingLemmas.{ok_apart, passed}
use Rattle.paraid_nbd.proofs.options.take_flags.Goals as goal

pub returns-then-flags-gt3 : goal.returns-then-flags-gt3
unfolding number
returns-then-flags-gt3 g c =
    let whole : length c.fill.new.into ≡ 4 = c.fill.auto.into in
    let flags : c.read_u32-flags.result ≡ number 4 c.fill.new.into = c.read_u32-flags.ensures in
    record {
      flags = tt;
      stops = WrongFlags c.fill.new.into c.in_ok-fill.ensures.takes whole (omega (arith, flags, c.if-flags-gt3.true)) refl;
      later = c.in_ok-fill.ensures.later;
      still = λ n. c.in_ok-fill.ensures.still ok_apart;
    }

pub returns : goal.returns
unfolding number
returns g c =
    let whole : length c.fill.new.into ≡ 4 = c.fill.auto.into in
    let flags : c.read_u32-flags.result ≡ number 4 c.fill.new.into = c.read_u32-flags.ensures in
    record {
      flags = record {
        flags = c.fill.new.into;
        are = record { whole = whole; known = omega (arith, flags, c.if-flags-gt3.false); zeros = rw flags refl };
        takes = c.in_ok-fill.ensures.takes;
      };
      stops = tt;
      later = c.in_ok-fill.ensures.later;
      still = λ n. c.in_ok-fill.ensures.still ok_apart;
    }

pub returns-in_err-fill : goal.returns-in_err-fill
returns-in_err-fill g c =
    let p = err_from_is_err_and c.from_residual.result c.from_residual.ensures.1 in
    record {
      flags = rw p.1 tt;
      stops = rw (p.1, p.2) (CutFlags c.in_err-fill.ensures.lacks);
      later = c.in_err-fill.ensures.later;
      still = passed p.1 p.2 c.in_err-fill.ensures.still;
    }
