use Rattle.std.proofs.Common.{◌≡◌, ◌≢◌, length, refl, sym, ◌∙◌}
use Rattle.std.proofs.lemmas.Result.{err_from_is_err_and}
use Rattle.paraid_nbd.specs.Numbers.{number}
use Rattle.paraid_nbd.specs.Requests.IsPartRequest.{InMagic}
use Rattle.paraid_nbd.specs.Service.StopsRequest.{CutRequest, WrongRequest}
use Rattle.paraid_nbd.proofs.TakingLemmas.{ok_apart, passed}
use Rattle.paraid_nbd.proofs.serve.take_magic.Goals as goal

pub returns-in_err-fill : goal.returns-in_err-fill
returns-in_err-fill g c =
    let p = err_from_is_err_and c.from_residual.result c.from_residual.ensures.1 in
    let l = c.in_err-fill.ensures.lacks in
    record {
      takes = rw p.1 tt;
      stops = rw (p.1, p.2) (CutRequest l.got l.takes (InMagic l.few) l.cause);
      later = c.in_err-fill.ensures.later;
      still = passed p.1 p.2 c.in_err-fill.ensures.still;
    }

pub returns-then-read_u32-ne-REQUEST : goal.returns-then-read_u32-ne-REQUEST
unfolding number
returns-then-read_u32-ne-REQUEST g c =
    let whole : length c.fill.new.into ≡ 4 = c.fill.auto.into in
    let other : number 4 c.fill.new.into ≢ 0x25609513 = λ e. c.if-read_u32-ne-REQUEST.true (c.read_u32.ensures ∙ e) in
    record {
      takes = tt;
      stops = WrongRequest c.fill.new.into c.in_ok-fill.ensures.takes whole other refl;
      later = c.in_ok-fill.ensures.later;
      still = λ n. c.in_ok-fill.ensures.still ok_apart;
    }

pub returns : goal.returns
unfolding number
returns g c =
    let whole : length c.fill.new.into ≡ 4 = c.fill.auto.into in
    let magic : number 4 c.fill.new.into ≡ 0x25609513 = sym c.read_u32.ensures ∙ c.if-read_u32-ne-REQUEST.false in
    record {
      takes = (c.fill.new.into, (whole, magic), c.in_ok-fill.ensures.takes);
      stops = tt;
      later = c.in_ok-fill.ensures.later;
      still = λ n. c.in_ok-fill.ensures.still ok_apart;
    }
