use Rattle.std.proofs.Common.{◌≡◌, ◌≢◌, length, sym, ◌∙◌, refl}
use Rattle.std.proofs.lemmas.Result.{err_from_is_err_and}
use Rattle.paraid_nbd.specs.Numbers.{number}
use Rattle.paraid_nbd.specs.Options.IsPartOption.{InMagic}
use Rattle.paraid_nbd.specs.Options.IsWrongOption.{WrongMagic}
use Rattle.paraid_nbd.specs.Handshake.StopsOption.{CutOption, WrongOption}
use Rattle.paraid_nbd.proofs.TakingLemmas.{ok_apart, passed}
use Rattle.paraid_nbd.proofs.options.take_magic.Goals as goal

pub returns-in_err-fill : goal.returns-in_err-fill
returns-in_err-fill g c =
    let p = err_from_is_err_and c.from_residual.result c.from_residual.ensures.1 in
    let l = c.in_err-fill.ensures.lacks in
    record {
      takes = rw p.1 tt;
      stops = rw (p.1, p.2) (CutOption l.got l.takes (InMagic l.few) l.cause);
      later = c.in_err-fill.ensures.later;
      still = passed p.1 p.2 c.in_err-fill.ensures.still;
    }

pub returns-then-read_u64-ne-HAVE_OPTION : goal.returns-then-read_u64-ne-HAVE_OPTION
unfolding number
returns-then-read_u64-ne-HAVE_OPTION g c =
    let whole : length c.fill.new.into ≡ 8 = c.fill.auto.into in
    let other : number 8 c.fill.new.into ≢ 0x49484156454F5054 = λ e. c.if-read_u64-ne-HAVE_OPTION.true (c.read_u64.ensures ∙ e) in
    record {
      takes = tt;
      stops = WrongOption c.fill.new.into c.args.input.now.taken c.in_ok-fill.ensures.takes (WrongMagic whole other refl) refl;
      later = c.in_ok-fill.ensures.later;
      still = λ n. c.in_ok-fill.ensures.still ok_apart;
    }

pub returns : goal.returns
unfolding number
returns g c =
    let whole : length c.fill.new.into ≡ 8 = c.fill.auto.into in
    let magic : number 8 c.fill.new.into ≡ 0x49484156454F5054 = sym c.read_u64.ensures ∙ c.if-read_u64-ne-HAVE_OPTION.false in
    record {
      takes = (c.fill.new.into, (whole, magic), c.in_ok-fill.ensures.takes);
      stops = tt;
      later = c.in_ok-fill.ensures.later;
      still = λ n. c.in_ok-fill.ensures.still ok_apart;
    }
