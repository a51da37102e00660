use Rattle.std.proofs.Common.{◌≡◌, ◌++◌, length, refl, sym, ap, ◌∙◌}
use Rattle.std.proofs.lemmas.Result.{err_from_is_err_and}
use Rattle.paraid_nbd.specs.declared.request.Request.{Request}
use Rattle.paraid_nbd.specs.Requests.IsPartRequest.{InHead}
use Rattle.paraid_nbd.specs.Service.StopsRequest.{CutRequest, LastRequest}
use Rattle.paraid_nbd.proofs.TakingLemmas.{Takes-then, IsCut-sooner, later_then, ok_apart, passed}
use Rattle.paraid_nbd.proofs.serve.take_request.Goals as goal

pub returns-in_err-take_magic : goal.returns-in_err-take_magic
returns-in_err-take_magic g c =
    let p = err_from_is_err_and c.from_residual.result c.from_residual.ensures.1 in
    record {
      takes = rw p.1 tt;
      stops = rw (p.1, p.2) c.in_err-take_magic.ensures.stops;
      later = c.in_err-take_magic.ensures.later;
      still = passed p.1 p.2 c.in_err-take_magic.ensures.still;
    }

pub returns-in_err-fill : goal.returns-in_err-fill
returns-in_err-fill g c =
    let p = err_from_is_err_and c.from_residual-in_err-fill.result c.from_residual-in_err-fill.ensures.1 in
    let m = c.in_ok-take_magic.ensures.takes in
    let l = c.in_err-fill.ensures.lacks in
    record {
      takes = rw p.1 tt;
      stops = rw (p.1, p.2) (CutRequest (m.0 ++ l.got) (Takes-then m.2 l.takes) (InHead m.0 l.got refl m.1 l.few) (IsCut-sooner _ _ _ _ _ _ c.in_ok-take_magic.ensures.later l.cause));
      later = later_then _ _ _ c.in_ok-take_magic.ensures.later c.in_err-fill.ensures.later;
      still = λ n. passed p.1 p.2 c.in_err-fill.ensures.still n ∙ c.in_ok-take_magic.ensures.still ok_apart;
    }

pub returns-in-Disconnect : goal.returns-in-Disconnect
returns-in-Disconnect g c =
    let m = c.in_ok-take_magic.ensures.takes in
    let size : length c.fill.new.into ≡ 24 = c.fill.auto.into in
    record {
      takes = tt;
      stops = LastRequest (m.0 ++ c.fill.new.into) (Takes-then m.2 c.in_ok-fill.ensures.takes)
          (record { magic = m.0; head = c.fill.new.into; is = refl; magic_is = m.1; whole = size; last = ap (λ (r : Request). r.command) (sym c.from_bytes-request.ensures) ∙ c.in-Disconnect.is })
          refl;
      later = later_then _ _ _ c.in_ok-take_magic.ensures.later c.in_ok-fill.ensures.later;
      still = λ n. c.in_ok-fill.ensures.still ok_apart ∙ c.in_ok-take_magic.ensures.still ok_apart;
    }

pub returns : goal.returns
returns g c =
    let m = c.in_ok-take_magic.ensures.takes in
    let size : length c.fill.new.into ≡ 24 = c.fill.auto.into in
    record {
      takes = record {
        magic = m.0;
        head = c.fill.new.into;
        magic_is = m.1;
        whole = size;
        is = c.from_bytes-request.ensures;
        stays = c.in_default.not-Disconnect;
        takes = Takes-then m.2 c.in_ok-fill.ensures.takes;
      };
      stops = tt;
      later = later_then _ _ _ c.in_ok-take_magic.ensures.later c.in_ok-fill.ensures.later;
      still = λ n. c.in_ok-fill.ensures.still ok_apart ∙ c.in_ok-take_magic.ensures.still ok_apart;
    }
