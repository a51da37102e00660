use Rattle.std.proofs.Common.{◌≡◌, ℕ, List, length, drop, arith, sym, ap, ◌∙◌, length-drop}
use Rattle.std.proofs.lemmas.List.{take_all}
use Rattle.std.proofs.lemmas.Result.{err_from_is_err_and}
use Rattle.paraid_nbd.specs.Numbers.{number}
use Rattle.paraid_nbd.specs.Options.{option_length}
use Rattle.paraid_nbd.proofs.TakingLemmas.{ok_apart, passed}
use Rattle.paraid_nbd.proofs.options.take_head.Goals as goal

pub returns-in_err-fill : goal.returns-in_err-fill
returns-in_err-fill g c =
    let p = err_from_is_err_and c.from_residual.result c.from_residual.ensures.1 in
    record {
      takes = rw p.1 tt;
      lacks = rw (p.1, p.2) c.in_err-fill.ensures.lacks;
      later = c.in_err-fill.ensures.later;
      still = passed p.1 p.2 c.in_err-fill.ensures.still;
    }

pub returns : goal.returns
unfolding number
returns g c =
    let head : List ℕ = c.fill.new.into in
    let size : length head ≡ 8 = c.fill.auto.into in
    let count : c.read_u32-length.result ≡ option_length head = c.read_u32-length.ensures ∙ ap (number 4) (take_all 4 (drop 4 head) (omega (arith, length-drop 4 head))) in
    record {
      takes = (head, size, sym c.read_u32-number.ensures, count, c.in_ok-fill.ensures.takes);
      lacks = tt;
      later = c.in_ok-fill.ensures.later;
      still = λ n. c.in_ok-fill.ensures.still ok_apart;
    }
