use Rattle.std.proofs.Common.{◌++◌, arith, length-append, ◌∙◌}
use Rattle.std.proofs.lemmas.Result.{err_from_is_err_and}
use Rattle.paraid_nbd.proofs.TakingLemmas.{Takes-then, Lacks-then, later_then, ok_apart, passed, stood}
use Rattle.paraid_nbd.proofs.input.Input.skip.Goals as goal

pub returns-in_err-skip_piece : goal.returns-in_err-skip_piece
returns-in_err-skip_piece g c =
    let p = err_from_is_err_and c.from_residual.result c.from_residual.ensures.1 in
    let i = c.loop-done.invariant in
    record {
      takes = rw p.1 tt;
      lacks = rw (p.1, p.2) (Lacks-then i.takes.2 c.in_err-skip_piece.ensures.lacks (omega (arith, i.takes.1, c.min-n.ensures, c.loop-done-test.true)) (stood i.still));
      later = later_then _ _ _ (stood i.still) c.in_err-skip_piece.ensures.later;
      still = λ n. passed p.1 p.2 c.in_err-skip_piece.ensures.still n ∙ i.still;
    }

pub loop-done-preserved : goal.loop-done-preserved
loop-done-preserved g c =
    let i = c.loop-done.invariant in
    let e = c.in_ok-skip_piece.ensures in
    record {
      within = omega (arith, i.within, c.min-n.ensures);
      takes = (i.takes.0 ++ e.takes.0, omega (arith, length-append i.takes.0 e.takes.0, i.takes.1, e.takes.1), Takes-then i.takes.2 e.takes.2);
      still = e.still ok_apart ∙ i.still;
    }

pub returns : goal.returns
returns g c =
    let i = c.loop-done.invariant in
    record { takes = (i.takes.0, omega (arith, i.takes.1, i.within, c.loop-done-test.false), i.takes.2); lacks = tt; later = stood i.still; still = λ n. i.still }
