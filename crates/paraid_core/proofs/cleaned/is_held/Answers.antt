use Rattle.std.proofs.Common.{◌<◌, ◌∙◌, length, sym, arith}
use Rattle.paraid_image.proofs.BatchesLemmas.{names_place-at, same_target}
use Rattle.paraid_core.proofs.cleaned.is_held.Goals as goal

pub returns-then-eq : goal.returns-then-eq
returns-then-eq c = λ is.
    let batch = c.args.batch.now in
    let test = c.loop-at-test.true in
    let count = c.count-at-end.ensures.value in
    let low : c.loop-at.at < length batch = omega arith in
    names_place-at batch c.loop-at.at c.args.target low (sym c.target.ensures ∙ same_target c.target.result c.args.target (sym c.if-eq.ensures))
