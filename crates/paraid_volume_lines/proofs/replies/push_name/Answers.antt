use Rattle.std.proofs.Common.{◌++◌, List, ℕ, ap, sym, ◌∙◌}
use Rattle.paraid_volume_lines.proofs.NameWordLemmas.{word_is}
use Rattle.paraid_volume_lines.proofs.replies.push_name.Goals as goal

pub returns-clause-value : goal.returns-clause-value
returns-clause-value c =
    let e = c.as_slice.ensures in
    c.push.ensures.value ∙ ap (λ (w : List ℕ). c.args.into.now ++ w) (sym (word_is c.args.name.now c.as_slice.result.now e.name (λ k l. sym (e.letters k l))))
