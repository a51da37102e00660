use Rattle.std.proofs.Common.{arith, Global, string_bytes, sym}
use Rattle.paraid_words.proofs.WordLemmas.{words_other}
use Rattle.paraid_words.proofs.words.command.Goals as goal

pub returns-in_default : goal.returns-in_default
returns-in_default c = let n = c.len.ensures in sym (words_other (string_bytes {Z = Global}) c.args.words.now.items (λ e. omega (arith, e)) (λ e. omega (arith, e)) (λ e. omega (arith, e)) (λ e. omega (arith, e)) (λ e. omega (arith, e)))
