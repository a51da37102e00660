use Rattle.std.proofs.Common.{Some, sym, ap, ◌∙◌, List, ℕ}
use Rattle.std.proofs.lemmas.List.{take_at}
use Rattle.paraid_base.proofs.XorLemmas.{same_block}
use Rattle.paraid_trace.specs.Repeats.{repeating_block}
use Rattle.paraid_trace.proofs.HexLemmas.{block_from_digits-long, block_from_digits-short}
use Rattle.paraid_trace.proofs.hexes.block.Goals as goal

pub returns-then-digits-lt2 : goal.returns-then-digits-lt2
returns-then-digits-lt2 c = block_from_digits-short c.args.digits.now c.if-digits-lt2.true

pub returns-then-digits : goal.returns-then-digits
returns-then-digits c = block_from_digits-long c.args.digits.now c.if-digits.true

pub returns : goal.returns
returns c = (rw c.if-not-decoded.false at c.decoded.ensures.value) ∙ ap Some (same_block _ _ (sym (c.repeat.ensures ∙ ap (λ (p : List ℕ). (repeating_block p).bytes) (take_at _ _ _ c.decoded.ensures.length))))
