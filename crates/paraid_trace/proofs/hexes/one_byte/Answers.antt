use Rattle.std.proofs.Common.{Some, sym, ap, ◌∙◌, ◌/◌, ℕ}
use Rattle.paraid_trace.proofs.RepeatsLemmas.{one_byte_repeats}
use Rattle.paraid_trace.proofs.hexes.one_byte.Goals as goal

pub returns : goal.returns
returns c = (rw c.if-not-decoded.false at c.decoded.ensures.value)
    ∙ ap Some (sym (one_byte_repeats c.decoded.new.room _ (c.decoded.ensures.length ∙ ap (λ (n : ℕ). n / 2) c.requires) c.fill_with.ensures))
