use Rattle.std.proofs.Common.{List, ℕ, ◌∙◌, ap}
use Rattle.std.proofs.Math.Seq.{take-append_seam}
use Rattle.paraid_base.proofs.XorLemmas.{same_block}
use Rattle.paraid_trace.specs.Repeats.{repeating_block}
use Rattle.paraid_trace.proofs.hexes.repeated.Goals as goal

pub returns : goal.returns
returns c =
    same_block c.from_array.result (repeating_block c.args.pattern.now)
    (c.from_array.ensures ∙ c.repeat.ensures ∙ ap (λ (l : List ℕ). (repeating_block l).bytes) (rw c.copy_from_slice.ensures.after (take-append_seam c.args.pattern.now _)))
