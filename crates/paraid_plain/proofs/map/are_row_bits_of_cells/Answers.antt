use Rattle.std.proofs.Common.{refl, sym, ◌∙◌, arith, inl, inr}
use Rattle.std.proofs.lemmas.Bool.{cases_lt, false≢true}
use Rattle.paraid_plain.proofs.ViewLemmas.{dirty_at-above}
use Rattle.paraid_plain.proofs.map.are_row_bits_of_cells.Goals as goal

pub returns : goal.returns
returns c = (
  λ _ d dirty. elim (cases_lt d 8) [
    | inl below ↦ c.loop-disk.invariant d (omega arith) dirty
    | inr above ↦ absurd (false≢true (sym (dirty_at-above c.args.image.now c.args.says.now c.args.row d above) ∙ dirty))
  ],
  λ _. refl,
)
