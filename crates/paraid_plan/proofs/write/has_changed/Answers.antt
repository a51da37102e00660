use Rattle.std.proofs.Common.{◌∙◌, ℕ, ap, sym}
use Rattle.paraid_dirty.specs.Bits.{bit_of}
use Rattle.paraid_plan.proofs.write.has_changed.Goals as goal

pub returns : goal.returns
returns g c same d = sym (c.dirty_row.ensures d) ∙ ap (λ (z : ℕ). bit_of z d) (c.is_other.ensures same)
