use Rattle.std.proofs.Common.{ap, ◌∙◌}
use Rattle.paraid_record.specs.Spelling.{zero_filled}
use Rattle.paraid_record.proofs.PenLemmas.{pen_finish}
use Rattle.paraid_record.proofs.pen.Pen.finish.Goals as goal

pub returns : goal.returns
returns c = c.from_array.ensures ∙ pen_finish _ _ c.self.invariant ∙ ap (zero_filled 512) c.self.view_is
