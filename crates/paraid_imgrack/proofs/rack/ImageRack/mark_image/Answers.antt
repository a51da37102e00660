use Rattle.std.proofs.Common.{ap, ◌∙◌}
use Rattle.std.proofs.Math.Seq.{map-set_same}
use Rattle.paraid_imgrack.specs.Images.{image_slot}
use Rattle.paraid_imgrack.proofs.CallsLemmas.{KeepsFound-put}
use Rattle.paraid_imgrack.proofs.rack.ImageRack.mark_image.Goals as goal

pub returns-clause-slots : goal.returns-clause-slots
returns-clause-slots g c = map-set_same image_slot _ _ _ c.index_mut.result.now (c.give_label.ensures.slot ∙ ap image_slot c.index_mut.ensures.value)

pub returns-clause-found : goal.returns-clause-found
returns-clause-found g c = KeepsFound-put _ _ c.index_mut.result.now _ c.index_mut.ensures.value c.give_label.ensures.first c.give_label.ensures.misfit c.give_label.ensures.tail c.give_label.ensures.shut
