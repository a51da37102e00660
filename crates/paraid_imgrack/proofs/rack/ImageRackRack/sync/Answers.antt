use Rattle.std.proofs.Common.{false, ◌∙◌}
use Rattle.paraid_rack.specs.Slots.{Slot}
use Rattle.std.proofs.lemmas.List.{length-set}
use Rattle.paraid_imgrack.specs.Laws.{nothing_told}
use Rattle.paraid_imgrack.proofs.CallsLemmas.{found_after, opened_after, why_after}
use Rattle.paraid_imgrack.proofs.ImagesLemmas.{length_kept, touched_after}
use Rattle.paraid_imgrack.proofs.rack.ImageRackRack.sync.Goals as goal

pub returns-clause-slots : goal.returns-clause-slots
returns-clause-slots g c = length-set _ _ _ ∙ length_kept c.args.self.now.images.items c.renew_labels.new.self.images.items c.renew_labels.ensures.slots

pub returns-clause-slot : goal.returns-clause-slot
returns-clause-slot g c = touched_after c.args.self.now.images.items c.renew_labels.new.self.images.items c.args.disk c.index_mut.result.now _
    (λ (s : Slot). record s { unsynced = false }) (λ (s : Slot). s.unsynced) _ c.renew_labels.ensures.slots c.requires.exists c.index_mut.ensures.value c.sync.ensures.slot

pub returns-clause-told : goal.returns-clause-told
returns-clause-told g c = λ t e. nothing_told t e

pub returns-clause-found : goal.returns-clause-found
returns-clause-found g c = found_after c.args.self.now.images.items c.renew_labels.new.self.images.items c.args.disk c.index_mut.result.now _ _ c.renew_labels.ensures.slots c.requires.exists c.index_mut.ensures.value c.sync.ensures.cause c.renew_labels.ensures.found

pub returns-clause-why : goal.returns-clause-why
returns-clause-why g c = why_after c.args.self.now.images.items c.renew_labels.new.self.images.items c.args.disk c.index_mut.result.now _ _ c.renew_labels.ensures.slots c.requires.exists c.index_mut.ensures.value c.sync.ensures.cause

pub returns-clause-opened : goal.returns-clause-opened
returns-clause-opened g c = opened_after c.args.self.now.images.items c.renew_labels.new.self.images.items c.args.disk c.index_mut.result.now _ _ c.renew_labels.ensures.slots c.requires.exists c.index_mut.ensures.value c.sync.ensures.cause c.renew_labels.ensures.found _ c.sync.ensures.opened
