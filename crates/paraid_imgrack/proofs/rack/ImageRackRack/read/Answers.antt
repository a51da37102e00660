use Rattle.paraid_rack.specs.Slots.{Slot}
use Rattle.std.proofs.lemmas.List.{length-set}
use Rattle.paraid_imgrack.specs.Laws.{nothing_told}
use Rattle.paraid_imgrack.proofs.CallsLemmas.{TellsCauseAt-set, opened_at}
use Rattle.paraid_imgrack.proofs.ImagesLemmas.{touched_at}
use Rattle.paraid_imgrack.proofs.rack.ImageRackRack.read.Goals as goal

pub returns-clause-slots : goal.returns-clause-slots
returns-clause-slots g c = length-set _ _ _

pub returns-clause-slot : goal.returns-clause-slot
returns-clause-slot g c = touched_at c.args.self.now.images.items c.args.disk c.index_mut.result.now _
    (λ (s : Slot). s) (λ (s : Slot). s.unsynced) _ c.requires.exists c.index_mut.ensures.value c.read.ensures.slot

pub returns-clause-told : goal.returns-clause-told
returns-clause-told g c = λ t e. nothing_told t e

pub returns-clause-causes : goal.returns-clause-causes
returns-clause-causes g c = TellsCauseAt-set c.args.self.now.images.items c.args.disk c.index_mut.result.now _ c.requires.exists c.index_mut.ensures.value _ c.read.ensures.cause

pub returns-clause-opened : goal.returns-clause-opened
returns-clause-opened g c = opened_at c.args.self.now.images.items c.args.disk c.index_mut.result.now c.index_mut.result.now c.requires.exists c.index_mut.ensures.value _ c.read.ensures.opened
