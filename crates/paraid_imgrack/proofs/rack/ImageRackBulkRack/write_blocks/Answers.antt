use Rattle.std.proofs.Common.{true}
use Rattle.paraid_rack.specs.Slots.{Slot}
use Rattle.paraid_imgrack.proofs.CallsLemmas.{TellsCauseAt-set, opened_at}
use Rattle.paraid_imgrack.proofs.ImagesLemmas.{touched_at}
use Rattle.paraid_imgrack.proofs.rack.ImageRackBulkRack.write_blocks.Goals as goal

pub returns-clause-slot : goal.returns-clause-slot
returns-clause-slot g c = touched_at c.args.self.now.images.items c.args.disk c.index_mut.result.now _
    (λ (s : Slot). record s { unsynced = true }) (λ (s : Slot). true) _ c.requires.exists c.index_mut.ensures.value c.write.ensures.slot

pub returns-clause-causes : goal.returns-clause-causes
returns-clause-causes g c = TellsCauseAt-set c.args.self.now.images.items c.args.disk c.index_mut.result.now _ c.requires.exists c.index_mut.ensures.value _ c.write.ensures.cause

pub returns-clause-opened : goal.returns-clause-opened
returns-clause-opened g c = opened_at c.args.self.now.images.items c.args.disk c.index_mut.result.now c.index_mut.result.now c.requires.exists c.index_mut.ensures.value _ c.write.ensures.opened
