use Rattle.std.proofs.Common.{false}
use Rattle.paraid_rack.specs.declared.call.Power.TheVariants.{Spinning}
use Rattle.paraid_rack.specs.Slots.{Slot}
use Rattle.std.proofs.lemmas.List.{length-set}
use Rattle.paraid_imgrack.specs.Laws.{nothing_told}
use Rattle.paraid_imgrack.proofs.CallsLemmas.{KeepsOtherImages-set, mended_at, why_at}
use Rattle.paraid_imgrack.proofs.ImagesLemmas.{touched_at}
use Rattle.paraid_imgrack.proofs.rack.ImageRackRack.attach.Goals as goal

pub returns : goal.returns
returns g c = record {
  slots = length-set _ _ _;
  slot = touched_at c.args.self.now.images.items c.args.disk c.index_mut.result.now _
      (λ (s : Slot). record s { power = Spinning; size = c.args.size; unsynced = false }) (λ (s : Slot). s.unsynced) _ c.requires.exists c.index_mut.ensures.value c.attach.ensures.slot;
  told = λ t e. nothing_told t e;
  known = c.attach.ensures.known;
  others = c.attach.ensures.others;
  newer = c.attach.ensures.newer;
  again = c.attach.ensures.again;
  labelled = c.attach.ensures.labelled;
  images = KeepsOtherImages-set c.args.self.now.images.items c.args.disk c.index_mut.result.now _ c.requires.exists c.index_mut.ensures.value;
  mended = mended_at c.args.self.now.images.items c.args.disk c.index_mut.result.now _ c.requires.exists c.index_mut.ensures.value _ c.attach.ensures.mended;
  why = why_at c.args.self.now.images.items c.args.disk c.index_mut.result.now _ c.requires.exists c.index_mut.ensures.value _ c.attach.ensures.why;
}
