use Rattle.std.proofs.Common.{refl, true, ap, sym, ◌∙◌}
use Rattle.paraid_rack.specs.Slots.{Slot}
use Rattle.std.proofs.lemmas.List.{length-set}
use Rattle.paraid_imgrack.specs.Laws.{nothing_told}
use Rattle.paraid_imgrack.proofs.CallsLemmas.{TellsCauseAt-set, opened_at}
use Rattle.paraid_imgrack.proofs.ImagesLemmas.{image_slot_at-get_or, touched_at}
use Rattle.paraid_imgrack.proofs.rack.ImageRackRack.write.Goals as goal

pub returns : goal.returns
returns g c = record {
  slots = length-set _ _ _;
  slot = touched_at c.args.self.now.images.items c.args.disk c.index_mut.result.now _
      (λ (s : Slot). record s { unsynced = true }) (λ (s : Slot). true) _ c.requires.exists c.index_mut.ensures.value c.write.ensures.slot;
  told = λ t e. nothing_told t e;
  known = refl;
  causes = TellsCauseAt-set c.args.self.now.images.items c.args.disk c.index_mut.result.now _ c.requires.exists c.index_mut.ensures.value _ c.write.ensures.cause;
  opened = opened_at c.args.self.now.images.items c.args.disk c.index_mut.result.now c.index_mut.result.now c.requires.exists c.index_mut.ensures.value _ c.write.ensures.opened;
}

pub write-requires : goal.write-requires
write-requires g c = ap (λ (s : Slot). s.power) (sym (image_slot_at-get_or c.args.self.now.images.items c.args.disk c.index_mut.result.now c.requires.exists c.index_mut.ensures.value)) ∙ c.requires.spinning
