use Rattle.std.proofs.Common.{refl, false, ap, sym, ◌∙◌}
use Rattle.paraid_rack.specs.declared.call.Power.TheVariants.{Parked}
use Rattle.paraid_rack.specs.Slots.{Slot}
use Rattle.std.proofs.lemmas.List.{length-set}
use Rattle.paraid_imgrack.specs.Laws.{nothing_told}
use Rattle.paraid_imgrack.proofs.CallsLemmas.{TellsCauseAt-set}
use Rattle.paraid_imgrack.proofs.ImagesLemmas.{image_slot_at-get_or, touched_at}
use Rattle.paraid_imgrack.proofs.rack.ImageRackRack.park.Goals as goal

pub returns : goal.returns
returns g c = record {
  slots = length-set _ _ _;
  slot = touched_at c.args.self.now.images.items c.args.disk c.index_mut.result.now _
      (λ (s : Slot). record s { power = Parked }) (λ (s : Slot). false) _ c.requires.exists c.index_mut.ensures.value c.park.ensures.slot;
  told = λ t e. nothing_told t e;
  known = refl;
  causes = TellsCauseAt-set c.args.self.now.images.items c.args.disk c.index_mut.result.now _ c.requires.exists c.index_mut.ensures.value _ c.park.ensures.cause;
}

pub park-requires : goal.park-requires
park-requires g c = record {
  spinning = ap (λ (s : Slot). s.power) (sym (image_slot_at-get_or c.args.self.now.images.items c.args.disk c.index_mut.result.now c.requires.exists c.index_mut.ensures.value)) ∙ c.requires.spinning;
  synced = ap (λ (s : Slot). s.unsynced) (sym (image_slot_at-get_or c.args.self.now.images.items c.args.disk c.index_mut.result.now c.requires.exists c.index_mut.ensures.value)) ∙ c.requires.synced;
}
