use Rattle.std.proofs.Common.{false, ap, sym, ◌∙◌}
use Rattle.paraid_rack.specs.declared.call.Power.TheVariants.{Spinning}
use Rattle.paraid_rack.specs.Slots.{Slot}
use Rattle.std.proofs.lemmas.List.{length-set}
use Rattle.paraid_imgrack.specs.Laws.{nothing_told}
use Rattle.paraid_imgrack.proofs.CallsLemmas.{KeepsCause-set, KeepsOtherImages-set, fits_at, open_at, read_at, shut_at, why_at}
use Rattle.paraid_imgrack.proofs.ImagesLemmas.{image_slot_at-get_or, touched_at}
use Rattle.paraid_imgrack.proofs.rack.ImageRackRack.spin_up.Goals as goal

pub returns : goal.returns
returns g c = record {
  slots = length-set _ _ _;
  slot = touched_at c.args.self.now.images.items c.args.disk c.index_mut.result.now _
      (λ (s : Slot). record s { power = Spinning }) (λ (s : Slot). false) _ c.requires.exists c.index_mut.ensures.value c.spin_up.ensures.slot;
  told = λ t e. nothing_told t e;
  known = c.spin_up.ensures.known;
  others = c.spin_up.ensures.others;
  same = c.spin_up.ensures.same;
  fits = fits_at c.args.self.now.images.items c.args.disk c.index_mut.result.now _ c.requires.exists c.index_mut.ensures.value _ _ _ c.spin_up.ensures.slot c.spin_up.ensures.fits;
  read = read_at c.args.self.now.images.items c.args.disk c.index_mut.result.now _ c.requires.exists c.index_mut.ensures.value _ _ _ c.spin_up.ensures.slot c.spin_up.ensures.read;
  is_open = open_at c.args.self.now.images.items c.args.disk c.index_mut.result.now _ c.requires.exists c.index_mut.ensures.value _ _ c.spin_up.ensures.is_open;
  shut = shut_at c.args.self.now.images.items c.args.disk c.index_mut.result.now _ c.requires.exists c.index_mut.ensures.value c.spin_up.ensures.shut;
  images = KeepsOtherImages-set c.args.self.now.images.items c.args.disk c.index_mut.result.now _ c.requires.exists c.index_mut.ensures.value;
  cause = KeepsCause-set c.args.self.now.images.items c.args.disk c.index_mut.result.now _ c.requires.exists c.index_mut.ensures.value _ c.spin_up.ensures.cause;
  why = why_at c.args.self.now.images.items c.args.disk c.index_mut.result.now _ c.requires.exists c.index_mut.ensures.value _ c.spin_up.ensures.why;
}

pub spin_up-requires : goal.spin_up-requires
spin_up-requires g c = ap (λ (s : Slot). s.power) (sym (image_slot_at-get_or c.args.self.now.images.items c.args.disk c.index_mut.result.now c.requires.exists c.index_mut.ensures.value)) ∙ c.requires.parked
