use Rattle.std.proofs.Common.{◌≡◌, false, map, Some}
use Rattle.paraid_imgrack.specs.Calls.{KeepsFound, KeepsKnown}
use Rattle.paraid_imgrack.specs.Images.{image_slot}
use Rattle.paraid_imgrack.specs.Labels.{known_array}
use Rattle.paraid_imgrack.proofs.rack.ImageRack.mark_images.Given as goal

abbrev pub invariant-loop-disk : goal.invariant-loop-disk
invariant-loop-disk g l = (map image_slot l.self.images.items ≡ map image_slot l.fn.self.images.items)
    × ((l.next.is_new ≡ false) × ((known_array (Some l.next) ≡ known_array (Some l.fn.identity))
    × (KeepsKnown l.fn.self.images.items l.fn.identity l.next × KeepsFound l.fn.self.images.items l.self.images.items)))
