use Rattle.std.proofs.Common.{◌≡◌, map}
use Rattle.paraid_imgrack.specs.Calls.{KeepsFound}
use Rattle.paraid_imgrack.specs.Images.{image_slot}
use Rattle.paraid_imgrack.proofs.rack.ImageRack.tell.Given as goal

abbrev pub invariant-loop-disk : goal.invariant-loop-disk
invariant-loop-disk g l = (map image_slot l.self.images.items ≡ map image_slot l.fn.self.images.items) × KeepsFound l.fn.self.images.items l.self.images.items
