use Rattle.std.proofs.Common.{◌≡◌, vec_capacity}
use Rattle.paraid_imgrack.proofs.ImagesLemmas.{AreLoaded}
use Rattle.paraid_imgrack.proofs.rack.ImageRack.load.Given as goal

abbrev pub invariant-loop-disk : goal.invariant-loop-disk
invariant-loop-disk g l = (vec_capacity l.images ≡ l.slots) × AreLoaded l.images.items l.disk
