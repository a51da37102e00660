use Rattle.std.proofs.Common.{◌≢◌, ◌<◌, ℕ}
use Rattle.paraid_rack.specs.declared.call.Power.TheVariants.{Parked}
use Rattle.paraid_imgrack.specs.Images.{image_slot_at}
use Rattle.paraid_imgrack.proofs.rack.ImageRack.parks_below.Given as goal

abbrev pub invariant-loop-disk : goal.invariant-loop-disk
invariant-loop-disk g l = (d : ℕ) → d < l.disk → d < l.fn.disks → (image_slot_at l.fn.self.images.items d).power ≢ Parked
