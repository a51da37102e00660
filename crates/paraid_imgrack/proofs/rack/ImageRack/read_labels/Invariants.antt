use Rattle.std.proofs.Common.{◌≡◌, ◌<◌, ◌≤◌, ℕ, None, map}
use Rattle.paraid_imgrack.specs.Calls.{IsLookedAt, KeepsCauses}
use Rattle.paraid_imgrack.specs.Images.{IsLook, image_misfit, label_at}
use Rattle.paraid_imgrack.specs.Labels.{label_in}
use Rattle.paraid_imgrack.proofs.rack.ImageRack.read_labels.Given as goal

abbrev pub invariant-loop-disk : goal.invariant-loop-disk
invariant-loop-disk g l = IsLook l.fn.self.images.items l.self.images.items
    × ((map image_misfit l.self.images.items ≡ map image_misfit l.fn.self.images.items)
    × (((d : ℕ) → d < l.disk → label_in l.labels d ≡ label_at l.self.images.items d)
    × (((d : ℕ) → l.disk ≤ d → label_in l.labels d ≡ None)
    × (((d : ℕ) → d < l.disk → IsLookedAt l.self.images.items d)
    × (KeepsCauses l.fn.self.images.items l.self.images.items
    × (l.self.identity ≡ l.fn.self.identity))))))
