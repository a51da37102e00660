-- What was found of a rack before it serves.
use Rattle.std.specs.Prelude.{◌≡◌, ◌<◌, ◌⊎◌, ℕ, List, None, IsSomeAnd, length}
use Rattle.paraid_imgrack.specs.declared.image.Image.{Image}
use Rattle.paraid_imgrack.specs.declared.rack.ImageRack.{ImageRack}
use Rattle.paraid_imgrack.specs.Images.{IsLoaded, Fit, AreTrueMisfits, hindrance_at, image_slot_at, label_at, misfit_at}
use Rattle.paraid_imgrack.specs.Labels.{AreUnnamed, IsKnownBy, Names}

-- the images of a rack
abbrev pub images_of : {F : Type 0} → ImageRack F → List Image
images_of rack = rack.images.items

-- each slot looks as its image was opened: a disk that spins is unsynced, and no call has failed
abbrev pub IsAsOpened : {F : Type 0} → ImageRack F → Type 0
IsAsOpened rack = (d : ℕ)
    → d < length rack.images.items → IsLoaded (image_slot_at rack.images.items d)

-- each disk that is there can be served
abbrev pub IsUnhindered : {F : Type 0} → ImageRack F → Type 0
IsUnhindered rack = (d : ℕ) → hindrance_at rack.images.items d ≡ None

-- no image was found not to belong into its slot
abbrev pub HasNoMisfits : {F : Type 0} → ImageRack F → Type 0
HasNoMisfits rack = (d : ℕ) → misfit_at rack.images.items d ≡ None

-- The array is the one that the labels which were read name, where one does; and each misfit that
-- is kept is one of a slot of it, by what was read of its image and of the others.
pub record HasTrueMisfits {F : Type 0} (rack : ImageRack F) : Type 0 where
  pub names : Names (label_at rack.images.items) rack.identity
  pub misfits : AreTrueMisfits (label_at rack.images.items) rack.images.items rack.identity

-- One of the labels that were read names the array, what those of the array say is known, each that
-- was read in a slot of it is one of its slot, no two of them are of different times, and no image
-- that was read in a known slot of it is bare; or none names an array.
abbrev pub IsFitting : {F : Type 0} → ImageRack F → Type 0
IsFitting rack = AreUnnamed (label_at rack.images.items)
    ⊎ IsSomeAnd rack.identity (λ i. IsKnownBy (label_at rack.images.items) i
    × Fit (label_at rack.images.items) rack.images.items i)
