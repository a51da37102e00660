-- With which rack a command may be served.
use Rattle.std.specs.Prelude.{◌≡◌, ◌⊎◌, ℕ, ◌<◌, List, length, false, true}
use Rattle.paraid_base.specs.Told.{HasRisen}
use Rattle.paraid_imgrack.specs.Images.{IsLoaded, image_slot_at}
use Rattle.paraid_imgrack.specs.declared.image.Image.{Image}
use Rattle.paraid_imgrack.specs.declared.rack.ImageRack.{ImageRack}
use Rattle.paraid_imgrack.specs.Looks.{images_of, HasNoMisfits, IsFitting, IsUnhindered, IsAsOpened}
use Rattle.paraid_words.specs.declared.command.Command.{Command}
use Rattle.paraid_words.specs.declared.command.Command.TheVariants.{Format, Run, Spare, Status, Check, Gen, Nbd, Vol, Plan}

-- all slots are there and look as their images were opened, each disk that is there can be served,
-- and no image was found not to belong into its slot
pub record IsWhole {F : Type 0} (rack : ImageRack F) : Type 0 where
  pub slots : length (images_of rack) ≡ 8
  pub opened : IsAsOpened rack
  pub unhindered : IsUnhindered rack
  pub fresh : HasNoMisfits rack

-- The rack is whole, and each image is one of its slot.
pub record IsSound {F : Type 0} (rack : ImageRack F) : Type 0 where
  pub whole : IsWhole rack
  pub fitting : IsFitting rack

-- Each slot looks as its image was opened, but for a log disk that has failed since.
abbrev pub IsAsOpenedButLogs : {F : Type 0} → ImageRack F → Type 0
IsAsOpenedButLogs rack = (d : ℕ) → d < length (images_of rack)
    → IsLoaded (image_slot_at (images_of rack) d)
    ⊎ ((d < 2) × HasRisen 0 (image_slot_at (images_of rack) d).faults)

-- A new array is made only where it may be, on a rack that looks as it was opened, but for a log
-- disk that has failed since; or, if that is forced, over a whole rack. All else needs images that
-- are of their slots. At the program, `free` says no more than that there are eight.
abbrev pub IsReady : {F : Type 0} → (List Image → Type 0) → Command → ImageRack F → Type 0
IsReady free (Format false) rack = free (images_of rack) × IsAsOpenedButLogs rack
IsReady free (Format true) rack = IsWhole rack
IsReady free Run rack = IsSound rack
IsReady free (Spare stock wait) rack = IsSound rack
IsReady free Status rack = IsSound rack
IsReady free Check rack = IsSound rack
IsReady free (Gen number lines) rack = IsSound rack
IsReady free Nbd rack = IsSound rack
IsReady free Vol rack = IsSound rack
IsReady free (Plan ups) rack = IsSound rack
