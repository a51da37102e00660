-- What is always told of a slot, as its image has it.
use Rattle.std.specs.Prelude.{◌≡◌, ◌≢◌, ◌≤◌, ◌<◌, ℕ, Bool, true, false, List, Option, None, Some, map, get_or, slice_index, IfSome, IsSome, IsSomeAnd}
use Rattle.paraid_base.specs.Told.{HasRisen}
use Rattle.paraid_rack.specs.declared.call.Power.TheVariants.{Spinning, Parked, Absent}
use Rattle.paraid_rack.specs.Slots.{Slot, vacant_slot}
use Rattle.paraid_imgrack.specs.declared.identity.Identity.{Identity}
use Rattle.paraid_imgrack.specs.declared.identity.Misfit.{Misfit}
use Rattle.paraid_imgrack.specs.declared.image.Hindrance.{Hindrance}
use Rattle.paraid_imgrack.specs.declared.image.Image.{Image}
use Rattle.paraid_imgrack.specs.declared.label.Label.{Label}
use Rattle.paraid_imgrack.specs.declared.tail.Tail.{Tail}
use Rattle.paraid_imgrack.specs.declared.tail.Tail.TheVariants.{Other}
use Rattle.paraid_imgrack.specs.Labels.{KnowsNone, SuitsBeside, label_of, read_tail_of}

-- what is told of an image
abbrev pub image_slot : Image → Slot
image_slot i = record { power = i.power; size = i.size; unsynced = i.unsynced; faults = i.faults }

-- what is told of the slot of this number
abbrev pub image_slot_at : List Image → ℕ → Slot
image_slot_at images d = get_or (map image_slot images) d vacant_slot

-- a slot of a rack on which no call was made
pub record IsLoaded (s : Slot) : Type 0 where
  pub faults : s.faults ≡ 0
  pub unsynced : s.power ≡ Spinning → s.unsynced ≡ true

-- after a call that failed
pub record IsFailedSlot (old new : Slot) : Type 0 where
  pub absent : new.power ≡ Absent
  pub empty : new.size ≡ 0
  pub unsynced : new.unsynced ≡ old.unsynced
  pub risen : HasRisen old.faults new.faults
  pub later : old.faults ≤ new.faults

-- A done call makes of the slot what `leaves` says. A failed one leaves it absent, of size 0, with
-- its count risen, and unsynced just if `dirt`.
pub record Becomes (old new leaves : Slot) (dirt ok : Bool) : Type 0 where
  pub done : ok ≡ true → new ≡ leaves
  pub absent : ok ≡ false → new.power ≡ Absent
  pub empty : ok ≡ false → new.size ≡ 0
  pub unsynced : ok ≡ false → new.unsynced ≡ dirt
  pub risen : ok ≡ false → HasRisen old.faults new.faults
  pub later : ok ≡ false → old.faults ≤ new.faults

-- no new generation and no news are left to tell to the images
pub record IsTold (i : Identity) : Type 0 where
  pub marked : i.is_new ≡ false
  pub told : i.has_news ≡ false

-- what stands behind the blocks of an image that spins, as it was read
abbrev pub image_tail : Image → Tail
image_tail i = read_tail_of i.power i.tail

-- the label of an image that spins, as it was read
abbrev pub image_label : Image → Option Label
image_label i = label_of (image_tail i)

-- what hinders work on the disk
abbrev pub image_hindrance : Image → Option Hindrance
image_hindrance i = i.hindrance

-- why the image does not belong into its slot
abbrev pub image_misfit : Image → Option Misfit
image_misfit i = i.misfit

-- what was read behind the blocks of the slot of this number
abbrev pub tail_at : List Image → ℕ → Tail
tail_at images d = get_or (map image_tail images) d Other

-- the label of the slot of this number, as it was read
abbrev pub label_at : List Image → ℕ → Option Label
label_at images d = label_of (tail_at images d)

-- what hinders work on the disk of the slot of this number
abbrev pub hindrance_at : List Image → ℕ → Option Hindrance
hindrance_at images d = get_or (map image_hindrance images) d None

-- why the image of the slot of this number does not belong there
abbrev pub misfit_at : List Image → ℕ → Option Misfit
misfit_at images d = get_or (map image_misfit images) d None

-- Each label that was read in a slot of the array is one of its slot, and none of these labels is
-- of another time; and no image that was read is bare where its slot is known.
abbrev pub Fit : (ℕ → Option Label) → List Image → Identity → Type 0
Fit labels images i = (d : ℕ) → d < i.disks → SuitsBeside i labels (tail_at images d) d None

-- Each misfit that is kept is one of a slot of the array, by what was read of its image and by
-- these labels. None is kept where no array is known.
abbrev pub AreTrueMisfits : (ℕ → Option Label) → List Image → Option Identity → Type 0
AreTrueMisfits labels images known = (d : ℕ) → IfSome (misfit_at images d) (λ m.
    IsSomeAnd known (λ i. (d < i.disks) × SuitsBeside i labels (tail_at images d) d (Some m)))

-- An array to which no label belongs, and which got a number: none of its disks is parked, and
-- nothing is known of its images.
pub record IsDrawn (images : List Image) (i : Identity) : Type 0 where
  pub awake : (d : ℕ) → d < i.disks → (image_slot_at images d).power ≢ Parked
  pub new : KnowsNone i

-- An image that spins has a label, but none of this generation.
pub record IsMissed (images : List Image) (i : Identity) (d : ℕ) : Type 0 where
  pub spins : (image_slot_at images d).power ≡ Spinning
  pub seen : 0 < slice_index i.seen d
  pub unmarked : slice_index i.seen d ≢ i.generation

-- the first image that was found not to belong into its slot
pub record IsFirstMisfit (images : List Image) (d : ℕ) : Type 0 where
  pub some : IsSome (misfit_at images d)
  pub before : (e : ℕ) → e < d → misfit_at images e ≡ None

-- A look at labels changes neither slots nor what hinders.
pub record IsLook (old new : List Image) : Type 0 where
  pub slots : map image_slot new ≡ map image_slot old
  pub hindrances : map image_hindrance new ≡ map image_hindrance old

-- The first disk that is hindered, and why.
abbrev pub FirstHindrance : List Image → ℕ → Hindrance → Type 0
FirstHindrance images d h =
    (hindrance_at images d ≡ Some h) × ((e : ℕ) → e < d → hindrance_at images e ≡ None)
