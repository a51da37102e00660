-- What a call on a disk leaves of what was found of its image, and of the causes that are told.
use Rattle.std.specs.Prelude.{◌≡◌, ◌≢◌, ◌⊎◌, ℕ, Bool, true, false, List, Option, None, map, get_or, is_some, slice_index, IsSome}
use Rattle.std.specs.declared.io.Error.{Error}
use Rattle.paraid_imgrack.specs.declared.identity.Identity.{Identity}
use Rattle.paraid_imgrack.specs.declared.image.Image.{Image}
use Rattle.paraid_imgrack.specs.declared.tail.Tail.{Tail}
use Rattle.paraid_imgrack.specs.declared.tail.Tail.TheVariants.{Other, Unread}
use Rattle.paraid_rack.specs.declared.call.Power.TheVariants.{Spinning, Absent}
use Rattle.paraid_imgrack.specs.Images.{image_misfit, image_slot_at, misfit_at, tail_at}
use Rattle.paraid_imgrack.specs.Labels.{CanHaveLabel}

-- why the first call on the disk that failed did so
abbrev pub image_cause : Image → Option Error
image_cause i = i.cause

-- why the first call on the disk of the slot of this number that failed did so
abbrev pub cause_at : List Image → ℕ → Option Error
cause_at images d = get_or (map image_cause images) d None

-- If the disk of this slot is there, nothing is told to have failed.
abbrev pub IsBlameless : List Image → ℕ → Type 0
IsBlameless images d = (image_slot_at images d).power ≢ Absent → cause_at images d ≡ None

-- what was found behind the blocks when they were last looked at, whatever the disk's power is now
abbrev pub image_end : Image → Tail
image_end i = i.tail

-- what was so found in the slot of this number
abbrev pub end_at : List Image → ℕ → Tail
end_at images d = get_or (map image_end images) d Other

-- whether the file of the image is open: else no read, write or sync of it is done
abbrev pub has_file : Image → Bool
has_file i = is_some i.file

-- whether the file of the image in the slot of this number is open
abbrev pub has_file_at : List Image → ℕ → Bool
has_file_at images d = get_or (map has_file images) d false

-- If the disk of this slot spins, its image is open and was looked at behind its blocks; or it
-- could not be, the cause of that is told, and the image is shut.
abbrev pub IsLookedAt : List Image → ℕ → Type 0
IsLookedAt images d = (image_slot_at images d).power ≡ Spinning
    → ((tail_at images d ≢ Unread) × (has_file_at images d ≡ true))
    ⊎ (IsSome (cause_at images d) × (has_file_at images d ≡ false))

-- The first cause of each disk is kept.
abbrev pub KeepsCauses : List Image → List Image → Type 0
KeepsCauses old new = (d : ℕ) → IsSome (cause_at old d) → cause_at new d ≡ cause_at old d

-- The first cause is kept, and a done call tells none.
pub record KeepsCause (old new : Option Error) (ok : Bool) : Type 0 where
  pub first : IsSome old → new ≡ old
  pub same : ok ≡ true → new ≡ old

-- A call on a disk tells why it failed, if none on the disk has failed before. What was found of
-- the image stays, and one that is shut stays so.
pub record TellsCause (old new : Image) (ok : Bool) : Type 0 where
  pub cause : KeepsCause old.cause new.cause ok
  pub why : ok ≡ false → IsSome new.cause
  pub misfit : new.misfit ≡ old.misfit
  pub tail : new.tail ≡ old.tail
  pub shut : has_file old ≡ false → has_file new ≡ false

-- What was found of the images stays, and so does the first cause of each. None that is shut is
-- opened.
pub record KeepsFound (old new : List Image) : Type 0 where
  pub causes : KeepsCauses old new
  pub misfits : map image_misfit new ≡ map image_misfit old
  pub tails : map image_end new ≡ map image_end old
  pub shut : (d : ℕ) → has_file_at old d ≡ false → has_file_at new d ≡ false

-- A call on this disk tells why it failed, if none on the disk has failed before, and tells it of
-- no other disk. What was found of the images stays.
pub record TellsCauseAt (old new : List Image) (disk : ℕ) (ok : Bool) : Type 0 where
  pub found : KeepsFound old new
  pub others : (d : ℕ) → d ≢ disk → cause_at new d ≡ cause_at old d
  pub same : ok ≡ true → cause_at new disk ≡ cause_at old disk
  pub why : ok ≡ false → IsSome (cause_at new disk)

-- A call that looks at the image of a disk, or makes it anew, changes what was found of that image
-- alone, and no cause of another disk; and it opens or shuts no other image.
pub record KeepsOtherImages (old new : List Image) (disk : ℕ) : Type 0 where
  pub causes : (d : ℕ) → d ≢ disk → cause_at new d ≡ cause_at old d
  pub misfits : (d : ℕ) → d ≢ disk → misfit_at new d ≡ misfit_at old d
  pub tails : (d : ℕ) → d ≢ disk → end_at new d ≡ end_at old d
  pub files : (d : ℕ) → d ≢ disk → has_file_at new d ≡ has_file_at old d

-- That this image spins and a label can be written behind its blocks, as they were last looked at.
-- No other gets one when labels are renewed.
abbrev pub CanGetLabel : List Image → ℕ → Type 0
CanGetLabel images d = ((image_slot_at images d).power ≡ Spinning) × CanHaveLabel (end_at images d)

-- Of each of these images the same is known and was seen as before; or that it is of the generation
-- that labels get, which stays. That is said only of one that can get a label.
pub record KeepsKnown (images : List Image) (old new : Identity) : Type 0 where
  pub generation : new.generation ≡ old.generation
  pub each : (e : ℕ) → ((slice_index new.known e ≡ slice_index old.known e)
      × (slice_index new.seen e ≡ slice_index old.seen e))
      ⊎ (((slice_index new.known e ≡ old.generation) × (slice_index new.seen e ≡ old.generation))
      × CanGetLabel images e)
