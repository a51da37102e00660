-- Why no array was made.
use Rattle.std.specs.Prelude.{◌≡◌, ◌≢◌, ℕ, ◌<◌, ◌≤◌, Bool, false, Option}
use Rattle.paraid_base.specs.Told.{HasRisen}
use Rattle.paraid_rack.specs.Slots.{Slot}
use Rattle.paraid_rack.specs.Told.{Ran}
use Rattle.paraid_rack.specs.Trail.{Trail}
use Rattle.paraid_recover.specs.declared.format_fault.FormatFault.{FormatFault}
use Rattle.paraid_recover.specs.declared.format_fault.FormatFault.TheVariants.{AlreadyFormatted, Disk}
use Rattle.paraid_recover.specs.Between.{RanBetween}
use Rattle.paraid_recover.specs.Calls.{AreHeadReads, OnlyHeadReads}
use Rattle.paraid_recover.specs.Found.{IsGreatest, IsUnclaimed}

-- without `force` no log disk said, as the format began, that it belonged to an array
abbrev pub WasUnclaimed : Bool → Option Trail → Option Trail → Type 0
WasUnclaimed force told told_now =
    force ≡ false → RanBetween told told_now (λ start s. IsUnclaimed start)

-- Why no array was made, where this disk is named.
pub data IsDiskRefused (force : Bool) (count slots : ℕ)
    (old new : ℕ → Slot) (told told_now : Option Trail) (disk : ℕ) : Type 0 where
  -- without `force` a read of the head of this log disk failed: only heads of logs were read, and
  -- no other slot has changed
  unread : force ≡ false → disk < 2 → HasRisen (old disk).faults (new disk).faults
      → ((d : ℕ) → d ≢ disk → new d ≡ old d) → OnlyHeadReads told told_now
      → IsDiskRefused force count slots old new told told_now disk
  -- the array could be made, and a call on this disk of it failed
  unmade : WasUnclaimed force told told_now → count ≤ slots → disk < count
      → HasRisen (old disk).faults (new disk).faults
      → IsDiskRefused force count slots old new told told_now disk
  -- the array needs more slots than there are, and there is none of this number: at most heads of
  -- logs were read, and no slot has changed
  missing : WasUnclaimed force told told_now → slots < count → disk ≡ slots
      → ((d : ℕ) → new d ≡ old d) → OnlyHeadReads told told_now
      → IsDiskRefused force count slots old new told told_now disk

-- Why no array was made: without `force` a log disk belongs to an array, only heads of logs were
-- read, and no slot has changed; or it is by the disk that is named.
abbrev pub IsFormatRefusal : Bool
    → ℕ → ℕ → (ℕ → Slot) → (ℕ → Slot) → Option Trail → Option Trail → FormatFault → Type 0
IsFormatRefusal force count slots old new told told_now (AlreadyFormatted epoch) =
    (force ≡ false) × ((d : ℕ) → new d ≡ old d)
    × Ran told told_now (λ start calls. AreHeadReads calls × IsGreatest start epoch)
IsFormatRefusal force count slots old new told told_now (Disk disk) =
    IsDiskRefused force count slots old new told told_now disk
