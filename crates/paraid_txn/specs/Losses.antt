-- Which disks are out of a commit, and what its calls leave of the slots.
use Rattle.std.specs.Prelude.{◌≡◌, ◌≢◌, ℕ, ◌<◌, ◌≤◌, ◌⊎◌, Bool, true, false, Option, Some, None, Result, Ok, Err}
use Rattle.paraid_base.specs.declared.fault.Two.{Two}
use Rattle.paraid_base.specs.Told.{HasRisen}
use Rattle.paraid_rack.specs.declared.call.Call.{Call}
use Rattle.paraid_rack.specs.declared.call.Power.{Power}
use Rattle.paraid_rack.specs.declared.call.Power.TheVariants.{Spinning, Absent}
use Rattle.paraid_rack.specs.Disks.{is_present}
use Rattle.paraid_rack.specs.Slots.{Slot}
use Rattle.paraid_rack.specs.Told.{GrowsByCall, Ran}
use Rattle.paraid_rack.specs.Trail.{Trail}
use Rattle.paraid_image.specs.Lost.{TellsLosses}
use Rattle.paraid_txn.specs.declared.losses.Losses.{Losses}
use Rattle.paraid_txn.specs.declared.store.Lost.{Lost as LostType}
use Rattle.paraid_txn.specs.declared.store.Lost.TheVariants.{One as LostOne, Two as LostTwo}

-- Two different disks are down: the first was so, or has failed since, and the second has failed.
-- Which of the two failed first is not said here.
pub record AreTwoDown (down : Option ℕ) (old new : ℕ → Slot) (two : Two) : Type 0 where
  pub first : (down ≡ Some two.first) ⊎ HasRisen (old two.first).faults (new two.first).faults
  pub apart : two.first ≢ two.second
  pub second : HasRisen (old two.second).faults (new two.second).faults

-- what follows the answer of a call on a disk: a failure is borne, unless another disk is down
abbrev pub FollowsAnswer : Losses → Losses → ℕ → Bool → Result (Unit {0}) Two → Type 0
FollowsAnswer from to disk done (Ok it) =
    ((done ≡ true) × (to ≡ from)) ⊎ ((done ≡ false) × (to.down ≡ Some disk) × (to.lost ≡ Some disk)
    × ((first : ℕ) → from.down ≡ Some first → first ≡ disk))
FollowsAnswer from to disk done (Err two) =
    (done ≡ false)
    × (to ≡ from) × (from.down ≡ Some two.first) × (two.first ≢ disk) × (two.second ≡ disk)

-- A disk has not failed: its count, its power and its size are as they were.
pub record IsWell (old new : Slot) : Type 0 where
  pub faults : new.faults ≡ old.faults
  pub power : new.power ≡ old.power
  pub size : new.size ≡ old.size

-- a disk whose count has not risen is as it was
abbrev pub AreFailedOrWell : (ℕ → Slot) → (ℕ → Slot) → Type 0
AreFailedOrWell old new = (d : ℕ) → HasRisen (old d).faults (new d).faults ⊎ IsWell (old d) (new d)

-- Some calls of a commit: a disk that is there after them has its power and size, no count has
-- fallen, a disk whose count has not risen is as it was, a disk that is down stays so, and a disk
-- that is down now, but was not, was lost by one of them.
pub record AreCommitCalls (from to : Losses) (old new : ℕ → Slot) : Type 0 where
  pub power : (d : ℕ) → is_present (new d).power ≡ true → (new d).power ≡ (old d).power
  pub size : (d : ℕ) → is_present (new d).power ≡ true → (new d).size ≡ (old d).size
  pub no_fall : (d : ℕ) → (old d).faults ≤ (new d).faults
  pub each : AreFailedOrWell old new
  pub down : (d : ℕ) → to.down ≡ Some d → (from.down ≡ Some d) ⊎ (to.lost ≡ Some d)
  pub remains : (d : ℕ) → from.down ≡ Some d → to.down ≡ Some d
  pub stays : (d : ℕ) → from.lost ≡ Some d → to.lost ≡ Some d
  pub lost : (d : ℕ)
      → to.lost ≡ Some d → (from.lost ≡ Some d) ⊎ HasRisen (old d).faults (new d).faults
  pub absent : (d : ℕ) → to.lost ≡ Some d → (from.lost ≡ Some d) ⊎ ((new d).power ≡ Absent)

-- no disk has failed but the one that is lost
abbrev pub AreOthersWell : Losses → (ℕ → Slot) → (ℕ → Slot) → Type 0
AreOthersWell to old new = (d : ℕ) → to.lost ≢ Some d → IsWell (old d) (new d)

-- a disk that is unsynced now was so before, but for those of which `may` holds
abbrev pub StaySyncedBut : (ℕ → Type 0) → (ℕ → Slot) → (ℕ → Slot) → Type 0
StaySyncedBut may old new = (d : ℕ) → is_present (new d).power ≡ true → (new d).unsynced ≡ true
    → ((old d).unsynced ≡ true) ⊎ may d

-- what was synced before is synced after, on each disk
abbrev pub StaySynced : (ℕ → Slot) → (ℕ → Slot) → Type 0
StaySynced old new = StaySyncedBut (λ d. ⊥) old new

-- this disk, if it is there, has nothing that is unsynced
abbrev pub IsSyncedAt : (ℕ → Slot) → ℕ → Type 0
IsSyncedAt slot d = is_present (slot d).power ≡ true → (slot d).unsynced ≡ false

-- This call on the disk, done or failed; or none, where the disk is skipped or absent.
pub data MayDo (old new : Option Trail)
    (slot : ℕ → Slot) (skip : Option ℕ) (disk : ℕ) (call : Bool → Call) : Type 0 where
  skipped : skip ≡ Some disk → new ≡ old → MayDo old new slot skip disk call
  absent : (slot disk).power ≡ Absent → new ≡ old → MayDo old new slot skip disk call
  called : skip ≢ Some disk
      → (done : Bool) → GrowsByCall old new (call done) → MayDo old new slot skip disk call

-- this disk can be written at `place`, unless it is absent
pub record CanWrite (slot : ℕ → Slot) (disk place : ℕ) : Type 0 where
  pub spins : is_present (slot disk).power ≡ true → (slot disk).power ≡ Spinning
  pub within : is_present (slot disk).power ≡ true → place < (slot disk).size

-- why a call on a disk answers so: it has failed, and no other disk was out, or this one
abbrev pub IsLostBy : Option ℕ → ℕ → (ℕ → Slot) → (ℕ → Slot) → LostType → Type 0
IsLostBy out disk old new (LostOne lost) =
    (lost ≡ disk)
    × HasRisen (old disk).faults (new disk).faults × ((first : ℕ) → out ≡ Some first → first ≡ disk)
IsLostBy out disk old new (LostTwo two) =
    (two.second ≡ disk)
    × HasRisen (old disk).faults (new disk).faults × (out ≡ Some two.first) × (two.first ≢ disk)

-- Only a slot that becomes absent changes its power or size, and no count falls.
pub record OnlyLosesSlots (old new : ℕ → Slot) : Type 0 where
  pub power : (d : ℕ) → is_present (new d).power ≡ true → (new d).power ≡ (old d).power
  pub size : (d : ℕ) → is_present (new d).power ≡ true → (new d).size ≡ (old d).size
  pub no_fall : (d : ℕ) → (old d).faults ≤ (new d).faults

-- disk `d` has failed in this call, and is absent
pub record IsLostNow (old new : ℕ → Slot) (d : ℕ) : Type 0 where
  pub risen : HasRisen (old d).faults (new d).faults
  pub absent : (new d).power ≡ Absent

-- Disk `e` is out as a commit begins: it is absent, or the last meta or the one given names it out.
pub data IsOutOfCommit
    (power : ℕ → Power) (disks : ℕ) (before after : Option ℕ) (e : ℕ) : Type 0 where
  is_absent : e < disks → power e ≡ Absent → IsOutOfCommit power disks before after e
  was_named : before ≡ Some e → IsOutOfCommit power disks before after e
  is_named : after ≡ Some e → IsOutOfCommit power disks before after e

-- this is the one disk that is out as a commit begins, if one is
pub record IsOnlyOut (out : ℕ → Type 0) (only : Option ℕ) : Type 0 where
  pub one : (e : ℕ) → out e → only ≡ Some e
  pub is : (e : ℕ) → only ≡ Some e → out e

-- Two different disks are down: the first was out, or has failed since, and the second has failed.
-- Which of the two failed first is not said here.
pub record AreTwoDownBeside (out : ℕ → Type 0) (old new : ℕ → Slot) (two : Two) : Type 0 where
  pub first : out two.first ⊎ HasRisen (old two.first).faults (new two.first).faults
  pub apart : two.first ≢ two.second
  pub second : HasRisen (old two.second).faults (new two.second).faults

-- disk `d` was there, and is absent since
pub record IsGoneSince (old new : ℕ → Slot) (d : ℕ) : Type 0 where
  pub there : is_present (old d).power ≡ true
  pub absent : (new d).power ≡ Absent

-- Of two disks that are down the second was there and is absent since; so is the first, unless it
-- was out before.
pub record AreGoneSince (out : ℕ → Type 0) (old new : ℕ → Slot) (two : Two) : Type 0 where
  pub first : out two.first ⊎ IsGoneSince old new two.first
  pub second : IsGoneSince old new two.second

-- Where one disk at most was out, these calls tell which of two was lost first, and none follows
-- the one that failed on the second.
abbrev pub TellsSecondLoss : (ℕ → Type 0) → Option Trail → Option Trail → Two → Type 0
TellsSecondLoss out old new two = (only : Option ℕ)
    → IsOnlyOut out only → Ran old new (λ start calls. TellsLosses only two calls)

-- of the first disks one at most is absent or named out
abbrev pub IsOneOut : ℕ → Option ℕ → (ℕ → Slot) → Type 0
IsOneOut disks named slot = (d e : ℕ) → IsOutOfCommit (λ x. (slot x).power) disks named None d
    → IsOutOfCommit (λ x. (slot x).power) disks named None e → d ≡ e

-- disk `d` is one of the array, and no other one was out
pub record IsAlone (disks : ℕ) (out : ℕ → Type 0) (d : ℕ) : Type 0 where
  pub below : d < disks
  pub alone : (e : ℕ) → out e → e ≡ d
