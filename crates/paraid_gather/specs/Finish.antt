-- All that waits is written out, and the rack and the log are given back.
use Rattle.std.specs.Prelude.{◌≡◌, ◌≤◌, ◌⊎◌, ◌&&◌, ℕ, zero, suc, true, false, not, if◌then◌else◌, List, [], ◌∷◌, ◌++◌, map, All, Option, Some}
use Rattle.paraid_base.specs.Told.{HasRisen}
use Rattle.paraid_rack.specs.declared.call.Call.{Call}
use Rattle.paraid_rack.specs.declared.call.Call.TheVariants.{Sync}
use Rattle.paraid_rack.specs.declared.call.Power.TheVariants.{Spinning, Absent}
use Rattle.paraid_rack.specs.Disks.{Disks, IsImage, IsPresent, is_present}
use Rattle.paraid_rack.specs.Lawful.{AreLawful}
use Rattle.paraid_rack.specs.Slots.{Slot}
use Rattle.paraid_rack.specs.Told.{Through}
use Rattle.paraid_rack.specs.Trail.{Trail, initial, now, run, extend}
use Rattle.paraid_gather.specs.Waiting.{Waiting, none_waits, waits}
use Rattle.paraid_gather.specs.Above.{IsAbove, slot_above}
use Rattle.paraid_gather.specs.Gathering.{IsGathered}
use Rattle.paraid_gather.specs.PowerCalls.{power_calls}

-- a sync of each of these disks, all of which have failed
abbrev pub failed_syncs : List ℕ → List Call
failed_syncs disks = map (λ (d : ℕ). Sync d false) disks

-- A disk that spun is lost: its slot is absent, of size 0, and its count of faults has risen.
pub record LosesSlot (before after : Slot) : Type 0 where
  pub spun : before.power ≡ Spinning
  pub absent : after.power ≡ Absent
  pub empty : after.size ≡ 0
  pub unsynced : after.unsynced ≡ before.unsynced
  pub risen : HasRisen before.faults after.faults
  pub later : before.faults ≤ after.faults

-- A slot of the rack below, before and after what waits for its disk is written out. A disk that is
-- there is left as the rack above had it, or it is lost, and then a block waited for it. A slot
-- without a disk stays as it is.
pub record WritesSlotOut (before : Slot) (w : Waiting) (after : Slot) : Type 0 where
  pub present : is_present before.power ≡ true
      → (after ≡ slot_above before w) ⊎ ((waits w ≡ true) × LosesSlot (slot_above before w) after)
  pub absent : is_present before.power ≡ false → after ≡ before

-- disk d alone, if it was in its slot and is no more, and else none
abbrev pub lost_at : ℕ → Slot → Slot → List ℕ
lost_at d before after =
    if is_present before.power && not (is_present after.power) then d ∷ [] else []

-- the disks below n that were in their slots and are no more, in order
abbrev pub lost_below : ℕ → (ℕ → Slot) → (ℕ → Slot) → List ℕ
lost_below zero before after = []
lost_below (suc n) before after = lost_below n before after ++ lost_at n (before n) (after n)

-- syncs of these disks, which have failed, are noted, and nothing else
abbrev pub NotesLost : List ℕ → Option Trail → Option Trail → Type 0
NotesLost lost old new = (t : Trail)
    → new ≡ Some t → (s : Trail) × (old ≡ Some s) × (t ≡ extend s (failed_syncs lost))

-- what a stop leaves of the disks below is an image of the disks `s` above, of which the first of
-- these are lost
abbrev pub LeavesImageWithout : List ℕ → Disks → Disks → Type 0
LeavesImageWithout lost s below = (i : Disks) → IsImage below i → (gone : List ℕ)
    × (rest : List ℕ) × (lost ≡ gone ++ rest) × IsImage (run s (failed_syncs gone)) i

-- The calls below of a part in which only what waits is written out, and these disks are lost.
-- Above, all else stays as it is, and so does what a stop at any moment leaves of it. No disk is
-- turned on or off.
pub record WritesWhatWaits
    (lost : List ℕ) (w w' : ℕ → Waiting) (below : Disks) (cs : List Call) : Type 0 where
  pub turned : power_calls cs ≡ []
  pub moments : (s : Disks) → IsAbove below w s → Through (LeavesImageWithout lost s) below cs
  pub above : (s : Disks)
      → IsAbove below w s → IsAbove (run below cs) w' (run s (failed_syncs lost))

-- a disk that is there, of which a block was written and not synced
pub record HasLoose (s : Disks) (d : ℕ) : Type 0 where
  pub present : IsPresent s d
  pub place : ℕ
  pub loose : s.loose d place ≡ true

-- What is told below and what is noted, where all was written out after the record `before` above:
-- this record, with a sync that has failed for each disk that was lost as it was written out. Only
-- a disk with a block that was not synced is lost so, and once. It is called below in groups.
-- Nothing waits, so the blocks of each disk that is there are the same.
pub record EndsGathered (before : Option Trail) (below noted : Trail) : Type 0 where
  pub above : Trail
  pub was : before ≡ Some above
  pub lost : List ℕ
  pub is : noted ≡ extend above (failed_syncs lost)
  pub unsynced : All (HasLoose (now above)) lost
  pub lawful : AreLawful (initial noted.start) noted.calls
  pub gathered : ∥ IsGathered below noted ∥₁
  pub same : IsAbove (now below) (λ _. none_waits) (now noted)
