-- The rack above a rack, for whose disks blocks wait: what it holds, and what a stop may leave of
-- it.
use Rattle.std.specs.Prelude.{◌≡◌, ◌⊎◌, ◌||◌, ℕ, Bool, true, false, List, Option, Some, None}
use Rattle.paraid_rack.specs.declared.call.Call.TheVariants.{Sync}
use Rattle.paraid_rack.specs.Slots.{Slot}
use Rattle.paraid_rack.specs.Disks.{Disks, IsPresent, IsImage}
use Rattle.paraid_rack.specs.Trail.{Trail}
use Rattle.paraid_rack.specs.Told.{GrowsByCall, Ran, CrashTriple}
use Rattle.paraid_gather.specs.Waiting.{Waiting, waiting, waits}

-- The disks `s` of the rack above, where those below are so and these blocks wait. A block that
-- waits is read as it waits, and a stop may change it. What no stop may change is on the disk
-- below, and no stop may change it there.
pub record IsAbove (below : Disks) (w : ℕ → Waiting) (s : Disks) : Type 0 where
  pub power : (d : ℕ) → s.power d ≡ below.power d
  pub size : (d : ℕ) → s.size d ≡ below.size d
  pub sure : (d p : ℕ) → s.loose d p ≡ false → below.loose d p ≡ false
  pub kept : (d p : ℕ) → s.loose d p ≡ false → s.block d p ≡ below.block d p
  pub bytes : (d p : ℕ) (b : List ℕ)
      → IsPresent s d → waiting (w d) p ≡ Some b → (s.block d p).bytes ≡ b
  pub loose : (d p : ℕ) (b : List ℕ) → IsPresent s d → waiting (w d) p ≡ Some b → s.loose d p ≡ true
  pub rests : (d p : ℕ) → IsPresent s d → waiting (w d) p ≡ None → s.block d p ≡ below.block d p

-- what a stop leaves of the disks below is an image of the rack above as it was, or as it becomes
abbrev pub LeavesImageOf : Disks → Disks → Disks → Type 0
LeavesImageOf s s' below = (i : Disks) → IsImage below i → IsImage s i ⊎ IsImage s' i

-- The calls below of a part that takes the rack above from `s` to `s'`: at each moment what a stop
-- leaves is an image of the one or the other, and at the end the rack above is `s'`.
abbrev pub Follows : Option Trail
    → Option Trail → (ℕ → Waiting) → (ℕ → Waiting) → Disks → Disks → Type 0
Follows old new w w' s s' = Ran old new
    (CrashTriple (LeavesImageOf s s') (λ below. IsAbove below w s) (λ below. IsAbove below w' s'))

-- what is told of a slot for which blocks wait
abbrev pub slot_above : Slot → Waiting → Slot
slot_above slot w = record slot { unsynced = slot.unsynced || waits w }

-- the slots of the rack above: unsynced also where blocks wait
abbrev pub slots_above : (ℕ → Slot) → (ℕ → Waiting) → ℕ → Slot
slots_above slot w = λ d. slot_above (slot d) (w d)

-- What a rack above tells: what is noted of its calls, where the rack below tells its record.
abbrev pub told_above : Option Trail → Option Trail → Option Trail
told_above None noted = None
told_above (Some below) noted = noted

-- What is told where what waits for disk d was written out: no call where that is done, and else a
-- sync that has failed.
abbrev pub TellsOut : Bool → ℕ → Option Trail → Option Trail → Type 0
TellsOut true d old new = (t : Trail) → new ≡ Some t → old ≡ Some t
TellsOut false d old new = GrowsByCall old new (Sync d false)
