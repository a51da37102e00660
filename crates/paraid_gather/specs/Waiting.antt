-- Which blocks of a disk wait to be written.
use Rattle.std.specs.Prelude.{◌≡◌, ◌≤◌, ◌<◌, ◌+◌, ◌-◌, ◌⊎◌, ℕ, Bool, true, false, if◌then◌else◌, nat_lt, List, [], length, map, get_or, Option, None}
use Rattle.std.specs.List.{slice_get}
use Rattle.paraid_rack.specs.declared.call.Power.TheVariants.{Spinning, Parked}
use Rattle.paraid_rack.specs.Slots.{Slot}
use Rattle.paraid_gather.specs.declared.run.Run.{Run}

-- blocks that follow one another, by their bytes, from a place on
pub record Waiting : Type 0 where
  pub first : ℕ
  pub blocks : List (List ℕ)

-- nothing waits
abbrev pub none_waits : Waiting
none_waits = record { first = 0; blocks = [] }

-- whether any block waits
abbrev pub waits : Waiting → Bool
waits w = nat_lt 0 (length w.blocks)

-- the bytes that wait for a place
unfoldable pub waiting : Waiting → ℕ → Option (List ℕ)
waiting w p = if nat_lt p w.first then None else slice_get w.blocks (p - w.first)

-- what waits in a run
abbrev pub run_of : Run → Waiting
run_of r = record { first = r.first; blocks = r.blocks.items }

-- what waits for disk d
unfoldable pub waiting_at : List Run → ℕ → Waiting
waiting_at runs d = get_or (map run_of runs) d none_waits

-- A block at this place can join the run: none waits yet, or one waits there, or it follows the
-- last one and there is room.
abbrev pub Joins : Waiting → ℕ → Type 0
Joins w p = (length w.blocks ≡ 0) ⊎ ((w.first ≤ p) × ((p < w.first + length w.blocks)
    ⊎ ((p ≡ w.first + length w.blocks) × (length w.blocks < 128))))

-- what waits, waits for places below n
abbrev pub IsWithin : Waiting → ℕ → Type 0
IsWithin w n = waits w ≡ true → w.first + length w.blocks ≤ n

-- what waits for a disk that spins is within it, and for a parked one nothing waits
pub record Fits (slot : Slot) (w : Waiting) : Type 0 where
  pub within : slot.power ≡ Spinning → IsWithin w slot.size
  pub still : slot.power ≡ Parked → waits w ≡ false

-- each slot with what waits for its disk
abbrev pub AllFit : (ℕ → Slot) → (ℕ → Waiting) → Type 0
AllFit slot w = (d : ℕ) → Fits (slot d) (w d)
