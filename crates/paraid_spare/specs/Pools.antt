-- Pool state, and the spin-ups of a slot in a list of calls
use Rattle.std.specs.Prelude.{ℕ, ◌+◌, ◌-◌, ◌^◌, ◌<◌, ◌≤◌, ◌==◌, ◌&&◌, nat_le, nat_lt, min, if◌then◌else◌, List, [], ◌∷◌, Option, Some, None, slice_index}
use Rattle.paraid_rack.specs.declared.call.Call.{Call}
use Rattle.paraid_rack.specs.declared.call.Call.TheVariants.{SpinUp}
use Rattle.paraid_spare.specs.declared.pool.Pool.{Pool}
use Rattle.paraid_base.specs.Told.{counter_most}

-- how many spares are left
abbrev pub left_of : Pool → ℕ
left_of p = p.left

-- how many ticks a disk is waited for
abbrev pub wait_of : Pool → ℕ
wait_of p = p.wait

-- the waits that a pool keeps, for disk `d`
abbrev pub waits_for : Option ℕ → ℕ → ℕ → ℕ
waits_for None waits d = 0
waits_for (Some disk) waits d = if disk == d then waits else 0

-- how many ticks were waited for disk `d`
abbrev pub waits_of : Pool → ℕ → ℕ
waits_of p d = waits_for p.disk p.waits d

-- how often slot `d` was spun up
abbrev pub spins_of : Pool → ℕ → ℕ
spins_of p d = slice_index p.slots d

-- one more, in a number of so many bits
abbrev pub saturating_next : ℕ → ℕ → ℕ
saturating_next bits n = min (n + 1) (2 ^ bits - 1)

-- 1 where `d` is one of the disks from `lo` to `hi - 1`, and else 0
abbrev pub is_among : ℕ → ℕ → ℕ → ℕ
is_among lo hi d = if nat_le lo d && nat_lt d hi then 1 else 0

-- how many calls spin up disk `d`, done or failed
unfoldable pub slot_spin_ups : List Call → ℕ → ℕ
slot_spin_ups [] d = 0
slot_spin_ups (SpinUp disk done ∷ calls) d = (if disk == d then 1 else 0) + slot_spin_ups calls d
slot_spin_ups (call ∷ calls) d = slot_spin_ups calls d

-- The pool counts at least the spin-ups of these calls, for each slot. A count that has come to the
-- end of its type counts all.
pub record Covers (p : Pool) (calls : List Call) : Type 0 where
  pub each : (d : ℕ) → d < 8 → min (slot_spin_ups calls d) counter_most ≤ spins_of p d

-- of these calls at most one spins up each disk from `lo` to `hi - 1`, and none any other disk
pub record AreUpsOf (lo hi : ℕ) (calls : List Call) : Type 0 where
  pub each : (d : ℕ) → slot_spin_ups calls d ≤ is_among lo hi d
