-- The spin-ups of lists of calls that are joined
use Rattle.std.proofs.Common.{◌≡◌, ℕ, ◌+◌, ◌-◌, ◌^◌, ◌<◌, ◌≤◌, List, [], ◌∷◌, ◌++◌, arith}
use Rattle.std.specs.Prelude.{◌&&◌, nat_le, nat_lt, min, if◌then◌else◌, true, false, Bool}
use Rattle.paraid_rack.specs.declared.call.Call.{Call}
use Rattle.paraid_rack.specs.declared.call.Call.TheVariants.{Read, Write, Sync, Park, SpinUp, Attach}
use Rattle.paraid_spare.specs.declared.pool.Pool.{Pool}
use Rattle.paraid_spare.specs.Pools.{saturating_next, slot_spin_ups, spins_of, Covers, AreUpsOf}

pub slot_spin_ups-append : (calls more : List Call) (d : ℕ) → slot_spin_ups (calls ++ more) d ≡ slot_spin_ups calls d + slot_spin_ups more d
unfolding slot_spin_ups
slot_spin_ups-append [] more d = omega arith
slot_spin_ups-append (Read disk place done ∷ calls) more d = slot_spin_ups-append calls more d
slot_spin_ups-append (Write disk place bytes done ∷ calls) more d = slot_spin_ups-append calls more d
slot_spin_ups-append (Sync disk done ∷ calls) more d = slot_spin_ups-append calls more d
slot_spin_ups-append (Park disk done ∷ calls) more d = slot_spin_ups-append calls more d
slot_spin_ups-append (Attach disk size done ∷ calls) more d = slot_spin_ups-append calls more d
slot_spin_ups-append (SpinUp disk done ∷ calls) more d =
    let rest = slot_spin_ups-append calls more d in
    omega arith

covered : (is : Bool) (calls more old : ℕ) → min calls (2 ^ 64 - 1) ≤ old → more ≤ (if is then 1 else 0)
    → min (calls + more) (2 ^ 64 - 1) ≤ (if is then saturating_next 64 old else old)
covered true calls more old before few = omega arith
covered false calls more old before few = omega arith

-- calls that spin up the disks from `lo` to `hi - 1` are covered once these disks are counted
pub Covers-spun : (old new : Pool) (lo hi : ℕ)
    → ((d : ℕ) → d < 8 → spins_of new d ≡ (if nat_le lo d && nat_lt d hi then saturating_next 64 (spins_of old d) else spins_of old d))
    → (calls more : List Call) → Covers old calls → AreUpsOf lo hi more → Covers new (calls ++ more)
Covers-spun old new lo hi spun calls more before ups = record {
  each = λ d below.
      let step = covered (nat_le lo d && nat_lt d hi) (slot_spin_ups calls d) (slot_spin_ups more d) (spins_of old d) (before.each d below) (ups.each d) in
      rw (slot_spin_ups-append calls more d, spun d below) step;
}

-- no call is covered by any pool
pub Covers-none : (p : Pool) → Covers p []
unfolding slot_spin_ups
Covers-none p = record { each = λ d below. omega arith }
