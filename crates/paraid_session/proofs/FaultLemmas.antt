-- Counts of faults that have risen, or have not fallen.
use Rattle.std.proofs.Common.{ℕ, ◌<◌, ◌≤◌, ◌-◌, ◌^◌, ◌⊎◌, inl, inr, arith}
use Rattle.paraid_base.specs.Told.{HasRisen}
use Rattle.paraid_rack.specs.Slots.{Slot}
use Rattle.paraid_session.specs.Faults.{HaveNotFallen}

-- one that has risen, and had not fallen before
pub rose_later : (a b c : ℕ) → ((a ≤ b) ⊎ HasRisen a b) → HasRisen b c → HasRisen a c
rose_later a b c before rise = record { risen = by before rise.risen }
  where
    by : (a ≤ b) ⊎ HasRisen a b → (b < c) ⊎ (2 ^ 64 - 1 ≤ c) → (a < c) ⊎ (2 ^ 64 - 1 ≤ c)
    by e (inr end) = inr end
    by (inl e) (inl more) = inl (omega (arith, e, more))
    by (inr r) (inl more) = elim r.risen [
      | inl e ↦ inl (omega (arith, e, more))
      | inr end ↦ inr (omega (arith, end, more))
    ]

-- and one that has not fallen since
pub rose_before : (a b c : ℕ) → HasRisen a b → ((b ≤ c) ⊎ HasRisen b c) → HasRisen a c
rose_before a b c rise (inr r) = rose_later a b c (inr rise) r
rose_before a b c rise (inl e) = record { risen = by rise.risen }
  where
    by : (a < b) ⊎ (2 ^ 64 - 1 ≤ b) → (a < c) ⊎ (2 ^ 64 - 1 ≤ c)
    by (inl more) = inl (omega (arith, e, more))
    by (inr end) = inr (omega (arith, e, end))

still_no_less : (a b c : ℕ) → ((a ≤ b) ⊎ HasRisen a b) → ((b ≤ c) ⊎ HasRisen b c) → (a ≤ c) ⊎ HasRisen a c
still_no_less a b c (inl e) (inl f) = inl (omega (arith, e, f))
still_no_less a b c (inr r) f = inr (rose_before a b c r f)
still_no_less a b c (inl e) (inr r) = inr (rose_later a b c (inl e) r)

pub same_counts : (slot : ℕ → Slot) → HaveNotFallen slot slot
same_counts slot d = inl (omega arith)

pub counts_then : (old mid new : ℕ → Slot) → HaveNotFallen old mid → HaveNotFallen mid new → HaveNotFallen old new
counts_then old mid new first second d = still_no_less (old d).faults (mid d).faults (new d).faults (first d) (second d)

pub no_fall_counts : (old new : ℕ → Slot) → ((d : ℕ) → (old d).faults ≤ (new d).faults) → HaveNotFallen old new
no_fall_counts old new kept d = inl (kept d)
