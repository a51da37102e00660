-- Counts of faults over calls, over every rack.
use Rattle.std.specs.Prelude.{ℕ, ◌≤◌, ◌⊎◌}
use Rattle.paraid_base.specs.Told.{HasRisen}
use Rattle.paraid_rack.specs.Slots.{Slot}

-- no count has fallen, unless it has come to the end of its type
abbrev pub HaveNotFallen : (ℕ → Slot) → (ℕ → Slot) → Type 0
HaveNotFallen old new = (d : ℕ)
    → ((old d).faults ≤ (new d).faults) ⊎ HasRisen (old d).faults (new d).faults
