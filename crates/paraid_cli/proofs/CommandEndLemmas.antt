-- The rack above where nothing waits.
use Rattle.std.proofs.Common.{◌≡◌, ℕ, Bool, true, false, ◌||◌, refl, ap, ◌∙◌}
use Rattle.paraid_gather.specs.Above.{slot_above, slots_above}
use Rattle.paraid_gather.specs.Waiting.{Waiting, none_waits}
use Rattle.paraid_rack.specs.Slots.{Slot}

or_false : (b : Bool) → (b || false) ≡ b
or_false true = refl
or_false false = refl

slot_alone : (s : Slot) (w : Waiting) → w ≡ none_waits → slot_above s w ≡ s
slot_alone s w is = ap (slot_above s) is ∙ ap (λ (b : Bool). record s { unsynced = b }) (or_false s.unsynced)

-- where nothing waits, the slots of the rack above are those of the rack
pub slots_alone : {R : Type 0} (slot : R → ℕ → Slot) (below rack : R) (w : ℕ → Waiting) → below ≡ rack → ((d : ℕ) → w d ≡ none_waits)
    → (d : ℕ) → slots_above (slot below) w d ≡ slot rack d
slots_alone {R} slot below rack w is none d = slot_alone (slot below d) (w d) (none d) ∙ ap (λ (r : R). slot r d) is
