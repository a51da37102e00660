-- What a call of the rack above leaves of the rack below and of what waits for the call's disk.
use Rattle.std.specs.Prelude.{◌≡◌, ◌≢◌, ℕ, Bool}
use Rattle.paraid_rack.specs.declared.rack.Rack.{Ghosts}
use Rattle.paraid_rack.specs.Slots.{Slot, ChangesOneSlot}
use Rattle.paraid_rack.specs.Disks.{Disks, with_at}
use Rattle.paraid_gather.specs.Waiting.{Waiting, AllFit, Fits}
use Rattle.paraid_gather.specs.Above.{Follows, slots_above}

-- The slot above becomes so, and the rack above is as `after` says, whatever waits for other disks.
pub record DoesAbove {R : Type 0} (g : Ghosts R) (disk : ℕ) (run run' : Waiting)
    (old new : R) (leaves : Slot) (dirt ok : Bool) (after : Disks → Disks) : Type 0 where
  pub slots : g.slot_count new ≡ g.slot_count old
  pub others : (d : ℕ) → d ≢ disk → g.slot new d ≡ g.slot old d
  pub fits : Fits (g.slot new disk) run'
  pub slot : (w : ℕ → Waiting) → ChangesOneSlot (slots_above (g.slot old) (with_at w disk run))
      (slots_above (g.slot new) (with_at w disk run')) disk leaves dirt ok
  pub told : (w : ℕ → Waiting) (s : Disks)
      → Follows (g.told old) (g.told new) (with_at w disk run) (with_at w disk run') s (after s)

-- the same of a whole rack, with what waits for each disk
pub record DoesWhole {R : Type 0} (g : Ghosts R) (disk : ℕ) (w w' : ℕ → Waiting) (old new : R)
    (leaves : Slot → Slot) (dirt : Slot → Bool) (ok : Bool) (after : Disks → Disks) : Type 0 where
  pub slots : g.slot_count new ≡ g.slot_count old
  pub fits : AllFit (g.slot new) w'
  pub slot : ChangesOneSlot (slots_above (g.slot old) w) (slots_above (g.slot new) w') disk
      (leaves (slots_above (g.slot old) w disk)) (dirt (slots_above (g.slot old) w disk)) ok
  pub told : (s : Disks) → Follows (g.told old) (g.told new) w w' s (after s)
