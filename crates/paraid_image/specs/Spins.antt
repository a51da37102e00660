-- How many of the spin-ups that a meta has recorded were made.
use Rattle.std.specs.Prelude.{ℕ, ◌-◌, ◌&&◌, nat_le, nat_lt, slice_index, if◌then◌else◌}
use Rattle.paraid_rack.specs.declared.call.Power.{Power}
pub use Rattle.paraid_rack.specs.Disks.{is_parked}
use Rattle.paraid_record.specs.declared.meta.Meta.{Meta}
use Rattle.paraid_image.specs.Spot.{rising_to}

-- one where the spin-up of disk `d` is recorded and has yet to be made
abbrev pub pending_spin_ups : Meta → (ℕ → Power) → ℕ → ℕ
pending_spin_ups m power d =
    if nat_le m.gear d && nat_lt d (rising_to m.phase) && is_parked (power d) then 1 else 0

-- the spin-ups that a meta has recorded and that were made: its spins, one less where one is still
-- to be made
abbrev pub made_spin_ups : Meta → (ℕ → Power) → ℕ → ℕ
made_spin_ups m power d = slice_index m.spins d - pending_spin_ups m power d
