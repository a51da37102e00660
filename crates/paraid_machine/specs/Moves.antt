-- The moves of an array's state: what losses, shifts, reads and writes make of it.
use Rattle.std.specs.Prelude.{ℕ, ◌+◌, ◌-◌, ◌*◌, ◌==◌, ◌&&◌, min, nat_le, nat_lt, Bool, true, false, List, [], ◌∷◌, ◌++◌, Option, Some, None, slice_index, if◌then◌else◌}
use Rattle.std.proofs.Common.{zero, suc}
use Rattle.paraid_base.specs.declared.state.Out.TheVariants.{Gone}
use Rattle.paraid_base.specs.declared.state.Phase.{Phase}
use Rattle.paraid_base.specs.declared.state.Phase.TheVariants.{Steady, Down, Up}
use Rattle.paraid_base.specs.Cells.{home_disk, home_row, parity_disk}
use Rattle.paraid_base.specs.Soft.{disk_of_number, row_of_number, stripe_count}
use Rattle.paraid_dirty.specs.Table.{table_with_bit, dirty_count}
use Rattle.paraid_base.specs.Gears.{first_from}
use Rattle.paraid_gear.specs.ThreeWindows.{sample_of}
use Rattle.paraid_record.specs.declared.meta.Mode.{Mode}
use Rattle.paraid_record.specs.declared.meta.Mode.TheVariants.{Whole, Access}
use Rattle.paraid_record.specs.declared.meta.Setup.{Setup}
use Rattle.paraid_record.specs.Codes.{phase_to}
use Rattle.paraid_record.specs.Range.{has_out, rebuild_units}
pub use Rattle.paraid_record.specs.Range.{allowed_by}
use Rattle.paraid_image.specs.Out.{is_out, named_out}
use Rattle.paraid_image.specs.Power.{PowerState, phase_beside}
use Rattle.paraid_image.specs.Spot.{rising_to}
use Rattle.paraid_record.specs.Modes.{is_access}
use Rattle.paraid_base.specs.Told.{counter_most}

-- disk `d` is lost: it is out, there is no shift down, and nothing is filled
abbrev pub after_loss : PowerState → ℕ → PowerState
after_loss s d = record s { phase = phase_beside true s.phase; fill = 0; out = Gone d }

-- spin-ups, changed by disk; the first of these is that of disk `at`
abbrev pub with_spins : (ℕ → ℕ → ℕ) → ℕ → List ℕ → List ℕ
with_spins f at [] = []
with_spins f at (count ∷ spins) = f at count ∷ with_spins f (suc at) spins

-- one more of each disk from `lo` to `hi - 1`
abbrev pub with_spin_ups : ℕ → ℕ → List ℕ → List ℕ
with_spin_ups lo hi spins =
    with_spins (λ d count. if nat_le lo d && nat_lt d hi then count + 1 else count) 0 spins

-- none of disk `d`
abbrev pub without_spin_ups : ℕ → List ℕ → List ℕ
without_spin_ups d spins = with_spins (λ e count. if e == d then 0 else count) 0 spins

-- a shift down begins
abbrev pub begun_down : ℕ → PowerState → PowerState
begun_down to s = record s { phase = Down to; fill = 0 }

-- a shift up begins, with the spin-ups recorded of the disks that it needs
abbrev pub begun_up : ℕ → PowerState → PowerState
begun_up to s = record s { phase = Up to; fill = 0; spins = with_spin_ups s.gear to s.spins }

-- a shift ends
abbrev pub after_flip : PowerState → PowerState
after_flip s = record s { gear = phase_to s.phase; phase = Steady; fill = 0 }

-- the cells that a shift up copies, by number: those of the disks from the gear to the new gear
abbrev pub is_dirty_number : PowerState → ℕ → Bool
is_dirty_number s c = s.dirty
    (row_of_number (rising_to s.phase) s.gear c) (disk_of_number (rising_to s.phase) s.gear c)

-- the first dirty one of them
abbrev pub first_dirty : Setup → PowerState → Option ℕ
first_dirty setup s =
    first_from (is_dirty_number s) 0 (setup.geometry.rows * (rising_to s.phase - s.gear))

-- the cell of row `r` and disk `d` with this dirty bit
abbrev pub state_with_bit : PowerState → ℕ → ℕ → Bool → PowerState
state_with_bit s r d bit = record s { dirty = table_with_bit s.dirty r d bit }

-- a unit of a shift: a dirty cell is copied, or where there is none a stripe is filled
abbrev pub after_unit : PowerState → Option ℕ → PowerState
after_unit s (Some c) = state_with_bit s
    (row_of_number (rising_to s.phase) s.gear c) (disk_of_number (rising_to s.phase) s.gear c) false
after_unit s None = record s { fill = s.fill + 1 }

-- the next `m` units of a shift
abbrev pub after_units : Setup → ℕ → PowerState → PowerState
after_units setup zero s = s
after_units setup (suc m) s = after_units setup m (after_unit s (first_dirty setup s))

-- how many units are left of a shift
abbrev pub units_left : Setup → PowerState → ℕ
units_left setup s =
    dirty_count s.dirty setup.geometry.rows s.gear (rising_to s.phase)
    + (stripe_count setup.geometry.disks setup.geometry.rows (phase_to s.phase) - s.fill)

-- how many a tick moves: in whole mode a shift up moves all of them at once
abbrev pub units_by : Mode → Phase → ℕ → ℕ → ℕ
units_by Whole (Up to) rate left = left
units_by Whole (Down to) rate left = min rate left
units_by Whole Steady rate left = min rate left
units_by Access phase rate left = min rate left

-- how many units a tick moves
abbrev pub units_of_tick : Setup → PowerState → ℕ
units_of_tick setup s = units_by setup.mode s.phase setup.rate (units_left setup s)

-- The dirty bit of a cell of disk `d` that is written. One below the gear is clean; one of a disk
-- that a shift up has spun up is clean too, but keeps its bit if that disk is out; any other is
-- dirty.
abbrev pub bit_written : PowerState → ℕ → Bool → Bool
bit_written s d bit =
    if nat_lt d s.gear then false
    else (if nat_lt d (rising_to s.phase) then is_out (named_out s.out) d && bit else true)

-- the state after a write of one cell
abbrev pub cell_written : ℕ → ℕ → PowerState → PowerState
cell_written r d s = state_with_bit s r d (bit_written s d (s.dirty r d))

-- a write changes the cell of its block and that of the row's parity
abbrev pub block_written : ℕ → ℕ → PowerState → PowerState
block_written n b s = cell_written
    (home_row n b) (parity_disk n (home_row n b)) (cell_written (home_row n b) (home_disk n b) s)

-- the blocks of one write, one after the other
abbrev pub all_written : ℕ → List ℕ → PowerState → PowerState
all_written n [] s = s
all_written n (b ∷ bs) s = all_written n bs (block_written n b s)

-- a read cleans its cell in access mode, where a shift up has spun its disk up and none is out
abbrev pub block_read : Setup → ℕ → PowerState → PowerState
block_read setup b s =
    let d = home_disk setup.geometry.disks b in
    if is_access setup.mode && nat_le s.gear d && nat_lt d (rising_to s.phase)
    then (if has_out s.out then s else state_with_bit s (home_row setup.geometry.disks b) d false)
    else s

-- one more read or write was served
abbrev pub with_one_served : PowerState → PowerState
with_one_served s = record s { served = s.served + 1 }

-- a tick counts itself, and makes a sample of what was served since the last one
abbrev pub state_with_tick : PowerState → PowerState
state_with_tick s = record s {
  ticks = min (s.ticks + 1) counter_most;
  samples = s.samples ++ sample_of s.served ∷ [];
  served = 0;
}

-- the first of disks `to` to `gear - 1` that has used up its allowance
abbrev pub first_used_up : Setup → PowerState → ℕ → Option ℕ
first_used_up setup s to =
    first_from (λ d. nat_le (allowed_by setup s.ticks) (slice_index s.spins d)) to (s.gear - to)

-- the units of a rebuild that are left
abbrev pub units_to_rebuild : Setup → PowerState → ℕ → ℕ → ℕ
units_to_rebuild setup s d rebuilt = rebuild_units setup.geometry s.gear d - rebuilt
