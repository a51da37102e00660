-- A unit that is moved is one fewer that is left.
use Rattle.std.proofs.Common.{◌≡◌, ℕ, zero, suc, ◌-◌, ◌*◌, ◌<◌, ◌≤◌, Option, Some, None, refl, sym, ap, ◌∙◌, arith, inl, inr}
use Rattle.std.proofs.lemmas.Bool.{cases_lt}
use Rattle.paraid_base.proofs.SoftLemmas.{cell_number_below, disk_of_cell_number, disk_of_number_below, row_of_cell_number, row_of_number_below}
use Rattle.paraid_base.specs.Soft.{cell_number, disk_of_number, row_of_number}
use Rattle.paraid_base.specs.States.{rising_to}
use Rattle.paraid_dirty.specs.Table.{dirty_count}
use Rattle.paraid_image.specs.Power.{PowerState}
use Rattle.paraid_machine.specs.Moves.{after_unit, after_units, first_dirty, is_dirty_number, units_left}
use Rattle.paraid_record.specs.declared.meta.Setup.{Setup}
use Rattle.paraid_progress.proofs.CountLemmas.{IsFound, count_fewer, count_none, first_found, none_found}

-- the gear, the phase and the disk that is out are as they were
pub record KeepsShift (s new : PowerState) : Type 0 where
  pub gear : new.gear ≡ s.gear
  pub phase : new.phase ≡ s.phase
  pub out : new.out ≡ s.out

pub keeps_none : (s : PowerState) → KeepsShift s s
keeps_none s = record { gear = refl; phase = refl; out = refl }

pub keeps_then : (s t u : PowerState) → KeepsShift s t → KeepsShift t u → KeepsShift s u
keeps_then s t u first second = record {
  gear = second.gear ∙ first.gear;
  phase = second.phase ∙ first.phase;
  out = second.out ∙ first.out;
}

-- where no cell is dirty
none_dirty : (setup : Setup) (s : PowerState) → first_dirty setup s ≡ None → dirty_count s.dirty setup.geometry.rows s.gear (rising_to s.phase) ≡ 0
none_dirty setup s none = count_none s.dirty setup.geometry.rows s.gear (rising_to s.phase) (λ r d row low high.
    let n = rising_to s.phase in
    let a = s.gear in
    let below = cell_number_below n a r d setup.geometry.rows low high row in
    let clean = none_found (is_dirty_number s) 0 (setup.geometry.rows * (n - a)) none (cell_number n a r d) (omega arith) (omega (arith, below)) in
    ap (λ (q : ℕ). s.dirty q d) (sym (row_of_cell_number n a r d low high))
    ∙ ap (s.dirty (row_of_number n a (cell_number n a r d))) (sym (disk_of_cell_number n a r d low high))
    ∙ clean)

-- a cell that is dirty is moved
cell_moved : (setup : Setup) (s : PowerState) (c : ℕ) → IsFound (is_dirty_number s) 0 (setup.geometry.rows * (rising_to s.phase - s.gear)) c
    → units_left setup (after_unit s (Some c)) < units_left setup s
cell_moved setup s c found = elim (cases_lt s.gear (rising_to s.phase)) [
  | inl some ↦
      (let n = rising_to s.phase in
      let a = s.gear in
      let high = found.high in
      let d_low : a ≤ disk_of_number n a c = omega arith in
      let fewer =
      count_fewer s.dirty setup.geometry.rows a n (row_of_number n a c) (disk_of_number n a c)
      (row_of_number_below n a c setup.geometry.rows some (omega (arith, high))) d_low (disk_of_number_below n a c some) found.is in
      omega (arith, fewer))
  | inr none ↦
      (let high = found.high in
      let width : rising_to s.phase - s.gear ≡ 0 = omega arith in
      let empty = ap (λ (z : ℕ). setup.geometry.rows * z) width in
      absurd (omega (arith, high, empty)))
]

unit_moved : (setup : Setup) (s : PowerState) (o : Option ℕ) → first_dirty setup s ≡ o → units_left setup (after_unit s o) ≤ units_left setup s - 1
unit_moved setup s None none =
    let cells = none_dirty setup s none in
    omega (arith, cells)
unit_moved setup s (Some c) is =
    let fewer = cell_moved setup s c (first_found (is_dirty_number s) 0 (setup.geometry.rows * (rising_to s.phase - s.gear)) c is) in
    omega (arith, fewer)

unit_keeps : (s : PowerState) (o : Option ℕ) → KeepsShift s (after_unit s o)
unit_keeps s None = record { gear = refl; phase = refl; out = refl }
unit_keeps s (Some c) = record { gear = refl; phase = refl; out = refl }

pub units_keep : (setup : Setup) (m : ℕ) (s : PowerState) → KeepsShift s (after_units setup m s)
units_keep setup zero s = keeps_none s
units_keep setup (suc m) s = keeps_then s (after_unit s (first_dirty setup s)) _ (unit_keeps s (first_dirty setup s)) (units_keep setup m (after_unit s (first_dirty setup s)))

-- at least so many fewer are left
pub units_moved : (setup : Setup) (m : ℕ) (s : PowerState) → units_left setup (after_units setup m s) ≤ units_left setup s - m
units_moved setup zero s = omega arith
units_moved setup (suc m) s =
    let one = unit_moved setup s (first_dirty setup s) refl in
    let others = units_moved setup m (after_unit s (first_dirty setup s)) in
    omega (arith, one, others)
