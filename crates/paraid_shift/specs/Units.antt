-- Which units of a shift are left, and which ones a call has moved, by what the machine says of
-- them.
use Rattle.std.specs.Prelude.{◌≡◌, ◌≢◌, ℕ, ◌+◌, ◌<◌, ◌≤◌, ◌⊎◌, ◌==◌, ◌&&◌, ◌||◌, nat_le, nat_lt, true, false, Bool, List, []}
use Rattle.paraid_base.specs.declared.state.Out.TheVariants.{No}
use Rattle.paraid_base.specs.Soft.{stripe_count}
use Rattle.paraid_base.specs.States.{phase_to, rising_to}
use Rattle.paraid_dirty.specs.Table.{is_dirty}
use Rattle.paraid_image.specs.Power.{PowerState}
use Rattle.paraid_machine.specs.Moves.{after_units, units_left}
use Rattle.paraid_record.specs.declared.meta.Meta.{Meta}
use Rattle.paraid_core.specs.declared.staged.Core.{Core}
use Rattle.paraid_event.specs.Moving.{MovesUnits}
use Rattle.paraid_event.specs.Service.{IsStateOf, Service, service_of}

-- So many units of the shift are left, by the state that this service shows.
pub record AreUnitsLeft (k : Service) (units : ℕ) : Type 0 where
  pub left : (s : PowerState) → IsStateOf k s → units ≡ units_left k.meta.setup s

-- The answer tells whether no unit is left, by the state that this service shows.
pub record TellsDone (k : Service) (answer : Bool) : Type 0 where
  pub none : answer ≡ true
      → (s : PowerState) → IsStateOf k s → ◌≡◌ {A = ℕ} (units_left k.meta.setup s) 0
  pub some : answer ≡ false
      → (s : PowerState) → IsStateOf k s → ◌≢◌ {A = ℕ} (units_left k.meta.setup s) 0

-- So many units were moved, of those that were left.
pub record CountsMoved (k k_then : Service) (units : ℕ) : Type 0 where
  pub moved : MovesUnits k k_then units
  pub counted : (s : PowerState)
      → IsStateOf k s → units_left k.meta.setup (after_units k.meta.setup units s) + units
      ≡ units_left k.meta.setup s

-- the same of a core
abbrev pub AreCoreUnitsLeft : {R : Type 0} {g : _} → (R → ℕ) → Core R g → ℕ → Type 0
AreCoreUnitsLeft count core units = (samples : List ℕ) (served energy : ℕ)
    → AreUnitsLeft (service_of count core samples served energy) units

-- so many units were moved by a call of a core, of those that were left
abbrev pub CoreCountsMoved : {R : Type 0} {g : _} → (R → ℕ) → Core R g → Core R g → ℕ → Type 0
CoreCountsMoved count old new units = (samples : List ℕ) (served energy : ℕ) → CountsMoved
    (service_of count old samples served energy) (service_of count new samples served energy) units

-- no cell of a disk that comes up is dirty
abbrev pub AreCellsDone : Meta → List (List Bool) → Type 0
AreCellsDone m table = (r d : ℕ)
    → r < m.setup.geometry.rows → m.gear ≤ d → d < rising_to m.phase → is_dirty table r d ≡ false

-- No unit of the shift is left: each stripe is filled, and no cell of a disk that comes up is
-- dirty.
pub record AreUnitsDone (m : Meta) (table : List (List Bool)) : Type 0 where
  pub filled : m.fill ≡ stripe_count m.setup.geometry.disks m.setup.geometry.rows (phase_to m.phase)
  pub clean : AreCellsDone m table

-- A dirty cell of a disk that comes up lies before that of row `r` and disk `d`.
pub record HasDirtyBefore (m : Meta) (table : List (List Bool)) (r d : ℕ) : Type 0 where
  pub row : ℕ
  pub disk : ℕ
  pub low : m.gear ≤ disk
  pub high : disk < rising_to m.phase
  pub is : is_dirty table row disk ≡ true
  pub before : (row < r) ⊎ ((row ≡ r) × (disk < d))

-- the cells of the disks that come up before that of row `r` and disk `d`
abbrev pub are_copied_before : Meta → ℕ → ℕ → ℕ → ℕ → Bool
are_copied_before m r d q e =
    (nat_le m.gear e && nat_lt e (rising_to m.phase)) && (nat_lt q r || (q == r && nat_lt e d))

-- A group of so many cells of at most `most`, the last of them just before that of row `r` and disk
-- `d`: where it has none, none is asked for, or no cell is left.
pub record IsGroupOf (m : Meta) (table : List (List Bool)) (most units r d : ℕ) : Type 0 where
  pub few : units ≤ most
  pub some : units ≡ 0 → (most ≡ 0) ⊎ AreCellsDone m table
  pub before : 0 < units → HasDirtyBefore m table r d

-- Of a call that is to move at most so many units it moved these. Where no disk is out then, they
-- are as many, or none like them is `left`. Marks are staged only where no unit of the shift is
-- left.
pub record MovesUpTo {R : Type 0}
    {g : _} (count : R → ℕ) (old new : Core R g) (left : Type 0) (most units : ℕ) : Type 0 where
  pub moves : CoreCountsMoved count old new units
  pub all : new.meta.out ≡ No → (units ≡ most) ⊎ left
  pub ended : new.batch ≢ [] → AreUnitsDone new.meta new.dirty
