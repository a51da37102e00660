-- The parts of a setup, in the order in which they are read, and the causes by which each is
-- refused
use Rattle.std.specs.Prelude.{◌≡◌, ◌⊎◌, ◌≤◌, List, [], ◌∷◌, Option, Some, None}
use Rattle.toml.specs.Data.{Members, string}
use Rattle.paraid_record.specs.Range.{Within, AreWindows}
use Rattle.paraid_config.specs.declared.key.Key.TheVariants.{Disks, Rows, Gears, Mode, Rate, Service, Up, Down, Windows, Ration, Burst, Period, SpinningMj, ParkedMj, SpinupMj}
use Rattle.paraid_config.specs.declared.fault.ConfigFault.{ConfigFault}
use Rattle.paraid_config.specs.declared.fault.ConfigFault.TheVariants.{NoMemory}
use Rattle.paraid_config.specs.declared.setup.Shape.{Shape}
use Rattle.paraid_config.specs.declared.setup.Pace.{Pace}
use Rattle.paraid_config.specs.declared.setup.Wear.{Wear}
use Rattle.paraid_config.specs.declared.setup.Energies.{Energies}
use Rattle.paraid_config.specs.Values.{value_at, first_fault, number_fault, list_fault, mode_fault, burst_fault, period_fault, mode_name, IsNumberAt, IsNumberOr, IsListAt}
use Rattle.paraid_config.specs.Config.{AreWindowsOf}

-- the fault is the first of these causes, or memory is wanted
pub record IsFirstFault (faults : List (Option ConfigFault)) (f : ConfigFault) : Type 0 where
  pub is : (f ≡ NoMemory) ⊎ (first_fault faults ≡ Some f)

-- the tests of the number of disks, of the rows and of the gears
abbrev pub shape_faults : Members → List (Option ConfigFault)
shape_faults document =
    number_fault document Disks ∷ number_fault document Rows ∷ list_fault document Gears 0 8 ∷ []

-- those of the mode, of the rate, and of the loads at which gears shift
abbrev pub pace_faults : Members → List (Option ConfigFault)
pace_faults document =
    mode_fault document ∷ number_fault document Rate
    ∷ number_fault document Service ∷ number_fault document Up ∷ number_fault document Down ∷ []

-- those of the windows, of the ration, of the burst and of the period
abbrev pub wear_faults : Members → List (Option ConfigFault)
wear_faults document = list_fault document Windows 1 3
    ∷ number_fault document Ration ∷ burst_fault document ∷ period_fault document ∷ []

-- those of the energies
abbrev pub energy_faults : Members → List (Option ConfigFault)
energy_faults document = number_fault document SpinningMj
    ∷ number_fault document ParkedMj ∷ number_fault document SpinupMj ∷ []

-- how many disks and rows there are, and the gears, as the document says them
pub record IsShapeOf (document : Members) (s : Shape) : Type 0 where
  pub disks_at : IsNumberAt document Disks s.disks
  pub rows_at : IsNumberAt document Rows s.rows
  pub gears_at : IsListAt document Gears s.gears.items
  pub accepted : first_fault (shape_faults document) ≡ None

-- the mode, the rate and the loads, as the document says them
pub record IsPaceOf (document : Members) (p : Pace) : Type 0 where
  pub mode_at : value_at document Mode ≡ Some (string (mode_name p.mode))
  pub rate_at : IsNumberAt document Rate p.rate
  pub service_at : IsNumberAt document Service p.service
  pub up_at : IsNumberAt document Up p.up
  pub down_at : IsNumberAt document Down p.down
  pub rate : Within 1 65536 p.rate
  pub service : Within 1 1048576 p.service
  pub up : Within 1 100 p.up
  pub down : Within 1 100 p.down
  pub accepted : first_fault (pace_faults document) ≡ None

-- the windows and the ration, as the document says them; where it says no burst, it is the ration,
-- and where no period, it is 1
pub record IsWearOf (document : Members) (w : Wear) : Type 0 where
  pub windows_at : AreWindowsOf document w.windows
  pub ration_at : IsNumberAt document Ration w.ration
  pub burst_at : IsNumberOr document Burst w.ration w.burst
  pub period_at : IsNumberOr document Period 1 w.period
  pub windows : AreWindows w.windows
  pub ration : Within 1 65535 w.ration
  pub burst : Within 1 w.ration w.burst
  pub period : Within 1 4294967295 w.period
  pub accepted : first_fault (wear_faults document) ≡ None

-- the energies, as the document says them
pub record AreEnergiesOf (document : Members) (e : Energies) : Type 0 where
  pub spinning_at : IsNumberAt document SpinningMj e.spinning_mj
  pub parked_at : IsNumberAt document ParkedMj e.parked_mj
  pub spinup_at : IsNumberAt document SpinupMj e.spinup_mj
  pub spinning : e.spinning_mj ≤ 1048576
  pub parked : e.parked_mj ≤ 1048576
  pub spinup : e.spinup_mj ≤ 1048576
  pub accepted : first_fault (energy_faults document) ≡ None
