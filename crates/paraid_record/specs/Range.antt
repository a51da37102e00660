-- Which setups and metas are in range
use Rattle.std.specs.Prelude.{◌≡◌, ℕ, ◌+◌, ◌^◌, ◌<◌, ◌≤◌, true, false, List, length, slice_index, slice_index_or, nat_lt, max, if◌then◌else◌}
use Rattle.paraid_base.specs.declared.geometry.Geometry.{Geometry}
use Rattle.paraid_base.specs.declared.state.Phase.{Phase}
use Rattle.paraid_base.specs.declared.state.Phase.TheVariants.{Steady, Down, Up}
use Rattle.paraid_base.specs.declared.state.Out.{Out}
use Rattle.paraid_base.specs.declared.state.Out.TheVariants.{No, Gone, Fresh}
use Rattle.paraid_base.specs.Regions.{IsGear, map_count}
use Rattle.paraid_base.specs.Soft.{stripe_count}
pub use Rattle.paraid_base.specs.States.{has_out, is_down}
use Rattle.paraid_ration.specs.Ration.{allowance}
use Rattle.paraid_record.specs.declared.meta.Setup.{Setup}
use Rattle.paraid_record.specs.declared.meta.Meta.{Meta}

-- a number is from one bound to another
abbrev pub Within : ℕ → ℕ → ℕ → Type 0
Within low high x = (low ≤ x) × (x ≤ high)

-- one to three windows of 1 to 1,024 samples, the used ones first, and 0 for an unused one
pub record AreWindows (windows : List ℕ) : Type 0 where
  pub three : length windows ≡ 3
  pub first : Within 1 1024 (slice_index windows 0)
  pub second : slice_index windows 1 ≤ 1024
  pub third : slice_index windows 2 ≤ 1024
  pub in_order : slice_index windows 1 ≡ 0 → slice_index windows 2 ≡ 0

-- each value of a setup is in its range
pub record IsSetupInRange (s : Setup) : Type 0 where
  pub rate : Within 1 65536 s.rate
  pub service : Within 1 1048576 s.service
  pub up : Within 1 100 s.up
  pub down : Within 1 100 s.down
  pub windows : AreWindows s.windows
  pub ration : Within 1 65535 s.ration
  pub burst : Within 1 s.ration s.burst
  pub period : Within 1 4294967295 s.period
  pub spinning : s.spinning_mj ≤ 1048576
  pub parked : s.parked_mj ≤ 1048576
  pub spinup : s.spinup_mj ≤ 1048576

-- two gears with none between them
pub record AreNextGears (g : Geometry) (lower higher : ℕ) : Type 0 where
  pub below : lower < higher
  pub lower_gear : IsGear g lower
  pub higher_gear : IsGear g higher
  pub between : (a : ℕ) → lower < a → a < higher → slice_index_or g.gears a false ≡ false

-- a shift goes to the next gear
abbrev pub IsPhaseInRange : Geometry → ℕ → Phase → Type 0
IsPhaseInRange g gear Steady = Unit {0}
IsPhaseInRange g gear (Down to) = AreNextGears g to gear
IsPhaseInRange g gear (Up to) = AreNextGears g gear to

-- how many stripes of the region of the new gear can be filled
abbrev pub fill_limit : Geometry → Phase → ℕ
fill_limit g Steady = 0
fill_limit g (Down to) = stripe_count g.disks g.rows to
fill_limit g (Up to) = stripe_count g.disks g.rows to

-- the units of a rebuild of `disk`: the rows, for a disk below the gear its stripes, and for
-- disks 0 and 1 the blocks of the dirty map
abbrev pub rebuild_units : Geometry → ℕ → ℕ → ℕ
rebuild_units g gear disk =
    g.rows + (if nat_lt disk gear then stripe_count g.disks g.rows gear else 0)
    + (if nat_lt disk 2 then map_count g else 0)

-- the out disk is one of the array, with at most its units rebuilt
abbrev pub IsOutInRange : Geometry → ℕ → Out → Type 0
IsOutInRange g gear No = Unit {0}
IsOutInRange g gear (Gone disk) = disk < g.disks
IsOutInRange g gear (Fresh disk rebuilt) = (disk < g.disks) × (rebuilt ≤ rebuild_units g gear disk)

-- the first disk that a shift under way, or the gear, leaves parked
abbrev pub first_parked : ℕ → Phase → ℕ
first_parked gear Steady = gear
first_parked gear (Down to) = to
first_parked gear (Up to) = to

-- the most spin-ups that a disk may have by so many ticks
abbrev pub allowed_by : Setup → ℕ → ℕ
allowed_by setup ticks = allowance setup.ration setup.burst setup.period ticks

-- the most spin-ups that a disk may have by the ticks of this meta
abbrev pub allowed_spins : Meta → ℕ
allowed_spins m = allowed_by m.setup m.ticks

-- the spin-ups of a disk: at most what is allowed, below it where the disk is parked, and none past
-- the last disk
pub record IsSpinCount (m : Meta) (disk : ℕ) : Type 0 where
  pub within : slice_index m.spins disk ≤ allowed_spins m
  pub parked : first_parked m.gear m.phase ≤ disk
      → disk < m.setup.geometry.disks → slice_index m.spins disk < allowed_spins m
  pub unused : m.setup.geometry.disks ≤ disk → slice_index m.spins disk ≡ 0

-- the fill mark is within the region of the new gear; with a disk out there is no shift down and
-- nothing is filled
pub record IsShiftInRange (m : Meta) : Type 0 where
  pub fill : m.fill ≤ fill_limit m.setup.geometry m.phase
  pub down : is_down m.phase ≡ true → has_out m.out ≡ false
  pub still : has_out m.out ≡ true → m.fill ≡ 0

-- version 2, or version 1 of a setup that allows the whole ration at once
pub record IsVersionInRange (version : ℕ) (s : Setup) : Type 0 where
  pub known : Within 1 2 version
  pub burst : version ≡ 1 → s.burst ≡ s.ration
  pub period : version ≡ 1 → s.period ≡ 1

-- numbers of 64 bits, and an epoch that a commit has
pub record AreCountersInRange (epoch writes ticks : ℕ) : Type 0 where
  pub first : 1 ≤ epoch
  pub epoch_fits : epoch < 2 ^ 64
  pub writes_fit : writes < 2 ^ 64
  pub ticks_fit : ticks < 2 ^ 64

-- each value of a meta is in its range, and they fit one another
pub record IsInRange (m : Meta) : Type 0 where
  pub setup : IsSetupInRange m.setup
  pub version : IsVersionInRange m.version m.setup
  pub counters : AreCountersInRange m.epoch m.writes m.ticks
  pub gear : IsGear m.setup.geometry m.gear
  pub phase : IsPhaseInRange m.setup.geometry m.gear m.phase
  pub out : IsOutInRange m.setup.geometry m.gear m.out
  pub shift : IsShiftInRange m
  pub eight : length m.spins ≡ 8
  pub spins : (disk : ℕ) → disk < 8 → IsSpinCount m disk

-- how many commits or writes a meta counts, the greater of the two
abbrev pub meta_wear : Meta → ℕ
meta_wear m = max m.epoch m.writes
