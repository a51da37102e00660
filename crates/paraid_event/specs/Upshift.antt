-- A shift up that begins.
use Rattle.std.specs.Prelude.{◌≡◌, ℕ, ◌+◌, ◌<◌, ◌≤◌, ◌⊎◌, min, slice_index}
use Rattle.paraid_base.specs.declared.state.Out.TheVariants.{No}
use Rattle.paraid_base.specs.declared.state.Phase.TheVariants.{Up}
use Rattle.paraid_moves.specs.MoveMetas.{meta_after_begin}
use Rattle.paraid_core.specs.CoreInvariant.{AreCopiesSynced}
use Rattle.paraid_machine.specs.Energy.{spin_up_energy}
use Rattle.paraid_machine.specs.Moves.{with_spin_ups}
use Rattle.paraid_event.specs.Service.{Service}
use Rattle.paraid_base.specs.Told.{counter_most}

-- the slots, the dirty cells, the samples and the requests are as they were
pub record IsCountedAs (k k_then : Service) : Type 0 where
  pub slots : k_then.slots ≡ k.slots
  pub table : k_then.table ≡ k.table
  pub samples : k_then.samples ≡ k.samples
  pub served : k_then.served ≡ k.served

-- What was staged is committed, with no disk lost, and the shift is marked, with a spin-up recorded
-- of each disk that comes up.
pub record MarksShiftUp (k committed begun : Service) (to : ℕ) : Type 0 where
  pub whole : committed.meta.out ≡ No
  pub mark : begun
      ≡ record committed { meta = meta_after_begin committed.meta (Up to) begun.meta.spins }
  pub spins : begun.meta.spins ≡ with_spin_ups committed.meta.gear to committed.meta.spins
  pub raised : (d : ℕ) → committed.meta.gear ≤ d
      → d < to → slice_index begun.meta.spins d ≡ slice_index committed.meta.spins d + 1
  pub others : (d : ℕ) → (d < committed.meta.gear) ⊎ (to ≤ d)
      → slice_index begun.meta.spins d ≡ slice_index committed.meta.spins d
  pub counts : IsCountedAs k committed

-- The mark of a shift up, with its spin-ups counted, is committed.
pub record OpensShiftUp (k begun opened : Service) : Type 0 where
  pub epoch : opened.meta.epoch ≡ begun.meta.epoch + 1
  pub counts : IsCountedAs k opened

-- Then the disks have come up, and the spin-ups have used their energy.
pub record EndsShiftUp (k k_then : Service) (to : ℕ) : Type 0 where
  pub counts : IsCountedAs k k_then
  pub copies_synced : AreCopiesSynced k_then.meta.setup.geometry.disks k_then.copied
  pub energy : k_then.energy
      ≡ min (k.energy + spin_up_energy k.meta.setup k.meta.gear to) counter_most

-- All of it, by four states of a service after the first one.
pub record BeginsUp (k committed begun opened k_then : Service) (to : ℕ) : Type 0 where
  pub marks : MarksShiftUp k committed begun to
  pub opens : OpensShiftUp k begun opened
  pub ends : EndsShiftUp k k_then to
