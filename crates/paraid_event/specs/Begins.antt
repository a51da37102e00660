-- A shift down that begins.
use Rattle.std.specs.Prelude.{◌≡◌, ℕ, ◌+◌}
use Rattle.paraid_base.specs.declared.state.Out.TheVariants.{No}
use Rattle.paraid_base.specs.declared.state.Phase.TheVariants.{Down}
use Rattle.paraid_moves.specs.MoveMetas.{meta_after_begin}
use Rattle.paraid_core.specs.CoreInvariant.{AreCopiesSynced}
use Rattle.paraid_event.specs.Service.{Service}

-- What was staged is committed, with no disk lost, and the shift is marked.
pub record MarksShiftDown (k committed begun : Service) (to : ℕ) : Type 0 where
  pub whole : committed.meta.out ≡ No
  pub mark : begun
      ≡ record committed { meta = meta_after_begin committed.meta (Down to) committed.meta.spins }
  pub slots : committed.slots ≡ k.slots
  pub table : committed.table ≡ k.table
  pub samples : committed.samples ≡ k.samples
  pub served : committed.served ≡ k.served

-- What was staged is committed, with no disk lost, and the mark of a shift down is committed.
pub record BeginsDown (k committed begun k_then : Service) (to : ℕ) : Type 0 where
  pub marks : MarksShiftDown k committed begun to
  -- it is a commit
  pub epoch : k_then.meta.epoch ≡ begun.meta.epoch + 1
  pub slots : k_then.slots ≡ k.slots
  pub table : k_then.table ≡ k.table
  pub copies_synced : AreCopiesSynced k_then.meta.setup.geometry.disks k_then.copied
  pub samples : k_then.samples ≡ k.samples
  pub served : k_then.served ≡ k.served
  pub energy : k_then.energy ≡ k.energy
