-- A disk that is taken out.
use Rattle.std.specs.Prelude.{◌≡◌, ℕ, ◌+◌, Some}
use Rattle.paraid_image.specs.Mark.{meta_after_loss}
use Rattle.paraid_image.specs.Out.{named_out}
use Rattle.paraid_core.specs.CoreInvariant.{AreCopiesSynced}
use Rattle.paraid_event.specs.Service.{Service}

-- Of three states of a service: what was staged is committed, in which at most this disk is lost;
-- the disk is marked as out; and the mark is committed.
pub record TakesOut (k committed marked k_then : Service) (d : ℕ) : Type 0 where
  pub alone : (e : ℕ) → named_out committed.meta.out ≡ Some e → e ≡ d
  pub mark : marked ≡ record committed { meta = meta_after_loss committed.meta d }
  -- it is a commit
  pub epoch : k_then.meta.epoch ≡ marked.meta.epoch + 1
  pub slots : committed.slots ≡ k.slots
  pub slots_then : k_then.slots ≡ k.slots
  pub table : k_then.table ≡ k.table
  pub copies_synced : AreCopiesSynced k_then.meta.setup.geometry.disks k_then.copied
  pub samples : k_then.samples ≡ k.samples
  pub served : k_then.served ≡ k.served
  pub energy : k_then.energy ≡ k.energy
