-- What an array counts itself of an event.
use Rattle.std.specs.Prelude.{◌≡◌, ℕ, ◌+◌, ◌<◌, []}
use Rattle.paraid_dirty.specs.Table.{is_dirty}
use Rattle.paraid_image.specs.Power.{PowerState}
use Rattle.paraid_core.specs.CoreInvariant.{AreCopiesSynced}
use Rattle.paraid_event.specs.Service.{IsStateOf, Service}

-- with the dirty cells and the counts that were before
abbrev pub with_counts_of : Service → Service → Service
with_counts_of k_then k = record k_then { table = k.table; samples = k.samples; served = k.served }

-- A request was served: one more is counted, all copies are synced, and the dirty cells are those
-- that `change` makes of the state by the meta as it is then.
pub record CountsServed (k k_then : Service) (change : PowerState → PowerState) : Type 0 where
  pub slots : k_then.slots ≡ k.slots
  pub copies_synced : AreCopiesSynced k_then.meta.setup.geometry.disks k_then.copied
  pub samples : k_then.samples ≡ k.samples
  pub served : k_then.served ≡ k.served + 1
  pub energy : k_then.energy ≡ k.energy
  pub dirty : (s : PowerState) → IsStateOf (with_counts_of k_then k) s → (r d : ℕ)
      → r < k_then.meta.setup.geometry.rows → is_dirty k_then.table r d ≡ (change s).dirty r d

-- All that was staged was brought to the disks: the counts and the dirty cells are as they were.
pub record CountsFlushed (k k_then : Service) : Type 0 where
  pub slots : k_then.slots ≡ k.slots
  pub copies_synced : AreCopiesSynced k_then.meta.setup.geometry.disks k_then.copied
  pub samples : k_then.samples ≡ k.samples
  pub served : k_then.served ≡ k.served
  pub energy : k_then.energy ≡ k.energy
  pub table : k_then.table ≡ k.table
  pub nothing_staged : k_then.batch ≡ []
