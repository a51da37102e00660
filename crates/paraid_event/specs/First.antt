-- The array as its session begins.
use Rattle.std.specs.Prelude.{◌≡◌, ℕ, ◌<◌, ◌≤◌, [], take}
use Rattle.paraid_base.specs.History.{History}
use Rattle.paraid_dirty.specs.Table.{is_dirty}
use Rattle.paraid_rack.specs.Disks.{Disks, IsPresent}
use Rattle.paraid_rack.specs.Slots.{Agrees, Slot}
use Rattle.paraid_record.specs.declared.meta.Meta.{Meta}
use Rattle.paraid_image.specs.Power.{initial_state}
use Rattle.paraid_image.specs.Rest.{IsAtRest}
use Rattle.paraid_image.specs.Spins.{made_spin_ups}
use Rattle.paraid_image.specs.Sides.{closed_over}
use Rattle.paraid_core.specs.CoreInvariant.{AreCopiesSynced}
use Rattle.paraid_recover.specs.Mounted.{IsServable, with_loss}
use Rattle.paraid_recover.specs.RecoveryMark.{to_mark}
use Rattle.paraid_event.specs.Service.{Service}
use Rattle.paraid_event.specs.Stands.{ServiceStandsFor}

-- After a mount: the disks rest under this meta, and their slots can be served under it with the
-- mark of an absent disk, which is the core's; the core stands for the writes that the meta counts,
-- and nothing is counted yet; and the spin-ups that were made are recorded.
pub record BeginsService
    (s : Disks) (standing : Meta) (h : History) (spun : ℕ → ℕ) (k : Service) : Type 0 where
  pub rest : IsAtRest s standing
  pub count : ℕ
  pub slot : ℕ → Slot
  pub last : ℕ
  pub array : ℕ
  pub rows : ℕ
  pub agrees : Agrees s slot
  pub servable : IsServable count slot last array k.named
      (with_loss standing (to_mark s.power standing)) rows
  pub meta : k.meta ≡ with_loss standing (to_mark s.power standing)
  pub keeps : ServiceStandsFor k (take standing.writes h) standing.writes s
  pub copies_synced : AreCopiesSynced standing.setup.geometry.disks k.copied
  pub recorded : (d : ℕ) → IsPresent s d → spun d ≤ made_spin_ups standing s.power d
  pub dirty : (r d : ℕ) → r < standing.setup.geometry.rows
      → (initial_state s (closed_over standing)).dirty r d ≡ is_dirty k.table r d
  pub samples : k.samples ≡ []
  pub served : k.served ≡ 0
  pub energy : k.energy ≡ 0
