-- What has to hold so that the blocks of a stripe of the new gear's region can be read.
use Rattle.std.specs.Prelude.{◌≡◌, ℕ, ◌<◌, Bool, List, None, length}
use Rattle.paraid_base.specs.Regions.{IsGear}
use Rattle.paraid_base.specs.Soft.{stripe_count}
use Rattle.paraid_rack.specs.declared.rack.Rack.{Ghosts}
use Rattle.paraid_record.specs.declared.meta.Meta.{Meta}
use Rattle.paraid_record.specs.Range.{IsInRange}
use Rattle.paraid_txn.specs.declared.store.Store.{Store}
use Rattle.paraid_txn.specs.Stores.{disks_of, store_rack}
use Rattle.paraid_view.specs.Reads.{CanRead}

-- Stripe `s` of gear `to` can be read by the values of its cells: no disk is out.
pub record CanGather {R : Type 0} {g : Ghosts R}
    (store : Store R g) (m : Meta) (table : List (List Bool)) (to s : ℕ) : Type 0 where
  pub in_range : IsInRange m
  pub gear : IsGear m.setup.geometry to
  pub region : to < m.setup.geometry.disks
  pub stripe : s < stripe_count m.setup.geometry.disks m.setup.geometry.rows to
  pub rows : length table ≡ m.setup.geometry.rows
  pub array : m.setup.geometry.disks ≡ disks_of store
  pub ready : CanRead (g.slot_count (store_rack store)) (g.slot (store_rack store)) m None
