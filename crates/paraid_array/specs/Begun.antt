-- Where an array stands as its mount ends.
use Rattle.std.specs.Prelude.{◌≡◌, ℕ, [], length, Option, Some}
use Rattle.paraid_dirty.specs.Table.{is_dirty}
use Rattle.paraid_rack.specs.declared.rack.Rack.{Ghosts}
use Rattle.paraid_rack.specs.Slots.{Slot}
use Rattle.paraid_rack.specs.Trail.{Trail, moments}
use Rattle.paraid_record.specs.declared.meta.Setup.{Setup}
use Rattle.paraid_core.specs.declared.staged.Core.{Core}
use Rattle.paraid_core.specs.Begin.{IsPoweredBy}
use Rattle.paraid_core.specs.Cores.{core_rack}
use Rattle.paraid_recover.specs.Mount.{HasMounted}
use Rattle.paraid_recover.specs.Mounted.{IsServable}
use Rattle.paraid_session.specs.Mount.{IsMountedFromEach}
use Rattle.paraid_session.specs.Powers.{AreSlotsSynced}
use Rattle.paraid_session.specs.Turn.{Point}
use Rattle.paraid_recover.specs.FirstPoint.{IsFirstPoint}
use Rattle.paraid_txn.specs.Stores.{disks_of, epoch_of, named_of}
use Rattle.paraid_event.specs.Service.{Service, service_of}
use Rattle.paraid_event.specs.Stands.{StandsAt}
use Rattle.paraid_event.specs.CoreServing.{IsCoreServing}
use Rattle.paraid_upkeep.specs.Service.{IsOutKnown}

-- The core serves what a mount of these slots has left: its slots fit its meta and are powered by
-- its gear, and that meta and those dirty cells are what stood on the disks. From each rack that
-- held a history a session begins with them.
pub record IsMountedCore {R : Type 0} {g : _} (slot : R → ℕ → Slot) (told : R → Option Trail)
    (slots : ℕ) (old : ℕ → Slot) (before : Option Trail) (core : Core R g) : Type 0 where
  pub servable : IsServable slots (slot (core_rack core)) (epoch_of core.store)
      (disks_of core.store) (named_of core.store) core.meta (length core.dirty)
  pub mounted : HasMounted slots old (slot (core_rack core))
      (named_of core.store) core.meta (is_dirty core.dirty) before (told (core_rack core))
  pub session : (began : ℕ) → ((t : Trail) → before ≡ Some t → began ≡ moments t)
      → IsMountedFromEach slots core.meta.setup began (told (core_rack core))
      (IsFirstPoint mounted.settled.standing (is_dirty core.dirty) (told (core_rack core)))

-- A core that a mount gives can go through each event, with nothing staged, and nothing unsynced of
-- a disk that is there and not gone. Each disk that is not out is powered by the gear, and by a
-- shift up under way. The disk that is out is known.
pub record IsBegunCore {R : Type 0} {g : Ghosts R} (core : Core R g) : Type 0 where
  pub serving : IsCoreServing g.slot_count g.slot core
  pub nothing : core.batch ≡ []
  pub synced : AreSlotsSynced core.meta (g.slot (core_rack core))
  pub powered : IsPoweredBy
      (g.slot_count (core_rack core)) (g.slot (core_rack core)) (named_of core.store) core.meta
  pub known : IsOutKnown g.slot core

-- It stands at this point of a session, and no stop takes away a write that its meta counts.
pub record StandsAtFirst
    (told : Option Trail) (k : Service) (setup : Setup) (p : Point) : Type 0 where
  pub stands : StandsAt told k setup p
  pub kept : p.low ≡ k.meta.writes

-- The array stands at this point of a session by a core for which no sample, no request and no
-- energy is counted yet.
abbrev pub StandsBegun : {R : Type 0} {g : _}
    → (R → ℕ) → (R → Option Trail) → Core R g → Point → Type 0
StandsBegun count told core =
    StandsAtFirst (told (core_rack core)) (service_of count core [] 0 0) core.meta.setup
