-- A part of an event in which disks are spun up or parked.
use Rattle.std.specs.Prelude.{◌≡◌, ℕ, ◌⊎◌, Bool, List, [], ◌∷◌, Option, Some}
use Rattle.paraid_base.specs.History.{History}
use Rattle.paraid_base.specs.States.{named_out}
use Rattle.paraid_rack.specs.declared.call.Call.{Call}
use Rattle.paraid_rack.specs.declared.call.Call.TheVariants.{SpinUp}
use Rattle.paraid_rack.specs.Disks.{Disks}
use Rattle.paraid_rack.specs.Told.{Through}
use Rattle.paraid_rack.specs.Trail.{run}
use Rattle.paraid_record.specs.declared.meta.Meta.{Meta}
use Rattle.paraid_core.specs.CoreInvariant.{IsHeldWithOneMissing}
use Rattle.paraid_core.specs.Fills.{KeepsFilled}
use Rattle.paraid_recover.specs.Powers.{IsPowerCall}
use Rattle.paraid_session.specs.Watch.{Down, IsServing, down_after, down_from_out}
use Rattle.paraid_txn.specs.Uses.{EachCall}
use Rattle.paraid_event.specs.Marks.{ArePoweredByGear, IsMarkedBy}
use Rattle.paraid_event.specs.Service.{Service}
use Rattle.paraid_event.specs.Stands.{ServiceStandsFor}

-- each spin-up among these calls comes while at most one disk is down
abbrev pub SpinsWhileServing : Down → List Call → Type 0
SpinsWhileServing down [] = Unit {0}
SpinsWhileServing down (call ∷ calls) =
    ((d : ℕ) (done : Bool) → call ≡ SpinUp d done → IsServing down)
    × SpinsWhileServing (down_after down call) calls

-- each call is one by which this meta has a disk powered, and none is spun up where two are down
abbrev pub ArePowerCalls : Meta → Disks → List Call → Type 0
ArePowerCalls m s cs =
    EachCall (IsPowerCall m) s cs × SpinsWhileServing (down_from_out (named_out m.out)) cs

-- Of its calls: each is one by which the meta in memory has a disk powered, none is spun up where
-- two are down, and beside the disk that is out each stop leaves the writes.
pub record AreDisksPowered
    (k : Service) (h : History) (lo : ℕ) (s : Disks) (cs : List Call) : Type 0 where
  pub out : Option ℕ
  pub is_out : (d : ℕ) → out ≡ Some d → (k.named ≡ Some d) ⊎ (named_out k.meta.out ≡ Some d)
  pub held : Through (IsHeldWithOneMissing k.slots k.meta.setup.geometry.disks out h lo) s cs
  pub calls : EachCall (IsPowerCall k.meta) s cs
  pub serving : SpinsWhileServing (down_from_out (named_out k.meta.out)) cs

-- Of their end: the core stands for these writes, with the mark of a disk that was lost, and the
-- disks are powered by it.
pub record EndsPowered
    (k k_then : Service) (h : History) (lo : ℕ) (s : Disks) (cs : List Call) : Type 0 where
  pub keeps : ServiceStandsFor k_then h lo (run s cs)
  pub marks : IsMarkedBy (run s cs).power k.meta k_then.meta
  pub powered : ArePoweredByGear (run s cs).power k_then.meta

-- what is told of such a part, from where the core stood for these writes
abbrev pub PowersInEvent : Service → Service → History → ℕ → Disks → List Call → Type 0
PowersInEvent k k_then h lo s cs = ServiceStandsFor k h lo s
    → AreDisksPowered k h lo s cs × EndsPowered k k_then h lo s cs

-- with nothing staged its core rests: the shift that is under way, or none, is that of the last
-- commit
abbrev pub ServiceRests : Service → History → ℕ → Disks → Type 0
ServiceRests k h lo = KeepsFilled k.slots k.named k.meta k.table k.copied h lo k.meta.fill
