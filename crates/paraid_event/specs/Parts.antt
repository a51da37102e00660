-- What the clauses of a core have to say of its calls in an event, so that it is one that a session
-- asks for.
use Rattle.std.specs.Prelude.{◌≡◌, ℕ, ◌+◌, ◌⊎◌, List, Option, Some}
use Rattle.paraid_base.specs.History.{History}
use Rattle.paraid_base.specs.States.{gone_out, named_out}
use Rattle.paraid_rack.specs.declared.call.Call.{Call}
use Rattle.paraid_rack.specs.Disks.{Disks}
use Rattle.paraid_rack.specs.Told.{Through}
use Rattle.paraid_rack.specs.Trail.{run}
use Rattle.paraid_record.specs.declared.meta.Meta.{Meta}
use Rattle.paraid_core.specs.Calls.{IsDataCall, IsTransferCall}
use Rattle.paraid_core.specs.CoreInvariant.{IsHeldWithOneMissing}
use Rattle.paraid_txn.specs.Commit.{IsOldOrNew}
use Rattle.paraid_txn.specs.Uses.{EachCall}
use Rattle.paraid_event.specs.Marks.{IsMarkedBy}
use Rattle.paraid_event.specs.Service.{Service}
use Rattle.paraid_event.specs.Stands.{ServiceStandsFor}

-- the meta that the next commit brings
abbrev pub committed_meta : Service → Meta
committed_meta k = record k.meta { epoch = k.meta.epoch + 1 }

-- The calls are between two commits, and no block of the log is written; or they are those of a
-- commit, or of one with others: each image stands for what the last commit left or for that with
-- all that is staged.
pub data BringsMeta (k : Service) (base : Meta) (s : Disks) (cs : List Call) : Type 0 where
  nothing : EachCall (IsDataCall k.meta.setup.geometry.disks (gone_out k.meta.out)) s cs
      → BringsMeta k base s cs
  commit : EachCall (IsTransferCall k.meta.setup.geometry.disks (gone_out k.meta.out)) s cs
      → Through (IsOldOrNew s base (committed_meta k) k.batch) s cs → BringsMeta k base s cs

-- Of the calls of a core in an event: beside the disk that is out each stop leaves the writes, and
-- which meta stands.
pub record AreEventCalls
    (k : Service) (h : History) (lo : ℕ) (base : Meta) (s : Disks) (cs : List Call) : Type 0 where
  pub out : Option ℕ
  pub is_out : (d : ℕ) → out ≡ Some d → (k.named ≡ Some d) ⊎ (named_out k.meta.out ≡ Some d)
  pub held : Through (IsHeldWithOneMissing k.slots k.meta.setup.geometry.disks out h lo) s cs
  pub brings : BringsMeta k base s cs

-- Of their end: the core stands for these writes, with the mark of a disk that was lost.
pub record EndsEvent (k k_then : Service)
    (h_then : History) (lo_then : ℕ) (s : Disks) (cs : List Call) : Type 0 where
  pub keeps : ServiceStandsFor k_then h_then lo_then (run s cs)
  pub marks : IsMarkedBy (run s cs).power k.meta k_then.meta

-- what is told of a call of a core that ends, from where it stood for these writes
abbrev pub ServesEvent : Service → Service → History → ℕ → History → ℕ → Disks → List Call → Type 0
ServesEvent k k_then h lo h_then lo_then s cs = (z : ServiceStandsFor k h lo s)
    → AreEventCalls k h lo z.base s cs × EndsEvent k k_then h_then lo_then s cs

-- what is told of one in which a second disk is lost
abbrev pub LosesInEvent : Service → History → ℕ → Disks → List Call → Type 0
LosesInEvent k h lo s cs = (z : ServiceStandsFor k h lo s) → AreEventCalls k h lo z.base s cs
