-- A disk that is replaced: its mark, the attach of a fresh one, and the mark that it is there.
use Rattle.std.specs.Prelude.{◌≡◌, ◌≢◌, ℕ, ◌+◌, Bool, List, [], ◌∷◌, length, Option, Some, slice_index, true, false}
use Rattle.paraid_base.specs.declared.fault.Two.{Two}
use Rattle.paraid_base.specs.declared.state.Out.TheVariants.{Fresh, Gone}
use Rattle.paraid_base.specs.History.{History}
use Rattle.paraid_base.specs.Regions.{disk_size}
use Rattle.paraid_rack.specs.declared.call.Call.{Call}
use Rattle.paraid_rack.specs.declared.call.Call.TheVariants.{Attach}
use Rattle.paraid_rack.specs.Disks.{Disks}
use Rattle.paraid_rack.specs.Told.{Ran, Through}
use Rattle.paraid_rack.specs.Trail.{Trail, now, run}
use Rattle.paraid_image.specs.Mark.{meta_after_loss}
use Rattle.paraid_core.specs.CoreInvariant.{AreCopiesSynced, IsHeldWithOneMissing}
use Rattle.paraid_core.specs.Replaced.{KeepsCommitted}
use Rattle.paraid_moves.specs.MoveMetas.{meta_with_out}
use Rattle.paraid_event.specs.Lost.{TellsTwo}
use Rattle.paraid_event.specs.Parts.{LosesInEvent, ServesEvent}
use Rattle.paraid_event.specs.Service.{Service}
use Rattle.paraid_event.specs.Stands.{ServiceStandsFor}
use Rattle.paraid_event.specs.Upshift.{IsCountedAs}

-- The disk that is out is marked as gone, and its spin-ups are forgotten.
pub record MarksReplaced (k marked : Service) (d : ℕ) : Type 0 where
  pub mark : marked
      ≡ record k { meta = record (meta_after_loss k.meta d) { spins = marked.meta.spins } }
  pub as_many : length marked.meta.spins ≡ length k.meta.spins
  pub cleared : slice_index marked.meta.spins d ≡ 0
  pub others : (e : ℕ) → e ≢ d → slice_index marked.meta.spins e ≡ slice_index k.meta.spins e

-- It was a commit of all that was staged: what an array counts itself and the dirty cells are as
-- they were.
pub record CommitsAll (k k_then : Service) : Type 0 where
  pub epoch : k_then.meta.epoch ≡ k.meta.epoch + 1
  pub nothing_staged : k_then.batch ≡ []
  pub counts : IsCountedAs k k_then
  pub energy : k_then.energy ≡ k.energy
  pub copies_synced : AreCopiesSynced k_then.meta.setup.geometry.disks k_then.copied

-- The disk that is out is marked so, and the mark is committed.
pub record CommitsReplaced
    (told mid : Option Trail) (k marked committed : Service) (h : History) (lo d : ℕ) : Type 0 where
  pub marks : MarksReplaced k marked d
  pub stands : (t : Trail)
      → told ≡ Some t → ServiceStandsFor k h lo (now t) → ServiceStandsFor marked h lo (now t)
  pub ran : Ran told mid (ServesEvent marked committed h lo h (length h))
  pub ends : CommitsAll marked committed

-- a fresh disk `d` is there, of which no unit is rebuilt
abbrev pub with_fresh : Service → ℕ → Service
with_fresh k d = record k { meta = meta_with_out k.meta (Fresh d 0) }

-- The one call of an attach, done or failed: beside the disk that is out each stop leaves the
-- writes.
pub record IsAttachCall
    (k : Service) (h : History) (lo d : ℕ) (done : Bool) (s : Disks) (cs : List Call) : Type 0 where
  pub is : cs ≡ Attach d (disk_size k.meta.setup.geometry) done ∷ []
  pub held : Through (IsHeldWithOneMissing k.slots k.meta.setup.geometry.disks k.named h lo) s cs

-- what is told of it, from where nothing is staged and the disk is gone by the last commit
abbrev pub AttachesInEvent : Service → Service → History → ℕ → ℕ → Bool → Disks → List Call → Type 0
AttachesInEvent k k_then h lo d done s cs =
    KeepsCommitted k.slots k.named k.meta k.table k.copied h lo (Gone d) s
    → IsAttachCall k h lo d done s cs × ServiceStandsFor k_then h lo (run s cs)

-- A fresh disk is attached, and that it is there is committed.
pub record CommitsFresh
    (mid told_then : Option Trail) (k k_then : Service) (h : History) (lo d : ℕ) : Type 0 where
  pub attached : Option Trail
  pub attach : Ran mid attached (AttachesInEvent k (with_fresh k d) h lo d true)
  pub ran : Ran attached told_then (ServesEvent (with_fresh k d) k_then h lo h (length h))
  pub ends : CommitsAll (with_fresh k d) k_then

-- A fresh disk came, which may be lost again in the commit; or the attach has failed, and all is as
-- it was.
pub data BringsFresh
    (mid told_then : Option Trail) (k k_then : Service) (h : History) (lo d : ℕ) : Type 0 where
  came : CommitsFresh mid told_then k k_then h lo d → BringsFresh mid told_then k k_then h lo d
  failed : k_then ≡ k → Ran mid told_then (AttachesInEvent k k h lo d false)
      → BringsFresh mid told_then k k_then h lo d

-- All calls in which a disk is replaced.
pub record ReplacesDisk
    (told told_then : Option Trail) (k k_then : Service) (h : History) (lo d : ℕ) : Type 0 where
  pub mid : Option Trail
  pub marked : Service
  pub committed : Service
  pub commits : CommitsReplaced told mid k marked committed h lo d
  pub brings : BringsFresh mid told_then committed k_then h lo d

-- A second disk is lost in it, in the commit of the mark or in that of the fresh disk.
pub data LosesReplaced (told told_then : Option Trail)
    (k : Service) (h : History) (lo d : ℕ) (two : Two) : Type 0 where
  first : (marked : Service) → MarksReplaced k marked d → ((t : Trail)
      → told ≡ Some t → ServiceStandsFor k h lo (now t) → ServiceStandsFor marked h lo (now t))
      → Ran told told_then (λ s cs. LosesInEvent marked h lo s cs × TellsTwo marked two s cs)
      → LosesReplaced told told_then k h lo d two
  second : (mid attached : Option Trail) (marked committed : Service)
      → CommitsReplaced told mid k marked committed h lo d
      → Ran mid attached (AttachesInEvent committed (with_fresh committed d) h lo d true)
      → Ran attached told_then (λ s cs. LosesInEvent (with_fresh committed d) h lo s cs
      × TellsTwo (with_fresh committed d) two s cs) → LosesReplaced told told_then k h lo d two
