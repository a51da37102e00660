-- The end of a rebuild: the units that are left are copied, the disk is back by a commit, and it is
-- parked where the gear does not need it.
use Rattle.std.specs.Prelude.{◌≡◌, ℕ, ◌+◌, ◌<◌, ◌≤◌, ◌⊎◌, Bool, true, false, List, [], ◌∷◌, length, Option, Some, None}
use Rattle.paraid_base.specs.declared.fault.Two.{Two}
use Rattle.paraid_base.specs.declared.state.Out.TheVariants.{Gone, No}
use Rattle.paraid_base.specs.History.{History}
use Rattle.paraid_base.specs.States.{gone_out, named_out, rising_to}
use Rattle.paraid_rack.specs.declared.call.Call.{Call}
use Rattle.paraid_rack.specs.declared.call.Call.TheVariants.{Park}
use Rattle.paraid_rack.specs.Disks.{Disks, is_present}
use Rattle.paraid_rack.specs.Lawful.{IsLawful}
use Rattle.paraid_rack.specs.Told.{Ran, Through}
use Rattle.paraid_rack.specs.Trail.{Trail, now, run}
use Rattle.paraid_image.specs.Lost.{TellsLosses}
use Rattle.paraid_image.specs.Mark.{meta_after_loss}
use Rattle.paraid_core.specs.Calls.{IsDataCall}
use Rattle.paraid_core.specs.CoreInvariant.{IsHeldWithOneMissing}
use Rattle.paraid_moves.specs.MoveMetas.{meta_with_out}
use Rattle.paraid_txn.specs.Uses.{EachCall}
use Rattle.paraid_event.specs.Parts.{LosesInEvent, ServesEvent}
use Rattle.paraid_event.specs.Powering.{ServiceRests}
use Rattle.paraid_event.specs.Service.{Service}
use Rattle.paraid_event.specs.Stands.{ServiceStandsFor}
use Rattle.paraid_event.specs.Steps.{LosesInSteps, ServesAndMarks, StepsInEvent}

-- what is told of the calls by which the units that are left are copied: they are between two
-- commits, and after them the core stands also with the disk back in memory
abbrev pub CopiesRest : Service → Service → Service → History → ℕ → Disks → List Call → Type 0
CopiesRest k copied joined h lo s cs = ServesAndMarks k copied joined h lo s cs
    × EachCall (IsDataCall k.meta.setup.geometry.disks (gone_out k.meta.out)) s cs

-- The units that are left of a disk that is being rebuilt are copied, and it is back in memory.
pub record RejoinsDisk
    (told mid : Option Trail) (k copied joined : Service) (h : History) (lo : ℕ) : Type 0 where
  pub there : gone_out k.meta.out ≡ None
  pub ran : Ran told mid (CopiesRest k copied joined h lo)
  pub same : copied.meta ≡ k.meta
  pub slots : copied.slots ≡ k.slots
  pub mark : joined ≡ record copied { meta = meta_with_out copied.meta No }

-- That is committed; disk `d` alone may be lost in it.
pub record CommitsRejoined
    (mid told_then : Option Trail) (joined k_then : Service) (h : History) (lo d : ℕ) : Type 0 where
  pub ran : Ran mid told_then (ServesEvent joined k_then h lo h (length h))
  pub alone : (e : ℕ) → named_out k_then.meta.out ≡ Some e → e ≡ d
  pub epoch : k_then.meta.epoch ≡ joined.meta.epoch + 1
  pub slots : k_then.slots ≡ joined.slots
  pub nothing_staged : k_then.batch ≡ []

-- The disk is back, and the marks are as they were but for that.
pub record MarksRejoined (k k_then : Service) : Type 0 where
  pub is : k_then.meta
      ≡ record (meta_with_out k.meta No) { epoch = k_then.meta.epoch; writes = k_then.meta.writes }

-- Disk `d` was lost as the units that were left were copied, and is gone; or they were copied, and
-- it is back by a commit or was lost in that.
pub data FinishesRebuild
    (told told_then : Option Trail) (k k_then : Service) (h : History) (lo d : ℕ) : Type 0 where
  copying : k_then.meta.out ≡ Gone d
      → ((t : Trail) → told_then ≡ Some t → is_present ((now t).power d) ≡ false)
      → Ran told told_then (StepsInEvent k k_then h lo 0)
      → FinishesRebuild told told_then k k_then h lo d
  committing : (mid : Option Trail) (copied joined : Service)
      → RejoinsDisk told mid k copied joined h lo
      → CommitsRejoined mid told_then joined k_then h lo d
      → FinishesRebuild told told_then k k_then h lo d

-- A second disk is lost as they are copied or in that commit; in the commit it is disk `d` that was
-- lost first.
pub data LosesFinishing (told told_then : Option Trail)
    (k : Service) (h : History) (lo d : ℕ) (two : Two) : Type 0 where
  as_copied : Ran told told_then (LosesInSteps k h lo 0 two)
      → LosesFinishing told told_then k h lo d two
  as_committed : (mid : Option Trail) (copied joined : Service)
      → RejoinsDisk told mid k copied joined h lo
      → Ran mid told_then (λ s cs. LosesInEvent joined h lo s cs × TellsLosses (Some d) two cs)
      → LosesFinishing told told_then k h lo d two

-- The one call of a park, done or failed: beside the disk that is out by the last commit each stop
-- leaves the writes.
pub record IsParkCall
    (k : Service) (h : History) (lo d : ℕ) (done : Bool) (s : Disks) (cs : List Call) : Type 0 where
  pub is : cs ≡ Park d done ∷ []
  pub lawful : IsLawful s (Park d done)
  pub held : Through (IsHeldWithOneMissing k.slots k.meta.setup.geometry.disks k.named h lo) s cs

-- what is told of it, from where the core rests
abbrev pub ParksInEvent : Service → Service → History → ℕ → ℕ → Bool → Disks → List Call → Type 0
ParksInEvent k k_then h lo d done s cs = ServiceRests k h lo s
    → IsParkCall k h lo d done s cs × ServiceStandsFor k_then h lo (run s cs)

-- Disk `d` spins on where the gear needs it, or is parked, or is lost in that and gone.
pub data ParksBack
    (mid told_then : Option Trail) (k k_then : Service) (h : History) (lo d : ℕ) : Type 0 where
  stays : (d < k.meta.gear) ⊎ (d < rising_to k.meta.phase)
      → told_then ≡ mid → k_then ≡ k → ParksBack mid told_then k k_then h lo d
  parks : k.meta.gear ≤ d → rising_to k.meta.phase ≤ d → k_then.slots ≡ k.slots
      → k_then.meta ≡ k.meta → Ran mid told_then (ParksInEvent k k_then h lo d true)
      → ParksBack mid told_then k k_then h lo d
  fails : k.meta.gear ≤ d
      → rising_to k.meta.phase ≤ d → k_then.slots ≡ k.slots → k_then.meta ≡ meta_after_loss k.meta d
      → Ran mid told_then (ParksInEvent k k_then h lo d false)
      → ParksBack mid told_then k k_then h lo d
