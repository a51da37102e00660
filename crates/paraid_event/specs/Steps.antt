-- Parts of an event, one after the other: copies, marks, commits, and disks that are powered.
use Rattle.std.specs.Prelude.{◌≡◌, ℕ, ◌+◌, ◌<◌, ◌≤◌, ◌⊎◌, true, List, Option, Some, slice_index, if◌then◌else◌}
use Rattle.paraid_base.specs.History.{History}
use Rattle.paraid_base.specs.declared.fault.Two.{Two}
use Rattle.paraid_base.specs.declared.state.Out.TheVariants.{Fresh}
use Rattle.paraid_base.specs.States.{gone_out, has_out, is_out, named_out, phase_beside}
use Rattle.paraid_rack.specs.declared.call.Call.{Call}
use Rattle.paraid_rack.specs.declared.call.Power.{Power}
use Rattle.paraid_rack.specs.Disks.{Disks, IsPresent}
use Rattle.paraid_rack.specs.Trail.{run}
use Rattle.paraid_record.specs.declared.meta.Meta.{Meta}
use Rattle.paraid_image.specs.Power.{power_by_gear}
use Rattle.paraid_image.specs.Spins.{made_spin_ups}
use Rattle.paraid_session.specs.Ups.{spin_up_count}
use Rattle.paraid_session.specs.Watch.{Bounds, Down, Each, HoldsWhileServing, IsAllowed, Watch, attach_count, fails_on, first_lost, nobody, only, several, watch_all}
use Rattle.paraid_event.specs.Lost.{TellsTwo}
use Rattle.paraid_event.specs.Marks.{ArePoweredByGear, ShowsMeta}
use Rattle.paraid_event.specs.Parts.{AreEventCalls, EndsEvent}
use Rattle.paraid_event.specs.Powering.{AreDisksPowered, EndsPowered}
use Rattle.paraid_event.specs.Service.{Service}
use Rattle.paraid_event.specs.Stands.{IsMidway, ServiceStandsFor}

-- at most this disk is down
abbrev pub IsOnly : Option ℕ → Down → Type 0
IsOnly o nobody = Unit {0}
IsOnly o (only d) = o ≡ Some d
IsOnly o several = ⊥

-- the phase and the fill mark of a meta go with the disk that it names out
pub record IsSettled (m : Meta) : Type 0 where
  pub phase : phase_beside (has_out m.out) m.phase ≡ m.phase
  pub fill : (if has_out m.out then 0 else m.fill) ≡ m.fill

-- In the middle of an event, between two parts of it: the core stands, no disk is down but the one
-- that it names out, and the disks show the meta in memory and are powered by it.
pub record IsUnderway (k : Service) (h : History) (lo : ℕ) (base : Meta) (w : Watch) : Type 0 where
  pub midway : IsMidway k h lo base w
  pub only : IsOnly (named_out k.meta.out) w.down
  pub shown : ShowsMeta w.disks.power base k.meta
  pub powered : ArePoweredByGear w.disks.power k.meta

-- The same with marks in memory that the next commit is to bring: the disks do not show them yet,
-- and are powered by the gear and the phase of the meta `powers`.
pub record AwaitsCommit
    (k : Service) (powers : Meta) (h : History) (lo : ℕ) (base : Meta) (w : Watch) : Type 0 where
  pub midway : IsMidway k h lo base w
  pub only : IsOnly (named_out k.meta.out) w.down
  pub settled : IsSettled k.meta
  pub powered : ArePoweredByGear w.disks.power
      (record k.meta { gear = powers.gear; phase = powers.phase })

-- Of the calls of parts of an event, from a watch on under the meta `base`: each is allowed and
-- holds what a session asks, with room for so many commits; and no disk is attached.
pub record AreStepCalls (k : Service)
    (h : History) (lo most : ℕ) (base : Meta) (w : Watch) (cs : List Call) : Type 0 where
  pub moments : (b : Bounds) (asked : Option ℕ)
      → k.meta.setup ≡ b.setup → k.meta.ticks ≤ b.ticks → base.epoch + most ≤ b.epoch
      → Each (HoldsWhileServing k.slots h lo b) (IsAllowed b.setup asked) w cs
  pub attaches : attach_count cs ≡ 0

-- how many of the spin-ups that a meta has recorded of disk `d` were made, by these powers: all but
-- one that is to be made, and all of a disk that is gone
abbrev pub made_by : Meta → (ℕ → Power) → ℕ → ℕ
made_by m power d =
    if is_out (gone_out m.out) d then slice_index m.spins d else made_spin_ups m power d

-- Of the service after them: a disk that failed is named out, and one that is named out was so or
-- is the first that failed. Which disk is awaited stays.
pub record LeavesService (k k_then : Service) (w : Watch) (cs : List Call) : Type 0 where
  pub slots : k_then.slots ≡ k.slots
  pub setup : k_then.meta.setup ≡ k.meta.setup
  pub ticks : k_then.meta.ticks ≡ k.meta.ticks
  pub failed : (e : ℕ) → fails_on e cs ≡ true → named_out k_then.meta.out ≡ Some e
  pub still : (e : ℕ) → named_out k.meta.out ≡ Some e → named_out k_then.meta.out ≡ Some e
  pub newly : (e : ℕ) → named_out k_then.meta.out ≡ Some e
      → (named_out k.meta.out ≡ Some e) ⊎ (first_lost cs ≡ Some e)
  pub awaited : (watch_all cs w).awaited ≡ w.awaited
  pub used : (d : ℕ) → d < k.meta.setup.geometry.disks → spin_up_count d cs
      + made_by k.meta w.disks.power d ≤ made_by k_then.meta (watch_all cs w).disks.power d

-- Parts of an event go from a watch on under `base` to a meta that stands then, at most so many
-- commits later.
pub record GoesInSteps (k k_then : Service) (h : History) (lo most : ℕ)
    (Ends : Meta → Watch → Type 0) (base : Meta) (w : Watch) (cs : List Call) : Type 0 where
  pub calls : AreStepCalls k h lo most base w cs
  pub leaves : LeavesService k k_then w cs
  pub base_then : Meta
  pub room : base_then.epoch ≤ base.epoch + most
  -- it is the same, or has brought all ticks
  pub carried : (base_then ≡ base) ⊎ (base_then.ticks ≡ k_then.meta.ticks)
  pub ends : Ends base_then (watch_all cs w)

-- what is told of parts of an event, from wherever it is underway on these disks to where it is so
-- again
abbrev pub StepsInEvent : Service → Service → History → ℕ → ℕ → Disks → List Call → Type 0
StepsInEvent k k_then h lo most s cs = (base : Meta) (w : Watch) → w.disks ≡ s
    → IsUnderway k h lo base w → GoesInSteps k k_then h lo most (IsUnderway k_then h lo) base w cs

-- the same to where marks in memory await a commit, of disks that are powered by the meta `powers`
abbrev pub StepsToMark : Service → Service → Meta → History → ℕ → ℕ → Disks → List Call → Type 0
StepsToMark k k_then powers h lo most s cs = (base : Meta) (w : Watch)
    → w.disks ≡ s → IsUnderway k h lo base w
    → GoesInSteps k k_then h lo most (AwaitsCommit k_then powers h lo) base w cs

-- what is told of parts of an event in which a second disk is lost
abbrev pub LosesInSteps : Service → History → ℕ → ℕ → Two → Disks → List Call → Type 0
LosesInSteps k h lo most two s cs = (base : Meta) (w : Watch) → w.disks ≡ s
    → IsUnderway k h lo base w → AreStepCalls k h lo most base w cs × TellsTwo k two s cs

-- A mark in memory, of which the next commit is to tell: the same disk is out, and of no disk are
-- fewer spin-ups recorded.
pub record MarksInMemory (k k_then : Service) : Type 0 where
  pub slots : k_then.slots ≡ k.slots
  pub named : k_then.named ≡ k.named
  pub setup : k_then.meta.setup ≡ k.meta.setup
  pub ticks : k_then.meta.ticks ≡ k.meta.ticks
  pub names : named_out k_then.meta.out ≡ named_out k.meta.out
  pub gone : gone_out k_then.meta.out ≡ gone_out k.meta.out
  pub settled : IsSettled k_then.meta
  pub used : (power : ℕ → Power) (d : ℕ) → d < k.meta.setup.geometry.disks
      → made_spin_ups k.meta power d ≤ made_spin_ups k_then.meta power d

-- what is told of one call of a core that ends, from where the disks show its meta
abbrev pub ServesShown : Service → Service → History → ℕ → ℕ → Disks → List Call → Type 0
ServesShown k k_then h lo lo_then s cs = (z : ServiceStandsFor k h lo s)
    → ShowsMeta s.power z.base k.meta
    → AreEventCalls k h lo z.base s cs × EndsEvent k k_then h lo_then s cs

-- what is told of a commit that brings marks, from where a disk that is being rebuilt is there
abbrev pub ServesMarked : Service → Service → History → ℕ → ℕ → Disks → List Call → Type 0
ServesMarked k k_then h lo lo_then s cs = (z : ServiceStandsFor k h lo s)
    → ((d rebuilt : ℕ) → k.meta.out ≡ Fresh d rebuilt → IsPresent s d)
    → AreEventCalls k h lo z.base s cs × EndsEvent k k_then h lo_then s cs

-- what is told of calls after which a mark was made: `unmarked` is the service before it, and the
-- core stands with the mark too
abbrev pub ServesAndMarks : Service → Service → Service → History → ℕ → Disks → List Call → Type 0
ServesAndMarks k unmarked k_then h lo s cs = (z : ServiceStandsFor k h lo s)
    → ShowsMeta s.power z.base k.meta → AreEventCalls k h lo z.base s cs
    × EndsEvent k unmarked h lo s cs × ServiceStandsFor k_then h lo (run s cs)

-- what is told of disks that are spun up or parked, from where the disks show the meta in memory
-- and are powered by the gear and the phase of the meta `powers`, but for the one that is out
abbrev pub PowersFrom : Meta → Service → Service → History → ℕ → Disks → List Call → Type 0
PowersFrom powers k k_then h lo s cs = (z : ServiceStandsFor k h lo s)
    → ShowsMeta s.power z.base k.meta → ((d : ℕ) → d < k.meta.setup.geometry.disks
    → (named_out k.meta.out ≡ Some d → ⊥) → s.power d ≡ power_by_gear powers.gear powers.phase d)
    → AreDisksPowered k h lo s cs × EndsPowered k k_then h lo s cs

-- what is told of one call of a core in which a second disk is lost, from where the disks show its
-- meta; and of disks that are powered
abbrev pub LosesShown : Service → History → ℕ → Disks → List Call → Type 0
LosesShown k h lo s cs = (z : ServiceStandsFor k h lo s)
    → ShowsMeta s.power z.base k.meta → AreEventCalls k h lo z.base s cs

-- the same of calls by which disks are spun up or parked
abbrev pub LosesPowered : Service → History → ℕ → Disks → List Call → Type 0
LosesPowered k h lo s cs = (z : ServiceStandsFor k h lo s)
    → ShowsMeta s.power z.base k.meta → AreDisksPowered k h lo s cs
