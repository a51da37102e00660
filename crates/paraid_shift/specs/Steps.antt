-- A call of a core as parts of an event.
use Rattle.std.specs.Prelude.{◌≡◌, ℕ, ◌+◌, ◌<◌, ◌≤◌, ◌⊎◌, false, List, Option, Some, slice_index}
use Rattle.paraid_base.specs.History.{History}
use Rattle.paraid_base.specs.declared.fault.Two.{Two}
use Rattle.paraid_base.specs.States.{named_out}
use Rattle.paraid_rack.specs.Disks.{is_present}
use Rattle.paraid_rack.specs.Slots.{Slot}
use Rattle.paraid_rack.specs.Told.{Ran}
use Rattle.paraid_rack.specs.Trail.{Trail, now}
use Rattle.paraid_record.specs.declared.meta.Meta.{Meta}
use Rattle.paraid_txn.specs.Stores.{store_rack}
use Rattle.paraid_core.specs.declared.staged.Core.{Core}
use Rattle.paraid_image.specs.Mark.{meta_with_lost}
use Rattle.paraid_base.specs.declared.state.Out.TheVariants.{No}
use Rattle.paraid_base.specs.declared.state.Phase.TheVariants.{Up}
use Rattle.paraid_moves.specs.MoveMetas.{meta_after_begin}
use Rattle.paraid_core.specs.Cores.{CoreStandsFor}
use Rattle.paraid_core.specs.Steps.{IsMarkedFrom}
use Rattle.paraid_event.specs.Lost.{TellsTwo}
use Rattle.paraid_event.specs.Parts.{LosesInEvent}
use Rattle.paraid_event.specs.Powering.{ArePowerCalls}
use Rattle.paraid_event.specs.Service.{Service, service_of}
use Rattle.paraid_event.specs.Stands.{ServiceStandsFor}
use Rattle.paraid_event.specs.Steps.{LosesInSteps, ServesMarked, StepsInEvent, StepsToMark}
use Rattle.paraid_shift.specs.Units.{AreUnitsDone}

-- From wherever an event is underway with this core it is so after the call, at most so many
-- commits later.
abbrev pub CoreStepsInEvent : {R : Type 0} {g : _}
    → (R → ℕ) → (R → Option Trail) → Core R g → Core R g → ℕ → Type 0
CoreStepsInEvent count told old new most =
    (h : History) (lo : ℕ) (samples : List ℕ) (served energy : ℕ)
    → Ran (told (store_rack old.store)) (told (store_rack new.store)) (StepsInEvent (service_of
    count old samples served energy) (service_of count new samples served energy) h lo most)

-- The same to where marks in memory await a commit, with the disks powered by the meta `powers`.
abbrev pub CoreStepsToMark : {R : Type 0} {g : _}
    → (R → ℕ) → (R → Option Trail) → Core R g → Core R g → Meta → ℕ → Type 0
CoreStepsToMark count told old new powers most =
    (h : History) (lo : ℕ) (samples : List ℕ) (served energy : ℕ)
    → Ran (told (store_rack old.store)) (told (store_rack new.store)) (StepsToMark (service_of
    count old samples served energy) (service_of count new samples served energy) powers h lo most)

-- What is told of a commit that brings marks.
abbrev pub CoreServesMarked : {R : Type 0} {g : _}
    → (R → ℕ) → (R → Option Trail) → Core R g → Core R g → Type 0
CoreServesMarked count told old new = (h : History) (lo : ℕ) (samples : List ℕ) (served energy : ℕ)
    → Ran (told (store_rack old.store)) (told (store_rack new.store)) (ServesMarked (service_of
    count old samples served energy) (service_of count new samples served energy) h lo lo)

-- What is told of a commit in which a second disk is lost, from wherever the core stands.
abbrev pub CoreLosesInEvent : {R : Type 0} {g : _}
    → (R → ℕ) → (R → Option Trail) → Core R g → Core R g → Two → Type 0
CoreLosesInEvent count told old new two =
    (h : History) (lo : ℕ) (samples : List ℕ) (served energy : ℕ)
    → Ran (told (store_rack old.store)) (told (store_rack new.store)) (λ s cs.
    LosesInEvent (service_of count old samples served energy) h lo s cs
    × TellsTwo (service_of count old samples served energy) two s cs)

-- This meta can wait in memory where the core stands, and what is told of the commit that brings
-- it.
pub record CommitsMark {R : Type 0}
    {g : _} (count : R → ℕ) (told : R → Option Trail) (old new : Core R g) (m : Meta) : Type 0 where
  pub stands : (h : History) (lo : ℕ) (samples : List ℕ) (served energy : ℕ) (t : Trail)
      → told (store_rack old.store) ≡ Some t
      → CoreStandsFor count old h lo (now t) → ServiceStandsFor
      (record (service_of count old samples served energy) { meta = m }) h lo (now t)
  pub serves : (h : History) (lo : ℕ) (samples : List ℕ) (served energy : ℕ)
      → Ran (told (store_rack old.store)) (told (store_rack new.store))
      (ServesMarked (record (service_of count old samples served energy) { meta = m })
      (service_of count new samples served energy) h lo lo)

-- Wherever the last marks of a shift wait for a commit, the call brings them, with one commit more.
abbrev pub EndsInSteps : {R : Type 0} {g : _}
    → (R → ℕ) → (R → Option Trail) → Core R g → Core R g → Type 0
EndsInSteps count told old new = (before : Option Trail) (k : Service) (h : History)
    (lo most : ℕ) (samples : List ℕ) (served energy : ℕ) → Ran before (told (store_rack old.store))
    (StepsToMark k (service_of count old samples served energy) old.meta h lo most)
    → Ran before (told (store_rack new.store))
    (StepsInEvent k (service_of count new samples served energy) h lo (most + 1))

-- A shift up waits in memory, with a spin-up recorded of each disk that comes up, and this commit
-- brings it.
pub record OpensUp {R : Type 0}
    {g : _} (count : R → ℕ) (told : R → Option Trail) (old new : Core R g) (to : ℕ) : Type 0 where
  pub spins : List ℕ
  pub raised : (d : ℕ)
      → old.meta.gear ≤ d → d < to → slice_index spins d ≡ slice_index old.meta.spins d + 1
  pub others : (d : ℕ)
      → (d < old.meta.gear) ⊎ (to ≤ d) → slice_index spins d ≡ slice_index old.meta.spins d
  pub marks : IsMarkedFrom
      (record (meta_after_begin old.meta (Up to) spins) { epoch = old.meta.epoch + 1 }) new.meta
  pub opens : CommitsMark count told old new (meta_after_begin old.meta (Up to) spins)

-- each call is one by which the meta has a disk powered, and none is spun up where two are down
abbrev pub MakesPowerCalls : {R : Type 0} {g : _}
    → (R → Option Trail) → Core R g → Core R g → Type 0
MakesPowerCalls told old new =
    Ran (told (store_rack old.store)) (told (store_rack new.store)) (ArePowerCalls old.meta)

-- After disks were powered the meta is as it was, but for the mark of a disk that was lost: it is
-- absent.
pub record MarksPowered (slot_then : ℕ → Slot) (m m_then : Meta) : Type 0 where
  pub lost : Option ℕ
  pub is : m_then ≡ meta_with_lost lost m
  pub disk : (d : ℕ) → lost ≡ Some d → d < m.setup.geometry.disks
  pub alone : (d x : ℕ) → lost ≡ Some d → named_out m.out ≡ Some x → x ≡ d
  pub absent : (d : ℕ) → lost ≡ Some d → is_present (slot_then d).power ≡ false

-- An event is underway after the call, or no unit of the shift is left, no disk is out, and its
-- last marks wait for a commit.
abbrev pub StepsOrWaits : {R : Type 0} {g : _}
    → (R → ℕ) → (R → Option Trail) → Core R g → Core R g → ℕ → Type 0
StepsOrWaits count told old new most =
    CoreStepsInEvent count told old new most
    ⊎ ((AreUnitsDone new.meta new.dirty × (new.meta.out ≡ No))
    × CoreStepsToMark count told old new new.meta most)

-- From wherever an event is underway with this core, a second disk is lost in the call, with at
-- most so many commits.
abbrev pub CoreLosesInSteps : {R : Type 0} {g : _}
    → (R → ℕ) → (R → Option Trail) → Core R g → Core R g → ℕ → Two → Type 0
CoreLosesInSteps count told old new most two =
    (h : History) (lo : ℕ) (samples : List ℕ) (served energy : ℕ)
    → Ran (told (store_rack old.store)) (told (store_rack new.store))
    (LosesInSteps (service_of count old samples served energy) h lo most two)

-- Wherever the last marks of a shift wait for a commit, a second disk is lost in the call that is
-- to bring them.
abbrev pub EndsLosing : {R : Type 0} {g : _}
    → (R → ℕ) → (R → Option Trail) → Core R g → Core R g → Two → Type 0
EndsLosing count told old new two = (before : Option Trail) (k : Service) (h : History)
    (lo most : ℕ) (samples : List ℕ) (served energy : ℕ) → Ran before (told (store_rack old.store))
    (StepsToMark k (service_of count old samples served energy) old.meta h lo most)
    → Ran before (told (store_rack new.store)) (LosesInSteps k h lo (most + 1) two)
