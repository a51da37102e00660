-- What a call leaves in which a disk is replaced.
use Rattle.std.specs.Prelude.{◌≡◌, ◌≢◌, ℕ, ◌+◌, ◌≤◌, true, length, Option, Some, slice_index}
use Rattle.paraid_base.specs.declared.fault.Two.{Two}
use Rattle.paraid_base.specs.declared.state.Out.{Out}
use Rattle.paraid_base.specs.declared.state.Out.TheVariants.{No}
use Rattle.paraid_rack.specs.Disks.{Disks, is_present}
use Rattle.paraid_rack.specs.Slots.{Slot}
use Rattle.paraid_record.specs.declared.meta.Meta.{Meta}
use Rattle.paraid_image.specs.Lost.{TellsLosses}
use Rattle.paraid_image.specs.Mark.{meta_after_loss}
use Rattle.paraid_moves.specs.MoveMetas.{meta_with_out}
use Rattle.paraid_txn.specs.Stores.{store_rack}
use Rattle.paraid_base.specs.History.{History}
use Rattle.paraid_rack.specs.Told.{Ran}
use Rattle.paraid_rack.specs.Trail.{Trail, now}
use Rattle.paraid_core.specs.declared.staged.Core.{Core}
use Rattle.paraid_event.specs.Lost.{TellsTwo}
use Rattle.paraid_event.specs.Parts.{LosesInEvent}
use Rattle.paraid_event.specs.RebuildEnds.{CommitsRejoined}
use Rattle.paraid_event.specs.Replacements.{AttachesInEvent, with_fresh}
use Rattle.paraid_event.specs.Service.{Service}
use Rattle.paraid_event.specs.Stands.{ServiceStandsFor}
use Rattle.paraid_event.specs.Steps.{MarksInMemory, ServesMarked}

-- The meta after so many commits, by which disk `disk` is out so, with no spin-up counted for it; a
-- shift down has ended, and nothing else has changed.
pub record IsReplacedFrom (m new : Meta) (disk commits : ℕ) (out : Out) : Type 0 where
  pub is : new
      ≡ record (meta_after_loss m disk) { epoch = m.epoch + commits; out = out; spins = new.spins }
  pub cleared : slice_index new.spins disk ≡ 0
  pub others : (e : ℕ) → e ≢ disk → slice_index new.spins e ≡ slice_index m.spins e

-- A disk that is there, but for this one, was there before, with the same power and size, and its
-- count of faults has not fallen.
pub record OnlyLosesBut (old new : ℕ → Slot) (disk : ℕ) : Type 0 where
  pub power : (d : ℕ) → d ≢ disk → is_present (new d).power ≡ true → (new d).power ≡ (old d).power
  pub size : (d : ℕ) → d ≢ disk → is_present (new d).power ≡ true → (new d).size ≡ (old d).size
  pub no_fall : (d : ℕ) → d ≢ disk → (old d).faults ≤ (new d).faults

-- The array and the number of its writes are as they were, and so is each disk but this one, unless
-- it was lost.
pub record LeavesArrayBut {R : Type 0}
    {g : _} (count : R → ℕ) (slot : R → ℕ → Slot) (old new : Core R g) (disk : ℕ) : Type 0 where
  pub slots : count (store_rack new.store) ≡ count (store_rack old.store)
  pub setup : new.meta.setup ≡ old.meta.setup
  pub writes : new.meta.writes ≡ old.meta.writes
  pub spared : OnlyLosesBut (slot (store_rack old.store)) (slot (store_rack new.store)) disk

-- In an event: from where so much is copied, the service is marked in memory, and the mark is
-- committed.
pub record CommitsCopies (told told_then : Option Trail)
    (k marked k_then : Service) (h : History) (lo : ℕ) (Copied : Disks → Type 0) : Type 0 where
  pub mark : MarksInMemory k marked
  pub stands : (t : Trail) → told ≡ Some t → Copied (now t) → ServiceStandsFor marked h lo (now t)
  pub ran : Ran told told_then (ServesMarked marked k_then h lo (length h))
  pub epoch : k_then.meta.epoch ≡ marked.meta.epoch + 1
  pub slots : k_then.slots ≡ marked.slots
  pub gear : marked.meta.gear ≡ k.meta.gear
  pub phase : marked.meta.phase ≡ k.meta.phase

-- In an event: from where so much is copied, the service is marked in memory, and a second disk is
-- lost in the commit of the mark.
pub record LosesCopies (told told_then : Option Trail)
    (k marked : Service) (h : History) (lo : ℕ) (two : Two) (Copied : Disks → Type 0) : Type 0 where
  pub mark : MarksInMemory k marked
  pub stands : (t : Trail) → told ≡ Some t → Copied (now t) → ServiceStandsFor marked h lo (now t)
  pub ran : Ran told told_then (λ s cs. LosesInEvent marked h lo s cs × TellsTwo marked two s cs)

-- In an event: a fresh disk `d` is attached, and a second one is lost in the commit that it is
-- there.
pub record LosesFresh (told told_then : Option Trail)
    (k : Service) (h : History) (lo d : ℕ) (two : Two) : Type 0 where
  pub attached : Option Trail
  pub attach : Ran told attached (AttachesInEvent k (with_fresh k d) h lo d true)
  pub ran : Ran attached told_then (λ s cs. LosesInEvent (with_fresh k d) h lo s cs
      × TellsTwo (with_fresh k d) two s cs)

-- In an event: from where all units of disk `d` are copied it is back in memory, and that is
-- committed.
pub record JoinsCopied (told told_then : Option Trail)
    (k joined k_then : Service) (h : History) (lo d : ℕ) (Copied : Disks → Type 0) : Type 0 where
  pub mark : joined ≡ record k { meta = meta_with_out k.meta No }
  pub stands : (t : Trail) → told ≡ Some t → Copied (now t) → ServiceStandsFor joined h lo (now t)
  pub commits : CommitsRejoined told told_then joined k_then h lo d

-- the same where a second disk is lost in the commit: disk `d` was lost first
pub record LosesJoining (told told_then : Option Trail) (k joined : Service)
    (h : History) (lo d : ℕ) (two : Two) (Copied : Disks → Type 0) : Type 0 where
  pub mark : joined ≡ record k { meta = meta_with_out k.meta No }
  pub stands : (t : Trail) → told ≡ Some t → Copied (now t) → ServiceStandsFor joined h lo (now t)
  pub ran : Ran told told_then (λ s cs. LosesInEvent joined h lo s cs × TellsLosses (Some d) two cs)
