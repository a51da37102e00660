-- What a commit and a resumption leave of a store and of its rack.
use Rattle.std.specs.Prelude.{◌≡◌, ◌≢◌, ℕ, ◌+◌, Option, Some, Result, OnOk, OnErr, IfErr}
use Rattle.paraid_base.specs.declared.fault.Two.{Two}
use Rattle.paraid_rack.specs.declared.rack.Rack.{Ghosts}
use Rattle.paraid_rack.specs.Told.{Ran}
use Rattle.paraid_image.specs.Lost.{BearsLoss}
use Rattle.paraid_image.specs.Out.{named_out, or_else}
use Rattle.paraid_image.specs.Sides.{LogState}
use Rattle.paraid_txn.specs.declared.store.Store.{Store}
use Rattle.paraid_txn.specs.Losses.{AreFailedOrWell, AreGoneSince, AreTwoDownBeside, IsAlone, IsLostNow, IsOneOut, IsOnlyOut, IsOutOfCommit, IsWell, OnlyLosesSlots, StaySynced, TellsSecondLoss}
use Rattle.paraid_txn.specs.Resume.{EndsResumed, EndsLaid, OnlyReadsIfClosed, StandsWhileResumed}
use Rattle.paraid_txn.specs.Stores.{disks_of, epoch_of, named_of, store_rack}
use Rattle.paraid_txn.specs.Uses.{EachCall, Uses}

-- The store keeps its slots and its disks. A slot changes only as it becomes absent; its disk has
-- failed, or is well. It gives up only where two disks are down, of which the first may be one of
-- which `out` holds; where at most one such disk was there, it makes no call after the second has
-- failed.
pub record KeepsStore {R A : Type 0}
    {g : Ghosts R} (out : ℕ → Type 0) (old new : Store R g) (result : Result A Two) : Type 0 where
  pub slots : g.slot_count (store_rack new) ≡ g.slot_count (store_rack old)
  pub disks : disks_of new ≡ disks_of old
  pub powers : OnlyLosesSlots (g.slot (store_rack old)) (g.slot (store_rack new))
  pub each : AreFailedOrWell (g.slot (store_rack old)) (g.slot (store_rack new))
  pub two : IfErr result (AreTwoDownBeside out (g.slot (store_rack old)) (g.slot (store_rack new)))
  pub gone : IfErr result (AreGoneSince out (g.slot (store_rack old)) (g.slot (store_rack new)))
  pub order : IfErr result (TellsSecondLoss out (g.told (store_rack old)) (g.told (store_rack new)))

-- Where the commit ends, the store has the next epoch, the disk that is named out is this one, and
-- nothing became unsynced. Where it gives up, the store has the epoch and names the disk that it
-- did before.
pub record TakesCommit {R A : Type 0}
    {g : Ghosts R} (next : Option ℕ) (old new : Store R g) (result : Result A Two) : Type 0 where
  pub epoch : OnOk result (epoch_of new ≡ epoch_of old + 1)
  pub named : OnOk result (named_of new ≡ next)
  pub synced : OnOk result (StaySynced (g.slot (store_rack old)) (g.slot (store_rack new)))
  pub ended : OnErr result ((epoch_of new ≡ epoch_of old) × (named_of new ≡ named_of old))

-- The disk that is answered, if one is, is one of the array, has failed and is absent, and no disk
-- but it was out before; each other one is well. Where one disk at most was out, that one, or else
-- the first that failed, is the only one that is lost.
pub record SurvivesLoss {R : Type 0}
    {g : Ghosts R} (out : ℕ → Type 0) (old new : Store R g) (answer : Option ℕ) : Type 0 where
  pub lost : (d : ℕ)
      → answer ≡ Some d → IsLostNow (g.slot (store_rack old)) (g.slot (store_rack new)) d
  pub alone : (d : ℕ) → answer ≡ Some d → IsAlone (disks_of old) out d
  pub well : (d : ℕ)
      → answer ≢ Some d → IsWell (g.slot (store_rack old) d) (g.slot (store_rack new) d)
  pub bears : (only : Option ℕ) → IsOnlyOut out only → Ran (g.told (store_rack old))
      (g.told (store_rack new)) (λ start calls. BearsLoss only (or_else answer only) calls)

-- The commit that log disk `x` said was resumed on this rack, to its end or until a second disk was
-- lost. The rack keeps its slots; one changes only as it becomes absent; its disk has failed, or is
-- well. Each call is one of that commit. At each moment the disks stand for what they stood for as
-- it began, or, once log disk `x` is lost, for what they then stood for without it. Where all gates
-- were closed, it only reads.
pub record ResumesOn
    {R : Type 0} (g : Ghosts R) (x : ℕ) (said : LogState) (old new : R) : Type 0 where
  pub slots : g.slot_count new ≡ g.slot_count old
  pub powers : OnlyLosesSlots (g.slot old) (g.slot new)
  pub each : AreFailedOrWell (g.slot old) (g.slot new)
  pub calls : Ran (g.told old) (g.told new) (EachCall (Uses said.meta said.batch))
  pub any_moment : StandsWhileResumed (g.told old) (g.told new) x said
  pub quiet : OnlyReadsIfClosed (g.told old) (g.told new) said

-- A resumption that ends gives a store that stands by the meta that was said. Nothing became
-- unsynced, and one disk at most is out where it was so before. The commit is ended, and its batch
-- is laid.
pub record Resumes {R : Type 0}
    {g : Ghosts R} (x : ℕ) (said : LogState) (old : R) (store : Store R g) : Type 0 where
  pub on : ResumesOn g x said old (store_rack store)
  pub disks : disks_of store ≡ said.meta.setup.geometry.disks
  pub epoch : epoch_of store ≡ said.meta.epoch
  pub named : named_of store ≡ named_out said.meta.out
  pub synced : StaySynced (g.slot old) (g.slot (store_rack store))
  pub one : IsOneOut said.meta.setup.geometry.disks (named_out said.meta.out) (g.slot old)
      → IsOneOut said.meta.setup.geometry.disks
      (named_out said.meta.out) (g.slot (store_rack store))
  pub ended : EndsResumed (g.told old) (g.told (store_rack store)) x said
  pub laid : EndsLaid (g.told old) (g.told (store_rack store)) x said

-- disk `e` was absent as the resumption began, or the meta that was said names it out
abbrev pub IsOutOfResume : {R : Type 0} → Ghosts R → LogState → R → ℕ → Type 0
IsOutOfResume g said old = IsOutOfCommit (λ e. (g.slot old e).power) said.meta.setup.geometry.disks
    (named_out said.meta.out) (named_out said.meta.out)

-- A resumption gives up only where two disks are down; the first may be one that was absent or
-- named out. Where at most one was so, it makes no call after the second has failed.
pub record RefusesResume
    {R : Type 0} (g : Ghosts R) (x : ℕ) (said : LogState) (old new : R) (down : Two) : Type 0 where
  pub on : ResumesOn g x said old new
  pub two : AreTwoDownBeside (IsOutOfResume g said old) (g.slot old) (g.slot new) down
  pub gone : AreGoneSince (IsOutOfResume g said old) (g.slot old) (g.slot new) down
  pub order : TellsSecondLoss (IsOutOfResume g said old) (g.told old) (g.told new) down
