-- What copies past the log ask, and what they leave.
use Rattle.std.specs.Prelude.{◌≡◌, ℕ, ◌<◌, ◌≤◌, [], Bool, true, false, Result, Ok, OnOk}
use Rattle.paraid_base.specs.declared.fault.Two.{Two}
use Rattle.paraid_base.specs.declared.state.Out.TheVariants.{No}
use Rattle.paraid_base.specs.History.{History}
use Rattle.paraid_base.specs.Soft.{stripe_count}
use Rattle.paraid_base.specs.States.{phase_to, rising_to}
use Rattle.paraid_dirty.specs.Table.{is_dirty}
use Rattle.paraid_rack.specs.declared.rack.Rack.{Ghosts}
use Rattle.paraid_rack.specs.Disks.{Disks}
use Rattle.paraid_rack.specs.Told.{CrashTriple, Ran}
use Rattle.paraid_image.specs.Out.{named_out}
use Rattle.paraid_txn.specs.Losses.{StaySynced}
use Rattle.paraid_txn.specs.Stores.{store_rack}
use Rattle.paraid_core.specs.declared.staged.Core.{Core}
use Rattle.paraid_core.specs.Answers.{AnswersCoreLosses}
use Rattle.paraid_core.specs.Calls.{MakesDataCalls}
use Rattle.paraid_core.specs.CellCopies.{StaysCopied}
use Rattle.paraid_core.specs.Cores.{CoreStandsFor, IsCoreHeldSinceCommit}
use Rattle.paraid_core.specs.Fills.{StaysFilled}
use Rattle.paraid_core.specs.Steps.{IsHeldStill, LeavesCore, StandsStill}
use Rattle.paraid_core.specs.Units.{StaysRebuilt}

-- Stripe `s` of the region of the new gear can be copied: a shift is under way with no disk out,
-- the stripe is not filled, and nothing is staged.
pub record CanFillStripe {R : Type 0} {g : Ghosts R} (core : Core R g) (s : ℕ) : Type 0 where
  pub whole : core.meta.out ≡ No
  pub shifts : 0 < phase_to core.meta.phase
  pub region : phase_to core.meta.phase < core.meta.setup.geometry.disks
  pub from : core.meta.fill ≤ s
  pub stripe : s < stripe_count core.meta.setup.geometry.disks core.meta.setup.geometry.rows
      (phase_to core.meta.phase)
  pub nothing : core.batch ≡ []

-- The cell of row `r` and this disk can be copied to its hard place: it is dirty, the disk comes
-- up, no disk is out, and nothing is staged.
pub record CanCopyCell {R : Type 0} {g : Ghosts R} (core : Core R g) (r disk : ℕ) : Type 0 where
  pub whole : core.meta.out ≡ No
  pub row : r < core.meta.setup.geometry.rows
  pub past_gear : core.meta.gear ≤ disk
  pub rises : disk < rising_to core.meta.phase
  pub dirty : is_dirty core.dirty r disk ≡ true
  pub nothing : core.batch ≡ []

-- It makes calls between two commits, and leaves what is staged. True where no disk was lost.
pub record CopiesPastLog
    {R : Type 0} {g : Ghosts R} (old new : Core R g) (result : Result Bool Two) : Type 0 where
  pub losses : AnswersCoreLosses (named_out old.meta.out) old new result
  pub leaves : OnOk result (LeavesCore g.slot_count g.slot old new)
  pub same : result ≡ Ok true → new.meta ≡ old.meta
  pub calls : MakesDataCalls g.told old new

-- Each stop leaves what it left before. Where it is copied, what held before holds with it; where a
-- disk was lost, the writes are as they were.
pub record CopiesOrLoses {R : Type 0} {g : Ghosts R} (old new : Core R g)
    (result : Result Bool Two) (before after : History → ℕ → Disks → Type 0) : Type 0 where
  pub copied : result ≡ Ok true
      → (h : History) (lo : ℕ) → Ran (g.told (store_rack old.store)) (g.told (store_rack new.store))
      (CrashTriple (IsCoreHeldSinceCommit g.slot_count old h lo) (before h lo) (after h lo))
  pub lost : result ≡ Ok false → (h : History) (lo : ℕ) → Ran (g.told (store_rack old.store))
      (g.told (store_rack new.store)) (CrashTriple (IsCoreHeldSinceCommit g.slot_count old h lo)
      (before h lo) (CoreStandsFor g.slot_count new h lo))
  pub moments : (h : History) (lo : ℕ) → Ran (g.told (store_rack old.store))
      (g.told (store_rack new.store)) (CrashTriple (IsCoreHeldSinceCommit g.slot_count old h lo)
      (before h lo) (IsCoreHeldSinceCommit g.slot_count old h lo))

-- What is staged and what was synced stay, and so do the writes.
pub record LeavesStanding
    {R A : Type 0} {g : Ghosts R} (old new : Core R g) (result : Result A Two) : Type 0 where
  pub losses : AnswersCoreLosses (named_out old.meta.out) old new result
  pub leaves : OnOk result (LeavesCore g.slot_count g.slot old new)
  pub still_synced : StaySynced (g.slot (store_rack old.store)) (g.slot (store_rack new.store))
  pub moments : IsHeldStill g.slot_count g.told old new
  pub stands : OnOk result (StandsStill g.slot_count g.told old new)

-- The same, and what was copied stays copied, so marks can follow.
pub record LeavesCopies
    {R A : Type 0} {g : Ghosts R} (old new : Core R g) (result : Result A Two) : Type 0 where
  pub stays : LeavesStanding old new result
  pub filled : OnOk result (StaysFilled g.slot_count g.told old new)
  pub cells : OnOk result (StaysCopied g.slot_count g.told old new)
  pub rebuilt : OnOk result (StaysRebuilt g.slot_count g.told old new)
