-- What a part of a commit leaves of the slots, which calls it makes, and why it gives up.
use Rattle.std.specs.Prelude.{◌≡◌, ℕ, ◌⊎◌, true, Some, Result, OnOk, IfErr}
use Rattle.paraid_base.specs.declared.fault.Two.{Two}
use Rattle.paraid_rack.specs.declared.call.Call.{Call}
use Rattle.paraid_rack.specs.declared.rack.Rack.{Ghosts}
use Rattle.paraid_rack.specs.Disks.{is_present}
use Rattle.paraid_rack.specs.Told.{Ran}
use Rattle.paraid_image.specs.Lost.{AnswersLosses}
use Rattle.paraid_txn.specs.declared.losses.Losses.{Losses}
use Rattle.paraid_txn.specs.Losses.{AreGoneSince, AreOthersWell, AreTwoDown, AreCommitCalls, StaySynced}
use Rattle.paraid_txn.specs.Uses.{EachCall, IsOn}

-- A part whose calls are of one kind. Where it ends well no disk has failed but the one that is
-- lost, which was there and which one of its calls was on; else two disks are down. Which disk
-- failed first is told.
pub record CommitPart {R A : Type 0} (g : Ghosts R)
    (uses : Call → Type 0) (from to : Losses) (old new : R) (result : Result A Two) : Type 0 where
  pub lasts : AreCommitCalls from to (g.slot old) (g.slot new)
  pub well : OnOk result (AreOthersWell to (g.slot old) (g.slot new))
  pub two : IfErr result (AreTwoDown from.down (g.slot old) (g.slot new))
  pub gone : IfErr result (AreGoneSince (λ d. from.down ≡ Some d) (g.slot old) (g.slot new))
  pub on : (d : ℕ) → to.lost ≡ Some d
      → (from.lost ≡ Some d) ⊎ (IsOn uses d × (is_present (g.slot old d).power ≡ true))
  pub calls : Ran (g.told old) (g.told new) (EachCall uses)
  pub order : Ran (g.told old) (g.told new) (λ s cs. AnswersLosses from.down to.down result cs)

-- A part that, where it ends well, leaves no disk unsynced that was not so before. The rack keeps
-- its slots.
pub record SyncedPart {R A : Type 0} (g : Ghosts R)
    (uses : Call → Type 0) (from to : Losses) (old new : R) (result : Result A Two) : Type 0 where
  pub slots : g.slot_count new ≡ g.slot_count old
  pub part : CommitPart g uses from to old new result
  pub still_synced : OnOk result (StaySynced (g.slot old) (g.slot new))
