-- What a commit asks of the slots.
use Rattle.std.specs.Prelude.{◌≡◌, ◌≢◌, ℕ, ◌<◌, List, Option, Some, All}
use Rattle.paraid_base.specs.Log.{log_last}
use Rattle.paraid_rack.specs.Slots.{Slot}
use Rattle.paraid_record.specs.declared.meta.Meta.{Meta}
use Rattle.paraid_record.specs.declared.targets.Target.{Target}
use Rattle.paraid_record.specs.Range.{IsInRange}
use Rattle.paraid_record.specs.Targets.{IsTargetInRange}
use Rattle.paraid_txn.specs.Commit.{gone_out}
use Rattle.paraid_txn.specs.Losses.{CanWrite}
use Rattle.paraid_image.specs.Out.{named_out}
use Rattle.paraid_image.specs.Sides.{Batch, targets}
use Rattle.paraid_base.specs.Told.{counter_most}

-- each log disk that is not skipped spins and has all places of the log, unless it is absent
pub record IsLogReady (skip : Option ℕ) (slot : ℕ → Slot) : Type 0 where
  pub can : (x : ℕ) → x < 2 → skip ≢ Some x → CanWrite slot x log_last

-- each target is on a slot that exists, and can be written, unless its disk is skipped or absent
abbrev pub AreTargetsReady : Option ℕ → ℕ → (ℕ → Slot) → List Target → Type 0
AreTargetsReady skip count slot ts =
    All (λ (t : Target). (t.disk < count) × (skip ≢ Some t.disk → CanWrite slot t.disk t.place)) ts

-- What can be committed to an array of so many disks, whose last commit had this epoch: a meta and
-- targets in range, where each live log disk and each disk with targets can be written, unless it
-- is absent.
pub record CanCommit
    (last disks count : ℕ) (slot : ℕ → Slot) (batch : Batch) (m : Meta) : Type 0 where
  pub in_range : IsInRange m
  pub epoch : last < counter_most
  pub array : m.setup.geometry.disks ≡ disks
  pub each : All (IsTargetInRange m.setup.geometry) (targets batch)
  pub log : IsLogReady (named_out m.out) slot
  pub ready : AreTargetsReady (gone_out m.out) count slot (targets batch)
