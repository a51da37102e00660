-- What the end of an interrupted commit promises: each stop leaves what the disks stood for as it
-- began, or, once the log disk that stood is lost, what they then stood for without it.
use Rattle.std.specs.Prelude.{◌≡◌, ◌≢◌, ℕ, ◌<◌, ◌≤◌, ◌⊎◌, Bool, false, [], Option, Some, All}
use Rattle.paraid_rack.specs.Atoms.{IsLeftByStop, IsSeen, IsSure}
use Rattle.paraid_rack.specs.Calls.{IsRead}
use Rattle.paraid_rack.specs.Disks.{Disks, IsPresent, is_present, lose}
use Rattle.paraid_rack.specs.Told.{Ran, Through}
use Rattle.paraid_rack.specs.Trail.{Trail, run}
use Rattle.paraid_record.specs.declared.meta.Meta.{Meta}
use Rattle.paraid_rack.specs.Slots.{Slot}
use Rattle.paraid_record.specs.Range.{IsInRange}
use Rattle.paraid_record.specs.Targets.{IsTargetInRange}
use Rattle.paraid_txn.specs.Ready.{AreTargetsReady, IsLogReady}
use Rattle.paraid_image.specs.Rest.{AreLogGatesClosed, IsAtRest, AreSynced}
use Rattle.paraid_txn.specs.Commit.{KeepsSlots, IsEachImage, IsOneMissing, ImageStandsFor, gone_out}
use Rattle.paraid_image.specs.Out.{named_out}
use Rattle.paraid_image.specs.Sides.{Batch, LogState, Says, is_open, targets}
use Rattle.paraid_image.specs.Sound.{LogOk}
use Rattle.paraid_txn.specs.CommitStages.{AllSynced, IsBlock, IsLateImage, IsLiveLog, Job, KeepsSlotsAndLogs, LeavesAside, SyncedBut, block_before, job_map_start, job_named, open_with}
use Rattle.paraid_image.specs.Standing.{Stands, other_log}
use Rattle.paraid_txn.specs.Uses.{EachCall}

-- Log disk `x` of the disks `s` stands and says this, its log is in order, and nothing is loose.
pub record IsResumable (s : Disks) (x : ℕ) (said : LogState) : Type 0 where
  pub synced : AreSynced s
  pub log : LogOk s x said said.meta.writes

-- the log disk that stood is absent, and the image stands for what the other one stands for then
pub record IsFallback (s : Disks) (x : ℕ) (i : Disks) : Type 0 where
  pub gone : is_present (i.power x) ≡ false
  pub stands : (y : ℕ) (o : LogState) (k : ℕ)
      → LogOk (lose x s) y o k → ImageStandsFor s i o.meta o.batch
  pub meta : (z : ℕ) (o p : LogState) → Stands i z o → Says s (other_log x) p → o.meta ≡ p.meta

-- Image `i` stands for what log disk `x` of `s` says, or for what is left without it; no log disk
-- says a meta that none said before; and a disk that is there has the power and the size that it
-- had.
pub record ImageStandsForResumed (s : Disks) (x : ℕ) (said : LogState) (i : Disks) : Type 0 where
  pub stands : ImageStandsFor s i said.meta said.batch ⊎ IsFallback s x i
  pub metas : (y : ℕ) (o : LogState)
      → y < 2 → Says i y o → (z : ℕ) × (p : LogState) × (z < 2) × Says s z p × (o.meta ≡ p.meta)
  pub kept : KeepsSlots s i
  pub witnesses : (p : ℕ) → p < 2 → IsPresent i 2 → i.block 2 p ≡ s.block 2 p

-- At each moment of the calls from the one record to the other, an image stands for what is
-- resumed.
abbrev pub StandsWhileResumed : Option Trail → Option Trail → ℕ → LogState → Type 0
StandsWhileResumed old new x said = Ran old new (λ start calls. IsResumable start x said
    → Through (IsEachImage said.meta said.meta (ImageStandsForResumed start x said)) start calls)

-- At the end nothing is loose, the gates are closed, and where at most one disk is out the disks
-- are at rest under the meta that stood.
pub record EndsResume (end : Disks) (m : Meta) : Type 0 where
  pub synced : AreSynced end
  pub shut : AreLogGatesClosed end m
  pub rest : IsOneMissing end.power m m → IsAtRest end m

-- the calls of a resumption end with nothing loose, the gates closed and, with at most one disk
-- out, at rest under this meta
abbrev pub EndsResumed : Option Trail → Option Trail → ℕ → LogState → Type 0
EndsResumed old new x said =
    Ran old new (λ start calls. IsResumable start x said → EndsResume (run start calls) said.meta)

-- At the end, where at most one disk is out, the disks stand for what the log disk said, with its
-- batch laid over.
abbrev pub EndsLaid : Option Trail → Option Trail → ℕ → LogState → Type 0
EndsLaid old new x said = Ran old new (λ start calls. IsResumable start x said
    → IsOneMissing (run start calls).power said.meta said.meta
    → ImageStandsFor start (run start calls) said.meta said.batch)

-- where what was said is of a closed gate, and all gates are closed as these calls begin, each of
-- them is a read
abbrev pub OnlyReadsIfClosed : Option Trail → Option Trail → LogState → Type 0
OnlyReadsIfClosed old new said = Ran old new (λ start calls. said.opened ≡ false
    → AreLogGatesClosed start said.meta → EachCall IsRead start calls)

-- What can be resumed on a rack of so many slots: the log disk is not named out, the meta and the
-- targets are in range, each live log disk and each disk with targets can be written, unless it is
-- absent, and there are no targets under a closed gate.
pub record CanResume (count : ℕ)
    (slot : ℕ → Slot) (side : ℕ) (opened : Bool) (batch : Batch) (m : Meta) : Type 0 where
  pub exists : m.setup.geometry.disks ≤ count
  pub log_disk : side < 2
  pub in_array : named_out m.out ≢ Some side
  pub in_range : IsInRange m
  pub each : All (IsTargetInRange m.setup.geometry) (targets batch)
  pub log : IsLogReady (named_out m.out) slot
  pub ready : AreTargetsReady (gone_out m.out) count slot (targets batch)
  pub empty : opened ≡ false → batch ≡ []

-- The stages

-- all is as it was
pub record AreDisksSame (j : Job) (s : Disks) : Type 0 where
  pub kept : KeepsSlotsAndLogs j s
  pub same : (d p : ℕ) → IsSure s d p (IsBlock (j.start.block d p))

-- the job as it is done on one log disk, while the other one is left alone
abbrev pub job_on_other_log : Job → ℕ → Job
job_on_other_log j x = record {
  start = j.start;
  meta = j.meta;
  batch = j.batch;
  spelled = j.spelled;
  list = j.list;
  left = Some x;
  first = other_log x;
}

-- Log disk `x` is open with the batch, and the other one, if it is live, is so too or has its gate
-- closed.
pub record LeadsResume (j : Job) (x : ℕ) : Type 0 where
  pub live : IsLiveLog j x
  pub large : (z : ℕ) → IsLiveLog j z → IsPresent j.start z → job_map_start j ≤ j.start.size z
  pub says : IsPresent j.start x → Says j.start x (open_with j)
  pub other : IsLiveLog j (other_log x) → IsPresent j.start (other_log x)
      → (is_open (j.start.block (other_log x) 0) ≡ false) ⊎ Says j.start (other_log x) (open_with j)

-- What a stop may leave before the targets are touched: log disk `x` is open with the batch; the
-- other one too, or it is closed as it was.
pub record IsCatchUpImage (j : Job) (x : ℕ) (i : Disks) : Type 0 where
  pub kept : KeepsSlotsAndLogs j i
  pub first : IsPresent i x → Says i x (open_with j)
  pub other : IsLiveLog j (other_log x) → IsPresent i (other_log x)
      → ((is_open (i.block (other_log x) 0) ≡ false)
      × (is_open (j.start.block (other_log x) 0) ≡ false)
      × (i.block (other_log x) 1 ≡ j.start.block (other_log x) 1))
      ⊎ Says i (other_log x) (open_with j)
  pub held : (d p : ℕ) → IsPresent i d → job_map_start j ≤ p → i.block d p ≡ block_before j d p

-- What holds at every moment, of all that a stop may leave there, with any slots lost.
pub record HoldsThroughResume (j : Job) (x : ℕ) (s : Disks) : Type 0 where
  pub either : ((i : Disks) → IsLeftByStop s i → IsCatchUpImage j x i)
      ⊎ ((i : Disks) → IsLeftByStop s i → IsLateImage j i)
  pub aside : LeavesAside j s

-- All but the gate and the meta of log disk `y` is as it was.
pub record AreOthersSame (j : Job) (y : ℕ) (s : Disks) : Type 0 where
  pub kept : KeepsSlotsAndLogs j s
  pub rest : (d p : ℕ) → (d ≡ y → 2 ≤ p) → IsSure s d p (IsBlock (j.start.block d p))

-- The meta is written to log disk `y`, not synced, and its gate is as it was.
pub record ShutMeta (j : Job) (y : ℕ) (s : Disks) : Type 0 where
  pub core : AreOthersSame j y s
  pub gate : IsSure s y 0 (IsBlock (j.start.block y 0))
  pub meta : job_named j ≢ Some y → IsSeen s y 1 (IsBlock j.spelled)
  pub synced : SyncedBut (job_named j) y s

-- The meta is kept on log disk `y`, and its gate is as it was.
pub record ShutMetaSynced (j : Job) (y : ℕ) (s : Disks) : Type 0 where
  pub core : AreOthersSame j y s
  pub gate : IsSure s y 0 (IsBlock (j.start.block y 0))
  pub meta : job_named j ≢ Some y → IsSure s y 1 (IsBlock j.spelled)
  pub synced : AllSynced s

-- The meta is kept on log disk `y`, and its gate is written closed, not synced.
pub record ShutIn (j : Job) (y : ℕ) (s : Disks) : Type 0 where
  pub core : AreOthersSame j y s
  pub meta : job_named j ≢ Some y → IsSure s y 1 (IsBlock j.spelled)
  pub gate : job_named j ≢ Some y → IsSeen s y 0 (λ b. is_open b ≡ false)
  pub synced : SyncedBut (job_named j) y s

-- The meta is kept on log disk `y`, its gate is closed, and nothing is loose.
pub record ShutSynced (j : Job) (y : ℕ) (s : Disks) : Type 0 where
  pub core : AreOthersSame j y s
  pub meta : job_named j ≢ Some y → IsSure s y 1 (IsBlock j.spelled)
  pub gate : job_named j ≢ Some y → IsSure s y 0 (λ b. is_open b ≡ false)
  pub synced : AllSynced s

-- the gates are as they were, and log disk `y` is not open
pub record ShutStill (j : Job) (y : ℕ) (s : Disks) : Type 0 where
  pub core : AreDisksSame j s
  pub shut : IsLiveLog j y → IsPresent s y → is_open (s.block y 0) ≡ false

-- log disk `y` is closed: it was not open before, or it is closed over the meta now
abbrev pub ShutEnd : Job → ℕ → Disks → Type 0
ShutEnd j y s = ShutStill j y s ⊎ ShutSynced j y s

-- What a stop may leave while log disk `y` is closed over the meta.
pub record IsShutImage (j : Job) (y : ℕ) (i : Disks) : Type 0 where
  pub kept : KeepsSlotsAndLogs j i
  pub rest : (d p : ℕ) → IsPresent i d → (d ≡ y → 2 ≤ p) → i.block d p ≡ j.start.block d p
  pub still : (p : ℕ) → job_named j ≡ Some y → IsPresent i y → i.block y p ≡ j.start.block y p
  pub log : IsPresent i y → ((is_open (i.block y 0) ≡ is_open (j.start.block y 0))
      × (is_open (i.block y 0) ≡ false → i.block y 1 ≡ j.start.block y 1))
      ⊎ ((job_named j ≢ Some y) × (is_open (i.block y 0) ≡ false) × (i.block y 1 ≡ j.spelled))

-- each image with any slots lost is one that the end of a resume leaves
pub record HoldsThroughShut (j : Job) (y : ℕ) (s : Disks) : Type 0 where
  pub each : (i : Disks) → IsLeftByStop s i → IsShutImage j y i
