-- The stages of a commit, each as a fact about the disks at a moment.
use Rattle.std.specs.Prelude.{◌≡◌, ◌≢◌, ◌⊎◌, ◌<◌, ◌≤◌, ℕ, true, false, length, take, get_or, Option, Some}
use Rattle.std.proofs.Common.{zero, suc}
use Rattle.paraid_base.specs.declared.block.Block.{Block}
use Rattle.paraid_base.specs.Log.{body_place, list_place, map_start}
use Rattle.paraid_base.specs.Xor.{zero_block}
use Rattle.paraid_rack.specs.Atoms.{IsLeftByStop, IsSeen, IsSure}
use Rattle.paraid_rack.specs.Disks.{Disks, IsPresent}
use Rattle.paraid_record.specs.declared.meta.Meta.{Meta}
use Rattle.paraid_record.specs.Targets.{AreTargets, targets_bytes}
use Rattle.paraid_txn.specs.Commit.{gone_out}
use Rattle.paraid_image.specs.Neutral.{names_place}
use Rattle.paraid_image.specs.Out.{IsAtMostOneMissing, IsMissing, named_out, out_disk}
use Rattle.paraid_image.specs.Sides.{Batch, LogState, Says, Spells, closed_over, is_open, log_state, stored_block, targets}
use Rattle.paraid_image.specs.Sound.{AreWitnessesTrue}
use Rattle.paraid_image.specs.Batches.{batch_blocks}
use Rattle.paraid_image.specs.Standing.{overlaid_block, other_log}

-- What a commit does: the disks with which it begins, the batch, the meta that it brings, the
-- blocks that spell meta and targets, the disk whose log it leaves alone, if any, and the log disk
-- whose gate it opens first.
pub record Job : Type 0 where
  pub start : Disks
  pub meta : Meta
  pub batch : Batch
  pub spelled : Block
  pub list : Block
  pub left : Option ℕ
  pub first : ℕ

-- the job of a commit
abbrev pub job : Disks → Meta → Batch → Block → Block → ℕ → Job
job start meta batch spelled list first = record {
  start = start;
  meta = meta;
  batch = batch;
  spelled = spelled;
  list = list;
  left = named_out meta.out;
  first = first;
}

-- the first place past the logs of the commit's array
abbrev pub job_map_start : Job → ℕ
job_map_start j = map_start j.meta.setup.geometry

-- the log disk whose gate is opened first, and the other one
abbrev pub nth_log : ℕ → ℕ → ℕ
nth_log first zero = first
nth_log first (suc n) = other_log first

-- which log disk opens first, and which second
abbrev pub job_log : Job → ℕ → ℕ
job_log j n = nth_log j.first n

-- the blocks spell what they are to spell
pub record IsSpelled (j : Job) : Type 0 where
  pub meta : Spells j.spelled j.meta
  pub in_range : AreTargets j.meta.setup.geometry (targets j.batch)
  pub list : j.list.bytes ≡ targets_bytes (targets j.batch)
  pub first : j.first < 2

-- the disk whose log the commit leaves alone
abbrev pub job_named : Job → Option ℕ
job_named j = j.left

-- the disk that the new meta names gone, whose targets the commit leaves out
abbrev pub job_gone : Job → Option ℕ
job_gone j = gone_out j.meta.out

-- a log disk that the commit writes
abbrev pub IsLiveLog : Job → ℕ → Type 0
IsLiveLog j x = (x < 2) × (job_named j ≢ Some x)

-- a disk that gets its targets
abbrev pub GetsTargets : Job → ℕ → Type 0
GetsTargets j d = job_gone j ≢ Some d

-- the block of target `k`
abbrev pub target_block : Job → ℕ → Block
target_block j k = get_or (batch_blocks j.batch) k zero_block

-- the block at a place past the log before the batch is laid over
abbrev pub block_before : Job → ℕ → ℕ → Block
block_before j d p = j.start.block d p

-- what a place holds once the batch is laid
abbrev pub block_with_batch : Job → ℕ → ℕ → Block
block_with_batch j d p = overlaid_block j.batch d p (block_before j d p)

-- a block is this one
abbrev pub IsBlock : Block → Block → Type 0
IsBlock value b = b ≡ value

-- what a log disk says by its open gate
abbrev pub open_with : Job → LogState
open_with j = log_state true j.meta j.batch

-- a disk that is there has the power and the size with which the commit began, and a live log disk
-- has all places of the log
pub record KeepsSlotsAndLogs (j : Job) (s : Disks) : Type 0 where
  pub present : (d : ℕ) → IsPresent s d → IsPresent j.start d
  pub power : (d : ℕ) → IsPresent s d → s.power d ≡ j.start.power d
  pub size : (d : ℕ) → IsPresent s d → s.size d ≡ j.start.size d
  pub large : (x : ℕ) → IsLiveLog j x → IsPresent s x → job_map_start j ≤ s.size x

-- the log of a log disk that is left alone is as it was
pub record IsAside (j : Job) (s : Disks) : Type 0 where
  pub log : (y p : ℕ) → y < 2
      → job_named j ≡ Some y → p < job_map_start j → IsSure s y p (IsBlock (j.start.block y p))

-- what holds at every moment of a commit, whatever the step
pub record HoldsThroughout (j : Job) (s : Disks) : Type 0 where
  pub kept : KeepsSlotsAndLogs j s
  pub aside : IsAside j s

-- a gate is surely closed
abbrev pub IsGateClosed : Disks → ℕ → Type 0
IsGateClosed s x = IsSure s x 0 (λ b. is_open b ≡ false)

-- a gate is surely open
abbrev pub IsGateOpen : Disks → ℕ → Type 0
IsGateOpen s x = IsSure s x 0 (λ b. is_open b ≡ true)

-- the places of the batch hold it
pub record IsBatchLogged (j : Job) (s : Disks) (x : ℕ) : Type 0 where
  pub meta : IsSure s x 2 (IsBlock j.spelled)
  pub list : IsSure s x (list_place 0) (IsBlock j.list)
  pub blocks : (k : ℕ) → k < length j.batch → IsSure s x (body_place k) (IsBlock (target_block j k))

-- a place is not loose
abbrev pub IsSyncedPlace : Disks → ℕ → ℕ → Type 0
IsSyncedPlace s d p = IsSure s d p (λ b. Unit {0})

-- nothing is loose
pub record AllSynced (s : Disks) : Type 0 where
  pub synced : (d p : ℕ) → IsSyncedPlace s d p

-- nothing is loose but what disk `k` holds, if the commit writes it at all
pub record SyncedBut (skip : Option ℕ) (k : ℕ) (s : Disks) : Type 0 where
  pub synced : (d p : ℕ) → (skip ≢ Some k → d ≢ k) → IsSyncedPlace s d p

-- the old meta of each live log disk
abbrev pub OldMetas : Job → Disks → Type 0
OldMetas j s = (x : ℕ) → IsLiveLog j x → IsSure s x 1 (IsBlock (j.start.block x 1))

-- past the log all is as it was
abbrev pub ContentsAreOld : Job → Disks → Type 0
ContentsAreOld j s = (d p : ℕ) → job_map_start j ≤ p → IsSure s d p (IsBlock (block_before j d p))

-- past the log the batch is laid
abbrev pub ContentsAreNew : Job → Disks → Type 0
ContentsAreNew j s = (d p : ℕ)
    → GetsTargets j d → job_map_start j ≤ p → IsSure s d p (IsBlock (block_with_batch j d p))

-- Step 1: the gates are closed, and the log disks below `k` are logged.
pub record LogCore (j : Job) (k : ℕ) (s : Disks) : Type 0 where
  pub beside : HoldsThroughout j s
  pub meta : OldMetas j s
  pub shut : (x : ℕ) → IsLiveLog j x → IsGateClosed s x
  pub logged : (x : ℕ) → x < k → IsLiveLog j x → IsBatchLogged j s x
  pub held : ContentsAreOld j s

-- Step 1 between two log disks: those below `k` are logged, and nothing is loose.
pub record LogStage (j : Job) (k : ℕ) (s : Disks) : Type 0 where
  pub core : LogCore j k s
  pub synced : AllSynced s

-- Step 1 on disk `k`: the meta of the batch is written, and not synced.
pub record LogMeta (j : Job) (k : ℕ) (s : Disks) : Type 0 where
  pub core : LogCore j k s
  pub synced : SyncedBut (job_named j) k s
  pub meta : job_named j ≢ Some k → IsSeen s k 2 (IsBlock j.spelled)

-- Step 1 on disk `k`: the meta, the list and the first `n` blocks are written, and not synced.
pub record LogIn (j : Job) (k n : ℕ) (s : Disks) : Type 0 where
  pub core : LogCore j k s
  pub synced : SyncedBut (job_named j) k s
  pub meta : job_named j ≢ Some k → IsSeen s k 2 (IsBlock j.spelled)
  pub list : job_named j ≢ Some k → IsSeen s k (list_place 0) (IsBlock j.list)
  pub blocks : (m : ℕ)
      → m < n → job_named j ≢ Some k → IsSeen s k (body_place m) (IsBlock (target_block j m))

-- Step 2: all live log disks are logged, and the gates of the first `k` are open; those after the
-- next one are closed.
pub record OpenCore (j : Job) (k : ℕ) (s : Disks) : Type 0 where
  pub beside : HoldsThroughout j s
  pub meta : OldMetas j s
  pub logged : (x : ℕ) → IsLiveLog j x → IsBatchLogged j s x
  pub opened : (n : ℕ) → n < k → IsLiveLog j (job_log j n) → IsGateOpen s (job_log j n)
  pub waiting : (n : ℕ) → k < n → n < 2 → IsLiveLog j (job_log j n) → IsGateClosed s (job_log j n)
  pub held : ContentsAreOld j s

-- Step 2 between two gates: the first `k` are open, and nothing is loose.
pub record OpenStage (j : Job) (k : ℕ) (s : Disks) : Type 0 where
  pub core : OpenCore j k s
  pub synced : AllSynced s

-- Step 2: the first `k` gates are open, and the next one is written open, not synced.
pub record OpenIn (j : Job) (k : ℕ) (s : Disks) : Type 0 where
  pub core : OpenCore j k s
  pub synced : SyncedBut (job_named j) (job_log j k) s
  pub gate : job_named j ≢ Some (job_log j k) → IsSeen s (job_log j k) 0 (λ b. is_open b ≡ true)

-- Step 3: all gates are open, and what is no target is as it was.
pub record LayCore (j : Job) (s : Disks) : Type 0 where
  pub beside : HoldsThroughout j s
  pub logged : (x : ℕ) → IsLiveLog j x → IsBatchLogged j s x
  pub opened : (x : ℕ) → IsLiveLog j x → IsGateOpen s x
  pub others : (d p : ℕ) → job_map_start j ≤ p
      → (names_place j.batch d p ≡ true) ⊎ IsSure s d p (IsBlock (block_before j d p))
  pub synced : (d p : ℕ)
      → ((names_place j.batch d p ≡ true) × GetsTargets j d) ⊎ IsSyncedPlace s d p

-- Step 3: the first `n` targets are written, and not synced.
pub record LayIn (j : Job) (n : ℕ) (s : Disks) : Type 0 where
  pub core : LayCore j s
  pub held : (d p : ℕ) → GetsTargets j d → job_map_start j ≤ p
      → IsSeen s d p (IsBlock (overlaid_block (take n j.batch) d p (block_before j d p)))

-- Step 3: all targets are written, and the disks below `n` are synced.
pub record SyncIn (j : Job) (n : ℕ) (s : Disks) : Type 0 where
  pub core : LayCore j s
  pub held : (d p : ℕ)
      → GetsTargets j d → job_map_start j ≤ p → IsSeen s d p (IsBlock (block_with_batch j d p))
  pub synced : (d p : ℕ) → d < n → IsSyncedPlace s d p

-- Step 4: the batch is laid, and the meta stands at place 1 of the log disks below `k`.
pub record MarkCore (j : Job) (k : ℕ) (s : Disks) : Type 0 where
  pub beside : HoldsThroughout j s
  pub logged : (x : ℕ) → IsLiveLog j x → IsBatchLogged j s x
  pub opened : (x : ℕ) → IsLiveLog j x → IsGateOpen s x
  pub meta : (x : ℕ) → x < k → IsLiveLog j x → IsSure s x 1 (IsBlock j.spelled)
  pub held : ContentsAreNew j s

-- Step 4 between two log disks: those below `k` have the new meta, and nothing is loose.
pub record MarkStage (j : Job) (k : ℕ) (s : Disks) : Type 0 where
  pub core : MarkCore j k s
  pub synced : AllSynced s

-- Step 4: the log disks below `k` have the new meta, and it is written on disk `k`, not synced.
pub record MarkIn (j : Job) (k : ℕ) (s : Disks) : Type 0 where
  pub core : MarkCore j k s
  pub synced : SyncedBut (job_named j) k s
  pub meta : job_named j ≢ Some k → IsSeen s k 1 (IsBlock j.spelled)

-- Step 5: the meta stands on all live log disks, and the gates of those below `k` are closed.
pub record CloseCore (j : Job) (k : ℕ) (s : Disks) : Type 0 where
  pub beside : HoldsThroughout j s
  pub logged : (x : ℕ) → IsLiveLog j x → IsBatchLogged j s x
  pub meta : (x : ℕ) → IsLiveLog j x → IsSure s x 1 (IsBlock j.spelled)
  pub shut : (x : ℕ) → x < k → IsLiveLog j x → IsGateClosed s x
  pub held : ContentsAreNew j s

-- Step 5 between two gates: those of the log disks below `k` are closed, and nothing is loose.
pub record CloseStage (j : Job) (k : ℕ) (s : Disks) : Type 0 where
  pub core : CloseCore j k s
  pub synced : AllSynced s

-- Step 5: the gates of the log disks below `k` are closed, and that of disk `k` is written closed,
-- not synced.
pub record CloseIn (j : Job) (k : ℕ) (s : Disks) : Type 0 where
  pub core : CloseCore j k s
  pub synced : SyncedBut (job_named j) k s
  pub gate : job_named j ≢ Some k → IsSeen s k 0 (λ b. is_open b ≡ false)

-- log disk `x` of an image is closed over what it had as the commit began
abbrev pub IsClosedAsBegun : Job → Disks → ℕ → Type 0
IsClosedAsBegun j i x = (is_open (i.block x 0) ≡ false) × (i.block x 1 ≡ j.start.block x 1)

-- What a stop may leave before the targets are touched: each live log disk is closed as it was, or
-- open with the batch; and where the first one is closed, so is the other.
pub record IsEarlyImage (j : Job) (i : Disks) : Type 0 where
  pub kept : KeepsSlotsAndLogs j i
  pub sides : (x : ℕ) → IsLiveLog j x
      → IsPresent i x → IsClosedAsBegun j i x ⊎ Says i x (open_with j)
  pub in_order : IsLiveLog j j.first → IsPresent i j.first → is_open (i.block j.first 0) ≡ false
      → (y : ℕ) → IsLiveLog j y → IsPresent i y → is_open (i.block y 0) ≡ false
  pub held : (d p : ℕ) → IsPresent i d → job_map_start j ≤ p → i.block d p ≡ block_before j d p

-- What a stop may leave from the first write of a target on: each live log disk is open with the
-- batch, or closed over the new meta with the batch laid.
pub record IsLateImage (j : Job) (i : Disks) : Type 0 where
  pub kept : KeepsSlotsAndLogs j i
  pub sides : (x : ℕ) → IsLiveLog j x → IsPresent i x
      → Says i x (open_with j) ⊎ Says i x (closed_over j.meta)
  pub held : (d p : ℕ) → GetsTargets j d → IsPresent i d → job_map_start j ≤ p
      → overlaid_block j.batch d p (i.block d p) ≡ block_with_batch j d p
  pub done : (x d p : ℕ) → IsLiveLog j x → IsPresent i x → Says i x (closed_over j.meta)
      → GetsTargets j d → IsPresent i d → job_map_start j ≤ p → i.block d p ≡ block_with_batch j d p

-- what a stop may leave has the log of a log disk that is left alone as it was
abbrev pub LeavesAside : Job → Disks → Type 0
LeavesAside j s = (i : Disks) → IsLeftByStop s i → (y p : ℕ) → y < 2
    → job_named j ≡ Some y → p < job_map_start j → IsPresent i y → i.block y p ≡ j.start.block y p

-- what holds at every moment before the targets are touched, of all that a stop may leave there
pub record HoldsEarly (j : Job) (s : Disks) : Type 0 where
  pub early : (i : Disks) → IsLeftByStop s i → IsEarlyImage j i
  pub aside : LeavesAside j s

-- what holds at every moment from the first write of a target on, of all that a stop may leave
-- there
pub record HoldsLate (j : Job) (s : Disks) : Type 0 where
  pub late : (i : Disks) → IsLeftByStop s i → IsLateImage j i
  pub aside : LeavesAside j s

-- what holds at every moment of a commit, of all that a stop may leave there, with any slots lost
pub record HoldsWhole (j : Job) (s : Disks) : Type 0 where
  pub either : ((i : Disks) → IsLeftByStop s i → IsEarlyImage j i)
      ⊎ ((i : Disks) → IsLeftByStop s i → IsLateImage j i)
  pub aside : LeavesAside j s

-- A witness that an image bears is true by each meta that may stand in it: its log disk is out by
-- both; or by the one before, and no log disk says the new one yet; or by the new one, and each
-- says it.
pub data IsTrueWitness (j : Job) (before : Meta) (i : Disks) (p : ℕ) : Type 0 where
  by_both : IsMissing i.power before p → IsMissing i.power j.meta p → IsTrueWitness j before i p
  by_old : IsMissing i.power before p
      → ((x : ℕ) → IsLiveLog j x → IsPresent i x → IsClosedAsBegun j i x)
      → IsTrueWitness j before i p
  by_new : IsMissing i.power j.meta p → IsLateImage j i → IsTrueWitness j before i p

-- each witness of all that a stop may leave, with any slots lost, is a true one
abbrev pub HoldsWitnesses : Job → Meta → Disks → Type 0
HoldsWitnesses j before s = (i : Disks) → IsLeftByStop s i
    → (p : ℕ) → p < 2 → is_open (stored_block i 2 p) ≡ true → IsTrueWitness j before i p

-- The place of a witness is surely closed, if it is there.
abbrev pub IsWitnessClosed : Job → Disks → ℕ → Type 0
IsWitnessClosed j s p = IsSure s 2 p (λ b. p < j.start.size 2 → is_open b ≡ false)

-- Each witness is surely closed, or its log disk is out by both metas: the five steps may begin.
abbrev pub AreWitnessesSettled : Job → Meta → Disks → Type 0
AreWitnessesSettled j before s = (p : ℕ) → p < 2
    → IsWitnessClosed j s p ⊎ (IsMissing s.power before p × IsMissing s.power j.meta p)

-- the witnesses were true as the commit began
abbrev pub BeganTrue : Job → Meta → Type 0
BeganTrue j before = AreWitnessesTrue j.start (out_disk j.start.power before)

-- what holds at every moment of a commit, of all that a stop may leave there, and of its witnesses
pub record HoldsWitnessed (j : Job) (before : Meta) (s : Disks) : Type 0 where
  pub whole : HoldsWhole j s
  pub witnesses : BeganTrue j before → HoldsWitnesses j before s

-- As a commit begins: at most one disk is missing by the meta before, and where the witnesses are
-- true, each is surely closed or its log disk is out by that meta.
pub record FirstStage (j : Job) (before : Meta) (s : Disks) : Type 0 where
  pub stage : LogStage j 0 s
  pub setup : j.meta.setup ≡ before.setup
  pub out : (d e : ℕ) → named_out j.meta.out ≡ Some d → named_out before.out ≡ Some e → d ≡ e
  pub single : IsAtMostOneMissing s.power before
  pub old : BeganTrue j before
      → (p : ℕ) → p < 2 → IsWitnessClosed j s p ⊎ IsMissing s.power before p

-- As the five steps begin: nothing is written, and the witnesses are settled if they were true.
pub record SettledStage (j : Job) (before : Meta) (s : Disks) : Type 0 where
  pub stage : LogStage j 0 s
  pub settled : BeganTrue j before → AreWitnessesSettled j before s

-- As the five steps end: the gates are closed, and the witnesses are settled if they were true.
pub record LaidStage (j : Job) (before : Meta) (s : Disks) : Type 0 where
  pub stage : CloseStage j 2 s
  pub settled : BeganTrue j before → AreWitnessesSettled j before s

-- As the commit ends, its last witness written: each that is borne is a true one.
pub record LastStage (j : Job) (before : Meta) (s : Disks) : Type 0 where
  pub stage : CloseStage j 2 s
  pub witnesses : BeganTrue j before → HoldsWitnesses j before s
