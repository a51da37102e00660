-- What a commit promises: at each stop the disks stand for what they held before, or for that with
-- the batch and the next meta laid over.
use Rattle.std.specs.Prelude.{◌≡◌, ◌≢◌, ℕ, ◌+◌, ◌<◌, ◌≤◌, ◌⊎◌, true, false, [], Option, Some}
use Rattle.paraid_base.specs.declared.state.Out.TheVariants.{Fresh}
use Rattle.paraid_base.specs.Log.{map_start}
pub use Rattle.paraid_base.specs.States.{gone_out}
use Rattle.paraid_rack.specs.declared.call.Power.{Power}
use Rattle.paraid_rack.specs.declared.call.Power.TheVariants.{Spinning}
use Rattle.paraid_rack.specs.Disks.{Disks, IsImage, IsPresent, is_present, lose}
use Rattle.paraid_rack.specs.Told.{Ran, Through}
use Rattle.paraid_rack.specs.Trail.{Trail, run}
use Rattle.paraid_record.specs.declared.meta.Meta.{Meta}
use Rattle.paraid_image.specs.Out.{IsMissing, IsWeak, named_out, out_disk}
use Rattle.paraid_image.specs.Sides.{Batch, LogState, has_place, is_open, stored_block}
use Rattle.paraid_image.specs.Rest.{AreLogGatesClosed, IsAtRest, AreSynced}
use Rattle.paraid_image.specs.Sound.{AreWitnessesTrue, IsFresh, LogOk}
use Rattle.paraid_image.specs.Standing.{Stands, contents}
use Rattle.paraid_txn.specs.Borne.{IsWitnessBorne}

-- Each disk that is there has the power and the size that it had at the start.
pub record KeepsSlots (start i : Disks) : Type 0 where
  pub present : (d : ℕ) → IsPresent i d → IsPresent start d
  pub power : (d : ℕ) → IsPresent i d → i.power d ≡ start.power d
  pub size : (d : ℕ) → IsPresent i d → i.size d ≡ start.size d

-- Image `i` stands for meta `m` and for the blocks of `start` with this batch laid over, on every
-- disk that is not gone; its log is in order; and a disk that is there has the power and the size
-- that it had.
pub record ImageStandsFor (start i : Disks) (m : Meta) (batch : Batch) : Type 0 where
  pub disk : ℕ
  pub said : LogState
  pub log : LogOk i disk said m.writes
  pub meta : said.meta ≡ m
  pub kept : KeepsSlots start i
  pub blocks : (d p : ℕ) → gone_out m.out ≢ Some d → has_place i d p ≡ true
      → map_start m.setup.geometry ≤ p → contents i said.batch d p ≡ contents start batch d p

-- for what `start` held, or for that with batch and meta laid over
abbrev pub ImageStandsForEither : Disks → Meta → Meta → Batch → Disks → Type 0
ImageStandsForEither start before after batch i =
    ImageStandsFor start i before [] ⊎ ImageStandsFor start i after batch

-- disk `d` is absent, or one of the two metas names it out
abbrev pub IsEitherMissing : (ℕ → Power) → Meta → Meta → ℕ → Type 0
IsEitherMissing power before after d = IsMissing power before d ⊎ IsMissing power after d

-- at most one disk is
pub record IsOneMissing (power : ℕ → Power) (before after : Meta) : Type 0 where
  pub one : (d e : ℕ) → IsEitherMissing power before after d → IsEitherMissing power before after e
      → d ≡ e

-- Each image in which at most one disk is absent or named out has `P`, as it is and with a slot
-- lost: its weak disk, or any one where it has none.
pub record IsEachImage (before after : Meta) (P : Disks → Type 0) (s : Disks) : Type 0 where
  pub whole : (i : Disks) → IsImage s i → IsOneMissing i.power before after → P i
  pub lost : (i : Disks) (d : ℕ) → IsImage s i → IsOneMissing i.power before after
      → ((w : ℕ) → IsWeak i w → w ≡ d) → P (lose d i)

-- Where the witnesses at the start are true by the meta before, those of an image are true by what
-- stands in it.
abbrev pub KeepsWitnesses : Disks → Meta → Disks → Type 0
KeepsWitnesses start before i = AreWitnessesTrue start (out_disk start.power before)
    → (y : ℕ) (said : LogState) → Stands i y said → AreWitnessesTrue i (out_disk i.power said.meta)

-- So each image of `s` stands for what `start` held or for that with batch and meta laid over; its
-- weak disk is absent or named out by one of the two metas, and its witnesses are true if those of
-- `start` were.
pub record IsOldOrNew
    (start : Disks) (before after : Meta) (batch : Batch) (s : Disks) : Type 0 where
  pub images : IsEachImage before after (ImageStandsForEither start before after batch) s
  pub weak : (i : Disks) (w : ℕ) → IsImage s i → IsOneMissing i.power before after → IsWeak i w
      → IsEitherMissing i.power before after w
  pub witnesses : IsEachImage before after (KeepsWitnesses start before) s

-- This meta can be the next one. A log disk that comes in again by it was being rebuilt, and one
-- that is to be rebuilt has its gate closed.
pub record IsNext (s : Disks) (before after : Meta) : Type 0 where
  pub epoch : after.epoch ≡ before.epoch + 1
  pub setup : after.setup ≡ before.setup
  pub out : (d e : ℕ) → named_out after.out ≡ Some d → named_out before.out ≡ Some e → d ≡ e
  pub comes_in : (x : ℕ) → x < 2 → IsPresent s x → named_out before.out ≡ Some x
      → named_out after.out ≢ Some x → (rebuilt : ℕ) × (before.out ≡ Fresh x rebuilt)
  pub fresh_closed : (x rebuilt : ℕ) → IsFresh s.power after x rebuilt → x < 2
      → is_open (stored_block s x 0) ≡ false

-- The calls from the one record to the other leave the old contents or the new ones at each moment,
-- if they begin at a rest under the meta before, which this meta can follow.
abbrev pub IsWholeOrAbsent : Option Trail → Option Trail → Meta → Meta → Batch → Type 0
IsWholeOrAbsent old new before after batch = Ran old new (λ start calls.
    IsAtRest start before → IsNext start before after
    → Through (IsOldOrNew start before after batch) start calls)

-- The witness is borne at the end against this disk, if it is a log disk, and if disk 2 could be
-- written or was absent.
abbrev pub LeavesBorne : Disks → Disks → Option ℕ → Type 0
LeavesBorne start end against =
    (is_present (start.power 2) ≡ true → (start.power 2 ≡ Spinning) × (1 < start.size 2))
    → IsWitnessBorne against end

-- What a commit that ends leaves: only the new contents, nothing loose, the gates closed; and where
-- at most one disk is out, a rest under the new meta. The witnesses are true if they were so at the
-- start; the one against a log disk that is named out is borne, if disk 2 could be written or was
-- absent.
pub record IsCommitted (start end : Disks) (before after : Meta) (batch : Batch) : Type 0 where
  pub images : IsEachImage before after (λ i. ImageStandsFor start i after batch) end
  pub synced : AreSynced end
  pub shut : AreLogGatesClosed end after
  pub rest : IsOneMissing end.power before after → IsAtRest end after
  pub witnesses : IsEachImage before after (KeepsWitnesses start before) end
  pub borne : LeavesBorne start end (named_out after.out)

-- If these calls began at a rest under the meta before, which this meta can follow, the disks are
-- at their end as a commit that ends leaves them.
abbrev pub EndsCommitted : Option Trail → Option Trail → Meta → Meta → Batch → Type 0
EndsCommitted old new before after batch = Ran old new (λ start calls.
    IsAtRest start before → IsNext start before after
    → IsCommitted start (run start calls) before after batch)
