-- What a plan over a core sees, and how it goes on.
use Rattle.std.specs.Prelude.{[], ◌≡◌, ◌≢◌, ℕ, ◌<◌, length, Option, Some, None}
use Rattle.paraid_base.specs.Xor.{zero_block}
use Rattle.paraid_dirty.specs.Table.{is_dirty}
use Rattle.paraid_plan.specs.Desk.{Desk}
use Rattle.paraid_plan.specs.WriteTargets.{overlaid_blocks}
use Rattle.paraid_rack.specs.Slots.{Slot}
use Rattle.paraid_rack.specs.Told.{Ran}
use Rattle.paraid_rack.specs.Trail.{Trail, now}
use Rattle.paraid_record.specs.declared.meta.Meta.{Meta}
use Rattle.paraid_image.specs.Lost.{EndsByLoss}
use Rattle.paraid_image.specs.Out.{named_out}
use Rattle.paraid_image.specs.Sides.{Batch}
use Rattle.paraid_image.specs.Standing.{Contents, contents}
use Rattle.paraid_txn.specs.Stores.{IsSameStore, disks_of, store_rack}
use Rattle.paraid_view.specs.Reads.{AreLeft, AreArrayReads, AreOffDisk, CanRead}
use Rattle.paraid_core.specs.declared.staged.Core.{Core}
use Rattle.paraid_core.specs.Undo.{AreOfTable, undo_changes}

-- the blocks with the batch laid over, by what is told of the disks
abbrev pub base_of : Option Trail → Batch → Contents
base_of None batch = λ d p. zero_block
base_of (Some t) batch = contents (now t) batch

-- what a plan has in view: the draft lies over all that is staged
abbrev pub desk_of : {R : Type 0} {g : _} → (R → Option Trail) → Core R g → Desk
desk_of told core = record {
  block = overlaid_blocks core.draft (base_of (told (store_rack core.store)) core.batch);
  dirty = is_dirty core.dirty;
  staged = core.draft;
}

-- a core in which no plan has begun
abbrev pub without_draft : {R : Type 0} {g : _} → Core R g → Core R g
without_draft core = record core { draft = []; changes = []; failed = None }

-- cells can be read under this meta, and no read has failed
pub record ServesPlan {R : Type 0}
    {g : _} (count : R → ℕ) (slot : R → ℕ → Slot) (core : Core R g) (m : Meta) : Type 0 where
  pub array : m.setup.geometry.disks ≡ disks_of core.store
  pub rows : length core.dirty ≡ m.setup.geometry.rows
  pub ready : CanRead (count (store_rack core.store)) (slot (store_rack core.store)) m
      (named_out m.out)
  pub out : named_out m.out ≡ named_out core.meta.out
  pub whole : core.failed ≡ None

-- The second core comes from the first by reads and by what a plan stages: only the draft and the
-- changes of dirty bits have grown, and one disk has failed, or none. No call follows the one that
-- failed.
pub record LeadsTo {R : Type 0} {g : _}
    (count : R → ℕ) (slot : R → ℕ → Slot) (told : R → Option Trail) (a b : Core R g) : Type 0 where
  pub slots : count (store_rack b.store) ≡ count (store_rack a.store)
  pub same : IsSameStore a.store b.store
  pub meta : b.meta ≡ a.meta
  pub batch : b.batch ≡ a.batch
  pub copied : b.copied ≡ a.copied
  pub rows : length b.dirty ≡ length a.dirty
  pub undone_same : undo_changes b.changes (is_dirty b.dirty)
      ≡ undo_changes a.changes (is_dirty a.dirty)
  pub logged : AreOfTable (length a.dirty) a.changes → AreOfTable (length b.dirty) b.changes
  pub calls : Ran
      (told (store_rack a.store)) (told (store_rack b.store)) (AreArrayReads (disks_of a.store))
  pub off : Ran
      (told (store_rack a.store)) (told (store_rack b.store)) (AreOffDisk (named_out a.meta.out))
  pub left : a.failed ≡ None
      → AreLeft b.failed (slot (store_rack a.store)) (slot (store_rack b.store))
  pub ends : a.failed ≡ None
      → Ran (told (store_rack a.store)) (told (store_rack b.store)) (λ s cs. EndsByLoss b.failed cs)
  pub over : (e : ℕ) → a.failed ≡ Some e
      → (b.failed ≡ Some e) × (slot (store_rack b.store) ≡ slot (store_rack a.store))
  pub still : (e : ℕ) → a.failed ≡ Some e → told (store_rack b.store) ≡ told (store_rack a.store)
  pub below : (e : ℕ) → a.failed ≡ None
      → b.failed ≡ Some e → (e < disks_of a.store) × (named_out a.meta.out ≢ Some e)
