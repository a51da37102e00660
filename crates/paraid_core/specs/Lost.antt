-- Which disk was lost in a call of a core, and which metas stand in it.
use Rattle.std.specs.Prelude.{◌≡◌, ◌≢◌, ℕ, ◌<◌, Option, Some}
use Rattle.paraid_rack.specs.Slots.{Slot}
use Rattle.paraid_rack.specs.Told.{Ran}
use Rattle.paraid_rack.specs.Trail.{Trail}
use Rattle.paraid_base.specs.declared.fault.Two.{Two}
use Rattle.paraid_record.specs.declared.meta.Meta.{Meta}
use Rattle.paraid_image.specs.Lost.{TellsLosses}
use Rattle.paraid_image.specs.Mark.{meta_after_loss, meta_with_lost}
use Rattle.paraid_image.specs.Out.{named_out}
use Rattle.paraid_txn.specs.Losses.{IsLostNow, IsWell}
use Rattle.paraid_txn.specs.Stores.{store_rack}
use Rattle.paraid_view.specs.Reads.{AreArrayReads}
use Rattle.paraid_core.specs.declared.staged.Core.{Core}

-- The meta is as it was, with its counts of commits and writes as they are now, but for the marks
-- of a disk that was lost: no other one was out, it has failed in the call and is absent. No other
-- disk has failed.
pub record MarksLost (old new : ℕ → Slot) (m m_then : Meta) : Type 0 where
  pub lost : Option ℕ
  pub is : m_then ≡ record (meta_with_lost lost m) { epoch = m_then.epoch; writes = m_then.writes }
  pub disk : (d : ℕ) → lost ≡ Some d → d < m.setup.geometry.disks
  pub alone : (d x : ℕ) → lost ≡ Some d → named_out m.out ≡ Some x → x ≡ d
  pub failed : (d : ℕ) → lost ≡ Some d → IsLostNow old new d
  pub others : (d : ℕ) → lost ≢ Some d → IsWell (old d) (new d)

-- the same of a core
abbrev pub CoreMarksLost : {R : Type 0} {g : _} → (R → ℕ → Slot) → Core R g → Core R g → Type 0
CoreMarksLost slot old new =
    MarksLost (slot (store_rack old.store)) (slot (store_rack new.store)) old.meta new.meta

-- A disk of the array has failed in the call and is absent, and the meta names it as gone.
pub record LosesDisk (old new : ℕ → Slot) (m m_then : Meta) : Type 0 where
  pub disk : ℕ
  pub low : disk < m.setup.geometry.disks
  pub failed : IsLostNow old new disk
  pub gone : m_then ≡ meta_after_loss m disk

-- the same of a core
abbrev pub CoreLosesDisk : {R : Type 0} {g : _} → (R → ℕ → Slot) → Core R g → Core R g → Type 0
CoreLosesDisk slot old new =
    LosesDisk (slot (store_rack old.store)) (slot (store_rack new.store)) old.meta new.meta

-- it makes reads alone
abbrev pub MakesReads : {R : Type 0} {g : _} → (R → Option Trail) → Core R g → Core R g → Type 0
MakesReads told old new = Ran (told (store_rack old.store))
    (told (store_rack new.store)) (AreArrayReads old.meta.setup.geometry.disks)

-- Of two disks that are lost in a call, beside this one that was out or with none, it is told which
-- was lost first.
abbrev pub CoreTellsLosses : {R : Type 0} {g : _}
    → (R → Option Trail) → Option ℕ → Core R g → Core R g → Two → Type 0
CoreTellsLosses told out old new = λ two. Ran (told (store_rack old.store))
    (told (store_rack new.store)) (λ start calls. TellsLosses out two calls)
