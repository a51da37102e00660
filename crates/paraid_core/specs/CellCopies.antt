-- Cells that are copied past the log to their hard places.
use Rattle.std.specs.Prelude.{◌≡◌, ℕ, ◌==◌, ◌&&◌, ◌||◌, Bool, List, Option}
use Rattle.paraid_base.specs.declared.state.Out.TheVariants.{No}
use Rattle.paraid_base.specs.declared.block.Block.{Block}
use Rattle.paraid_base.specs.History.{History}
use Rattle.paraid_image.specs.Content.{view_by}
use Rattle.paraid_image.specs.Sides.{Batch}
use Rattle.paraid_image.specs.Standing.{contents}
use Rattle.paraid_image.specs.Value.{value}
use Rattle.paraid_moves.specs.MoveMetas.{AreCellsCopied}
use Rattle.paraid_rack.specs.Disks.{Disks}
use Rattle.paraid_rack.specs.Told.{CrashTriple, Ran}
use Rattle.paraid_rack.specs.Trail.{Trail}
use Rattle.paraid_record.specs.declared.meta.Meta.{Meta}
use Rattle.paraid_txn.specs.Stores.{named_of, store_rack}
use Rattle.paraid_core.specs.declared.staged.Core.{Core}
use Rattle.paraid_core.specs.CoreInvariant.{HoldsBetweenCalls}
use Rattle.paraid_core.specs.Cores.{IsCoreHeldSinceCommit}
use Rattle.paraid_core.specs.Fills.{IsShiftCommitted}

-- these cells and that of row `r` and disk `d`
abbrev pub copied_with : (ℕ → ℕ → Bool) → ℕ → ℕ → ℕ → ℕ → Bool
copied_with cells r d q e = (q == r && e == d) || cells q e

-- What the disks hold while cells are copied and marked: of these cells each that is dirty stores
-- its value in its hard place too.
pub record KeepsCellCopies
    (slots : ℕ) (named : Option ℕ) (m : Meta) (table : List (List Bool)) (batch : Batch)
    (copied : List Bool) (h : History) (lo : ℕ) (cells : ℕ → ℕ → Bool) (s : Disks) : Type 0 where
  pub keeps : HoldsBetweenCalls slots named m table batch copied h lo s
  pub shift : IsShiftCommitted keeps.base m
  pub stored : AreCellsCopied (view_by m s.power (contents s batch)) cells

-- The block is the value of one more cell.
pub record IsCopyingCell (slots : ℕ) (named : Option ℕ)
    (m : Meta) (table : List (List Bool)) (batch : Batch) (copied : List Bool) (h : History)
    (lo : ℕ) (cells : ℕ → ℕ → Bool) (r d : ℕ) (block : Block) (s : Disks) : Type 0 where
  pub before : KeepsCellCopies slots named m table batch copied h lo cells s
  pub is : block ≡ value (view_by m s.power (contents s batch)) r d

-- the same of a core
abbrev pub CellsCopied : {R : Type 0} {g : _}
    → (R → ℕ) → Core R g → History → ℕ → (ℕ → ℕ → Bool) → Disks → Type 0
CellsCopied count core h lo cells = KeepsCellCopies (count (store_rack core.store))
    (named_of core.store) core.meta core.dirty core.batch core.copied h lo cells

-- the second, of a core
abbrev pub CopyingCell : {R : Type 0} {g : _}
    → (R → ℕ) → Core R g → History → ℕ → (ℕ → ℕ → Bool) → ℕ → ℕ → Block → Disks → Type 0
CopyingCell count core h lo cells r d block = IsCopyingCell (count (store_rack core.store))
    (named_of core.store) core.meta core.dirty core.batch core.copied h lo cells r d block

-- Where no disk is out then, the meta is as it was, and the cells that were copied are so still.
abbrev pub StaysCopied : {R : Type 0} {g : _}
    → (R → ℕ) → (R → Option Trail) → Core R g → Core R g → Type 0
StaysCopied count told old new = new.meta.out ≡ No → (new.meta ≡ old.meta)
    × ((h : History) (lo : ℕ) (cells : ℕ → ℕ → Bool) → Ran (told (store_rack old.store))
    (told (store_rack new.store)) (CrashTriple (IsCoreHeldSinceCommit count old h lo)
    (CellsCopied count old h lo cells) (CellsCopied count new h lo cells)))
