-- Stripes that are copied past the log.
use Rattle.std.specs.Prelude.{◌≡◌, ℕ, ◌<◌, Bool, List, [], None, Option, Some, slice_index_or}
use Rattle.paraid_base.specs.declared.block.Block.{Block}
use Rattle.paraid_base.specs.declared.state.Out.TheVariants.{Fresh, No}
use Rattle.paraid_base.specs.History.{History}
use Rattle.paraid_base.specs.Regions.{soft_place_of}
use Rattle.paraid_base.specs.States.{phase_to, rising_to}
use Rattle.paraid_base.specs.Xor.{zero_block}
use Rattle.paraid_moves.specs.MoveMetas.{AreStripesCopied, view_with_out, copied_block}
use Rattle.paraid_rack.specs.Disks.{Disks}
use Rattle.paraid_rack.specs.Told.{CrashTriple, Ran}
use Rattle.paraid_rack.specs.Trail.{Trail}
use Rattle.paraid_record.specs.declared.meta.Meta.{Meta}
use Rattle.paraid_image.specs.Out.{named_out}
use Rattle.paraid_image.specs.Standing.{contents}
use Rattle.paraid_txn.specs.Stores.{named_of, store_rack}
use Rattle.paraid_core.specs.declared.staged.Core.{Core}
use Rattle.paraid_core.specs.CoreInvariant.{HoldsBetweenCalls}
use Rattle.paraid_core.specs.Cores.{IsCoreHeldSinceCommit}

-- Gear and rising gear are those of the last commit. While no disk is out, phase and fill mark are
-- too. A disk that it calls fresh is out, and one that is being rebuilt now was fresh in it, with
-- as many units.
pub record IsShiftCommitted (base m : Meta) : Type 0 where
  pub gear : base.gear ≡ m.gear
  pub rises : rising_to base.phase ≡ rising_to m.phase
  pub fresh : (d units : ℕ) → base.out ≡ Fresh d units → named_out m.out ≡ Some d
  pub phase : m.out ≡ No → base.phase ≡ m.phase
  pub fill : m.out ≡ No → base.fill ≡ m.fill
  pub rebuilt : (d units : ℕ) → m.out ≡ Fresh d units → base.out ≡ Fresh d units

-- What the disks hold while stripes are copied: nothing is staged over the last commit, and the
-- stripes of the new gear from the fill mark to `end` are copied.
pub record KeepsFilled (slots : ℕ) (named : Option ℕ) (m : Meta) (table : List (List Bool))
    (copied : List Bool) (h : History) (lo : ℕ) (end : ℕ) (s : Disks) : Type 0 where
  pub keeps : HoldsBetweenCalls slots named m table [] copied h lo s
  pub shift : IsShiftCommitted keeps.base m
  pub filled : AreStripesCopied (view_with_out m None (contents s [])) end

-- one of the blocks of a stripe
abbrev pub member : List Block → ℕ → Block
member blocks e = slice_index_or blocks e zero_block

-- The blocks are those of stripe `at`, and the first `done` of them are in their places.
pub record IsFilling
    (slots : ℕ) (named : Option ℕ) (m : Meta) (table : List (List Bool)) (copied : List Bool)
    (h : History) (lo : ℕ) (at : ℕ) (blocks : List Block) (done : ℕ) (s : Disks) : Type 0 where
  pub before : KeepsFilled slots named m table copied h lo at s
  pub values : (e : ℕ) → e < phase_to m.phase → member blocks e
      ≡ copied_block (view_with_out m None (contents s [])) (phase_to m.phase) at e
  pub written : (e : ℕ) → e < done
      → contents s [] e (soft_place_of m.setup.geometry (phase_to m.phase) at) ≡ member blocks e

-- the same of a core
abbrev pub Filled : {R : Type 0} {g : _} → (R → ℕ) → Core R g → History → ℕ → ℕ → Disks → Type 0
Filled count core h lo end = KeepsFilled
    (count (store_rack core.store)) (named_of core.store) core.meta core.dirty core.copied h lo end

-- it is so of a core
abbrev pub Filling : {R : Type 0} {g : _}
    → (R → ℕ) → Core R g → History → ℕ → ℕ → List Block → ℕ → Disks → Type 0
Filling count core h lo at blocks done = IsFilling (count (store_rack core.store))
    (named_of core.store) core.meta core.dirty core.copied h lo at blocks done

-- Where no disk is out then, the meta is as it was, and the stripes that were copied are so still.
abbrev pub StaysFilled : {R : Type 0} {g : _}
    → (R → ℕ) → (R → Option Trail) → Core R g → Core R g → Type 0
StaysFilled count told old new = new.meta.out ≡ No
    → (new.meta ≡ old.meta) × ((h : History) (lo end : ℕ)
    → Ran (told (store_rack old.store)) (told (store_rack new.store)) (CrashTriple
    (IsCoreHeldSinceCommit count old h lo) (Filled count old h lo end) (Filled count new h lo end)))
