-- A disk that is replaced, and one that comes back.
use Rattle.std.specs.Prelude.{◌≡◌, ◌≢◌, ℕ, ◌<◌, ◌≤◌, Bool, List, Option, Some}
use Rattle.paraid_base.specs.declared.state.Out.{Out}
use Rattle.paraid_base.specs.History.{History}
use Rattle.paraid_base.specs.Regions.{disk_size}
use Rattle.paraid_base.specs.States.{rising_to}
use Rattle.paraid_rack.specs.declared.call.Power.TheVariants.{Spinning}
use Rattle.paraid_rack.specs.Disks.{Disks}
use Rattle.paraid_rack.specs.Slots.{Slot}
use Rattle.paraid_record.specs.declared.meta.Meta.{Meta}
use Rattle.paraid_image.specs.Out.{named_out}
use Rattle.paraid_txn.specs.Stores.{named_of, store_rack}
use Rattle.paraid_core.specs.declared.staged.Core.{Core}
use Rattle.paraid_core.specs.Fills.{KeepsFilled}

-- What the disks hold with nothing staged, where the meta of the last commit says this of the disk
-- that is out.
pub record KeepsCommitted (slots : ℕ) (named : Option ℕ) (m : Meta) (table : List (List Bool))
    (copied : List Bool) (h : History) (lo : ℕ) (out : Out) (s : Disks) : Type 0 where
  pub filled : KeepsFilled slots named m table copied h lo m.fill s
  pub marks : filled.keeps.base.out ≡ out

-- the same of a core
abbrev pub CoreCommitted : {R : Type 0} {g : _}
    → (R → ℕ) → Core R g → History → ℕ → Out → Disks → Type 0
CoreCommitted count core h lo out = KeepsCommitted
    (count (store_rack core.store)) (named_of core.store) core.meta core.dirty core.copied h lo out

-- the disks to which a shift goes up have come up
pub record HaveComeUp (slot : ℕ → Slot) (m : Meta) : Type 0 where
  pub spins : (d : ℕ) → d < rising_to m.phase → named_out m.out ≢ Some d → (slot d).power ≡ Spinning
  pub large : (d : ℕ) → d < rising_to m.phase
      → named_out m.out ≢ Some d → disk_size m.setup.geometry ≤ (slot d).size

-- the disks to which a shift goes up have come up, but for this one, which is large enough
pub record HaveComeUpBut (slot : ℕ → Slot) (m : Meta) (disk : ℕ) : Type 0 where
  pub spins : (d : ℕ)
      → d < rising_to m.phase → d ≢ disk → named_out m.out ≢ Some d → (slot d).power ≡ Spinning
  pub large : (d : ℕ) → d < rising_to m.phase
      → named_out m.out ≢ Some d → disk_size m.setup.geometry ≤ (slot d).size
