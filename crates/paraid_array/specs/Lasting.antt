-- What an array keeps between two events, over every rack: while there is no halt, and after one.
use Rattle.std.specs.Prelude.{◌≡◌, ◌≢◌, ℕ, ◌≤◌, max, false, nat_lt, List, length, Option, Some, None, if◌then◌else◌}
use Rattle.paraid_base.specs.declared.fault.Halt.{Halt}
use Rattle.paraid_base.specs.declared.fault.Halt.TheVariants.{Worn}
use Rattle.paraid_base.specs.Log.{worn_at}
use Rattle.paraid_gear.specs.declared.three_windows.Windows.{Windows}
use Rattle.paraid_rack.specs.declared.call.Power.TheVariants.{Spinning}
use Rattle.paraid_rack.specs.Disks.{is_present}
use Rattle.paraid_rack.specs.Slots.{Slot}
use Rattle.paraid_record.specs.declared.meta.Meta.{Meta}
use Rattle.paraid_record.specs.declared.meta.Setup.{Setup}
use Rattle.paraid_image.specs.Out.{named_out}
use Rattle.paraid_session.specs.Powers.{FitsSlots}
use Rattle.paraid_txn.specs.Stores.{named_of, store_rack}
use Rattle.paraid_core.specs.declared.staged.Core.{Core}
use Rattle.paraid_core.specs.Units.{IsRebuilding}
use Rattle.paraid_event.specs.CoreServing.{IsCoreServing}
use Rattle.paraid_array.specs.declared.ended.HaltedAt.{HaltedAt}

-- Its core can serve, with this setup and over so many slots; the disk that is out is absent unless
-- the last commit names it, and one that is being rebuilt is named and spins; each disk that is not
-- out is powered by the gear; its windows have the lengths of the setup.
pub record IsArrayServing {R : Type 0} {g : _} (count : R → ℕ) (slot : R → ℕ → Slot)
    (core : Core R g) (lengths : List ℕ) (setup : Setup) (slots : ℕ) : Type 0 where
  pub serving : IsCoreServing count slot core
  pub absent : (d : ℕ) → named_out core.meta.out ≡ Some d
      → named_of core.store ≢ Some d → is_present (slot (store_rack core.store) d).power ≡ false
  pub named : (d : ℕ) → IsRebuilding core.meta d → named_of core.store ≡ Some d
  pub spins : (d : ℕ) → IsRebuilding core.meta d → (slot (store_rack core.store) d).power ≡ Spinning
  pub fits : FitsSlots (slot (store_rack core.store)) core.meta
  pub windows : lengths ≡ setup.windows
  pub same_setup : core.meta.setup ≡ setup
  pub same_slots : count (store_rack core.store) ≡ slots

-- the halt by which the service has ended, or none
abbrev pub halt_of_end : Option HaltedAt → Option Halt
halt_of_end None = None
halt_of_end (Some ended) = Some ended.halt

-- the gear that is told: this one, or after a halt the one before it
abbrev pub gear_of_end : Option HaltedAt → ℕ → ℕ
gear_of_end None now = now
gear_of_end (Some ended) now = ended.gear

-- A halt that tells wear tells the greater of the commits and the writes that this meta counts, and
-- that is 2^62 or more.
abbrev pub TellsItsWear : Meta → Option Halt → Type 0
TellsItsWear m halt = (count : ℕ)
    → halt ≡ Some (Worn count) → (worn_at ≤ count) × (count ≡ max m.epoch m.writes)

-- the longer of two lists
abbrev pub longer : List ℕ → List ℕ → List ℕ
longer xs ys = if nat_lt (length xs) (length ys) then ys else xs

-- the samples of the longest window
abbrev pub samples_held : Windows → List ℕ
samples_held windows =
    longer windows.first.samples (longer windows.second.samples windows.third.samples)
