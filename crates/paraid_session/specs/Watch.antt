-- What is watched from call to call: the disks, which of them are down, and what the calls owe.
use Rattle.std.specs.Prelude.{◌≡◌, ◌≢◌, ℕ, ◌+◌, ◌<◌, ◌≤◌, ◌==◌, ◌&&◌, Bool, true, List, [], ◌∷◌, slice_index, Option, Some, None, if◌then◌else◌}
use Rattle.paraid_base.specs.declared.fault.Two.{Two}
use Rattle.paraid_base.specs.History.{History}
use Rattle.paraid_base.specs.Regions.{disk_size}
use Rattle.paraid_rack.specs.declared.call.Call.{Call}
use Rattle.paraid_rack.specs.declared.call.Call.TheVariants.{SpinUp, Attach}
use Rattle.paraid_rack.specs.Disks.{Disks, IsPresent, step}
use Rattle.paraid_rack.specs.Lawful.{IsLawful}
use Rattle.paraid_record.specs.declared.meta.Meta.{Meta}
use Rattle.paraid_record.specs.declared.meta.Setup.{Setup}
use Rattle.paraid_image.specs.Calls.{spin_ups_after, disk_of, is_attach, is_done}
use Rattle.paraid_image.specs.HeldAt.{IsHeld}
use Rattle.paraid_image.specs.Looked.{IsLooked}
use Rattle.paraid_image.specs.Lost.{EndsFailing}
pub use Rattle.paraid_image.specs.Lost.{fails_on, first_lost}
use Rattle.paraid_image.specs.Out.{named_out}
use Rattle.paraid_image.specs.Sides.{LogState}
use Rattle.paraid_image.specs.Spins.{made_spin_ups}
use Rattle.paraid_image.specs.Standing.{Stands}

-- how many disks are down: none, one, or more
pub data Down : Type 0 where
  nobody : Down
  only : ℕ → Down
  several : Down

-- disk `d` is among those that are down
abbrev pub IsAmongDown : Down → ℕ → Type 0
IsAmongDown nobody d = ⊥
IsAmongDown (only e) d = d ≡ e
IsAmongDown several d = Unit {0}

-- disk `d` is down too
abbrev pub with_down : ℕ → Down → Down
with_down d nobody = only d
with_down d (only e) = if d == e then only e else several
with_down d several = several

-- who is down, of a disk that is out or none
abbrev pub down_from_out : Option ℕ → Down
down_from_out None = nobody
down_from_out (Some d) = only d

-- a disk is down from a failed call on
abbrev pub down_after : Down → Call → Down
down_after down call = if is_done call then down else with_down (disk_of call) down

-- claims are made while at most one disk is down
abbrev pub IsServing : Down → Type 0
IsServing nobody = Unit {0}
IsServing (only d) = Unit {0}
IsServing several = ⊥

-- The disks at a moment and those that are down; by disk the spin-ups since its last attach; and
-- a disk that was taken out and has not been attached since.
pub record Watch : Type 0 where
  pub disks : Disks
  pub down : Down
  pub spun : ℕ → ℕ
  pub awaited : Option ℕ

-- a disk that is waited for, unless the call attaches it
abbrev pub awaited_after : Option ℕ → Call → Option ℕ
awaited_after None call = None
awaited_after (Some d) call = if is_attach call && disk_of call == d then None else Some d

-- what is watched, after one call more
abbrev pub watch : Call → Watch → Watch
watch call w = record {
  disks = step call w.disks;
  down = down_after w.down call;
  spun = λ d. spin_ups_after d (w.spun d) call;
  awaited = awaited_after w.awaited call;
}

-- the same after some calls
abbrev pub watch_all : List Call → Watch → Watch
watch_all [] w = w
watch_all (call ∷ calls) w = watch_all calls (watch call w)

-- The last of these calls failed on the second disk, and up to it one disk at most was down. So
-- none comes after two are down.
pub record EndsServing (two : Two) (w : Watch) (calls : List Call) : Type 0 where
  pub before : List Call
  pub ends : EndsFailing two.second before calls
  pub serving : IsServing (watch_all before w).down

-- P at each moment of these calls, the first and the last too, and each call is allowed
abbrev pub Each : (Watch → Type 0) → (Watch → Call → Type 0) → Watch → List Call → Type 0
Each P Allowed w [] = P w
Each P Allowed w (call ∷ calls) = P w × Allowed w call × Each P Allowed (watch call w) calls

-- while at most one disk is down, each stop leaves a first part of `h` of at least `lo` writes
abbrev pub IsHeldWhileServing : ℕ → Disks → History → ℕ → Down → Type 0
IsHeldWhileServing slots s h lo nobody = IsHeld slots s h lo None
IsHeldWhileServing slots s h lo (only d) = IsHeld slots s h lo (Some d)
IsHeldWhileServing slots s h lo several = Unit {0}

-- what bounds the metas that stand during an event or a mount: the setup that each has, and the
-- greatest epoch and number of ticks
pub record Bounds : Type 0 where
  pub setup : Setup
  pub epoch : ℕ
  pub ticks : ℕ

-- The meta that stands in image `i` is within the bounds. Of each disk that is there and that it
-- does not name out it has recorded the spin-ups that were made.
pub record IsWithinBounds (b : Bounds) (spun : ℕ → ℕ) (i : Disks) (m : Meta) : Type 0 where
  pub same_setup : m.setup ≡ b.setup
  pub in_time : m.epoch ≤ b.epoch
  pub counted_ticks : m.ticks ≤ b.ticks
  pub recorded : (d : ℕ) → d < b.setup.geometry.disks → IsPresent i d → named_out m.out ≢ Some d
      → spun d ≤ made_spin_ups m i.power d

-- What holds at each moment, while at most one disk is down: each stop leaves a first part of `h`
-- of at least `lo` writes, and in each image that is looked at what stands is within the bounds.
pub record HoldsWhileServing
    (slots : ℕ) (h : History) (lo : ℕ) (b : Bounds) (w : Watch) : Type 0 where
  pub held : IsHeldWhileServing slots w.disks h lo w.down
  pub within : IsServing w.down → (x : ℕ) (i : Disks) (said : LogState)
      → IsLooked w.disks i → Stands i x said → IsWithinBounds b w.spun i said.meta

-- A call is on a disk of the array and lawful by its power. A disk is attached where this one is
-- asked for, and with the size that it needs; one that was taken out gets no call before it is
-- attached; and one is spun up where all that may stand has recorded it, and while at most one disk
-- is down.
pub record IsAllowed (setup : Setup) (asked : Option ℕ) (w : Watch) (call : Call) : Type 0 where
  pub disk : disk_of call < setup.geometry.disks
  pub power : IsLawful w.disks call
  pub attach : (d size : ℕ) (done : Bool) → call ≡ Attach d size done
      → (size ≡ disk_size setup.geometry) × (asked ≡ Some d)
  pub awaited : w.awaited ≡ Some (disk_of call) → is_attach call ≡ true
  pub serving : (d : ℕ) (done : Bool) → call ≡ SpinUp d done → IsServing w.down
  pub recorded : (d : ℕ) (done : Bool) → call ≡ SpinUp d done → IsServing w.down
      → (x : ℕ) (i : Disks) (said : LogState) → IsLooked w.disks i → Stands i x said
      → w.spun d + 1 ≤ slice_index said.meta.spins d

-- the calls before the first failed one
abbrev pub before_loss : List Call → List Call
before_loss [] = []
before_loss (call ∷ calls) = if is_done call then call ∷ before_loss calls else []

-- how often a disk is attached
abbrev pub attach_count : List Call → ℕ
attach_count [] = 0
attach_count (call ∷ calls) = if is_attach call then attach_count calls + 1 else attach_count calls
