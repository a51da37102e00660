-- Lines, whether there are volumes or not.
use Rattle.std.specs.Prelude.{◌≡◌, ℕ, ◌≤◌, ◌++◌, [], List, Option, Some, None, Err, IsTrue, codes}
use Rattle.paraid_base.specs.declared.fault.Halt.{Halt}
use Rattle.paraid_base.specs.BlockAnswers.{Answers}
use Rattle.paraid_base.specs.History.{History, after_all}
use Rattle.paraid_blocks.specs.declared.blocks.Blocks.{Ghosts}
use Rattle.paraid_trace.specs.Replies.{halt_text}
use Rattle.paraid_volume.specs.declared.fault.VolRefused.{VolRefused}
use Rattle.paraid_volume.specs.declared.volumes.Volumes.{Volumes}
use Rattle.paraid_volume.specs.Device.{DeviceGoesOn, DeviceHolds, IsReadEvent, KeepsMore, entries_in}
use Rattle.paraid_volume.specs.Faults.{vol_halt_in}
use Rattle.paraid_volume.specs.Lives.{Life, VolLog}
use Rattle.paraid_volume.specs.States.{VolumeState}
use Rattle.paraid_volume.specs.Tables.{IsVolumeTable}
use Rattle.paraid_volume.specs.Values.{VolumesStandFor, device_of, halted_of, volume_table}
use Rattle.paraid_volume_lines.specs.Grammar.{VolLine, bad, list}
use Rattle.paraid_service.specs.declared.shelf.Shelf.{Shelf}
use Rattle.paraid_service.specs.declared.shelf.Shelf.TheVariants.{Bare, Held as HeldShelf}
use Rattle.paraid_service.specs.declared.shelf.Shelved.{Shelved}
use Rattle.paraid_service.specs.LineSteps.{KeepsReply}
use Rattle.paraid_service.specs.VolumeForms.{AreFirstReads, IsReplyToLine, Tabled}
use Rattle.paraid_service.specs.VolumeLines.{Held, IsEventOf, LineStep}
use Rattle.paraid_service.specs.VolumeSessions.{AreFlushesKept, life_start}

-- its device
abbrev pub device_in : {B : Type 0} {g : Ghosts B} → Shelf B g → B
device_in (HeldShelf volumes) = device_of volumes
device_in (Bare blocks) = blocks

-- the table of its volumes
abbrev pub table_in : {B : Type 0} {g : Ghosts B} → Shelf B g → Tabled
table_in (HeldShelf volumes) = Some (volume_table volumes)
table_in (Bare blocks) = None

-- its volumes have not halted
abbrev pub IsGoing : {B : Type 0} {g : Ghosts B} → Shelf B g → Type 0
IsGoing (HeldShelf volumes) = halted_of volumes ≡ None
IsGoing (Bare blocks) = Unit {0}

-- a device that was not taken, and the halt that was the cause
abbrev pub left_bare : {B : Type 0} {g : Ghosts B} → VolRefused B → Shelved B g
left_bare refused =
    record { shelf = Bare refused.blocks; halt = vol_halt_in {A = Unit {0}} (Err refused.fault) }

-- Volumes in this state, by a life whose writes are those of the events that were kept since the
-- device was as `first`, stood for `h` and held this. Each flush of that life is one of these
-- events.
pub record OnHeld {B : Type 0} (g : Ghosts B) (first : B) (count : ℕ) (h : History)
    (was : Held) (volumes : Volumes B g) (s : VolumeState) (log : VolLog) : Type 0 where
  pub events : Answers
  pub kept : g.kept first (device_of volumes) events
  pub writes : History
  pub are : writes ≡ h ++ entries_in events
  pub stands : VolumesStandFor g.stands volumes writes
  pub life : Life count (life_start was h) writes s log
  pub flushes : AreFlushesKept log events

-- no table, as at first, and no write since then
pub record OnBare {B : Type 0} (g : Ghosts B)
    (first : B) (count : ℕ) (h : History) (was : Held) (blocks : B) (log : VolLog) : Type 0 where
  pub none : log ≡ []
  pub bare : was ≡ None
  pub holds : DeviceHolds g.stands g.kept (Some (first, h, [])) blocks h
  pub no_table : 7 ≤ count → IsVolumeTable count (after_all h) → ⊥

-- what is there is held so, after these calls
abbrev pub OnShelf : {B : Type 0} (g : Ghosts B)
    → B → ℕ → History → Held → Shelf B g → Held → VolLog → Type 0
OnShelf g first count h was (HeldShelf volumes) (Some s) log =
    OnHeld g first count h was volumes s log
OnShelf g first count h was (HeldShelf volumes) None log = ⊥
OnShelf g first count h was (Bare blocks) (Some s) log = ⊥
OnShelf g first count h was (Bare blocks) None log = OnBare g first count h was blocks log

-- the same before any line
abbrev pub OnFirst : {B : Type 0} (g : Ghosts B) → B → ℕ → History → Shelf B g → Held → Type 0
OnFirst g first count h (HeldShelf volumes) (Some s) =
    (on : OnHeld g first count h (Some s) volumes s []) × (on.writes ≡ h)
OnFirst g first count h (HeldShelf volumes) None = ⊥
OnFirst g first count h (Bare blocks) (Some s) = ⊥
OnFirst g first count h (Bare blocks) None = OnBare g first count h None blocks []

-- one step, and how things are held then
pub record StepsShelf (holds : Held → VolLog → Type 0)
    (count : ℕ) (s : Held) (line : VolLine) (said : List ℕ) (log : VolLog) : Type 0 where
  pub more : VolLog
  pub last : Held
  pub step : LineStep count s line said more last
  pub on : holds last (log ++ more)

-- A line was answered, by its text with a newline: by a step, or by a halt, which came of it.
pub record ServesShelf {B : Type 0} (g : Ghosts B)
    (old new : Shelf B g) (line : VolLine) (text : List ℕ) (halt : Option Halt) : Type 0 where
  pub going : halt ≡ None → IsGoing new
  pub went : DeviceGoesOn g.block_count g.halts g.halted g.tells (device_in old) (device_in new)
  pub keeps : KeepsMore g.kept g.tells (IsEventOf line) (device_in old) (device_in new)
  pub said : List ℕ
  pub printed : text ≡ said ++ codes "\n"
  pub reply : halt ≡ None → KeepsReply g.kept (λ made. IsReplyToLine (g.block_count (device_in old))
      (table_in old) line said made (table_in new)) (device_in old) (device_in new)
  pub halted : g.halted (device_in old) ≡ None → g.halted (device_in new) ≡ halt
  pub step : halt ≡ None → (first : B) (h : History) (was s : Held) (log : VolLog)
      → OnShelf g first (g.block_count (device_in old)) h was old s log
      → IsTrue (g.tells (device_in new))
      → StepsShelf (OnShelf g first (g.block_count (device_in old)) h was new)
      (g.block_count (device_in old)) s line said log
  pub halts : (own : Halt)
      → halt ≡ Some own → (said ≡ halt_text own) × (line ≡ bad → ⊥) × (line ≡ list → ⊥)

-- The table of a device was taken, or it holds none, or the device has halted.
pub record OpensShelf
    {B : Type 0} (g : Ghosts B) (blocks : B) (new : Shelf B g) (halt : Option Halt) : Type 0 where
  pub going : halt ≡ None → IsGoing new
  pub went : DeviceGoesOn g.block_count g.halts g.halted g.tells blocks (device_in new)
  pub keeps : KeepsMore g.kept g.tells IsReadEvent blocks (device_in new)
  pub reads : KeepsReply g.kept (λ made.
      AreFirstReads (g.block_count blocks) halt made (table_in new)) blocks (device_in new)
  pub halted : g.halted blocks ≡ None → g.halted (device_in new) ≡ halt
  pub first : halt ≡ None
      → (first : B) (h : History) → DeviceHolds g.stands g.kept (Some (first, h, [])) blocks h
      → IsTrue (g.tells (device_in new))
      → (s : Held) × OnFirst g first (g.block_count blocks) h new s
