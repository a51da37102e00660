-- What a mount leaves: from a rack that held a history to the first point of a session.
use Rattle.std.specs.Prelude.{◌≡◌, ℕ, ◌+◌, ◌<◌, ◌≤◌, ◌⊎◌, min, max, true, false, List, length, take, drop, Option, Some, None}
use Rattle.paraid_base.specs.declared.state.Out.TheVariants.{Gone}
use Rattle.paraid_base.specs.History.{History}
use Rattle.paraid_base.specs.Log.{worn_at}
use Rattle.paraid_base.specs.States.{gone_out}
use Rattle.paraid_rack.specs.declared.call.Call.{Call}
use Rattle.paraid_rack.specs.Disks.{Disks, lose}
use Rattle.paraid_rack.specs.Lawful.{IsLawful}
use Rattle.paraid_rack.specs.Trail.{Trail, disks, run}
use Rattle.paraid_record.specs.declared.meta.Setup.{Setup}
use Rattle.paraid_image.specs.Calls.{disk_of, is_attach, reads_log}
use Rattle.paraid_image.specs.RunStart.{IsRunStart}
use Rattle.paraid_image.specs.HeldAt.{MayLose}
use Rattle.paraid_image.specs.Spins.{made_spin_ups}
use Rattle.paraid_image.specs.Power.{PowerState, initial_state}
use Rattle.paraid_image.specs.Shown.{IsBeginning}
use Rattle.paraid_image.specs.Sides.{LogState}
use Rattle.paraid_image.specs.Standing.{Stands}
use Rattle.paraid_machine.specs.Moves.{after_loss}
use Rattle.paraid_session.specs.Turn.{AreDirtyShown, IsMark, Point}
use Rattle.paraid_session.specs.Watch.{Bounds, Down, Each, IsAllowed, HoldsWhileServing, IsServing, Watch, down_from_out, first_lost, several, watch_all}
use Rattle.paraid_rack.specs.Calls.{AreReads}

-- The spin-ups at a run start, by disk, and the most ticks: what the log disk that stands has
-- recorded; or where it may be lost and the other one stands then, the lesser, and the more, of
-- what both have.
pub data IsBase (s : Disks) (x : ℕ) (said : LogState) (base : ℕ → ℕ) (ticks : ℕ) : Type 0 where
  alone : ((y : ℕ) (other : LogState) → MayLose s x → Stands (lose x s) y other → ⊥)
      → ((d : ℕ) → base d ≡ made_spin_ups said.meta s.power d)
      → ticks ≡ said.meta.ticks → IsBase s x said base ticks
  lesser : (y : ℕ) (other : LogState) → MayLose s x → Stands (lose x s) y other → ((d : ℕ)
      → base d ≡ min (made_spin_ups said.meta s.power d) (made_spin_ups other.meta s.power d))
      → ticks ≡ max said.meta.ticks other.meta.ticks → IsBase s x said base ticks

-- what is watched from where a run begins
abbrev pub start_watch : Disks → Option ℕ → (ℕ → ℕ) → Watch
start_watch s down base =
    record { disks = s; down = down_from_out down; spun = base; awaited = None }

-- A call of a mount is lawful by the power of its disk and attaches none. While at most one disk is
-- down it is one that is allowed, and only reads the log of a disk that was gone.
pub record IsAllowedInMount (said : LogState) (w : Watch) (call : Call) : Type 0 where
  pub power : IsLawful w.disks call
  pub attaches : is_attach call ≡ false
  pub allowed : IsServing w.down → IsAllowed said.meta.setup None w call
  pub gone : IsServing w.down → said.meta.out ≡ Gone (disk_of call) → reads_log call ≡ true

-- the state begins as this one is, with no sample yet
pub record IsLike (setup : Setup) (state shown : PowerState) : Type 0 where
  pub beginning : IsBeginning state shown
  pub dirty : (r d : ℕ) → r < setup.geometry.rows → state.dirty r d ≡ shown.dirty r d

-- Which writes are held and which state begins: those of the run start; where a disk was
-- lost, those of the run start with this disk gone, or with its slot absent.
pub data BeginsSession
    (s : Disks) (said : LogState) (calls : List Call) (k : ℕ) (state : PowerState) : Type 0 where
  quietly : first_lost calls ≡ None → k ≡ said.meta.writes
      → IsLike said.meta.setup state (initial_state s said) → BeginsSession s said calls k state
  losing : (d : ℕ) → first_lost calls ≡ Some d
      → k ≡ said.meta.writes → IsLike said.meta.setup state (after_loss (initial_state s said) d)
      → BeginsSession s said calls k state
  without : (d y : ℕ) (other : LogState) → first_lost calls ≡ Some d → Stands (lose d s) y other
      → k ≡ other.meta.writes → IsLike said.meta.setup state (initial_state (lose d s) other)
      → BeginsSession s said calls k state

-- the first point of a session
pub record IsBegun (slots : ℕ) (s : Disks) (said : LogState) (h : History)
    (lo : ℕ) (down : Option ℕ) (base : ℕ → ℕ) (calls : List Call) (p : Point) : Type 0 where
  pub disks : p.disks ≡ run s calls
  pub low : lo ≤ p.low
  pub high : p.low ≤ length h
  pub history : p.history ≡ take p.low h
  pub mark : IsMark slots said.meta.setup p
  pub writes : p.low ≡ p.meta.writes
  pub ticks : p.state.ticks ≡ p.meta.ticks
  pub dirty : AreDirtyShown said.meta.setup p
  pub state : BeginsSession s said calls p.low p.state
  pub energy : p.energy ≡ 0
  pub spun : p.spun ≡ (watch_all calls (start_watch s down base)).spun
  pub awaited : p.awaited ≡ gone_out p.state.out
  pub going : p.halt ≡ None

-- no mount makes more commits than so many
abbrev pub mount_room : ℕ
mount_room = 8

-- what bounds the metas that stand during a mount
abbrev pub mount_bounds : LogState → ℕ → Bounds
mount_bounds said ticks =
    record { setup = said.meta.setup; epoch = said.meta.epoch + mount_room; ticks = ticks }

-- The calls of a mount. At each moment each stop leaves the history of the run start.
pub record IsMounting (slots : ℕ) (s : Disks) (x : ℕ)
    (said : LogState) (h : History) (lo : ℕ) (down : Option ℕ) (calls : List Call) : Type 0 where
  pub base : ℕ → ℕ
  pub ticks : ℕ
  pub is_base : IsBase s x said base ticks
  pub moments : Each (HoldsWhileServing slots h lo (mount_bounds said ticks))
      (IsAllowedInMount said) (start_watch s down base) calls

-- the disks that are down after the calls of a mount
abbrev pub down_after_mount : Disks → Option ℕ → (ℕ → ℕ) → List Call → Down
down_after_mount s down base calls = (watch_all calls (start_watch s down base)).down

-- A mount that is not refused. Where two disks are down at its end, nothing is said of what
-- follows.
pub record IsMounted (slots : ℕ) (s : Disks) (x : ℕ) (said : LogState) (h : History)
    (lo : ℕ) (down : Option ℕ) (calls : List Call) (follows : Point → Type 0) : Type 0 where
  pub mounting : IsMounting slots s x said h lo down calls
  pub ends : (down_after_mount s down mounting.base calls ≡ several)
      ⊎ ((p : Point) × IsBegun slots s said h lo down mounting.base calls p × follows p)

-- why a mount is refused, as far as its cause lies in what the rack held or not
pub data Refusal : Type 0 where
  no_memory : Refusal
  -- so many commits or writes were made
  worn : ℕ → Refusal
  -- two disks are down, or these are not the disks of an array
  lacking : Refusal

-- the cause lies not in the disks
abbrev pub IsCauseOutsideDisks : Refusal → Type 0
IsCauseOutsideDisks no_memory = Unit {0}
IsCauseOutsideDisks (worn count) = Unit {0}
IsCauseOutsideDisks lacking = ⊥

-- the array takes no more by the meta that stands, after reads alone
pub record IsWornOut (s : Disks) (calls : List Call) (count : ℕ) : Type 0 where
  pub reads : AreReads calls
  pub many : worn_at ≤ count
  pub is : (x : ℕ) (said : LogState)
      → Stands (run s calls) x said → count ≡ max said.meta.epoch said.meta.writes

-- A mount that is refused: two disks are down at its end, or the rack still holds the history, and
-- the cause is want of memory or wear.
pub record IsMountRefused (slots : ℕ) (s : Disks) (x : ℕ) (said : LogState)
    (h : History) (lo : ℕ) (down : Option ℕ) (calls : List Call) (why : Refusal) : Type 0 where
  pub mounting : IsMounting slots s x said h lo down calls
  pub ends : (down_after_mount s down mounting.base calls ≡ several)
      ⊎ ((own : Option ℕ) × IsRunStart slots (run s calls) h lo own × IsCauseOutsideDisks why)
  pub worn_out : (count : ℕ) → why ≡ worn count → IsWornOut s calls count

-- from each run start of a rack whose record is told and on which a mount began at this moment
abbrev pub FromRunStart : ℕ → ℕ
    → Option Trail → (Disks → ℕ → LogState → History → ℕ → Option ℕ → List Call → Type 0) → Type 0
FromRunStart slots began told P = (t : Trail)
    → told ≡ Some t → (h : History) (lo : ℕ) (down : Option ℕ) (x : ℕ) (said : LogState)
    → IsRunStart slots (disks t began) h lo down
    → Stands (disks t began) x said → P (disks t began) x said h lo down (drop began t.calls)

-- A mount from each run start of a rack whose record is told. Where a session follows, its setup is
-- that of what stood.
abbrev pub IsMountedFromEach : ℕ → Setup → ℕ → Option Trail → (Point → Type 0) → Type 0
IsMountedFromEach slots setup began told follows =
    FromRunStart slots began told (λ s x said h lo down calls.
    IsMounted slots s x said h lo down calls (λ p. (said.meta.setup ≡ setup) × follows p))

-- the same of a mount that is refused
abbrev pub IsRefusedFromEach : ℕ → ℕ → Option Trail → Refusal → Type 0
IsRefusedFromEach slots began told why = FromRunStart slots began told
    (λ s x said h lo down calls. IsMountRefused slots s x said h lo down calls why)
