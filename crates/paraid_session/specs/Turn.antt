-- One event of a session: what is answered, and what its calls leave.
use Rattle.std.specs.Prelude.{◌≡◌, ◌≢◌, ℕ, ◌+◌, ◌-◌, ◌^◌, ◌<◌, ◌≤◌, ◌⊎◌, ◌==◌, min, max, slice_index, Bool, true, false, List, [], ◌++◌, length, Option, Some, None, if◌then◌else◌}
use Rattle.paraid_base.specs.declared.event.Answer.{Answer}
use Rattle.paraid_base.specs.declared.event.Answer.TheVariants.{NoBlock, Flushed, Ticked, Shift, Top, Lowest, Shifting, Failed, Replaced, NoFresh, NoDisk, Out as IsOut, NotOut, Ration as RationUsed, State as IsState, Energy as EnergyUsed, Bad as IsBad, Halted}
use Rattle.paraid_base.specs.declared.event.Event.{Event}
use Rattle.paraid_base.specs.declared.event.Event.TheVariants.{Tick, Fail, Replace, State as AskState, Energy as AskEnergy, Bad}
use Rattle.paraid_base.specs.declared.fault.Halt.{Halt}
use Rattle.paraid_base.specs.declared.fault.Halt.TheVariants.{Two as HaltTwo, Worn}
use Rattle.paraid_base.specs.declared.fault.Two.{Two}
use Rattle.paraid_base.specs.declared.state.Out.TheVariants.{Fresh, Gone}
use Rattle.paraid_base.specs.declared.state.TickEvent.{TickEvent}
use Rattle.paraid_base.specs.declared.state.TickEvent.TheVariants.{Steady, Waiting, Begun, Ration}
use Rattle.paraid_base.specs.History.{History}
use Rattle.paraid_base.specs.Log.{worn_at}
use Rattle.paraid_base.specs.BlockAnswers.{accepted_write}
use Rattle.paraid_rack.specs.declared.call.Call.{Call}
use Rattle.paraid_rack.specs.declared.call.Power.{Power}
use Rattle.paraid_rack.specs.Atoms.{IsSure}
use Rattle.paraid_rack.specs.Disks.{Disks}
use Rattle.paraid_rack.specs.Trail.{run}
use Rattle.paraid_record.specs.declared.meta.Meta.{Meta}
use Rattle.paraid_record.specs.declared.meta.Setup.{Setup}
use Rattle.paraid_image.specs.Rest.{IsAtRest}
use Rattle.paraid_image.specs.HeldAt.{IsHeld}
use Rattle.paraid_image.specs.Out.{named_out}
use Rattle.paraid_image.specs.Power.{PowerState, initial_state, power_of}
use Rattle.paraid_image.specs.Sides.{closed_over, is_open}
use Rattle.paraid_image.specs.Shown.{IsShown, with_flush}
use Rattle.paraid_machine.specs.Energy.{energy_after, tick_energy}
use Rattle.paraid_machine.specs.Machine.{IsEventStep}
use Rattle.paraid_machine.specs.Moves.{state_with_tick}
use Rattle.paraid_session.specs.Ups.{spin_up_count}
use Rattle.paraid_session.specs.Watch.{Bounds, Down, Each, EndsServing, IsAllowed, HoldsWhileServing, IsServing, Watch, attach_count, before_loss, down_from_out, first_lost, watch_all, with_down}
use Rattle.paraid_base.specs.Told.{counter_most}

-- A session between two events: the disks; the writes that were accepted, and how many of them no
-- stop takes away; the meta that stands; the state; the energy that was used; by disk the spin-ups
-- since its last attach; a disk that was taken out and waits to be attached; and the halt that has
-- come.
pub record Point : Type 0 where
  pub disks : Disks
  pub history : History
  pub low : ℕ
  pub meta : Meta
  pub state : PowerState
  pub energy : ℕ
  pub spun : ℕ → ℕ
  pub awaited : Option ℕ
  pub halt : Option Halt

-- the state that the disks show by the meta that stands
abbrev pub state_at : Point → PowerState
state_at p = initial_state p.disks (closed_over p.meta)

-- What holds between two events: each stop leaves the writes; the disks are at rest under the meta
-- that stands, which has this setup and no more ticks than the state; they show the state, and are
-- powered as it says; and disk 2 bears witness against a log disk that the meta names out. Of a log
-- disk that is lost and not named yet nothing is said: the next commit names it (`named` of
-- `IsAnswered`).
pub record IsMark (slots : ℕ) (setup : Setup) (p : Point) : Type 0 where
  pub held : IsHeld slots p.disks p.history p.low (named_out p.state.out)
  pub rest : IsAtRest p.disks p.meta
  pub same_setup : p.meta.setup ≡ setup
  pub counted_ticks : p.meta.ticks ≤ p.state.ticks
  pub shown : IsShown p.state (state_at p)
  pub powers : (d : ℕ) (power : Power) → d < setup.geometry.disks → power_of p.state d ≡ Some power
      → p.disks.power d ≡ power
  pub borne : (x : ℕ)
      → x < 2 → named_out p.meta.out ≡ Some x → IsSure p.disks 2 x (λ b. is_open b ≡ true)

-- the disks show the dirty cells of the state too
abbrev pub AreDirtyShown : Setup → Point → Type 0
AreDirtyShown setup p = (r d : ℕ)
    → r < setup.geometry.rows → (state_at p).dirty r d ≡ p.state.dirty r d

-- whether an answer tells that a disk was put in, or that none could be
abbrev pub tells_attach : Answer → Bool
tells_attach (Replaced disk) = true
tells_attach (NoFresh disk) = true
tells_attach answer = false

-- a tick that begins a shift
abbrev pub is_begun : TickEvent → Bool
is_begun (Begun to) = true
is_begun event = false

-- whether an answer tells that a shift has begun
abbrev pub tells_begin : Answer → Bool
tells_begin (Shift gear to) = true
tells_begin (Ticked report) = is_begun report.event
tells_begin answer = false

-- whether an answer is that of a flush
abbrev pub is_flush : Answer → Bool
is_flush (Flushed writes) = true
is_flush answer = false

-- a tick that does nothing
abbrev pub is_idle : TickEvent → Bool
is_idle Steady = true
is_idle Waiting = true
is_idle (Ration disk) = true
is_idle event = false

-- an answer with which an event has made no call, unless a call of it failed
abbrev pub makes_no_call : Answer → Bool
makes_no_call (NoBlock block) = true
makes_no_call (Ticked report) = is_idle report.event
makes_no_call Top = true
makes_no_call Lowest = true
makes_no_call (Shifting to) = true
makes_no_call (IsOut disk) = true
makes_no_call (RationUsed disk) = true
makes_no_call (NoDisk disk) = true
makes_no_call (NotOut disk) = true
makes_no_call (IsState status disks) = true
makes_no_call (EnergyUsed total) = true
makes_no_call IsBad = true
makes_no_call answer = false

-- an event that a halt may answer
abbrev pub may_halt : Event → Bool
may_halt AskState = false
may_halt AskEnergy = false
may_halt Bad = false
may_halt event = true

-- how many commits or writes were made, the greater of the two
abbrev pub point_wear : Point → ℕ
point_wear p = max p.meta.epoch (length p.history)

-- the disk that an event asks to replace
abbrev pub replaced_by : Event → Option ℕ
replaced_by (Replace d) = Some d
replaced_by event = None

-- the disk that an event asks to take out
abbrev pub failed_by : Event → Option ℕ
failed_by (Fail d) = Some d
failed_by event = None

-- a disk that is taken out is down from the start of the event on, also where a second one is
-- lost in that event
abbrev pub taken_in_halt : Option ℕ → Halt → Down → Down
taken_in_halt None halt down = down
taken_in_halt (Some d) (HaltTwo two) down = if two.first == d then with_down d down else down
taken_in_halt (Some d) (Worn count) down = down

-- who is down after an event took a disk out
abbrev pub taken_out : Event → Answer → Down → Down
taken_out event (Failed d) down = with_down d down
taken_out event (Halted halt) down = taken_in_halt (failed_by event) halt down
taken_out event answer down = down

-- the watch as the calls of an event begin: the disk that is out is down
abbrev pub watch_of : Point → Event → Answer → Watch
watch_of p event answer = record {
  disks = p.disks;
  down = taken_out event answer (down_from_out (named_out p.state.out));
  spun = p.spun;
  awaited = p.awaited;
}

-- the disk that is waited for after an event
abbrev pub awaited_by : Answer → Option ℕ → Option ℕ
awaited_by (Failed d) awaited = Some d
awaited_by answer awaited = awaited

-- no event makes more commits than so many
abbrev pub event_room : ℕ
event_room = 2 ^ 20

-- what bounds the metas that stand during an event
abbrev pub bounds_at : Setup → Point → PowerState → Bounds
bounds_at setup p s = record { setup = setup; epoch = p.meta.epoch + event_room; ticks = s.ticks }

-- a tick counts itself first
abbrev pub bounds_of : Setup → Point → Event → Bounds
bounds_of setup p Tick = bounds_at setup p (state_with_tick p.state)
bounds_of setup p event = bounds_at setup p p.state

-- An event that is answered with no halt. In its calls each stop leaves the writes after it.
pub record IsAnswered (slots : ℕ) (setup : Setup)
    (p : Point) (event : Event) (answer : Answer) (calls : List Call) (q : Point) : Type 0 where
  pub fit : may_halt event ≡ true → point_wear p < worn_at
  pub machine : IsEventStep setup p.history p.energy p.state event (first_lost calls) answer q.state
  pub moments : Each (HoldsWhileServing slots q.history p.low (bounds_of setup p event))
      (IsAllowed setup (replaced_by event)) (watch_of p event answer) calls
  pub once : attach_count calls ≤ 1
  -- a disk is told to be in, or not to be, by the one call that attaches it
  pub attached : tells_attach answer ≡ true → attach_count calls ≡ 1
  -- no disk is spun up more often than the state has recorded of it since
  pub ups : (d : ℕ) → d < setup.geometry.disks
      → spin_up_count d calls ≤ slice_index q.state.spins d - slice_index p.state.spins d
  pub quiet : makes_no_call answer ≡ true → first_lost calls ≡ None → calls ≡ []
  -- one disk at most is down after it
  pub serving : IsServing (watch_all calls (watch_of p event answer)).down
  pub mark : IsMark slots setup q
  -- where no call has failed, the commit of a shift that begins has brought all ticks
  pub carried : tells_begin answer ≡ true → first_lost calls ≡ None → q.meta.ticks ≡ q.state.ticks
  -- a commit brings all ticks
  pub brought : q.meta ≢ p.meta → q.meta.ticks ≡ q.state.ticks
  -- a commit names a disk that was gone before the event and is gone after it, or the fresh one
  -- that was attached for it and lost in that commit
  pub named : (d : ℕ) → p.state.out ≡ Gone d → q.state.out ≡ Gone d → q.meta ≢ p.meta
      → (q.meta.out ≡ Gone d) ⊎ ((q.meta.out ≡ Fresh d 0) × (attach_count calls ≡ 1))
  pub flushed : is_flush answer ≡ true → AreDirtyShown setup q
  pub disks : q.disks ≡ run p.disks calls
  pub history : q.history ≡ p.history ++ accepted_write event answer
  pub low : q.low ≡ with_flush p.low answer
  pub energy : q.energy ≡ energy_after setup p.energy p.state answer
  pub spun : q.spun ≡ (watch_all calls (watch_of p event answer)).spun
  pub awaited : q.awaited ≡ awaited_by answer (watch_all calls (watch_of p event answer)).awaited
  pub going : q.halt ≡ None

-- this may come of the event where no call fails
abbrev pub IsUnhurt : Setup → Point → Event → Answer → PowerState → Type 0
IsUnhurt setup p event answer new =
    IsEventStep setup p.history p.energy p.state event None answer new

-- Why the first of two disks is down: it was out; or none was, and it is the first that failed; or
-- it is taken out, where all writes were kept before any call failed.
pub data IsFirstDown (slots : ℕ)
    (setup : Setup) (p : Point) (event : Event) (calls : List Call) (d : ℕ) : Type 0 where
  out : named_out p.state.out ≡ Some d → IsFirstDown slots setup p event calls d
  lost : named_out p.state.out ≡ None
      → first_lost calls ≡ Some d → IsFirstDown slots setup p event calls d
  taken : named_out p.state.out ≡ None → event ≡ Fail d → d < setup.geometry.disks
      → IsHeld slots (run p.disks (before_loss calls)) p.history (length p.history) (Some d)
      → IsFirstDown slots setup p event calls d

-- what a tick uses by itself
abbrev pub own_energy : Setup → PowerState → Event → ℕ
own_energy setup s Tick = tick_energy setup s
own_energy setup s event = 0

-- the energy after an event in which a second disk is lost: a begin may have used its spin-ups
pub data IsSecondLossEnergy (setup : Setup) (p : Point) (event : Event) (energy : ℕ) : Type 0 where
  own : energy ≡ min (p.energy + own_energy setup p.state event) counter_most
      → IsSecondLossEnergy setup p event energy
  begun : (answer : Answer) (new : PowerState)
      → IsUnhurt setup p event answer new → energy ≡ energy_after setup p.energy p.state answer
      → IsSecondLossEnergy setup p event energy

-- the gear after it: a shift may have ended
pub data IsSecondLossGear (setup : Setup) (p : Point) (event : Event) (gear : ℕ) : Type 0 where
  same : gear ≡ p.state.gear → IsSecondLossGear setup p event gear
  flipped : (answer : Answer) (new : PowerState)
      → IsUnhurt setup p event answer new → gear ≡ new.gear → IsSecondLossGear setup p event gear

-- A second disk is lost, in an event that makes calls. Its write is not accepted.
pub record LosesSecondDisk (slots : ℕ) (setup : Setup)
    (p : Point) (event : Event) (two : Two) (calls : List Call) (q : Point) : Type 0 where
  pub fit : point_wear p < worn_at
  pub first : IsFirstDown slots setup p event calls two.first
  pub apart : two.first ≢ two.second
  -- its last call is the one that failed on the second disk: none comes after it
  pub ends : EndsServing two (watch_of p event (Halted (HaltTwo two))) calls
  pub busy : (answer : Answer) (new : PowerState)
      → IsUnhurt setup p event answer new → makes_no_call answer ≡ false
  pub moments : Each (HoldsWhileServing slots p.history p.low (bounds_of setup p event))
      (IsAllowed setup (replaced_by event)) (watch_of p event (Halted (HaltTwo two))) calls
  pub once : attach_count calls ≤ 1
  pub disks : q.disks ≡ run p.disks calls
  pub history : q.history ≡ p.history
  pub gear : IsSecondLossGear setup p event q.state.gear
  pub energy : IsSecondLossEnergy setup p event q.energy
  pub halted : q.halt ≡ Some (HaltTwo two)

-- the array takes no more: so many commits or writes were made, the greater of the two
pub record IsWorn (p : Point) (event : Event) (count : ℕ) : Type 0 where
  pub asked : may_halt event ≡ true
  pub many : worn_at ≤ count
  pub is : count ≡ point_wear p

-- a point with this halt
abbrev pub with_halt : Point → Halt → Point
with_halt p halt = record p { halt = Some halt }

-- An event from one point of a session to the next.
pub data IsTurn (slots : ℕ) (setup : Setup)
    (p : Point) (event : Event) (answer : Answer) (calls : List Call) (q : Point) : Type 0 where
  answered : p.halt ≡ None → event ≢ Bad
      → IsAnswered slots setup p event answer calls q → IsTurn slots setup p event answer calls q
  two : (two : Two) → p.halt ≡ None → event ≢ Bad → answer ≡ Halted (HaltTwo two)
      → LosesSecondDisk slots setup p event two calls q → IsTurn slots setup p event answer calls q
  worn : (count : ℕ)
      → p.halt ≡ None → event ≢ Bad → answer ≡ Halted (Worn count) → IsWorn p event count
      → calls ≡ [] → q ≡ with_halt p (Worn count) → IsTurn slots setup p event answer calls q
  again : (halt : Halt) → p.halt ≡ Some halt → event ≢ Bad
      → answer ≡ Halted halt → calls ≡ [] → q ≡ p → IsTurn slots setup p event answer calls q
  bad : event ≡ Bad
      → answer ≡ IsBad → calls ≡ [] → q ≡ p → IsTurn slots setup p event answer calls q

-- what the calls of an event leave, where `stands` says at which points an array stands after it
abbrev pub GoesOn : ℕ
    → Setup → Point → Event → Answer → (Point → Type 0) → Disks → List Call → Type 0
GoesOn slots setup p event answer stands s calls =
    (q : Point) × IsTurn slots setup p event answer calls q × stands q

-- the halt that an answer tells
abbrev pub halt_told : Answer → Option Halt
halt_told (Halted halt) = Some halt
halt_told answer = None
