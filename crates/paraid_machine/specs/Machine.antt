-- What an array may answer to an event, and the state after it.
--
-- All but the place of a loss is a function. `loss` is the disk of the first call in the event's
-- part that failed. So the outcomes are a short list: one, or one for each place that the loss may
-- have. No outcome is a halt; where a second disk is lost there is none.
use Rattle.std.specs.Prelude.{ℕ, ◌+◌, ◌-◌, ◌*◌, ◌==◌, min, nat_lt, Bool, true, false, List, [], ◌∷◌, ◌++◌, length, Option, Some, None, Contains, if◌then◌else◌}
use Rattle.std.proofs.Common.{zero, suc}
use Rattle.paraid_base.specs.declared.event.Answer.{Answer}
use Rattle.paraid_base.specs.declared.event.Answer.TheVariants.{Value, NoBlock, Wrote, Flushed, Ticked, Shift, Top, Lowest, Shifting, Failed, Replaced, NoDisk, Out as IsOut, NotOut, NoFresh, Ration as RationUsed, State as IsState, Energy as EnergyUsed, Bad as IsBad}
use Rattle.paraid_base.specs.declared.event.Event.{Event}
use Rattle.paraid_base.specs.declared.event.Event.TheVariants.{Read, Write, Flush, Tick, Up as AskUp, Down as AskDown, Fail, Replace, State as AskState, Energy as AskEnergy, Bad}
use Rattle.paraid_base.specs.declared.state.Out.{Out}
use Rattle.paraid_base.specs.declared.state.Out.TheVariants.{No, Gone, Fresh}
use Rattle.paraid_base.specs.declared.state.Phase.{Phase}
use Rattle.paraid_base.specs.declared.state.Phase.TheVariants.{Steady, Down, Up}
use Rattle.paraid_base.specs.declared.state.Status.{Status}
use Rattle.paraid_base.specs.declared.state.TickEvent.{TickEvent}
use Rattle.paraid_base.specs.declared.state.TickEvent.TheVariants.{Steady as TickSteady, Waiting, Moving, Flipped, Begun, Rebuilt, Gone as GoneAgain, Lost, Ration}
use Rattle.paraid_base.specs.History.{Entry, History, after_all}
use Rattle.paraid_base.specs.Pairs.{pairs_of}
use Rattle.paraid_dirty.specs.Table.{dirty_count}
use Rattle.paraid_gear.specs.declared.decision.Decision.{Decision}
use Rattle.paraid_gear.specs.declared.decision.Decision.TheVariants.{Stay, Up as DecideUp, Down as DecideDown}
use Rattle.paraid_gear.specs.Decision.{decision}
use Rattle.paraid_base.specs.Gears.{next_higher, next_lower}
use Rattle.paraid_record.specs.declared.meta.Setup.{Setup}
use Rattle.paraid_image.specs.Power.{PowerState}
use Rattle.paraid_machine.specs.Moves.{all_written, begun_down, begun_up, block_read, with_one_served, first_used_up, after_flip, after_loss, after_units, units_left, units_of_tick, units_to_rebuild, state_with_tick, without_spin_ups}
use Rattle.paraid_base.specs.Regions.{array_blocks}

-- answers, each with the state after it
abbrev pub Outcomes : Type 0
Outcomes = List (Answer × PowerState)

-- what is answered with no call of the rack, so that no disk is lost in it
abbrev pub quietly : Option ℕ → Answer → PowerState → Outcomes
quietly None answer s = (answer, s) ∷ []
quietly (Some d) answer s = []

-- disk `d` is lost, before or after the event's own step
abbrev pub around_loss : ℕ → PowerState → (PowerState → Answer × PowerState) → Outcomes
around_loss d s f = f (after_loss s d) ∷ ((f s).0, after_loss (f s).1 d) ∷ []

-- a loss counts where no disk is out, or again the same
abbrev pub if_alone : Out → ℕ → Outcomes → Outcomes
if_alone No d outcomes = outcomes
if_alone (Gone e) d outcomes = if d == e then outcomes else []
if_alone (Fresh e rebuilt) d outcomes = if d == e then outcomes else []

-- an outcome with no loss, or a loss before and after it
abbrev pub around : Option ℕ → PowerState → (PowerState → Answer × PowerState) → Outcomes
around None s f = f s ∷ []
around (Some d) s f = if_alone s.out d (around_loss d s f)

-- how many blocks an array of a setup has
abbrev pub block_count : Setup → ℕ
block_count setup = array_blocks setup.geometry

-- the blocks that a write names, in its order
abbrev pub blocks_named : Entry → List ℕ
blocks_named [] = []
blocks_named (pair ∷ entry) = pair.0 ∷ blocks_named entry

-- the first of these blocks that there is not
abbrev pub first_missing : ℕ → List ℕ → Option ℕ
first_missing count [] = None
first_missing count (b ∷ bs) = if nat_lt b count then first_missing count bs else Some b

-- a request for these blocks
abbrev pub serve : Option ℕ → Option ℕ → PowerState → (PowerState → Answer × PowerState) → Outcomes
serve (Some b) loss s f = quietly loss (NoBlock b) s
serve None loss s f = around loss s f

-- the answer to a shift where a disk is out
abbrev pub out_refusal : Out → Option Answer
out_refusal No = None
out_refusal (Gone d) = Some (IsOut d)
out_refusal (Fresh d rebuilt) = Some (IsOut d)

-- the answer to a shift that is refused, by the phase and the out disk
abbrev pub shift_refusal : Phase → Out → Option Answer
shift_refusal Steady out = out_refusal out
shift_refusal (Down to) out = Some (Shifting to)
shift_refusal (Up to) out = Some (Shifting to)

-- the answer to a shift down that a disk's spins forbid
abbrev pub ration_refusal : Option ℕ → Option Answer
ration_refusal None = None
ration_refusal (Some d) = Some (RationUsed d)

-- the first of two refusals
abbrev pub refusal_else : Option Answer → Option Answer → Option Answer
refusal_else None second = second
refusal_else (Some first) second = Some first

-- A shift begins unless it is refused. A disk that is lost with what was staged refuses it; one
-- that is lost later is lost in the shift.
abbrev pub begin : Option Answer → Option ℕ → PowerState → ℕ → PowerState → Outcomes
begin (Some refusal) loss s to begun = quietly loss refusal s
begin None None s to begun = (Shift s.gear to, begun) ∷ []
begin None (Some d) s to begun =
    (IsOut d, after_loss s d) ∷ (Shift s.gear to, after_loss begun d) ∷ []

-- the outcomes of `up`
abbrev pub go_up : Setup → Option ℕ → PowerState → Option ℕ → Outcomes
go_up setup loss s None = quietly loss Top s
go_up setup loss s (Some to) = begin (shift_refusal s.phase s.out) loss s to (begun_up to s)

-- the outcomes of `down`
abbrev pub go_down : Setup → Option ℕ → PowerState → Option ℕ → Outcomes
go_down setup loss s None = quietly loss Lowest s
go_down setup loss s (Some to) =
    begin (refusal_else (shift_refusal s.phase s.out) (ration_refusal (first_used_up setup s to)))
    loss s to (begun_down to s)

-- disk `d` of the array is taken out; where another one is lost first, that one is out
abbrev pub take_out : Option ℕ → PowerState → ℕ → Out → Outcomes
take_out None s d No = (Failed d, after_loss s d) ∷ []
take_out (Some e) s d No =
    if d == e then (Failed d, after_loss s d) ∷ [] else (IsOut e, after_loss s e) ∷ []
take_out loss s d (Gone e) = quietly loss (IsOut e) s
take_out loss s d (Fresh e rebuilt) = quietly loss (IsOut e) s

-- a fresh disk `d`, of which no unit is rebuilt
abbrev pub with_fresh_disk : PowerState → ℕ → PowerState
with_fresh_disk s d = record s { out = Fresh d 0; spins = without_spin_ups d s.spins }

-- no fresh disk could be had
abbrev pub without_fresh_disk : PowerState → ℕ → PowerState
without_fresh_disk s d = record s { out = Gone d; spins = without_spin_ups d s.spins }

-- the outcomes of a replacement
abbrev pub refresh : Option ℕ → PowerState → ℕ → Outcomes
refresh None s d = (Replaced d, with_fresh_disk s d) ∷ []
refresh (Some e) s d = if e == d then (NoFresh d, without_fresh_disk s d) ∷ [] else []

-- The disk that is out is replaced. One that is being rebuilt may also be lost with what was
-- staged, before it is replaced.
abbrev pub put_in : Option ℕ → PowerState → ℕ → Out → Outcomes
put_in loss s d No = quietly loss (NotOut d) s
put_in loss s d (Gone e) = if d == e then refresh loss s d else quietly loss (NotOut d) s
put_in None s d (Fresh e rebuilt) = if d == e then refresh None s d else quietly None (NotOut d) s
put_in (Some f) s d (Fresh e rebuilt) =
    if d == e then refresh (Some f) s d ++ (if f == d then refresh None s d else []) else []

-- the answer to a tick
abbrev pub report : PowerState → ℕ → TickEvent → Answer × PowerState
report s count event = (Ticked (record { gear = s.gear; moved = count; event = event }), s)

-- a tick that rebuilds disk `d`
abbrev pub rebuild : Setup → Option ℕ → PowerState → ℕ → ℕ → Outcomes
rebuild setup None s d rebuilt =
    let left = units_to_rebuild setup s d rebuilt in
    let count = min setup.rate left in
    (if count == left then report (record s { out = No }) count (Rebuilt d)
    else report (record s { out = Fresh d (rebuilt + count) }) count Moving)
    ∷ []
rebuild setup (Some e) s d rebuilt =
    if e == d then report (after_loss s d) 0 (GoneAgain d) ∷ [] else []

-- disk `d` is lost after the first 0, .., or `m` units of a shift
abbrev pub lost_within : Setup → PowerState → ℕ → ℕ → Outcomes
lost_within setup s d zero = report (after_loss s d) 0 (Lost d) ∷ []
lost_within setup s d (suc m) =
    report (after_loss (after_units setup (suc m) s) d) (suc m) (Lost d) ∷ lost_within setup s d m

-- a tick that moves so many units, the last ones or not; a disk may also be lost after the flip
abbrev pub move : Setup → Option ℕ → PowerState → ℕ → Bool → Outcomes
move setup None s count true = report (after_flip (after_units setup count s)) count Flipped ∷ []
move setup None s count false = report (after_units setup count s) count Moving ∷ []
move setup (Some d) s count true =
    report (after_loss (after_flip (after_units setup count s)) d) count Flipped
    ∷ lost_within setup s d count
move setup (Some d) s count false = lost_within setup s d count

-- a tick that begins a shift; a disk is lost after that
abbrev pub begin_by_tick : Option ℕ → PowerState → ℕ → Outcomes
begin_by_tick None begun to = report begun 0 (Begun to) ∷ []
begin_by_tick (Some d) begun to = report (after_loss begun d) 0 (Begun to) ∷ []

-- a tick that moves nothing
abbrev pub report_quietly : Option ℕ → PowerState → TickEvent → Outcomes
report_quietly loss s event = quietly loss (report s 0 event).0 s

-- a tick that decides to shift down, unless a disk's spins forbid it
abbrev pub shift_down : Setup → Option ℕ → PowerState → ℕ → Option ℕ → Outcomes
shift_down setup loss s to None = begin_by_tick loss (begun_down to s) to
shift_down setup loss s to (Some d) = report_quietly loss s (Ration d)

-- a tick by its decision
abbrev pub decide : Setup → Option ℕ → PowerState → Decision → Outcomes
decide setup loss s Stay = report_quietly loss s TickSteady
decide setup loss s (DecideUp to) = begin_by_tick loss (begun_up to s) to
decide setup loss s (DecideDown to) = shift_down setup loss s to (first_used_up setup s to)

-- a tick with no disk out
abbrev pub tick_by_phase : Setup → Option ℕ → PowerState → Phase → Outcomes
tick_by_phase setup loss s Steady = decide setup loss s (decision setup s.gear s.samples)
tick_by_phase setup loss s (Down to) =
    let count = units_of_tick setup s in move setup loss s count (count == units_left setup s)
tick_by_phase setup loss s (Up to) =
    let count = units_of_tick setup s in move setup loss s count (count == units_left setup s)

-- a tick that has counted itself
abbrev pub tick_by_out : Setup → Option ℕ → PowerState → Out → Outcomes
tick_by_out setup loss s No = tick_by_phase setup loss s s.phase
tick_by_out setup loss s (Gone d) = report_quietly loss s Waiting
tick_by_out setup loss s (Fresh d rebuilt) = rebuild setup loss s d rebuilt

-- the state as it is told
abbrev pub state_status : Setup → ℕ → PowerState → Status
state_status setup writes s = record {
  writes = writes;
  ticks = s.ticks;
  gear = s.gear;
  phase = s.phase;
  dirty = dirty_count s.dirty setup.geometry.rows s.gear setup.geometry.disks;
  fill = s.fill;
  out = s.out;
  spins = s.spins;
  halt = None;
}

-- What may come of an event, where these writes were accepted before it and so much energy was
-- used.
unfoldable pub outcomes : Setup → History → ℕ → PowerState → Event → Option ℕ → Outcomes
outcomes setup h used s (Read b) loss =
    serve (first_missing (block_count setup) (b ∷ [])) loss s (λ s.
    (Value b (after_all h b), with_one_served (block_read setup b s)))
outcomes setup h used s (Write pairs) loss =
    let blocks = blocks_named (pairs_of pairs) in
    serve (first_missing (block_count setup) blocks) loss s
    (λ s. (Wrote (length h + 1), with_one_served (all_written setup.geometry.disks blocks s)))
outcomes setup h used s Flush loss = around loss s (λ s. (Flushed (length h), s))
outcomes setup h used s Tick loss = tick_by_out setup loss (state_with_tick s) s.out
outcomes setup h used s AskUp loss = go_up setup loss s (next_higher setup.geometry s.gear)
outcomes setup h used s AskDown loss = go_down setup loss s (next_lower setup.geometry s.gear)
outcomes setup h used s (Fail d) loss =
    if nat_lt d setup.geometry.disks then take_out loss s d s.out else quietly loss (NoDisk d) s
outcomes setup h used s (Replace d) loss =
    if nat_lt d setup.geometry.disks then put_in loss s d s.out else quietly loss (NoDisk d) s
outcomes setup h used s AskState loss =
    quietly loss (IsState (state_status setup (length h) s) setup.geometry.disks) s
outcomes setup h used s AskEnergy loss = quietly loss (EnergyUsed used) s
outcomes setup h used s Bad loss = quietly loss IsBad s

-- the event is answered so, with no halt, and leaves this state
pub record IsEventStep (setup : Setup) (h : History) (used : ℕ) (s : PowerState)
    (event : Event) (loss : Option ℕ) (answer : Answer) (new : PowerState) : Type 0 where
  pub among : Contains (outcomes setup h used s event loss) (answer, new)
