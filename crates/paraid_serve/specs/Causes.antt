-- Why an array answers an event so, whatever its rack holds: by its meta before and after, and by
-- the counts of its slots.
use Rattle.std.specs.Prelude.{◌≡◌, ◌≢◌, ℕ, ◌+◌, ◌-◌, ◌*◌, ◌<◌, ◌≤◌, ◌⊎◌, ◌&&◌, not, nat_le, nat_lt, max, min, Bool, true, List, [], ◌∷◌, ◌++◌, Option, Some, None, slice_index, if◌then◌else◌}
use Rattle.circular_buffer.specs.Buffer.{keep_last}
use Rattle.paraid_base.specs.declared.event.Answer.{Answer}
use Rattle.paraid_base.specs.declared.event.Answer.TheVariants.{Value, NoBlock, Wrote, Flushed, Ticked, Shift, Top, Lowest, Failed, Replaced, NoDisk, Out as IsOut, NotOut, NoFresh, State as IsState, Energy as EnergyUsed, Bad as IsBad, Halted}
use Rattle.paraid_base.specs.declared.event.Event.{Event}
use Rattle.paraid_base.specs.declared.event.Event.TheVariants.{Read, Write, Flush, Tick, Up, Down, Fail, Replace, State as AskState, Energy as AskEnergy, Bad}
use Rattle.paraid_base.specs.declared.fault.Halt.{Halt}
use Rattle.paraid_base.specs.declared.fault.Halt.TheVariants.{Two as HaltTwo, Worn}
use Rattle.paraid_base.specs.declared.fault.Two.{Two}
use Rattle.paraid_base.specs.declared.state.GearReport.{GearReport}
use Rattle.paraid_base.specs.declared.state.Out.{Out}
use Rattle.paraid_base.specs.declared.state.Out.TheVariants.{No, Gone, Fresh}
use Rattle.paraid_base.specs.declared.state.Phase.{Phase}
use Rattle.paraid_base.specs.declared.state.Phase.TheVariants.{Steady as IsSteady, Down as IsDown, Up as IsUp}
use Rattle.paraid_base.specs.declared.state.TickEvent.{TickEvent}
use Rattle.paraid_base.specs.declared.state.TickEvent.TheVariants.{Steady, Waiting, Moving, Flipped, Begun, Rebuilt, Gone as GoneAgain, Lost, Ration}
use Rattle.paraid_base.specs.Cells.{home_disk, home_row}
use Rattle.paraid_base.specs.Gears.{next_higher, next_lower}
use Rattle.paraid_base.specs.declared.pairs.Pairs.{Pairs}
use Rattle.paraid_base.specs.Log.{batch_room, worn_at}
use Rattle.paraid_base.specs.Pairs.{pairs_of}
use Rattle.paraid_base.specs.States.{has_out, rising_to}
use Rattle.paraid_base.specs.Told.{HasRisen, counter_most}
use Rattle.paraid_gear.specs.declared.decision.Decision.{Decision}
use Rattle.paraid_gear.specs.declared.decision.Decision.TheVariants.{Down as DecideDown, Stay, Up as DecideUp}
use Rattle.paraid_gear.specs.Decision.{decision}
use Rattle.paraid_gear.specs.ThreeWindows.{sample_of}
use Rattle.paraid_image.specs.Mark.{meta_after_loss, meta_with_lost}
use Rattle.paraid_image.specs.Out.{is_out, named_out}
use Rattle.paraid_image.specs.Power.{PowerState}
use Rattle.paraid_machine.specs.Energy.{energy_after}
use Rattle.paraid_record.specs.Range.{meta_wear}
use Rattle.paraid_machine.specs.Machine.{block_count, blocks_named, first_missing, out_refusal, ration_refusal, refusal_else, shift_refusal, state_status}
use Rattle.paraid_machine.specs.Moves.{after_flip, after_loss, after_units, all_written, block_read, first_used_up, units_left, units_of_tick, units_to_rebuild}
use Rattle.paraid_rack.specs.Slots.{Slot}
use Rattle.paraid_record.specs.declared.meta.Meta.{Meta}
use Rattle.paraid_record.specs.declared.meta.Setup.{Setup}
use Rattle.paraid_record.specs.Modes.{is_access}
use Rattle.paraid_session.specs.Faults.{HaveNotFallen}
use Rattle.paraid_session.specs.Powers.{AreSlotsSynced, FitsSlots}
use Rattle.paraid_session.specs.Turn.{halt_told, may_halt, own_energy}
use Rattle.paraid_serve.specs.Lost.{AreTwoLost}

-- What is seen of an array: what it is configured to be; the meta in memory under which it serves,
-- and its dirty cells (what a mount found, as it begins; after it, no part of this says what a disk
-- holds); how many targets are staged; the slots of its rack; the gear that it tells; the energy
-- that it has used; the last samples, as many as its longest window has; the requests since the
-- last tick, no more than a sample may have; and the halt that has come.
pub record Shown : Type 0 where
  pub setup : Setup
  pub meta : Meta
  pub dirty : ℕ → ℕ → Bool
  pub staged : ℕ
  pub slot : ℕ → Slot
  pub gear : ℕ
  pub energy : ℕ
  pub samples : List ℕ
  pub served : ℕ
  pub halt : Option Halt

-- It is seen with this setup, these slots and this halt. While there is none it tells the gear of
-- its meta, its slots fit that meta, and each disk that is there and not gone is synced.
pub record Shows (x : Shown) (own : Setup) (slots : ℕ → Slot) (ended : Option Halt) : Type 0 where
  pub setup : x.setup ≡ own
  pub slot : x.slot ≡ slots
  pub halt : x.halt ≡ ended
  pub gear : x.halt ≡ None → x.gear ≡ x.meta.gear
  pub fits : x.halt ≡ None → FitsSlots x.slot x.meta
  pub synced : x.halt ≡ None → AreSlotsSynced x.meta x.slot

-- the state that its events see, with what it has of the samples and the requests
abbrev pub state_shown : Shown → PowerState
state_shown x = record {
  gear = x.meta.gear;
  phase = x.meta.phase;
  dirty = x.dirty;
  fill = x.meta.fill;
  out = x.meta.out;
  spins = x.meta.spins;
  ticks = x.meta.ticks;
  samples = x.samples;
  served = x.served;
}

-- the first of these blocks that there is not is answered
abbrev pub missing_answer : Option ℕ → Option Answer
missing_answer None = None
missing_answer (Some block) = Some (NoBlock block)

-- why a shift up is refused, where it is: there is no higher gear, a shift is under way, or a disk
-- is out
abbrev pub up_refusal : Option ℕ → PowerState → Option Answer
up_refusal None s = Some Top
up_refusal (Some to) s = shift_refusal s.phase s.out

-- why one down is, where it is; a disk that has used up its allowance comes last
abbrev pub down_refusal : Setup → Option ℕ → PowerState → Option Answer
down_refusal setup None s = Some Lowest
down_refusal setup (Some to) s =
    refusal_else (shift_refusal s.phase s.out) (ration_refusal (first_used_up setup s to))

-- What an event is answered for which the array does nothing, where it does nothing. So no block,
-- no disk and no shift is refused that there is, and none is served that there is not.
abbrev pub quiet_answer : Shown → Event → Option Answer
quiet_answer x (Read block) = missing_answer (first_missing (block_count x.setup) (block ∷ []))
quiet_answer x (Write pairs) =
    missing_answer (first_missing (block_count x.setup) (blocks_named (pairs_of pairs)))
quiet_answer x Flush = None
quiet_answer x Tick = None
quiet_answer x Up = up_refusal (next_higher x.setup.geometry x.meta.gear) (state_shown x)
quiet_answer x Down = down_refusal x.setup (next_lower x.setup.geometry x.meta.gear) (state_shown x)
quiet_answer x (Fail d) =
    if nat_lt d x.setup.geometry.disks then out_refusal x.meta.out else Some (NoDisk d)
quiet_answer x (Replace d) = if nat_lt d x.setup.geometry.disks
    then (if is_out (named_out x.meta.out) d then None else Some (NotOut d)) else Some (NoDisk d)
quiet_answer x AskState =
    Some (IsState (state_status x.setup x.meta.writes (state_shown x)) x.setup.geometry.disks)
quiet_answer x AskEnergy = Some (EnergyUsed x.energy)
quiet_answer x Bad = None

-- how many commits or writes were made, the greater of the two
abbrev pub wear_shown : Shown → ℕ
wear_shown x = meta_wear x.meta

-- it serves, and takes the event
pub record Takes (x : Shown) (event : Event) : Type 0 where
  pub going : x.halt ≡ None
  pub fit : may_halt event ≡ true → wear_shown x < worn_at

-- no energy was used; a sum is one of 64 bits
abbrev pub KeepsEnergy : Shown → Shown → Type 0
KeepsEnergy old new = old.energy ≤ counter_most → new.energy ≡ old.energy

-- nothing has changed but the halt
pub record IsUnchanged (old new : Shown) : Type 0 where
  pub meta : new.meta ≡ old.meta
  pub dirty : new.dirty ≡ old.dirty
  pub staged : new.staged ≡ old.staged
  pub slot : new.slot ≡ old.slot
  pub energy : KeepsEnergy old new

-- a tick used its own energy, and no other event used any
abbrev pub UsesOwn : Event → Shown → Shown → Type 0
UsesOwn event old new = old.energy ≤ counter_most → new.energy
    ≡ min (old.energy + own_energy old.setup (state_shown old) event) counter_most

-- disk `d` has failed in the event
abbrev pub HasFailed : Shown → Shown → ℕ → Type 0
HasFailed old new d = HasRisen (old.slot d).faults (new.slot d).faults

-- The dirty cells are those that this change makes of the ones before, by the meta as it is then.
abbrev pub ChangesCells : (PowerState → PowerState) → Shown → Shown → Type 0
ChangesCells change old new = (r d : ℕ) → r < old.setup.geometry.rows
    → new.dirty r d ≡ (change (record (state_shown new) { dirty = old.dirty })).dirty r d

-- It has come to this state of the machine, and but for the number of commits nothing else of the
-- meta has changed.
pub record Reaches (old new : Shown) (s : PowerState) : Type 0 where
  pub meta : new.meta ≡ record old.meta {
    epoch = new.meta.epoch;
    gear = s.gear;
    phase = s.phase;
    fill = s.fill;
    out = s.out;
    spins = s.spins;
    ticks = s.ticks;
  }
  pub dirty : (r d : ℕ) → r < old.setup.geometry.rows → new.dirty r d ≡ s.dirty r d

-- The meta is as it was, but for its counts of commits and writes, and for the marks of a disk that
-- has failed in the event while no other one was out. So many writes were accepted, and no energy
-- was used.
pub record Accepts (old new : Shown) (count : ℕ) : Type 0 where
  pub lost : Option ℕ
  pub is : new.meta
      ≡ record (meta_with_lost lost old.meta) { epoch = new.meta.epoch; writes = new.meta.writes }
  pub alone : (d x : ℕ) → lost ≡ Some d → named_out old.meta.out ≡ Some x → x ≡ d
  pub failed : (d : ℕ) → lost ≡ Some d → HasFailed old new d
  pub writes : new.meta.writes ≡ old.meta.writes + count
  pub energy : KeepsEnergy old new

-- the meta is as it was, but for the marks that disk `d` is gone; no cell became dirty or clean,
-- and no energy was used
pub record TakesOut (old new : Shown) (d : ℕ) : Type 0 where
  pub is : new.meta ≡ record (meta_after_loss old.meta d) { epoch = new.meta.epoch }
  pub dirty : new.dirty ≡ old.dirty
  pub energy : KeepsEnergy old new

-- where no disk was out, disk `d` has failed in the event, and that is marked
pub record LosesFirst (old new : Shown) (d : ℕ) : Type 0 where
  pub none : named_out old.meta.out ≡ None
  pub failed : HasFailed old new d
  pub marks : TakesOut old new d

-- A shift has begun by the meta, with so many spin-ups more by disk; a disk that has failed in the
-- event may be marked in it. No cell became dirty or clean.
pub record Begins (old new : Shown) (phase : Phase) (raised : ℕ → ℕ) : Type 0 where
  pub lost : Option ℕ
  pub is : new.meta ≡ record (meta_with_lost lost (record old.meta {
    phase = phase;
    fill = 0;
  })) { epoch = new.meta.epoch; spins = new.meta.spins }
  pub failed : (d : ℕ) → lost ≡ Some d → HasFailed old new d
  pub spins : (d : ℕ) → slice_index new.meta.spins d ≡ slice_index old.meta.spins d + raised d
  pub dirty : new.dirty ≡ old.dirty

-- one for each disk that comes up
abbrev pub spins_up : ℕ → ℕ → ℕ → ℕ
spins_up gear to d = if nat_le gear d && nat_lt d to then 1 else 0

-- disk `d` is replaced or gone, with no spin-up counted; a shift down has ended, and nothing else
-- has changed
pub record Replaces (old new : Shown) (d : ℕ) (state : Out) : Type 0 where
  pub writes : new.meta.writes ≡ old.meta.writes
  pub energy : KeepsEnergy old new
  pub is : new.meta ≡ record (meta_after_loss old.meta d) {
    epoch = new.meta.epoch;
    out = state;
    spins = new.meta.spins;
  }
  pub cleared : slice_index new.meta.spins d ≡ 0
  pub others : (e : ℕ) → e ≢ d → slice_index new.meta.spins e ≡ slice_index old.meta.spins e
  pub dirty : new.dirty ≡ old.dirty

-- whether a read of this block cleans its cell: in access mode, in a shift up with no disk out, the
-- cell is dirty and on a disk that comes up
abbrev pub read_cleans : Shown → ℕ → Bool
read_cleans x b =
    let n = x.setup.geometry.disks in
    is_access x.setup.mode && not (has_out x.meta.out)
    && nat_le x.meta.gear (home_disk n b) && nat_lt (home_disk n b) (rising_to x.meta.phase)
    && x.dirty (home_row n b) (home_disk n b)

-- beside what is staged there is no room for so many targets more
abbrev pub lacks_room : Shown → ℕ → Bool
lacks_room x targets = nat_lt (batch_room - targets) x.staged

-- At most so many targets more are staged than before; or so many in all, where what was staged
-- left no room for them and was committed first.
abbrev pub StagesFew : Shown → Shown → ℕ → Type 0
StagesFew old new targets =
    new.staged ≤ (if lacks_room old targets then 0 else old.staged) + targets

-- A read gives the bytes of the block that was asked for, and accepts no write. It may clean the
-- block's cell: then it stages three targets, the cell in its hard place and the map on both log
-- disks.
abbrev pub DoesRead : ℕ → Shown → Shown → Answer → Type 0
DoesRead block old new (Value b bytes) =
    (b ≡ block) × Accepts old new 0 × ChangesCells (block_read old.setup block) old new
    × StagesFew old new (if read_cleans old block then 3 else 0)
DoesRead block old new answer = ⊥

-- a write of these pairs gives its number, the next one, and is accepted; it stages ten targets for
-- each pair at most
abbrev pub DoesWrite : Pairs → Shown → Shown → Answer → Type 0
DoesWrite pairs old new (Wrote number) =
    (number ≡ old.meta.writes + 1) × Accepts old new 1
    × ChangesCells (all_written old.setup.geometry.disks (blocks_named (pairs_of pairs))) old new
    × StagesFew old new (10 * pairs.count)
DoesWrite pairs old new answer = ⊥

-- a flush gives the number of writes, accepts none, and leaves nothing staged
abbrev pub DoesFlush : Shown → Shown → Answer → Type 0
DoesFlush old new (Flushed writes) =
    (writes ≡ old.meta.writes)
    × Accepts old new 0 × (new.dirty ≡ old.dirty) × (new.staged ≡ 0)
DoesFlush old new answer = ⊥

-- a shift begins to this next gear, or a disk is lost with what was staged
abbrev pub DoesShift : Option ℕ → (ℕ → Type 0) → Shown → Shown → Answer → Type 0
DoesShift next begins old new (Shift gear to) =
    begins to × (gear ≡ old.meta.gear) × (next ≡ Some to) × (new.meta.writes ≡ old.meta.writes)
    × (new.energy ≡ energy_after old.setup old.energy (state_shown old) (Shift gear to))
DoesShift next begins old new (IsOut d) = LosesFirst old new d
DoesShift next begins old new answer = ⊥

-- a disk is taken out; or another one was lost with what was staged
abbrev pub DoesFail : ℕ → Shown → Shown → Answer → Type 0
DoesFail disk old new (Failed d) = (d ≡ disk) × TakesOut old new disk
DoesFail disk old new (IsOut d) = (d ≢ disk) × LosesFirst old new d
DoesFail disk old new answer = ⊥

-- a disk is replaced, with no unit rebuilt; or its slot failed, and it is gone
abbrev pub DoesReplace : ℕ → Shown → Shown → Answer → Type 0
DoesReplace disk old new (Replaced d) = (d ≡ disk) × Replaces old new disk (Fresh disk 0)
DoesReplace disk old new (NoFresh d) =
    (d ≡ disk) × HasFailed old new disk × Replaces old new disk (Gone disk)
DoesReplace disk old new answer = ⊥

-- A tick that rebuilds disk `d`, of which so many units are rebuilt: it moves as many as the rate
-- says where more are left, or the last ones, and then the disk is back; or it has failed again.
abbrev pub Rebuilds : ℕ → ℕ → Shown → Shown → ℕ → TickEvent → Type 0
Rebuilds d rebuilt old new count Moving =
    (count ≡ old.setup.rate)
    × (old.setup.rate < units_to_rebuild old.setup (state_shown old) d rebuilt)
    × Reaches old new (record (state_shown old) { out = Fresh d (rebuilt + count) })
Rebuilds d rebuilt old new count (Rebuilt e) =
    (e ≡ d) × (count ≡ units_to_rebuild old.setup (state_shown old) d rebuilt)
    × (count ≤ old.setup.rate)
    × Reaches old new (record (state_shown old) { out = No })
Rebuilds d rebuilt old new count (GoneAgain e) =
    (e ≡ d) × (count ≡ 0) × HasFailed old new d × Reaches old new (after_loss (state_shown old) d)
Rebuilds d rebuilt old new count event = ⊥

-- a disk that was lost, or none, has failed in the event, and it has come to this state with the
-- marks of that
abbrev pub ReachesOrLoses : Shown → Shown → PowerState → Option ℕ → Type 0
ReachesOrLoses old new s None = Reaches old new s
ReachesOrLoses old new s (Some d) = HasFailed old new d × Reaches old new (after_loss s d)

-- A tick of a shift moves its next units, as many as the mode and the rate say, by the rule of the
-- machine. With the last of them the shift ends. Where a disk has failed it has moved some of them,
-- or all and has ended the shift.
abbrev pub MovesOn : Shown → Shown → ℕ → TickEvent → Type 0
MovesOn old new count Moving =
    (count ≡ units_of_tick old.setup (state_shown old))
    × (count < units_left old.setup (state_shown old))
    × Reaches old new (after_units old.setup count (state_shown old))
MovesOn old new count Flipped =
    (count ≡ units_left old.setup (state_shown old))
    × (count ≤ units_of_tick old.setup (state_shown old))
    × ((lost : Option ℕ)
    × ReachesOrLoses old new (after_flip (after_units old.setup count (state_shown old))) lost)
MovesOn old new count (Lost d) =
    (count ≤ units_of_tick old.setup (state_shown old)) × HasFailed old new d
    × Reaches old new (after_loss (after_units old.setup count (state_shown old)) d)
MovesOn old new count event = ⊥

-- the length of the longest of these windows
abbrev pub longest : List ℕ → ℕ
longest [] = 0
longest (span ∷ spans) = max span (longest spans)

-- It has counted one tick more. What it has served since the last one is a sample, and the longest
-- window keeps the last ones.
abbrev pub shown_ticked : Shown → Shown
shown_ticked x = record x {
  meta = record x.meta { ticks = min (x.meta.ticks + 1) counter_most };
  samples = keep_last (longest x.setup.windows) (x.samples ++ x.served ∷ []);
  served = 0;
}

-- these samples are kept, and so many requests are counted
pub record HasCounted (x : Shown) (kept : List ℕ) (requests : ℕ) : Type 0 where
  pub samples : x.samples ≡ kept
  pub served : x.served ≡ requests

-- How samples and requests are counted, by the answer: a read or write that is served is one
-- request more, a tick makes a sample of them, and nothing else counts. After a halt no tick
-- decides.
abbrev pub Counts : Answer → Shown → Shown → Type 0
Counts (Value block bytes) old new = HasCounted new old.samples (sample_of (old.served + 1))
Counts (Wrote number) old new = HasCounted new old.samples (sample_of (old.served + 1))
Counts (Ticked report) old new = HasCounted new (shown_ticked old).samples 0
Counts (Halted halt) old new = Unit {0}
Counts answer old new = HasCounted new old.samples old.served

-- nothing has changed but the energy
pub record IsAsBefore (old new : Shown) : Type 0 where
  pub meta : new.meta ≡ old.meta
  pub dirty : new.dirty ≡ old.dirty
  pub staged : new.staged ≡ old.staged
  pub slot : new.slot ≡ old.slot

-- A shift down that is asked for begins, unless it would park a disk that has used up its
-- allowance: then the first such disk is told, and nothing changes.
abbrev pub GoesDown : Option ℕ → ℕ → Shown → Shown → TickEvent → Type 0
GoesDown None to old new event = (event ≡ Begun to) × Begins old new (IsDown to) (λ d. 0)
GoesDown (Some d) to old new event = (event ≡ Ration d) × IsAsBefore old new

-- A tick at rest, as it has counted itself, does what its samples ask for: nothing, or it begins a
-- shift to the next gear.
abbrev pub Decides : Decision → Shown → Shown → TickEvent → Type 0
Decides Stay old new event = (event ≡ Steady) × IsAsBefore old new
Decides (DecideUp to) old new event =
    (event ≡ Begun to) × Begins old new (IsUp to) (spins_up old.meta.gear to)
Decides (DecideDown to) old new event =
    GoesDown (first_used_up old.setup (state_shown old) to) to old new event

-- what its samples ask for
abbrev pub decision_shown : Shown → Decision
decision_shown x = decision x.setup x.meta.gear x.samples

-- a tick that has counted itself, with no disk out: at rest it moves nothing, and does what the
-- samples ask for; and a shift under way moves on
abbrev pub MovesBy : Phase → Shown → Shown → ℕ → TickEvent → Type 0
MovesBy IsSteady old new count event = (count ≡ 0) × Decides (decision_shown old) old new event
MovesBy (IsDown to) old new count event = MovesOn old new count event
MovesBy (IsUp to) old new count event = MovesOn old new count event

-- such a tick by the disk that is out: it waits for one that is gone, and changes nothing; rebuilds
-- one that is fresh; and else goes by the phase
abbrev pub TicksBy : Out → Shown → Shown → ℕ → TickEvent → Type 0
TicksBy No old new count event = MovesBy old.meta.phase old new count event
TicksBy (Gone d) old new count event = (count ≡ 0) × (event ≡ Waiting) × IsAsBefore old new
TicksBy (Fresh d rebuilt) old new count event = Rebuilds d rebuilt old new count event

-- A tick tells the gear that it leaves; no write was accepted, and a disk that is out then was so
-- before or has failed in it.
pub record Advances (old new : Shown) (report : GearReport) : Type 0 where
  pub out : (d : ℕ)
      → named_out new.meta.out ≡ Some d → (named_out old.meta.out ≡ Some d) ⊎ HasFailed old new d
  pub gear : report.gear ≡ new.meta.gear
  pub writes : new.meta.writes ≡ old.meta.writes
  pub energy : new.energy ≡ energy_after old.setup old.energy (state_shown old) (Ticked report)
  pub by : TicksBy old.meta.out (shown_ticked old) new report.moved report.event

-- a tick tells what it moved and what it did
abbrev pub DoesTick : Shown → Shown → Answer → Type 0
DoesTick old new (Ticked report) = Advances old new report
DoesTick old new answer = ⊥

-- what the array does for an event that is not answered quietly
abbrev pub Does : Shown → Event → Answer → Shown → Type 0
Does old (Read block) answer new = DoesRead block old new answer
Does old (Write pairs) answer new = DoesWrite pairs old new answer
Does old Flush answer new = DoesFlush old new answer
Does old Tick answer new = DoesTick old new answer
Does old Up answer new = DoesShift (next_higher old.setup.geometry old.meta.gear) (λ to.
    Begins old new (IsUp to) (spins_up old.meta.gear to)) old new answer
Does old Down answer new = DoesShift (next_lower old.setup.geometry old.meta.gear) (λ to.
    Begins old new (IsDown to) (λ d. 0)) old new answer
Does old (Fail d) answer new = DoesFail d old new answer
Does old (Replace d) answer new = DoesReplace d old new answer
Does old AskState answer new = ⊥
Does old AskEnergy answer new = ⊥
Does old Bad answer new = ⊥

-- Why this is the answer.
pub data HasReason (old : Shown) (event : Event) (answer : Answer) (new : Shown) : Type 0 where
  -- a halt had come before, and nothing is done
  again : (halt : Halt) → old.halt ≡ Some halt
      → event ≢ Bad → answer ≡ Halted halt → new ≡ old → HasReason old event answer new
  -- so many commits or writes were made that no more are taken
  worn : (count : ℕ)
      → old.halt ≡ None → may_halt event ≡ true → worn_at ≤ count → count ≡ wear_shown old
      → answer ≡ Halted (Worn count) → IsUnchanged old new → HasReason old event answer new
  -- nothing is done
  quiet : Takes old event
      → quiet_answer old event ≡ Some answer → IsUnchanged old new → HasReason old event answer new
  -- the event is served
  done : Takes old event
      → quiet_answer old event ≡ None → Does old event answer new → HasReason old event answer new
  -- two disks were lost in it
  two : (pair : Two) → Takes old event
      → may_halt event ≡ true → quiet_answer old event ≡ None → answer ≡ Halted (HaltTwo pair)
      → AreTwoLost (named_out old.meta.out) event old.slot new.slot pair
      → UsesOwn event old new → HasReason old event answer new
  -- it is no event
  bad : event ≡ Bad → answer ≡ IsBad → new ≡ old → HasReason old event answer new

-- the gear that is told after an answer: that of the meta, or after a halt the one before the event
abbrev pub gear_after : Option Halt → Shown → Shown → ℕ
gear_after None old new = new.meta.gear
gear_after (Some halt) old new = old.gear

-- The most commits that an event makes. A write makes one where what is staged leaves no room for
-- ten targets for each of its pairs, a read that cleans a cell where it leaves none for three, and
-- any other read or write none; a flush one where anything is staged; a tick three, and one for
-- each unit that it may move; and what is asked of shifts and disks two.
abbrev pub most_commits : Shown → Event → ℕ
most_commits x (Read block) = if read_cleans x block && lacks_room x 3 then 1 else 0
most_commits x (Write pairs) = if lacks_room x (10 * pairs.count) then 1 else 0
most_commits x Flush = min x.staged 1
most_commits x Tick = units_of_tick x.setup (state_shown (shown_ticked x)) + 3
most_commits x Up = 2
most_commits x Down = 2
most_commits x (Fail d) = 2
most_commits x (Replace d) = 2
most_commits x AskState = 0
most_commits x AskEnergy = 0
most_commits x Bad = 0

-- the number of commits has not fallen, and has risen by so many at most
pub record CommitsFew (old new : Shown) (most : ℕ) : Type 0 where
  pub later : old.meta.epoch ≤ new.meta.epoch
  pub few : new.meta.epoch ≤ old.meta.epoch + most

-- The event found an array so, is answered so, and leaves it so.
pub record HasCause (old : Shown) (event : Event) (answer : Answer) (new : Shown) : Type 0 where
  pub reason : HasReason old event answer new
  pub setup : new.setup ≡ old.setup
  pub halt : event ≢ Bad → new.halt ≡ halt_told answer
  pub gear : event ≢ Bad → new.gear ≡ gear_after (halt_told answer) old new
  pub counts : Counts answer old new
  pub commits : new.halt ≡ None → CommitsFew old new (most_commits old event)
  pub later : HaveNotFallen old.slot new.slot
  -- while it serves, its disks are powered by its gear, and each that is there and not gone is
  -- synced
  pub fits : new.halt ≡ None → FitsSlots new.slot new.meta
  pub synced : new.halt ≡ None → AreSlotsSynced new.meta new.slot

-- Each event is answered with a cause, one after the other.
abbrev pub HaveCauses : Shown → List Event → List Answer → Shown → Type 0
HaveCauses old [] [] new = new ≡ old
HaveCauses old [] (answer ∷ answers) new = ⊥
HaveCauses old (event ∷ events) [] new = ⊥
HaveCauses old (event ∷ events) (answer ∷ answers) new =
    (mid : Shown) × HasCause old event answer mid × HaveCauses mid events answers new
