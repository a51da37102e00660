-- What is asked for, as an event
use Rattle.std.specs.Prelude.{ℕ, Bool, if◌then◌else◌, Option, Some, None}
use Rattle.paraid_base.specs.declared.block.Block.{Block}
use Rattle.paraid_base.specs.declared.event.Event.{Event}
use Rattle.paraid_base.specs.declared.event.Event.TheVariants.{Read, Write, Flush, Tick, Up, Down, Fail, Replace, State, Energy, Bad}
use Rattle.paraid_base.specs.declared.pairs.Pairs.{Pairs}
use Rattle.paraid_trace.specs.declared.asked.Asked.{Asked}
use Rattle.paraid_trace.specs.declared.asked.Asked.TheVariants.{Read as AskRead, Write as AskWrite, Flush as AskFlush, Tick as AskTick, Up as AskUp, Down as AskDown, Fail as AskFail, Replace as AskReplace, State as AskState, Energy as AskEnergy, Bad as AskBad}
use Rattle.paraid_trace.specs.LineEvents.{Group}

-- the event that is asked for, with the pairs that stand beside it
abbrev pub event_with : Asked → Pairs → Event
event_with (AskRead block) pairs = Read block
event_with AskWrite pairs = Write pairs
event_with AskFlush pairs = Flush
event_with AskTick pairs = Tick
event_with AskUp pairs = Up
event_with AskDown pairs = Down
event_with (AskFail disk) pairs = Fail disk
event_with (AskReplace disk) pairs = Replace disk
event_with AskState pairs = State
event_with AskEnergy pairs = Energy
event_with AskBad pairs = Bad

-- a block that was read from digits, where they are those of a block
abbrev pub if_read : Bool → Block → Option Block
if_read read bytes = if read then Some bytes else None

-- a group whose bytes stand beside it
abbrev pub group_in : Option (ℕ × ℕ) → Block → Option Group
group_in (Some found) bytes = Some (record { block = found.0; bytes = bytes; end = found.1 })
group_in None bytes = None
