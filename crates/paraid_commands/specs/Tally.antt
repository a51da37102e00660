-- What the summary of a generated trace counts.
use Rattle.std.specs.Prelude.{◌+◌, ◌*◌, ◌<◌, List, [], ◌∷◌, slice_index}
use Rattle.paraid_base.specs.declared.event.Answer.{Answer}
use Rattle.paraid_base.specs.declared.event.Answer.TheVariants.{Value, Ticked}
use Rattle.paraid_base.specs.declared.event.Event.{Event}
use Rattle.paraid_base.specs.declared.event.Event.TheVariants.{Read, Write, Flush, Tick}
use Rattle.paraid_base.specs.declared.state.TickEvent.{TickEvent}
use Rattle.paraid_base.specs.declared.state.TickEvent.TheVariants.{Flipped}
use Rattle.paraid_commands.specs.declared.tally.Tally.{Tally}
use Rattle.paraid_serve.specs.Stretch.{Turn}

-- the tally before any line
abbrev pub empty_tally : Tally
empty_tally = record { reads = 0; writes = 0; flushes = 0; ticks = 0; shifts = 0; sum = 0 }

-- an event is counted by its kind
abbrev pub tally_with_event : Tally → Event → Tally
tally_with_event t (Read block) = record t { reads = t.reads + 1 }
tally_with_event t (Write pairs) = record t { writes = t.writes + 1 }
tally_with_event t Flush = record t { flushes = t.flushes + 1 }
tally_with_event t Tick = record t { ticks = t.ticks + 1 }
tally_with_event t event = t

-- the tally after a tick
abbrev pub tally_with_tick : Tally → TickEvent → Tally
tally_with_tick t Flipped = record t { shifts = t.shifts + 1 }
tally_with_tick t event = t

-- a read that was answered adds its block's first two bytes, and a tick that flipped is counted
abbrev pub tally_with_answer : Tally → Answer → Tally
tally_with_answer t (Value block bytes) =
    record t { sum = t.sum + (256 * slice_index bytes.bytes 0 + slice_index bytes.bytes 1) }
tally_with_answer t (Ticked report) = tally_with_tick t report.event
tally_with_answer t answer = t

-- the count after these events and their answers
abbrev pub tally_of : Tally → List Turn → Tally
tally_of t [] = t
tally_of t (u ∷ turns) = tally_of (tally_with_answer (tally_with_event t u.event) u.answer) turns

-- a line more can be counted
pub record HasRoomForLine (t : Tally) : Type 0 where
  pub reads : t.reads < 4294967295
  pub writes : t.writes < 4294967295
  pub flushes : t.flushes < 4294967295
  pub ticks : t.ticks < 4294967295
  pub shifts : t.shifts < 4294967295
  pub sum : t.sum < 9223372036854775808
