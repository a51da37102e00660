-- The events of a generated trace
use Rattle.std.specs.Prelude.{ℕ, ◌+◌, ◌*◌, ◌/◌, ◌%◌, ◌^◌, nat_lt, if◌then◌else◌, List, [], ◌∷◌}
use Rattle.paraid_base.specs.declared.event.Event.{Event}
use Rattle.paraid_base.specs.declared.event.Event.TheVariants.{Read, Write, Flush, Tick, Up, Down}
use Rattle.paraid_base.specs.Pairs.{single_pair}
use Rattle.paraid_trace.specs.Repeats.{repeating_block}

-- the mixed number of line `i` of the trace of a number
abbrev pub mixed_number : ℕ → ℕ → ℕ
mixed_number number i = (number * 2654435761 + i * 1597334677 + i * i * 668265263) % 2 ^ 32

-- the two lowest bytes of a line's number, the high byte first
abbrev pub low_bytes : ℕ → List ℕ
low_bytes i = (i / 256 % 256) ∷ (i % 256) ∷ []

-- the event of a kind, from 0 to 255, of a block, at line `i`
abbrev pub event_of_kind : ℕ → ℕ → ℕ → Event
event_of_kind kind block i =
    if nat_lt kind 140 then Read block
    else if nat_lt kind 230 then Write (single_pair block (repeating_block (low_bytes i)))
    else if nat_lt kind 240 then Flush
    else if nat_lt kind 254 then Tick
    else if nat_lt kind 255 then Up
    else Down

-- line `i` of the trace of a number, for an array of so many blocks
unfoldable pub generated_event : ℕ → ℕ → ℕ → Event
generated_event number i blocks =
    event_of_kind (mixed_number number i / 2 ^ 24) (mixed_number number i % 2 ^ 24 % blocks) i
