-- The events of a generated trace, and the text of their summary.
use Rattle.std.specs.Prelude.{ℕ, List, [], ◌∷◌, ◌++◌, codes, decimal}
use Rattle.std.proofs.Common.{zero, suc}
use Rattle.paraid_base.specs.declared.event.Event.{Event}
use Rattle.paraid_trace.specs.Generated.{generated_event}
use Rattle.paraid_commands.specs.declared.tally.Tally.{Tally}

-- the first lines of the trace of a number, on so many blocks
abbrev pub generated_events : ℕ → ℕ → ℕ → List Event
generated_events number blocks zero = []
generated_events number blocks (suc i) =
    generated_events number blocks i ++ generated_event number i blocks ∷ []

-- the first line of a summary
abbrev pub lines_line : ℕ → Tally → List ℕ
lines_line count t =
    codes "lines " ++ decimal count
    ++ codes " reads " ++ decimal t.reads ++ codes " writes " ++ decimal t.writes
    ++ codes " flushes " ++ decimal t.flushes
    ++ codes " ticks " ++ decimal t.ticks ++ codes " shifts " ++ decimal t.shifts ++ codes "\n"

-- the two lines of the summary
abbrev pub summary : ℕ → Tally → ℕ → ℕ → List ℕ
summary count t gear energy =
    lines_line count t ++ codes "sum " ++ decimal t.sum
    ++ codes " gear " ++ decimal gear ++ codes " energy " ++ decimal energy ++ codes "\n"
