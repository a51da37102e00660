-- The text of what a tick did
use Rattle.std.specs.Prelude.{ℕ, List, ◌++◌, codes, decimal}
use Rattle.paraid_base.specs.declared.state.GearReport.{GearReport}
use Rattle.paraid_base.specs.declared.state.TickEvent.{TickEvent}
use Rattle.paraid_base.specs.declared.state.TickEvent.TheVariants.{Steady, Waiting, Moving, Flipped, Begun, Rebuilt, Gone, Lost, Ration}

-- the word of what a tick did
abbrev pub tick_word : TickEvent → List ℕ
tick_word Steady = codes "steady"
tick_word Waiting = codes "waiting"
tick_word Moving = codes "moving"
tick_word Flipped = codes "flipped"
tick_word (Begun to) = codes "begun " ++ decimal to
tick_word (Rebuilt disk) = codes "rebuilt " ++ decimal disk
tick_word (Gone disk) = codes "gone " ++ decimal disk
tick_word (Lost disk) = codes "lost " ++ decimal disk
tick_word (Ration disk) = codes "ration " ++ decimal disk

-- the text of a tick
abbrev pub tick_text : GearReport → List ℕ
tick_text report =
    codes "tick " ++ decimal report.gear ++ codes " moved " ++ decimal report.moved
    ++ codes " " ++ tick_word report.event
