-- Which commands read the source.
use Rattle.paraid_words.specs.declared.command.Command.{Command}
use Rattle.paraid_words.specs.declared.command.Command.TheVariants.{Format, Run, Spare, Status, Check, Gen, Nbd, Vol, Plan}

-- a command that takes the source to its end
abbrev pub TakesSource : Command → Type 0
TakesSource (Format force) = Unit {0}
TakesSource Run = Unit {0}
TakesSource (Spare stock wait) = Unit {0}
TakesSource Status = ⊥
TakesSource Check = ⊥
TakesSource (Gen number lines) = ⊥
TakesSource Nbd = ⊥
TakesSource Vol = Unit {0}
TakesSource (Plan ups) = Unit {0}

-- a command that reads the source
abbrev pub ReadsSource : Command → Type 0
ReadsSource (Format force) = Unit {0}
ReadsSource Run = Unit {0}
ReadsSource (Spare stock wait) = Unit {0}
ReadsSource Status = ⊥
ReadsSource Check = ⊥
ReadsSource (Gen number lines) = ⊥
ReadsSource Nbd = Unit {0}
ReadsSource Vol = Unit {0}
ReadsSource (Plan ups) = Unit {0}
