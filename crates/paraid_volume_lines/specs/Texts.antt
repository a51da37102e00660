-- The texts that answer lines about volumes.
use Rattle.std.specs.Prelude.{ℕ, ◌++◌, List, Bool, true, false, Result, Ok, Err, codes, decimal}
use Rattle.paraid_base.specs.declared.block.Block.{Block}
use Rattle.paraid_trace.specs.BlockTexts.{block_text}
use Rattle.paraid_trace.specs.Replies.{halt_text}
use Rattle.paraid_volume.specs.declared.fault.VolFault.{VolFault}
use Rattle.paraid_volume.specs.declared.fault.VolFault.TheVariants.{Halt as VolHalt, Small, NotVolumes, Already, NoVolume, NoBlock, Exists, NoExtents, Names, Space}

-- why a line was refused
abbrev pub fault_text : VolFault → List ℕ
fault_text (VolHalt halt) = halt_text halt
fault_text (Small blocks) = codes "small"
fault_text NotVolumes = codes "novolumes"
fault_text Already = codes "already"
fault_text (NoVolume id) = codes "novolume"
fault_text (NoBlock block) = codes "noblock"
fault_text (Exists id) = codes "exists"
fault_text NoExtents = codes "noextents"
fault_text Names = codes "names"
fault_text (Space free) = codes "space " ++ decimal free

-- so many extents of so many blocks
abbrev pub begun_text : ℕ → ℕ → List ℕ
begun_text extents size = codes "volumes " ++ decimal extents ++ codes " of " ++ decimal size

-- what is answered where a volume is to be removed
abbrev pub deleted_text : List ℕ → Bool → List ℕ
deleted_text name true = codes "deleted " ++ name
deleted_text name false = codes "novolume"

-- what is answered to a read
abbrev pub read_text : List ℕ → ℕ → Result (Unit {0}) VolFault → Block → List ℕ
read_text name block (Ok done) bytes =
    name ++ codes " " ++ decimal block ++ codes "=" ++ block_text bytes
read_text name block (Err fault) bytes = fault_text fault

-- what is answered to a write
abbrev pub written_text : Result (Unit {0}) VolFault → List ℕ
written_text (Ok done) = codes "wrote"
written_text (Err fault) = fault_text fault

-- what is answered where a volume is to be made
abbrev pub created_text : List ℕ → Result ℕ VolFault → List ℕ
created_text name (Ok id) = codes "created " ++ name ++ codes " " ++ decimal id
created_text name (Err fault) = fault_text fault

-- what is answered to a flush
abbrev pub flushed_text : Result ℕ VolFault → List ℕ
flushed_text (Ok number) = codes "flushed"
flushed_text (Err fault) = fault_text fault
