-- In which order a mount is refused by what the log disks said.
use Rattle.std.specs.Prelude.{◌≢◌, ℕ, ◌<◌, Bool, true, false, [], Option, Some, None}
use Rattle.paraid_image.specs.Out.{named_out}
use Rattle.paraid_image.specs.Standing.{standing}
use Rattle.paraid_recover.specs.declared.sides.Sides.{Sides}
use Rattle.paraid_recover.specs.declared.hearing.Heard.{Heard}
use Rattle.paraid_recover.specs.declared.hearing.Heard.TheVariants.{Blank, Bad, Formed}
use Rattle.paraid_recover.specs.Faults.{IsFaulty, IsSilent, side_at}
use Rattle.paraid_recover.specs.HeardSides.{side_by}
use Rattle.paraid_recover.specs.declared.mount_fault.MountFault.{MountFault}
use Rattle.paraid_recover.specs.declared.mount_fault.MountFault.TheVariants.{NotFormatted, BadLog, BadMeta, Size, Power, Two as BothMissing, Worn, NoMemory}

-- the disk that the meta of a side names out
abbrev pub said_out : Option Heard → Option ℕ
said_out None = None
said_out (Some Blank) = None
said_out (Some (Bad gate_open)) = None
said_out (Some (Formed gate_open meta)) = named_out meta.out

-- the disk that is named out where this log disk stands
abbrev pub out_by : Sides → Option ℕ → Option ℕ
out_by sides None = None
out_by sides (Some x) = said_out (side_at sides x)

-- the disk that the meta which stands names out
abbrev pub standing_out : Sides → Option ℕ
standing_out sides = out_by sides (standing (side_by sides.first []) (side_by sides.second []))

-- each log disk is absent or blank
abbrev pub AreSilent : Sides → Type 0
AreSilent sides = IsSilent sides.first × IsSilent sides.second

-- a log disk that is not named out and is not well formed under such a gate
pub record IsAtFault (sides : Sides) (gate : Bool) (x : ℕ) : Type 0 where
  pub log_disk : x < 2
  pub faulty : IsFaulty gate (side_at sides x)
  pub live : standing_out sides ≢ Some x

-- no log disk is so
abbrev pub IsFaultless : Sides → Bool → Type 0
IsFaultless sides gate = (x : ℕ) → IsAtFault sides gate x → ⊥

-- the least log disk that is so
abbrev pub IsLeastAtFault : Sides → Bool → ℕ → Type 0
IsLeastAtFault sides gate x =
    IsAtFault sides gate x × ((e : ℕ) → e < x → IsAtFault sides gate e → ⊥)

-- one is formed, and each is well formed but for one that is named out
pub record AreSidesFormed (sides : Sides) : Type 0 where
  pub formed : AreSilent sides → ⊥
  pub opened : IsFaultless sides true
  pub closed : IsFaultless sides false

-- The cause of a refusal is there, and none that is tested before it: that none is formatted, then
-- a log under an open gate, then one under a closed gate. The other causes lie not in the two
-- sides.
abbrev pub IsRefusedBySides : Sides → MountFault → Type 0
IsRefusedBySides sides NotFormatted = AreSilent sides
IsRefusedBySides sides (BadLog disk) = (AreSilent sides → ⊥) × IsLeastAtFault sides true disk
IsRefusedBySides sides (BadMeta disk) =
    (AreSilent sides → ⊥) × IsFaultless sides true × IsLeastAtFault sides false disk
IsRefusedBySides sides (Size disk found needed) = ⊥
IsRefusedBySides sides (Power disk) = ⊥
IsRefusedBySides sides (BothMissing two) = ⊥
IsRefusedBySides sides (Worn count) = ⊥
IsRefusedBySides sides NoMemory = ⊥
