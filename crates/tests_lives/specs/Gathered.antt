-- Calls on a rack that gathers, and the record of the rack below it.
use Rattle.std.specs.Prelude.{◌≡◌, true, List, [], ◌∷◌, Option, Some}
use Rattle.paraid_base.specs.declared.block.Block.{Block}
use Rattle.paraid_rack.specs.declared.call.Call.{Call}
use Rattle.paraid_rack.specs.declared.call.Call.TheVariants.{Attach, Write, Sync}
use Rattle.paraid_rack.specs.Trail.{Trail, extend}
use Rattle.paraid_gather.specs.Gathering.{IsGathered}
use Rattle.paraid_memrack.specs.Rules.{no_disks}

-- A disk of four blocks comes into slot 0. A block of it is written twice and then synced. No call
-- fails.
abbrev pub written_twice : Block → Block → List Call
written_twice first second =
    Attach 0 4 true ∷ Write 0 2 first true ∷ Write 0 2 second true ∷ Sync 0 true ∷ []

-- What is told is the record of these calls on one empty slot, in groups.
pub record TellsGathered (calls : List Call) (told : Option Trail) : Type 0 where
  pub below : Trail
  pub is : told ≡ Some below
  pub gathered : ∥ IsGathered below (extend (no_disks 1) calls) ∥₁
