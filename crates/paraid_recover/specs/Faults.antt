-- Which sides are not well formed.
use Rattle.std.specs.Prelude.{◌≡◌, ◌⊎◌, ℕ, Bool, false, Option, Some, None}
use Rattle.std.proofs.Common.{zero, suc}
use Rattle.paraid_recover.specs.declared.sides.Sides.{Sides}
use Rattle.paraid_recover.specs.declared.hearing.Heard.{Heard}
use Rattle.paraid_recover.specs.declared.hearing.Heard.TheVariants.{Blank, Bad}

-- what log disk 0 or 1 says
abbrev pub side_at : Sides → ℕ → Option Heard
side_at sides zero = sides.first
side_at sides (suc d) = sides.second

-- it is not well formed under such a gate; a blank one has a closed gate
abbrev pub IsFaulty : Bool → Option Heard → Type 0
IsFaulty gate side = (side ≡ Some (Bad gate)) ⊎ ((side ≡ Some Blank) × (gate ≡ false))

-- it is absent or blank
abbrev pub IsSilent : Option Heard → Type 0
IsSilent side = (side ≡ None) ⊎ (side ≡ Some Blank)
