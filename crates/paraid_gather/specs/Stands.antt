-- What is known of a rack that gathers, where the rack below tells its record and the log its own.
use Rattle.std.specs.Prelude.{◌≡◌, ℕ, Option, Some}
use Rattle.std.proofs.Props.{props}
use Rattle.paraid_rack.specs.Slots.{Slot, Agrees}
use Rattle.paraid_rack.specs.Lawful.{AreLawful, AreLawful-prop}
use Rattle.paraid_rack.specs.Trail.{Trail, initial, now}
use Rattle.paraid_gather.specs.Waiting.{Waiting}
use Rattle.paraid_gather.specs.Above.{IsAbove, slots_above}
use Rattle.paraid_gather.specs.Gathering.{IsGathered}

-- The record above is `a`, over a rack with the record `b` and these slots, for whose disks these
-- blocks wait.
pub record StandsOver (slot : ℕ → Slot) (w : ℕ → Waiting) (b a : Trail) : Type 0 where
  pub above : IsAbove (now b) w (now a)
  pub agrees : Agrees (now a) (slots_above slot w)
  pub lawful : AreLawful (initial a.start) a.calls
  pub gathered : ∥ IsGathered b a ∥₁

-- where the rack below tells its record and one is noted above, the noted one stands above it
abbrev pub StandsWhereTold : Option Trail → Option Trail → (ℕ → Slot) → (ℕ → Waiting) → Type 0
StandsWhereTold told noted slot w = (b a : Trail)
    → told ≡ Some b → noted ≡ Some a → StandsOver slot w b a

-- it has one proof
pub StandsWhereTold-prop : (told noted : Option Trail) (slot : ℕ → Slot) (w : ℕ → Waiting)
    → IsProp (StandsWhereTold told noted slot w)
StandsWhereTold-prop told noted slot w = hlevel (props, AreLawful-prop)
