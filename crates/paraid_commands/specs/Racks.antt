-- A rack before and after a command.
use Rattle.std.specs.Prelude.{ℕ, Option}
use Rattle.paraid_rack.specs.Slots.{Slot}
use Rattle.paraid_rack.specs.Trail.{Trail}
use Rattle.paraid_serve.specs.Uses.{RackUse}

-- a rack before and after, by its number of slots, what is told of each, and its record
abbrev pub rack_use : {R : Type 0} → (R → ℕ) → (R → ℕ → Slot) → (R → Option Trail) → R → R → RackUse
rack_use slots slot told old new = record {
  slots = slots old;
  old = slot old;
  new = slot new;
  before = told old;
  after = told new;
}
