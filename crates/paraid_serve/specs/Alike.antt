-- When two answers tell the same.
use Rattle.std.specs.Prelude.{◌≡◌, ℕ}
use Rattle.paraid_base.specs.declared.event.Answer.{Answer}
use Rattle.paraid_base.specs.declared.event.Answer.TheVariants.{Value}
use Rattle.paraid_serve.specs.Causes.{HasFailed, Shown}

-- they are the same answer, but for the bytes that a read gives
abbrev pub AreAlike : Answer → Answer → Type 0
AreAlike (Value block bytes) (Value other others) = block ≡ other
AreAlike answer other = answer ≡ other

-- no disk has failed in the event
abbrev pub NoneFails : Shown → Shown → Type 0
NoneFails old new = (d : ℕ) → HasFailed old new d → ⊥
