-- The least log disk at fault.
use Rattle.std.specs.Prelude.{◌≡◌, ◌≢◌, ℕ, ◌<◌, Bool, Option, Some}
use Rattle.std.proofs.Common.{sym, ◌∙◌}
use Rattle.paraid_recover.specs.declared.sides.Sides.{Sides}
use Rattle.paraid_recover.specs.Faults.{IsFaulty, side_at}
use Rattle.paraid_recover.specs.Said.{IsFaultless, IsLeastAtFault, standing_out}

pub least_at_fault : (sides : Sides) (gate : Bool) (out : Option ℕ) (x : ℕ) → out ≡ standing_out sides
    → (x < 2) × IsFaulty gate (side_at sides x) × (out ≢ Some x)
    → ((e : ℕ) → e < x → IsFaulty gate (side_at sides e) → out ≡ Some e) → IsLeastAtFault sides gate x
least_at_fault sides gate out x is this lower = (
  record { log_disk = this.0; faulty = this.1; live = λ named. this.2 (is ∙ named) },
  λ e low fault. fault.live (sym is ∙ lower e low fault.faulty),
)

pub faultless : (sides : Sides) (gate : Bool) (out : Option ℕ) → out ≡ standing_out sides
    → ((e : ℕ) → e < 2 → IsFaulty gate (side_at sides e) → out ≡ Some e) → IsFaultless sides gate
faultless sides gate out is none x fault = fault.live (sym is ∙ none x fault.log_disk fault.faulty)
