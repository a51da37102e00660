-- Which disk is down after a call, and why.
use Rattle.std.specs.Prelude.{◌≡◌, ℕ, ◌⊎◌, Option, Some, None}
use Rattle.paraid_base.specs.Told.{HasRisen}
use Rattle.paraid_rack.specs.Slots.{Slot}
use Rattle.paraid_txn.specs.Losses.{IsLostNow}

-- A disk that is down now was so before, or has failed since.
pub record IsDownAfter (was now : Option ℕ) (old new : ℕ → Slot) : Type 0 where
  pub known : (d : ℕ) → now ≡ Some d → (was ≡ Some d) ⊎ HasRisen (old d).faults (new d).faults

-- No disk was down before, and one is now: it has failed since, and is absent.
pub record HasLostOne (was now : Option ℕ) (old new : ℕ → Slot) : Type 0 where
  pub disk : ℕ
  pub none : was ≡ None
  pub down : now ≡ Some disk
  pub lost : IsLostNow old new disk
