-- The figures of an account are those of its setup.
use Rattle.std.proofs.Common.{◌≡◌, ℕ, ap, subst, sym}
use Rattle.paraid_record.specs.declared.meta.Setup.{Setup}
use Rattle.paraid_energy.specs.Account.{Account, HasFigures, new_account, with_used}

-- a new account has them
pub HasFigures-new_account : (s : Setup) (a : Account) → a ≡ new_account s → HasFigures s a
HasFigures-new_account s a is = record {
  spinning = ap (λ b. b.spinning_mj) is;
  parked = ap (λ b. b.parked_mj) is;
  spinup = ap (λ b. b.spinup_mj) is;
}

-- and keeps them
pub HasFigures-with_used : (s : Setup) (a b : Account) (used : ℕ) → HasFigures s a → b ≡ with_used a used → HasFigures s b
HasFigures-with_used s a b used has is = subst (HasFigures s) (sym is) (record { spinning = has.spinning; parked = has.parked; spinup = has.spinup })
