-- A stock by its members.
use Rattle.std.proofs.Common.{◌≡◌, ℕ, Bool, true, false, Option, Some, None, refl, ap}
use Rattle.std.specs.Prelude.{◌==◌, ◌&&◌, nat_le, nat_lt, if◌then◌else◌}
use Rattle.paraid_base.specs.declared.fault.Halt.{Halt}
use Rattle.paraid_spare.specs.Pools.{saturating_next}
use Rattle.paraid_sparing.specs.Sparing.{spins_after, waits_after, waits_then}

pub spins_alike : (o : Option (ℕ × ℕ)) (f g : ℕ → ℕ) (d : ℕ) → f d ≡ g d → spins_after o f d ≡ spins_after o g d
spins_alike None f g d is = is
spins_alike (Some range) f g d is = ap (λ (n : ℕ). if nat_le range.0 d && nat_lt d range.1 then saturating_next 64 n else n) is

waits_alike : (o : Option ℕ) (b : Bool) (f g : ℕ → ℕ) (d : ℕ) → f d ≡ g d → waits_after o b f d ≡ waits_after o b g d
waits_alike None b f g d is = refl
waits_alike (Some e) true f g d is = ap (λ (n : ℕ). if d == e then saturating_next 32 n else 0) is
waits_alike (Some e) false f g d is = is

pub waits_same : (h : Option Halt) (o : Option ℕ) (b : Bool) (f g : ℕ → ℕ) (d : ℕ) → f d ≡ g d → waits_then h o b f d ≡ waits_then h o b g d
waits_same None o b f g d is = waits_alike o b f g d is
waits_same (Some halt) o b f g d is = is
