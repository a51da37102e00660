-- Which calls a disk may get by its power.
use Rattle.std.specs.Prelude.{◌≡◌, ℕ, false, List, [], ◌∷◌}
use Rattle.std.proofs.Props.{props}
use Rattle.paraid_rack.specs.declared.call.Power.TheVariants.{Spinning, Parked}
use Rattle.paraid_rack.specs.declared.call.Call.{Call}
use Rattle.paraid_rack.specs.declared.call.Call.TheVariants.{Read, Write, Sync, Park, SpinUp, Attach}
use Rattle.paraid_rack.specs.Disks.{Disks, step}

-- A disk that does not spin is neither read, written, synced nor parked, and only a parked one is
-- spun up. A disk is parked only where none of its blocks is loose.
abbrev pub IsLawful : Disks → Call → Type 0
IsLawful s (Read d p done) = s.power d ≡ Spinning
IsLawful s (Write d p b done) = s.power d ≡ Spinning
IsLawful s (Sync d done) = s.power d ≡ Spinning
IsLawful s (Park d done) = (s.power d ≡ Spinning) × ((p : ℕ) → s.loose d p ≡ false)
IsLawful s (SpinUp d done) = s.power d ≡ Parked
IsLawful s (Attach d size done) = Unit {0}

-- each of these calls is lawful at its moment
abbrev pub AreLawful : Disks → List Call → Type 0
AreLawful s [] = Unit {0}
AreLawful s (c ∷ cs) = IsLawful s c × AreLawful (step c s) cs

-- a law of one call has one proof
pub IsLawful-prop : (s : Disks) (c : Call) → IsProp (IsLawful s c)
IsLawful-prop s (Read d p done) = hlevel props
IsLawful-prop s (Write d p b done) = hlevel props
IsLawful-prop s (Sync d done) = hlevel props
IsLawful-prop s (Park d done) = hlevel props
IsLawful-prop s (SpinUp d done) = hlevel props
IsLawful-prop s (Attach d size done) = hlevel props

-- so has that of several
pub AreLawful-prop : (s : Disks) (cs : List Call) → IsProp (AreLawful s cs)
AreLawful-prop s [] = hlevel props
AreLawful-prop s (c ∷ cs) = let first =
    IsLawful-prop s c in let rest = AreLawful-prop (step c s) cs in hlevel (props, first, rest)
