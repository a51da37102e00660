-- What a store knows of the witnesses on disk 2.
use Rattle.std.specs.Prelude.{◌≡◌, ℕ, ◌<◌, true, Option, Some}
use Rattle.std.proofs.Props.{props}
use Rattle.paraid_rack.specs.Atoms.{IsSure}
use Rattle.paraid_rack.specs.Disks.{Disks}
use Rattle.paraid_rack.specs.Trail.{Trail, now}
use Rattle.paraid_image.specs.Sides.{is_open}

-- The witness against this disk, if it is a log disk, is borne: it is open where disk 2 is there,
-- and no stop takes it back.
abbrev pub IsWitnessBorne : Option ℕ → Disks → Type 0
IsWitnessBorne against s = (x : ℕ) → x < 2 → against ≡ Some x → IsSure s 2 x (λ b. is_open b ≡ true)

-- where the record is told, the witness against this disk is borne at its end
abbrev pub IsBorneNow : Option ℕ → Option Trail → Type 0
IsBorneNow against told = (t : Trail) → told ≡ Some t → IsWitnessBorne against (now t)

-- that has one proof
pub IsBorneNow-prop : (against : Option ℕ) (told : Option Trail) → IsProp (IsBorneNow against told)
IsBorneNow-prop against told = hlevel props
