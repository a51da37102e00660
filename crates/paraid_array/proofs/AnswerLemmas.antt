-- The answers to disks that are taken out or replaced, and to shifts.
use Rattle.std.proofs.Common.{◌≡◌, ℕ, true, Option, Some, None, refl, arith}
use Rattle.std.specs.Prelude.{◌==◌, IfSome}
use Rattle.std.proofs.lemmas.Bool.Decides.{nat_tests}
use Rattle.paraid_image.specs.Power.{PowerState}
use Rattle.paraid_machine.specs.Energy.{energy_of}
use Rattle.paraid_record.specs.declared.meta.Meta.{Meta}
use Rattle.paraid_record.specs.declared.meta.Setup.{Setup}
use Rattle.paraid_session.specs.Turn.{halt_told}
use Rattle.paraid_upkeep.specs.declared.asked.ShiftOutcome.{ShiftOutcome}
use Rattle.paraid_upkeep.specs.declared.asked.ShiftOutcome.TheVariants.{Begun, Refused}
use Rattle.paraid_upkeep.specs.declared.fault.FailFault.{FailFault}
use Rattle.paraid_upkeep.specs.declared.fault.FailFault.TheVariants.{NoDisk as FailNoDisk, Out as FailOut}
use Rattle.paraid_upkeep.specs.declared.fault.ReplaceFault.{ReplaceFault}
use Rattle.paraid_upkeep.specs.declared.fault.ReplaceFault.TheVariants.{NoDisk as ReplaceNoDisk, NoFresh, NotOut}
use Rattle.paraid_upkeep.specs.declared.fault.ShiftFault.TheVariants.{Lowest, Out as ShiftOut, Ration, Shifting, Top}
use Rattle.paraid_upkeep.specs.DiskRefusals.{IsFailRefused, IsReplaceRefused}
use Rattle.paraid_upkeep.specs.Turns.{asked_answer, fail_answer, replace_answer}
use Rattle.paraid_array.specs.Used.{asked_energy}

pub same_test : (a b : ℕ) → a ≡ b → (a == b) ≡ true
same_test a b e = grind (e, arith, nat_tests)

-- a disk that is taken out
module _ (d : ℕ) (m m_then : Meta) where
  pub fail_going : (r : Option FailFault) → IfSome r (IsFailRefused m m_then d) → halt_told (fail_answer d r) ≡ None
  fail_going None w = refl
  fail_going (Some (FailNoDisk e)) w = refl
  fail_going (Some (FailOut e)) w = refl

pub fail_uses : (setup : Setup) (s : PowerState) (d : ℕ) (r : Option FailFault) → energy_of setup s (fail_answer d r) ≡ 0
fail_uses setup s d None = refl
fail_uses setup s d (Some (FailNoDisk e)) = refl
fail_uses setup s d (Some (FailOut e)) = refl

-- one that is replaced
module _ (d : ℕ) (m : Meta) where
  pub replace_going : (r : Option ReplaceFault) → IfSome r (IsReplaceRefused m d) → halt_told (replace_answer d r) ≡ None
  replace_going None w = refl
  replace_going (Some (ReplaceNoDisk e)) w = refl
  replace_going (Some (NotOut e)) w = refl
  replace_going (Some (NoFresh e)) w = refl

pub replace_uses : (setup : Setup) (s : PowerState) (d : ℕ) (r : Option ReplaceFault) → energy_of setup s (replace_answer d r) ≡ 0
replace_uses setup s d None = refl
replace_uses setup s d (Some (ReplaceNoDisk e)) = refl
replace_uses setup s d (Some (NotOut e)) = refl
replace_uses setup s d (Some (NoFresh e)) = refl

-- a shift that is asked for
pub asked_uses : (setup : Setup) (s : PowerState) (gear : ℕ) (x : ShiftOutcome) → energy_of setup s (asked_answer gear x) ≡ asked_energy setup gear x
asked_uses setup s gear (Begun to) = refl
asked_uses setup s gear (Refused Top) = refl
asked_uses setup s gear (Refused Lowest) = refl
asked_uses setup s gear (Refused (Shifting to)) = refl
asked_uses setup s gear (Refused (ShiftOut d)) = refl
asked_uses setup s gear (Refused (Ration d)) = refl
