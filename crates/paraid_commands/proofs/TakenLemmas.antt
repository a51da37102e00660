-- Which status a mount that is refused does not have, and which a command that reads no source.
use Rattle.std.proofs.Common.{◌≡◌, ℕ, ◌⊎◌, List, length, Option, inl, inr, arith}
use Rattle.paraid_serve.specs.Ending.{EndsWithLine}
use Rattle.paraid_recover.specs.declared.mount_fault.MountFault.{MountFault}
use Rattle.paraid_recover.specs.declared.mount_fault.MountFault.TheVariants.{NotFormatted, BadLog, BadMeta, Size, Power, Two as TwoDown, Worn, NoMemory}
use Rattle.paraid_commands.specs.Statuses.{check_statuses, gen_statuses}
use Rattle.paraid_serve.specs.Statuses.{IsOneOf}
use Rattle.paraid_commands.specs.MountFaults.{mount_fault_status}

not_done : (fault : MountFault) (status : ℕ) → status ≡ mount_fault_status fault → status ≡ 0 → ⊥
not_done NotFormatted status is zero = omega (arith, is, zero)
not_done (BadLog disk) status is zero = omega (arith, is, zero)
not_done (BadMeta disk) status is zero = omega (arith, is, zero)
not_done (Size disk found needed) status is zero = omega (arith, is, zero)
not_done (Power disk) status is zero = omega (arith, is, zero)
not_done (TwoDown two) status is zero = omega (arith, is, zero)
not_done (Worn count) status is zero = omega (arith, is, zero)
not_done NoMemory status is zero = omega (arith, is, zero)

refused_so : (fault : MountFault) (status n m : ℕ) → (status ≡ 4) ⊎ ((n ≡ m) × (status ≡ mount_fault_status fault)) → status ≡ 0 → ⊥
refused_so fault status n m (inl four) zero = omega (arith, four, zero)
refused_so fault status n m (inr all) zero = not_done fault status all.1 zero

pub refused_not : (fault : MountFault) (before after : Option (List ℕ)) (line : List ℕ) (status : ℕ) → EndsWithLine before after line (mount_fault_status fault) status → status ≡ 0 → ⊥
refused_not fault before after line status end zero = refused_so fault status end.count (length line) end.whole zero

pub not_read : (status : ℕ) → IsOneOf gen_statuses status → status ≡ 3 → ⊥
not_read status (inl z) three = omega (arith, z, three)
not_read status (inr (inl z)) three = omega (arith, z, three)
not_read status (inr (inr (inl z))) three = omega (arith, z, three)
not_read status (inr (inr (inr (inl z)))) three = omega (arith, z, three)
not_read status (inr (inr (inr (inr (inl z))))) three = omega (arith, z, three)
not_read status (inr (inr (inr (inr (inr z))))) three = omega (arith, z, three)

pub check_not_read : (status : ℕ) → IsOneOf check_statuses status → status ≡ 3 → ⊥
check_not_read status (inl z) three = omega (arith, z, three)
check_not_read status (inr (inl z)) three = omega (arith, z, three)
check_not_read status (inr (inr (inl z))) three = omega (arith, z, three)
check_not_read status (inr (inr (inr (inl z)))) three = omega (arith, z, three)
check_not_read status (inr (inr (inr (inr (inl z))))) three = omega (arith, z, three)
check_not_read status (inr (inr (inr (inr (inr (inl z)))))) three = omega (arith, z, three)
check_not_read status (inr (inr (inr (inr (inr (inr z)))))) three = omega (arith, z, three)
