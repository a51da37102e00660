-- The lengths of lines, and how the command comes out.
use Rattle.std.proofs.Common.{◌≡◌, ℕ, ◌≤◌, ◌<◌, ◌^◌, ◌++◌, inl, inr, length, codes, decimal, arith, length-append}
use Rattle.std.proofs.lemmas.Fmt.{length-decimal-le}
use Rattle.paraid_recover.specs.declared.mount_fault.MountFault.{MountFault}
use Rattle.paraid_recover.specs.declared.mount_fault.MountFault.TheVariants.{NotFormatted, BadLog, BadMeta, Size, Power, Two as TwoDown, Worn, NoMemory}
use Rattle.paraid_serve.specs.Ending.{mount_line}
use Rattle.paraid_commands.specs.Statuses.{plan_statuses, show_statuses}
use Rattle.paraid_serve.specs.Statuses.{IsOneOf}
use Rattle.paraid_commands.specs.MountFaults.{mount_fault_status}

pub length-mount_line : (writes gear : ℕ) → writes < 2 ^ 64 → gear < 2 ^ 64 → length (mount_line writes gear) ≤ 99
length-mount_line writes gear lw lg =
    let a = codes "mounted " in
    let b = codes " gear " in
    let n = codes "\n" in
    let w = length-decimal-le 20 writes (omega arith) (omega arith) lw in
    let g = length-decimal-le 20 gear (omega arith) (omega arith) lg in
    omega (arith, length-append (a ++ decimal writes ++ b ++ decimal gear) n, length-append (a ++ decimal writes ++ b) (decimal gear), length-append (a ++ decimal writes) b, length-append a (decimal writes), w, g)

-- the status of a mount that was refused
pub refused_status : (fault : MountFault) (status : ℕ) → status ≡ mount_fault_status fault → IsOneOf show_statuses status
refused_status NotFormatted status is = inr (inr (inr (inl is)))
refused_status (BadLog disk) status is = inr (inr (inr (inl is)))
refused_status (BadMeta disk) status is = inr (inr (inr (inl is)))
refused_status (Size disk found needed) status is = inr (inr (inr (inl is)))
refused_status (Power disk) status is = inr (inr (inr (inl is)))
refused_status (TwoDown two) status is = inr (inr (inl is))
refused_status (Worn count) status is = inr (inr (inr (inr (inr is))))
refused_status NoMemory status is = inr (inr (inr (inr (inl is))))

-- it is one of those of a plan too
pub refused_plan_status : (fault : MountFault) (status : ℕ) → status ≡ mount_fault_status fault → IsOneOf plan_statuses status
refused_plan_status NotFormatted status is = inr (inr (inr (inr (inl is))))
refused_plan_status (BadLog disk) status is = inr (inr (inr (inr (inl is))))
refused_plan_status (BadMeta disk) status is = inr (inr (inr (inr (inl is))))
refused_plan_status (Size disk found needed) status is = inr (inr (inr (inr (inl is))))
refused_plan_status (Power disk) status is = inr (inr (inr (inr (inl is))))
refused_plan_status (TwoDown two) status is = inr (inr (inr (inl is)))
refused_plan_status (Worn count) status is = inr (inr (inr (inr (inr (inr (inr (inl is)))))))
refused_plan_status NoMemory status is = inr (inr (inr (inr (inr (inl is)))))
