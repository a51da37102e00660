-- Why an array was not mounted: the last line, and its status.
use Rattle.std.specs.Prelude.{ℕ, List, ◌++◌, codes, decimal}
use Rattle.paraid_recover.specs.declared.mount_fault.MountFault.{MountFault}
use Rattle.paraid_recover.specs.declared.mount_fault.MountFault.TheVariants.{NotFormatted, BadLog, BadMeta, Size, Power, Two as TwoDown, Worn, NoMemory}
use Rattle.paraid_serve.specs.Statuses.{status_no_memory, status_not_an_array, status_two, status_worn}

-- why it was not
abbrev pub mount_fault_line : MountFault → List ℕ
mount_fault_line NotFormatted = codes "notformatted\n"
mount_fault_line (BadLog disk) = codes "badlog " ++ decimal disk ++ codes "\n"
mount_fault_line (BadMeta disk) = codes "badmeta " ++ decimal disk ++ codes "\n"
mount_fault_line (Size disk found needed) = codes "size "
    ++ decimal disk ++ codes " " ++ decimal found ++ codes " " ++ decimal needed ++ codes "\n"
mount_fault_line (Power disk) = codes "power " ++ decimal disk ++ codes "\n"
mount_fault_line (TwoDown two) =
    codes "two " ++ decimal two.first ++ codes " " ++ decimal two.second ++ codes "\n"
mount_fault_line (Worn count) = codes "worn " ++ decimal count ++ codes "\n"
mount_fault_line NoMemory = codes "nomemory\n"

-- the status of a mount that was refused
abbrev pub mount_fault_status : MountFault → ℕ
mount_fault_status NotFormatted = status_not_an_array
mount_fault_status (BadLog disk) = status_not_an_array
mount_fault_status (BadMeta disk) = status_not_an_array
mount_fault_status (Size disk found needed) = status_not_an_array
mount_fault_status (Power disk) = status_not_an_array
mount_fault_status (TwoDown two) = status_two
mount_fault_status (Worn count) = status_worn
mount_fault_status NoMemory = status_no_memory
