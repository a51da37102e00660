-- What a session is told of why a mount is refused.
use Rattle.paraid_recover.specs.declared.mount_fault.MountFault.{MountFault}
use Rattle.paraid_recover.specs.declared.mount_fault.MountFault.TheVariants.{NotFormatted, BadLog, BadMeta, Size, Power, Two, Worn, NoMemory}
use Rattle.paraid_session.specs.Mount.{Refusal, lacking, no_memory, worn}

-- the cause of a refused mount, as far as it lies in what the rack held or not
abbrev pub refusal_by_fault : MountFault → Refusal
refusal_by_fault NotFormatted = lacking
refusal_by_fault (BadLog disk) = lacking
refusal_by_fault (BadMeta disk) = lacking
refusal_by_fault (Size disk found needed) = lacking
refusal_by_fault (Power disk) = lacking
refusal_by_fault (Two two) = lacking
refusal_by_fault (Worn count) = worn count
refusal_by_fault NoMemory = no_memory
