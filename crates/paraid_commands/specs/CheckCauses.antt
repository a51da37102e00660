-- Why a check tells what it tells, whatever the rack holds.
use Rattle.std.specs.Prelude.{ℕ, List, Option}
use Rattle.paraid_base.specs.declared.event.Answer.TheVariants.{Flushed, Halted}
use Rattle.paraid_base.specs.declared.event.Event.TheVariants.{Flush}
use Rattle.paraid_base.specs.declared.fault.Halt.{Halt}
use Rattle.paraid_scrub.specs.Counts.{AreWithinMembers}
use Rattle.paraid_scrub.specs.declared.kind.CheckReport.{CheckReport}
use Rattle.paraid_serve.specs.Causes.{HasCause, Shown}
use Rattle.paraid_serve.specs.Ending.{EndsWithLine, halt_line, status_of_halt}
use Rattle.paraid_commands.specs.Counts.{check_line, check_status}

-- A check is one flush, which is answered with its cause. Its counts were told after it, each of at
-- most the members that there are by the meta, and their status; or the halt that ended it was, and
-- its status.
pub data HasCheckCauses
    (old new : Shown) (written_before written : Option (List ℕ)) (status : ℕ) : Type 0 where
  counted : (report : CheckReport)
      → EndsWithLine written_before written (check_line report) (check_status report) status
      → AreWithinMembers old.meta report → HasCause old Flush (Flushed old.meta.writes) new
      → HasCheckCauses old new written_before written status
  halted : (halt : Halt)
      → EndsWithLine written_before written (halt_line halt) (status_of_halt halt) status
      → HasCause old Flush (Halted halt) new → HasCheckCauses old new written_before written status
