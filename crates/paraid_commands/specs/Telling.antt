-- What `status` writes.
use Rattle.std.specs.Prelude.{ℕ, List, ◌++◌, length}
use Rattle.paraid_base.specs.declared.event.Answer.TheVariants.{State as IsState}
use Rattle.paraid_record.specs.declared.meta.Setup.{Setup}
use Rattle.paraid_machine.specs.Machine.{state_status}
use Rattle.paraid_trace.specs.Replies.{reply_of}
use Rattle.paraid_serve.specs.Output.{begins_with}
use Rattle.paraid_session.specs.Turn.{Point}

-- the state line of a point of a session
abbrev pub state_line : Setup → Point → List ℕ
state_line setup p =
    reply_of (IsState (state_status setup (length p.history) p.state) setup.geometry.disks)

-- the two lines of `status`
abbrev pub state_lines : Setup → Point → List ℕ
state_lines setup p = begins_with p ++ state_line setup p
