-- How the program may end, over every source, sink and rack.
use Rattle.std.specs.Prelude.{ℕ}
use Rattle.paraid_commands.specs.Outcome.{Formats}
use Rattle.paraid_serve.specs.Uses.{RackUse, SinkUse, SourceUse}
use Rattle.paraid_commands.specs.Statuses.{check_statuses, gen_statuses, nbd_statuses, plan_statuses, run_statuses}
use Rattle.paraid_serve.specs.Statuses.{IsOneOf}
use Rattle.paraid_commands.specs.Showing.{Shows}
use Rattle.paraid_commands.specs.Clients.{ServesNbdOrNot}
use Rattle.paraid_commands.specs.Planning.{PlanOutcome}
use Rattle.paraid_sparing.specs.Session.{fresh_stock}
use Rattle.paraid_commands.specs.Spares.{ServesSpares}
use Rattle.paraid_commands.specs.Volumes.{ServesVolumes}
use Rattle.paraid_commands.specs.Ends.{ChecksArray, IsUnheard, MountsAndThen, ServesGenerated, ServesLines}
use Rattle.paraid_words.specs.declared.command.Command.{Command}
use Rattle.paraid_words.specs.declared.command.Command.TheVariants.{Format, Run, Spare, Status, Check, Gen, Nbd, Vol, Plan}

-- What the program does on a command: to the rack, the source and the sink, and with which status.
abbrev pub DoesCommand : RackUse → SourceUse → SinkUse → ℕ → Command → Type 0
DoesCommand rack source sink status (Format force) = Formats force rack source sink status
DoesCommand rack source sink status Run =
    MountsAndThen rack sink status (IsUnheard source) (ServesLines rack source sink status)
    × IsOneOf run_statuses status
DoesCommand rack source sink status (Spare stock wait) =
    MountsAndThen rack sink status (IsUnheard source)
    (ServesSpares rack source sink (record { wait = wait; stock = fresh_stock stock }) status)
    × IsOneOf run_statuses status
DoesCommand rack source sink status Status = Shows rack sink status
DoesCommand rack source sink status Check =
    MountsAndThen rack sink status (Unit {0}) (ChecksArray rack sink status)
    × IsOneOf check_statuses status
DoesCommand rack source sink status (Gen number lines) =
    MountsAndThen rack sink status (Unit {0})
    (ServesGenerated rack (record { number = number; count = lines; sink = sink }) status)
    × IsOneOf gen_statuses status
DoesCommand rack source sink status Nbd =
    ServesNbdOrNot rack source sink status × IsOneOf nbd_statuses status
DoesCommand rack source sink status Vol =
    MountsAndThen rack sink status (IsUnheard source) (ServesVolumes rack source sink status)
    × IsOneOf run_statuses status
DoesCommand rack source sink status (Plan ups) =
    PlanOutcome rack source sink ups status × IsOneOf plan_statuses status
