-- How each command comes out: all is done, or one of a few causes is told.
use Rattle.std.specs.Prelude.{◌≡◌, ◌≢◌, ℕ, ◌⊎◌, Bool, false, List}
use Rattle.paraid_base.specs.Told.{AtEnd, HasRisen}
use Rattle.paraid_config.specs.declared.fault.ConfigFault.{ConfigFault}
use Rattle.paraid_config.specs.declared.fault.ConfigFault.TheVariants.{NoMemory}
use Rattle.paraid_planning.specs.Planned.{plan_lines}
use Rattle.paraid_record.specs.declared.meta.Meta.{Meta}
use Rattle.paraid_recover.specs.Calls.{AreHeadReads}
use Rattle.paraid_recover.specs.FormatRefusals.{IsDiskRefused}
use Rattle.paraid_recover.specs.Found.{IsGreatest}
use Rattle.paraid_commands.specs.Counts.{check_line}
use Rattle.paraid_commands.specs.Lines.{formatted_line}
use Rattle.paraid_commands.specs.Outcome.{IsArrayMade, IsUntouched}
use Rattle.paraid_commands.specs.Reading.{IsConfigured, IsUnread}
use Rattle.paraid_commands.specs.declared.refusal.Refusal.TheVariants.{Config, Source}
use Rattle.paraid_rack.specs.Told.{Ran}
use Rattle.paraid_scrub.specs.Counts.{no_faults}
use Rattle.paraid_serve.specs.Ending.{end_line}
use Rattle.paraid_serve.specs.Uses.{RackUse, SinkUse, SourceUse}
use Rattle.paraid_serve.specs.Statuses.{status_already_formatted, status_config, status_disk, status_sink, status_source}
use Rattle.paraid_record.specs.declared.meta.Setup.{Setup}
use Rattle.paraid_recover.specs.Mount.{IsUnstarted}
use Rattle.paraid_commands.specs.Clients.{HindersNbd, IsNbdWhole}
use Rattle.paraid_commands.specs.Complete.{Completes, HeldHistory, Hinders, HindersRun, IsRunWhole, TellsLast}
use Rattle.paraid_commands.specs.PlanComes.{HindersPlan}
use Rattle.paraid_commands.specs.Showing.{IsServedBy}
use Rattle.paraid_commands.specs.States.{status_lines}
use Rattle.paraid_words.specs.declared.command.Command.{Command}
use Rattle.paraid_words.specs.declared.command.Command.TheVariants.{Format, Run, Spare, Status, Check, Gen, Nbd, Vol, Plan}

-- The array that the source describes was made, and its line was told.
pub record IsFormatWhole
    (force : Bool) (rack : RackUse) (source : SourceUse) (sink : SinkUse) : Type 0 where
  pub setup : Setup
  pub configured : IsConfigured source setup
  pub made : IsArrayMade force rack setup
  pub told : TellsLast sink (formatted_line setup)

-- What hinders a format, with the status that it has then.
pub data HindersFormat (force : Bool)
    (rack : RackUse) (source : SourceUse) (sink : SinkUse) (status : ℕ) : Type 0 where
  -- the source has failed
  source_failed : status ≡ status_source → IsUnread source Source
      → HindersFormat force rack source sink status
  -- the sink has failed
  sink_failed : status ≡ status_sink
      → HasRisen sink.faults_before sink.faults → HindersFormat force rack source sink status
  -- what the source gave is no configuration, for this cause
  config : status ≡ status_config → (fault : ConfigFault) → fault ≢ NoMemory
      → IsUnread source (Config fault) → HindersFormat force rack source sink status
  -- it was not forced, and a log disk belonged to an array
  claimed : status ≡ status_already_formatted → force ≡ false → (epoch : ℕ)
      → Ran rack.before rack.after (λ start calls. AreHeadReads calls × IsGreatest start epoch)
      → HindersFormat force rack source sink status
  -- A log disk has failed in the test, or a disk of the array in its making; or the rack has fewer
  -- slots than the array has disks.
  disk : status ≡ status_disk → (setup : Setup) (d : ℕ) → IsConfigured source setup
      → IsDiskRefused force setup.geometry.disks rack.slots rack.old rack.new rack.before rack.after
      d → HindersFormat force rack source sink status

-- How a command comes out. A format does so whatever the rack held, and the others where it told
-- its calls and held a history.
abbrev pub CompletesCommand : RackUse → SourceUse → SinkUse → ℕ → Command → Type 0
CompletesCommand rack source sink status (Format force) =
    Completes (IsFormatWhole force rack source sink)
    (IsUntouched rack) (HindersFormat force rack source sink status) status
CompletesCommand rack source sink status Run =
    (h : HeldHistory rack) → Completes (IsRunWhole source sink)
    (IsUnstarted rack.old rack.new rack.before rack.after) (HindersRun h source sink status) status
CompletesCommand rack source sink status (Spare stock wait) =
    (h : HeldHistory rack) → Completes (IsRunWhole source sink)
    (IsUnstarted rack.old rack.new rack.before rack.after) (HindersRun h source sink status) status
CompletesCommand rack source sink status Status =
    (h : HeldHistory rack)
    → Completes ((meta : Meta) × (dirty : ℕ → ℕ → Bool) × TellsLast sink (status_lines meta dirty))
    (IsUnstarted rack.old rack.new rack.before rack.after) (Hinders h sink status) status
CompletesCommand rack source sink status Check =
    (h : HeldHistory rack) → Completes (TellsLast sink (check_line no_faults))
    (IsUnstarted rack.old rack.new rack.before rack.after) (Hinders h sink status) status
CompletesCommand rack source sink status (Gen number lines) =
    (h : HeldHistory rack) → Completes ((writes : ℕ) × TellsLast sink (end_line writes))
    (IsUnstarted rack.old rack.new rack.before rack.after) (Hinders h sink status) status
CompletesCommand rack source sink status Nbd =
    (h : HeldHistory rack) → Completes (IsNbdWhole h source sink)
    (IsUnstarted rack.old rack.new rack.before rack.after) (HindersNbd h source sink status) status
CompletesCommand rack source sink status Vol =
    (h : HeldHistory rack) → Completes (IsRunWhole source sink)
    (IsUnstarted rack.old rack.new rack.before rack.after) (HindersRun h source sink status) status
CompletesCommand rack source sink status (Plan ups) =
    (h : HeldHistory rack) → Completes (AtEnd source.left
    × (cost : ℕ) × (gears : List ℕ) × TellsLast sink (plan_lines cost gears))
    (IsUnstarted rack.old rack.new rack.before rack.after ⊎ ((meta : Meta) × (dirty : ℕ → ℕ → Bool)
    × IsServedBy rack meta dirty)) (HindersPlan h source sink status) status
