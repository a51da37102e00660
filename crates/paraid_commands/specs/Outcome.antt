-- How a format comes out, by its status.
use Rattle.std.specs.Prelude.{◌≡◌, ◌≢◌, ℕ, ◌<◌, ◌≤◌, ◌++◌, Bool, false, List, [], Some, None, codes, decimal, ◌∷◌}
use Rattle.paraid_base.specs.Regions.{disk_size}
use Rattle.paraid_config.specs.declared.fault.ConfigFault.{ConfigFault}
use Rattle.paraid_config.specs.declared.fault.ConfigFault.TheVariants.{NoMemory}
use Rattle.paraid_serve.specs.Ending.{EndsWithLine}
use Rattle.paraid_serve.specs.Uses.{RackUse, SinkUse, SourceUse}
use Rattle.paraid_serve.specs.Statuses.{IsOneOf, status_already_formatted, status_config, status_disk, status_done, status_no_memory, status_sink, status_source}
use Rattle.paraid_recover.specs.Attached.{fresh_slot}
use Rattle.paraid_recover.specs.Calls.{AreFormatCalls}
use Rattle.paraid_recover.specs.First.{first_meta}
use Rattle.paraid_recover.specs.Found.{IsUnclaimed}
use Rattle.paraid_recover.specs.Between.{RanBetween}
use Rattle.paraid_recover.specs.FormatRefusals.{IsFormatRefusal}
use Rattle.paraid_recover.specs.declared.format_fault.FormatFault.{FormatFault}
use Rattle.paraid_recover.specs.declared.format_fault.FormatFault.TheVariants.{AlreadyFormatted, Disk}
use Rattle.paraid_image.specs.RunStart.{IsRunStart}
use Rattle.paraid_image.specs.Formatted.{IsFormatted}
use Rattle.paraid_rack.specs.Disks.{Disks, IsImage}
use Rattle.paraid_rack.specs.Told.{Ran}
use Rattle.paraid_rack.specs.Trail.{Trail, now}
use Rattle.paraid_record.specs.declared.meta.Setup.{Setup}
use Rattle.paraid_commands.specs.Lines.{config_line, formatted_line}
use Rattle.paraid_commands.specs.Reading.{IsConfigured, IsUnread}
use Rattle.paraid_commands.specs.declared.refusal.Refusal.{Refusal}
use Rattle.paraid_commands.specs.declared.refusal.Refusal.TheVariants.{Source, Config, Format}

-- no call was made on the rack
pub record IsUntouched (rack : RackUse) : Type 0 where
  pub slots : (d : ℕ) → rack.new d ≡ rack.old d
  pub calls : rack.after ≡ rack.before

-- The disks are those of an array that holds no write, and a run can begin there.
pub record IsEmptyArray (slots : ℕ) (setup : Setup) (s : Disks) : Type 0 where
  pub formatted : IsFormatted slots s (first_meta setup)
  pub entry : IsRunStart slots s [] 0 None

-- The disks are now those of an array that holds no write: what each stop leaves is so, and a run
-- can begin there, whatever is loose in slots past the array's disks; and where nothing was loose
-- there, the disks are so as they are.
pub record BecomesEmpty (slots : ℕ) (setup : Setup) (start s : Disks) : Type 0 where
  pub stops : (i : Disks) → IsImage s i → IsEmptyArray slots setup i
  pub whole : ((d p : ℕ) → setup.geometry.disks ≤ d → start.loose d p ≡ false)
      → IsEmptyArray slots setup s

-- a new array was made of the first slots
pub record IsArrayMade (force : Bool) (rack : RackUse) (setup : Setup) : Type 0 where
  pub enough : setup.geometry.disks ≤ rack.slots
  -- each of its disks is a fresh one of exactly the size that it needs, and no other slot was
  -- touched
  pub fresh : (d : ℕ)
      → d < setup.geometry.disks → rack.new d ≡ fresh_slot (disk_size setup.geometry) (rack.old d)
  pub others : (d : ℕ) → setup.geometry.disks ≤ d → rack.new d ≡ rack.old d
  -- without force no log disk said that it belonged to an array
  pub free : force ≡ false → RanBetween rack.before rack.after (λ start s. IsUnclaimed start)
  pub calls : Ran rack.before rack.after (λ start calls.
      AreFormatCalls force setup.geometry.disks (disk_size setup.geometry) start calls)
  pub synced : (t : Trail)
      → rack.after ≡ Some t → (d p : ℕ) → d < setup.geometry.disks → (now t).loose d p ≡ false
  pub empty : RanBetween rack.before rack.after (BecomesEmpty rack.slots setup)

-- no array was made, though the setup is known
pub record IsArrayUnmade
    (force : Bool) (rack : RackUse) (setup : Setup) (fault : FormatFault) : Type 0 where
  pub cause : IsFormatRefusal
      force setup.geometry.disks rack.slots rack.old rack.new rack.before rack.after fault
  pub others : (d : ℕ) → setup.geometry.disks ≤ d → rack.new d ≡ rack.old d
  pub calls : Ran rack.before rack.after (λ start calls.
      AreFormatCalls force setup.geometry.disks (disk_size setup.geometry) start calls)

-- How a format came out that met no fault of the sink: its status, and the line that tells it.
pub data FormatOutcome (force : Bool) (rack : RackUse) (source : SourceUse) : ℕ
    → List ℕ → Type 0 where
  -- the source gave its end, and the array that it describes was made
  done : (setup : Setup) → IsConfigured source setup → IsArrayMade force rack setup
      → FormatOutcome force rack source status_done (formatted_line setup)
  source_failed : IsUnread source Source → IsUntouched rack
      → FormatOutcome force rack source status_source (codes "source\n")
  no_memory : IsUnread source (Config NoMemory) → IsUntouched rack
      → FormatOutcome force rack source status_no_memory (codes "nomemory\n")
  config : (fault : ConfigFault) → fault ≢ NoMemory → IsUnread source (Config fault)
      → IsUntouched rack → FormatOutcome force rack source status_config (config_line fault)
  -- a log disk belongs to an array, and only heads of logs were read
  already : (setup : Setup) (epoch : ℕ)
      → IsConfigured source setup → IsArrayUnmade force rack setup (AlreadyFormatted epoch)
      → FormatOutcome force rack source status_already_formatted
      (codes "already " ++ decimal epoch ++ codes "\n")
  -- a log disk has failed in the test, or a disk of the array in its making; or it is the number of
  -- slots, the array needs more, and at most heads of logs were read
  disk : (setup : Setup) (d : ℕ)
      → IsConfigured source setup → IsArrayUnmade force rack setup (Disk d)
      → FormatOutcome force rack source status_disk (codes "disk " ++ decimal d ++ codes "\n")

-- A format came out so, and its line was told; at `status_sink` only a first part of it was.
pub record Formats (force : Bool)
    (rack : RackUse) (source : SourceUse) (sink : SinkUse) (status : ℕ) : Type 0 where
  pub code : ℕ
  pub line : List ℕ
  pub outcome : FormatOutcome force rack source code line
  pub ends : EndsWithLine sink.written_before sink.written line code status

-- why no array was made
abbrev pub IsRefusalCause : Bool → RackUse → SourceUse → Refusal → Type 0
IsRefusalCause force rack source Source = IsUnread source Source × IsUntouched rack
IsRefusalCause force rack source (Config fault) =
    IsUnread source (Config fault) × IsUntouched rack
IsRefusalCause force rack source (Format fault) =
    (setup : Setup) × IsConfigured source setup × IsArrayUnmade force rack setup fault

-- the statuses of a format
abbrev pub IsFormatStatus : ℕ → Type 0
IsFormatStatus status = IsOneOf (status_done ∷ status_source ∷ status_sink
    ∷ status_no_memory ∷ status_config ∷ status_already_formatted ∷ status_disk ∷ []) status
