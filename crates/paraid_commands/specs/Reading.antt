-- What was taken of a source for a configuration.
use Rattle.std.specs.Prelude.{ℕ, ◌+◌, ◌<◌, ◌≤◌, List, length, Option}
use Rattle.paraid_base.specs.Told.{AtEnd, Gives, HasRisen}
use Rattle.paraid_config.specs.Config.{IsConfigurationOf, IsConfigRefusal}
use Rattle.paraid_config.specs.declared.fault.ConfigFault.{ConfigFault}
use Rattle.paraid_config.specs.declared.fault.ConfigFault.TheVariants.{Long, NoMemory}
use Rattle.paraid_record.specs.declared.meta.Setup.{Setup}
use Rattle.paraid_serve.specs.Uses.{SourceUse}
use Rattle.paraid_commands.specs.declared.refusal.Refusal.{Refusal}
use Rattle.paraid_commands.specs.declared.refusal.Refusal.TheVariants.{Source, Config, Format}

-- The source gave these bytes and its end, and they are the configuration of this setup.
pub record IsConfigured (source : SourceUse) (setup : Setup) : Type 0 where
  pub bytes : List ℕ
  pub given : Gives source.left_before source.left bytes
  pub end : AtEnd source.left
  pub says : IsConfigurationOf bytes setup

-- the most bytes that a configuration may have
abbrev pub most_config : ℕ
most_config = 65536

-- the most bytes of a source that are asked for at a time
abbrev pub most_asked : ℕ
most_asked = 4096

-- Why these bytes are no configuration: they are more than one may have, by no more than the piece
-- that showed it; or memory was wanted, and they are no more than it may have; or they are all that
-- the source had, and they are refused.
abbrev pub IsMisread : List ℕ → Option (List ℕ) → ConfigFault → Type 0
IsMisread bytes after Long =
    (most_config < length bytes) × (length bytes ≤ most_config + most_asked)
IsMisread bytes after NoMemory = length bytes ≤ most_config
IsMisread bytes after fault = AtEnd after × IsConfigRefusal bytes fault

-- Why no setup was read from these bytes. After more than a configuration may have, the source is
-- not asked again, and so it cannot fail.
abbrev pub IsReadCause : List ℕ → SourceUse → Refusal → Type 0
IsReadCause bytes source Source =
    HasRisen source.faults_before source.faults × (length bytes ≤ most_config)
IsReadCause bytes source (Config fault) = IsMisread bytes source.left fault
IsReadCause bytes source (Format fault) = ⊥

-- The source gave these bytes, and no setup was read.
pub record IsUnread (source : SourceUse) (refusal : Refusal) : Type 0 where
  pub bytes : List ℕ
  pub given : Gives source.left_before source.left bytes
  pub cause : IsReadCause bytes source refusal
