-- From why no array was made to what the command ends with.
use Rattle.std.proofs.Common.{◌≡◌, ◌≢◌, ℕ, Bool, List, arith, inl, inr, refl}
use Rattle.paraid_config.specs.declared.fault.ConfigFault.TheVariants.{Long, NotToml, Unknown, Missing, Kind, Range, Geometry, NoMemory}
use Rattle.paraid_recover.specs.declared.format_fault.FormatFault.TheVariants.{AlreadyFormatted, Disk}
use Rattle.paraid_serve.specs.Uses.{RackUse, SourceUse}
use Rattle.paraid_commands.specs.Lines.{refusal_line, refusal_status}
use Rattle.paraid_commands.specs.Outcome.{FormatOutcome, IsFormatStatus, IsRefusalCause}
use Rattle.paraid_commands.specs.Outcome.FormatOutcome.{source_failed, no_memory, config, already, disk}
use Rattle.paraid_commands.specs.declared.refusal.Refusal.{Refusal}
use Rattle.paraid_commands.specs.declared.refusal.Refusal.TheVariants.{Source, Config, Format}

module _ (force : Bool) (rack : RackUse) (given : SourceUse) where
  abbrev Came : ℕ → List ℕ → Type 0
  Came code line = FormatOutcome force rack given code line

  pub refused : (refusal : Refusal) → IsRefusalCause force rack given refusal → Came (refusal_status refusal) (refusal_line refusal)
  refused Source is = source_failed is.0 is.1
  refused (Config NoMemory) is = no_memory is.0 is.1
  refused (Config Long) is = config Long (λ e. cc) is.0 is.1
  refused (Config NotToml) is = config NotToml (λ e. cc) is.0 is.1
  refused (Config (Unknown at)) is = config (Unknown at) (λ e. cc) is.0 is.1
  refused (Config (Missing key)) is = config (Missing key) (λ e. cc) is.0 is.1
  refused (Config (Kind key)) is = config (Kind key) (λ e. cc) is.0 is.1
  refused (Config (Range key value)) is = config (Range key value) (λ e. cc) is.0 is.1
  refused (Config (Geometry fault)) is = config (Geometry fault) (λ e. cc) is.0 is.1
  refused (Format (AlreadyFormatted epoch)) is = already is.0 epoch is.1 is.2
  refused (Format (Disk d)) is = disk is.0 d is.1 is.2

-- what the status of a refusal is
pub record IsStatusOf (refusal : Refusal) (status : ℕ) : Type 0 where
  pub known : IsFormatStatus status
  pub not_done : status ≢ 0
  pub not_sink : status ≢ 4
  pub source : status ≡ 3 → refusal ≡ Source

of_config : (refusal : Refusal) → IsStatusOf refusal 8
of_config refusal = record { known = inr (inr (inr (inr (inl refl)))); not_done = λ e. omega arith; not_sink = λ e. omega arith; source = λ e. absurd (omega arith) }

pub status_is : (refusal : Refusal) → IsStatusOf refusal (refusal_status refusal)
status_is Source = record { known = inr (inl refl); not_done = λ e. omega arith; not_sink = λ e. omega arith; source = λ e. refl }
status_is (Config NoMemory) = record { known = inr (inr (inr (inl refl))); not_done = λ e. omega arith; not_sink = λ e. omega arith; source = λ e. absurd (omega arith) }
status_is (Config Long) = of_config (Config Long)
status_is (Config NotToml) = of_config (Config NotToml)
status_is (Config (Unknown at)) = of_config (Config (Unknown at))
status_is (Config (Missing key)) = of_config (Config (Missing key))
status_is (Config (Kind key)) = of_config (Config (Kind key))
status_is (Config (Range key value)) = of_config (Config (Range key value))
status_is (Config (Geometry fault)) = of_config (Config (Geometry fault))
status_is (Format (AlreadyFormatted epoch)) = record { known = inr (inr (inr (inr (inr (inl refl))))); not_done = λ e. omega arith; not_sink = λ e. omega arith; source = λ e. absurd (omega arith) }
status_is (Format (Disk d)) = record { known = inr (inr (inr (inr (inr (inr refl))))); not_done = λ e. omega arith; not_sink = λ e. omega arith; source = λ e. absurd (omega arith) }
