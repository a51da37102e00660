-- From what a format has done to how it comes out.
use Rattle.std.proofs.Common.{◌≡◌, ℕ, ◌⊎◌, Bool, List, length, inl, inr}
use Rattle.paraid_base.specs.Told.{HasRisen}
use Rattle.paraid_serve.specs.Ending.{EndsWithLine}
use Rattle.paraid_commands.specs.Outcome.{FormatOutcome, Formats}
use Rattle.paraid_commands.specs.Outcome.FormatOutcome.{already as for_claim, config as for_config, disk as for_disk, done as made, no_memory as for_memory, source_failed as for_source}
use Rattle.paraid_serve.specs.Uses.{RackUse, SinkUse, SourceUse}
use Rattle.paraid_commands.specs.Complete.Completes.{hindered, no_memory, whole}
use Rattle.paraid_commands.proofs.CompleteLemmas.{told_whole}
use Rattle.paraid_program.specs.CommandCompletes.{CompletesCommand}
use Rattle.paraid_program.specs.CommandCompletes.HindersFormat.{claimed, config, disk, sink_failed, source_failed}
use Rattle.paraid_words.specs.declared.command.Command.TheVariants.{Format}

module _ (rack : RackUse) (given : SourceUse) (kept : SinkUse) (status : ℕ) (sunk : status ≡ 4 → HasRisen kept.faults_before kept.faults) where
  abbrev FormatComes : Bool → Type 0
  FormatComes force = CompletesCommand rack given kept status (Format force)

  format_by : (force : Bool) (code : ℕ) (line : List ℕ) → FormatOutcome force rack given code line → (e : EndsWithLine kept.written_before kept.written line code status)
      → (status ≡ 4) ⊎ ((e.count ≡ length line) × (status ≡ code)) → FormatComes force
  format_by force code line outcome e (inl four) = hindered (sink_failed four (sunk four))
  format_by force code line (made setup configured is) e (inr all) = whole all.1 (record { setup = setup; configured = configured; made = is; told = told_whole kept _ _ status e all.0 })
  format_by force code line (for_source unread untouched) e (inr all) = hindered (source_failed all.1 unread)
  format_by force code line (for_memory unread untouched) e (inr all) = no_memory all.1 untouched
  format_by force code line (for_config fault other unread untouched) e (inr all) = hindered (config all.1 fault other unread)
  format_by force code line (for_claim setup epoch configured unmade) e (inr all) = hindered (claimed all.1 unmade.cause.0 epoch unmade.cause.2)
  format_by force code line (for_disk setup d configured unmade) e (inr all) = hindered (disk all.1 setup d configured unmade.cause)

  -- A format.
  pub format_comes : (force : Bool) → Formats force rack given kept status → FormatComes force
  format_comes force f = format_by force f.code f.line f.outcome f.ends f.ends.whole
