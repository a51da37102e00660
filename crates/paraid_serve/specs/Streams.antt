-- The source and the sink of a command, as it found them and as it left them.
use Rattle.std.specs.Prelude.{◌≡◌, ◌≢◌, ℕ, List, Option}
use Rattle.paraid_serve.specs.Uses.{SinkUse, SourceUse}
use Rattle.paraid_serve.specs.Statuses.{status_sink, status_source}

-- What a command reads and what it writes.
pub record Streams : Type 0 where
  pub source : SourceUse
  pub sink : SinkUse

-- a source before and after, by what is left of it and how often it has failed
abbrev pub source_use : {S : Type 0} → (S → Option (List ℕ)) → (S → ℕ) → S → S → SourceUse
source_use left faults old new = record {
  left_before = left old;
  left = left new;
  faults_before = faults old;
  faults = faults new;
}

-- a sink before and after, by what is written to it and how often it has failed
abbrev pub sink_use : {K : Type 0} → (K → Option (List ℕ)) → (K → ℕ) → K → K → SinkUse
sink_use written faults old new = record {
  written_before = written old;
  written = written new;
  faults_before = faults old;
  faults = faults new;
}

-- these two together
abbrev pub streams_of : SourceUse → SinkUse → Streams
streams_of source sink = record { source = source; sink = sink }

-- A fault ends the command, and its status names it: where it is not `status_sink`, the sink has
-- counted none; where it is neither that nor `status_source`, the source has counted none either.
pub record EndsAtFaults (given : SourceUse) (kept : SinkUse) (status : ℕ) : Type 0 where
  pub sink : status ≢ status_sink → kept.faults ≡ kept.faults_before
  pub source : status ≢ status_source → status ≢ status_sink → given.faults ≡ given.faults_before
