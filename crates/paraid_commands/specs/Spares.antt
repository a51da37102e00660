-- How a run with spares serves a mounted array.
use Rattle.std.specs.Prelude.{◌≡◌, ℕ}
use Rattle.paraid_serve.specs.Causes.{Shown}
use Rattle.paraid_serve.specs.Streams.{streams_of}
use Rattle.paraid_serve.specs.Uses.{RackUse, SinkUse, SourceUse}
use Rattle.paraid_sparing.specs.Output.{SparedHeadline}
use Rattle.paraid_sparing.specs.Sparing.{Supply}
use Rattle.paraid_commands.specs.Ends.{IsEndOver, ServiceStart, served_span, shown_served}

-- Its headline, by what was seen of the array from its mount to the end, when its slots were those
-- that are handed back; and what is known of its end over every rack.
pub record ServesSpares (rack : RackUse) (source : SourceUse)
    (sink : SinkUse) (supply : Supply) (status : ℕ) (service : ServiceStart) : Type 0 where
  pub seen : Shown
  pub headline : SparedHeadline (shown_served service.array) seen
      (served_span rack service) supply service.began (streams_of source sink) status
  pub last : seen.slot ≡ rack.new
  pub end : IsEndOver service.array.meta.setup rack sink status
