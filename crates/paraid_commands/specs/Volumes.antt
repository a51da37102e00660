-- How lines about volumes are served with a mounted array.
use Rattle.std.specs.Prelude.{◌≡◌, ℕ}
use Rattle.paraid_serve.specs.Causes.{Shown}
use Rattle.paraid_serve.specs.Streams.{streams_of}
use Rattle.paraid_serve.specs.Uses.{RackUse, SinkUse, SourceUse}
use Rattle.paraid_service.specs.VolumeSessions.{VolumesHeadline}
use Rattle.paraid_commands.specs.Ends.{IsEndOver, ServiceStart, served_span, shown_served}

-- The headline of the volumes, by what was seen of the array from its mount to the end, when its
-- slots were those that are handed back: what each line is answered and why, and that this is a
-- session, so that each stop leaves what was flushed; and what is known of its end over every rack.
pub record ServesVolumes (rack : RackUse)
    (source : SourceUse) (sink : SinkUse) (status : ℕ) (service : ServiceStart) : Type 0 where
  pub seen : Shown
  pub headline : VolumesHeadline (shown_served service.array) seen
      (served_span rack service) service.began (streams_of source sink) status
  pub last : seen.slot ≡ rack.new
  pub end : IsEndOver service.array.meta.setup rack sink status
