-- How `plan` ends on a rack that held a history: a plan was told, or there was no memory, or one of
-- a few causes is told.
use Rattle.std.specs.Prelude.{◌≡◌, ℕ, List}
use Rattle.paraid_base.specs.Told.{Gives}
use Rattle.paraid_planning.specs.Demand.{FirstMiss}
use Rattle.paraid_serve.specs.Uses.{RackUse, SinkUse, SourceUse}
use Rattle.paraid_serve.specs.Statuses.{status_demand}
use Rattle.paraid_commands.specs.Complete.{HeldHistory, HindersRun}

-- what hinders a plan: a line that is none of a demand, or what hinders a run
pub data HindersPlan {rack : RackUse}
    (h : HeldHistory rack) (source : SourceUse) (sink : SinkUse) (status : ℕ) : Type 0 where
  demand : status ≡ status_demand → (bytes : List ℕ) → Gives source.left_before source.left bytes
      → (at : ℕ) → FirstMiss bytes source.left at → HindersPlan h source sink status
  other : HindersRun h source sink status → HindersPlan h source sink status
