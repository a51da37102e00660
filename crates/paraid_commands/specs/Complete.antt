-- How a command that mounts ends on a rack that held a history: all is done, or one of a few causes
-- is told.
use Rattle.std.specs.Prelude.{◌≡◌, ℕ, List, [], ◌∷◌, ◌++◌, length, Option, Some}
use Rattle.paraid_base.specs.declared.fault.Two.{Two}
use Rattle.paraid_base.specs.History.{History}
use Rattle.paraid_base.specs.Told.{AtEnd, Gives, GrowsByBytes, HasRisen, stream_most}
use Rattle.paraid_serve.specs.Ending.{end_line}
use Rattle.paraid_image.specs.RunStart.{IsRunStart}
use Rattle.paraid_image.specs.Sides.{LogState}
use Rattle.paraid_image.specs.Standing.{Stands}
use Rattle.paraid_rack.specs.declared.call.Call.{Call}
use Rattle.paraid_recover.specs.declared.mount_fault.MountFault.{MountFault}
use Rattle.paraid_recover.specs.Mount.{IsCauseOfRefusal}
use Rattle.paraid_rack.specs.Trail.{Trail, extend, now}
use Rattle.paraid_serve.specs.Stretch.{Turn, TurnsLead, turn_calls}
use Rattle.paraid_serve.specs.Uses.{RackUse, SinkUse, SourceUse}
use Rattle.paraid_serve.specs.Statuses.{status_done, status_no_memory, status_sink, status_source, status_too_long, status_two, status_worn}
use Rattle.paraid_session.specs.Mount.{IsBegun, IsWornOut}
use Rattle.paraid_session.specs.Turn.{IsWorn, LosesSecondDisk, Point}
use Rattle.paraid_session.specs.Watch.{Down, down_after, down_from_out, several}
use Rattle.paraid_commands.specs.MountFaults.{mount_fault_status}
use Rattle.paraid_commands.specs.Ends.{IsEndOver, IsServed, ServiceStart}

-- the disks that are down after these calls: each is so from a failed call on it on
abbrev pub down_after_calls : Down → List Call → Down
down_after_calls down [] = down
down_after_calls down (call ∷ calls) = down_after_calls (down_after down call) calls

-- The rack tells its calls before a command and after it. Before it, it held a history with at most
-- one disk down, and this log disk stood.
pub record HeldHistory (rack : RackUse) : Type 0 where
  pub first : Trail
  pub last : Trail
  pub at_first : rack.before ≡ Some first
  pub at_last : rack.after ≡ Some last
  pub history : History
  pub low : ℕ
  pub down : Option ℕ
  pub side : ℕ
  pub said : LogState
  pub held : IsRunStart rack.slots (now first) history low down
  pub stands : Stands (now first) side said

-- The command mounted, and came to a turn of its session of which this holds. These were all its
-- calls: after that turn it made none.
pub record ComesTo
    {rack : RackUse} (h : HeldHistory rack) (Q : Point → Turn → Point → Type 0) : Type 0 where
  pub base : ℕ → ℕ
  pub mount : List Call
  pub begun : Point
  pub begins : IsBegun rack.slots (now h.first) h.said h.history h.low h.down base mount begun
  pub turns : List Turn
  pub from : Point
  pub went : TurnsLead rack.slots h.said.meta.setup begun turns from
  pub turn : Turn
  pub to : Point
  pub here : Q from turn to
  pub calls : h.last ≡ extend h.first (mount ++ (turn_calls turns ++ turn.calls))

-- What hinders a command that mounts, with the status that it has then.
pub data Hinders
    {rack : RackUse} (h : HeldHistory rack) (sink : SinkUse) (status : ℕ) : Type 0 where
  -- the sink has failed
  sink_failed : status ≡ status_sink
      → HasRisen sink.faults_before sink.faults → Hinders h sink status
  -- a second disk failed in the mount while one was down, and the mount was refused for this cause;
  -- the calls are its own
  two_in_mount : (fault : MountFault) → status ≡ mount_fault_status fault
      → IsCauseOfRefusal rack.slots rack.old rack.new rack.before rack.after fault
      → (calls : List Call) → h.last ≡ extend h.first calls
      → down_after_calls (down_from_out h.down) calls ≡ several → Hinders h sink status
  -- 2^62 commits or writes had been made before the command
  worn_before : status ≡ status_worn → (calls : List Call) → h.last ≡ extend h.first calls
      → (many : ℕ) → IsWornOut (now h.first) calls many → Hinders h sink status
  -- a second disk failed in the session while one was down
  two : status ≡ status_two → (pair : Two)
      → ComesTo h (λ p t q. LosesSecondDisk rack.slots h.said.meta.setup p t.event pair t.calls q)
      → Hinders h sink status
  -- the session came to 2^62 commits or writes
  worn : status ≡ status_worn
      → (many : ℕ) → ComesTo h (λ p t q. IsWorn p t.event many) → Hinders h sink status
  -- A second disk failed in the mount while one was down, and the array was served all the same. As
  -- in the headline nothing is said of the session then; it ended as it may over every rack.
  double : (mount rest : List Call) → h.last ≡ extend h.first (mount ++ rest)
      → down_after_calls (down_from_out h.down) mount ≡ several → (service : ServiceStart)
      → service.told ≡ Some (extend h.first mount) → IsServed rack service
      → IsEndOver service.array.meta.setup rack sink status → Hinders h sink status

-- what hinders a run: as the others, or by its source
pub data HindersRun {rack : RackUse}
    (h : HeldHistory rack) (source : SourceUse) (sink : SinkUse) (status : ℕ) : Type 0 where
  -- the source has failed
  source_failed : status ≡ status_source
      → HasRisen source.faults_before source.faults → HindersRun h source sink status
  -- 2^40 bytes were taken
  too_long : status ≡ status_too_long
      → (bytes : List ℕ) → Gives source.left_before source.left bytes
      → length bytes ≡ stream_most → HindersRun h source sink status
  other : Hinders h sink status → HindersRun h source sink status

-- How a command comes out: all was done; or there was no memory; or something hindered it, and the
-- cause says with which status.
pub data Completes (Whole Unstarted Hindered : Type 0) (status : ℕ) : Type 0 where
  whole : status ≡ status_done → Whole → Completes Whole Unstarted Hindered status
  no_memory : status ≡ status_no_memory → Unstarted → Completes Whole Unstarted Hindered status
  hindered : Hindered → Completes Whole Unstarted Hindered status

-- what was written ends with this line
pub record TellsLast (sink : SinkUse) (line : List ℕ) : Type 0 where
  pub text : List ℕ
  pub grows : GrowsByBytes sink.written_before sink.written (text ++ line)

-- a run is whole: the source gave its end, and the line of the last flush was written
abbrev pub IsRunWhole : SourceUse → SinkUse → Type 0
IsRunWhole source sink = AtEnd source.left × (writes : ℕ) × TellsLast sink (end_line writes)
