-- Calls on other volumes, and two runs that a volume cannot tell apart
use Rattle.std.specs.Prelude.{◌≡◌, ◌≢◌, ℕ, ◌==◌, if◌then◌else◌, List, [], ◌∷◌, map}
use Rattle.paraid_volume.specs.Lives.{VolumeStep, VolAnswer, VolCall, VolLog, create, delete, read, write, made}
use Rattle.paraid_volume.specs.States.{VolumeState}

-- volume `id` is the same in two states
pub record IsSameVolume (id : ℕ) (s t : VolumeState) : Type 0 where
  pub name : (k : ℕ) → s.name id k ≡ t.name id k
  pub size : s.size id ≡ t.size id
  pub block : (v : ℕ) → s.block id v ≡ t.block id v

-- the call does not make, remove or write volume `id`
abbrev pub IsElsewhere : ℕ → VolCall → VolAnswer → Type 0
IsElsewhere id (create text extents) (made i) = i ≢ id
IsElsewhere id (delete i) answer = i ≢ id
IsElsewhere id (write i v bytes) answer = i ≢ id
IsElsewhere id call answer = Unit {0}

-- the call does not make or remove volume `id`
abbrev pub LeavesVolume : ℕ → VolCall → VolAnswer → Type 0
LeavesVolume id (create text extents) (made i) = i ≢ id
LeavesVolume id (delete i) answer = i ≢ id
LeavesVolume id call answer = Unit {0}

-- no call of these makes or removes volume `id`
abbrev pub AllLeave : ℕ → VolLog → Type 0
AllLeave id [] = Unit {0}
AllLeave id (pair ∷ log) = LeavesVolume id pair.0 pair.1 × AllLeave id log

-- the calls one after the other, each a step
pub data VolumeRun (count : ℕ) : VolumeState → VolLog → VolumeState → Type 0 where
  ends : (s : VolumeState) → VolumeRun count s [] s
  steps : (s m t : VolumeState) (call : VolCall) (answer : VolAnswer) (log : VolLog)
      → VolumeStep count s call answer m
      → VolumeRun count m log t → VolumeRun count s ((call, answer) ∷ log) t

-- the pair before others, if it is a read or a write of volume `id`
abbrev pub with_own : ℕ → VolCall → VolAnswer → VolLog → VolLog
with_own id (read i v) answer log = if i == id then (read i v, answer) ∷ log else log
with_own id (write i v bytes) answer log = if i == id then (write i v bytes, answer) ∷ log else log
with_own id call answer log = log

-- the reads and writes of volume `id`, with their answers
abbrev pub own_calls : ℕ → VolLog → VolLog
own_calls id [] = []
own_calls id (pair ∷ log) = with_own id pair.0 pair.1 (own_calls id log)

-- the calls without their answers
abbrev pub calls_in_log : VolLog → List VolCall
calls_in_log log = map (λ (pair : VolCall × VolAnswer). pair.0) log
