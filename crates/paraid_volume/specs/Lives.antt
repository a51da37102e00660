-- Volume step, and what a stop leaves of a list of calls
use Rattle.std.specs.Prelude.{◌≡◌, ℕ, ◌<◌, ◌≤◌, ◌⊎◌, ◌++◌, ◌∷◌, [], List, length, take, All}
use Rattle.paraid_base.specs.declared.block.Block.{Block}
use Rattle.paraid_base.specs.History.{History, after, after_all}
use Rattle.paraid_volume.specs.declared.fault.VolFault.{VolFault}
use Rattle.paraid_volume.specs.declared.fault.VolFault.TheVariants.{NoVolume, NoBlock, Exists, NoExtents, Names, Space}
use Rattle.paraid_volume.specs.Names.{IsField}
use Rattle.paraid_volume.specs.States.{ShowsVolumes, VolumeState, no_volumes, with_volume, without_volume, with_block}
use Rattle.paraid_volume.specs.Tables.{extent_size}

-- what a client of volumes asks
pub data VolCall : Type 0 where
  create : (text : ℕ → ℕ) (extents : ℕ) → VolCall
  delete : (id : ℕ) → VolCall
  read : (id v : ℕ) → VolCall
  write : (id v : ℕ) (bytes : Block) → VolCall
  flush : VolCall

-- how that is answered
pub data VolAnswer : Type 0 where
  made : (id : ℕ) → VolAnswer
  removed : VolAnswer
  value : (bytes : Block) → VolAnswer
  wrote : VolAnswer
  flushed : (number : ℕ) → VolAnswer
  refused : (fault : VolFault) → VolAnswer

-- calls with their answers, the first call first
abbrev pub VolLog : Type 0
VolLog = List (VolCall × VolAnswer)

-- an id with a name
pub record IsNamedId (s : VolumeState) (id : ℕ) : Type 0 where
  pub low : 1 ≤ id
  pub high : id ≤ 31
  pub named : 0 < s.name id 0

-- the least id without a name
pub record IsLeastUnnamed (s : VolumeState) (id : ℕ) : Type 0 where
  pub low : 1 ≤ id
  pub high : id ≤ 31
  pub free : IsNamedId s id → ⊥
  pub least : (i : ℕ) → 1 ≤ i → i < id → IsNamedId s i

-- volume `id` has this name
abbrev pub HasName : VolumeState → ℕ → (ℕ → ℕ) → Type 0
HasName s id text = IsNamedId s id × ((k : ℕ) → k < 16 → text k ≡ s.name id k)

-- no volume has this name
abbrev pub IsUnused : VolumeState → (ℕ → ℕ) → Type 0
IsUnused s text = (i : ℕ) → HasName s i text → ⊥

-- 16 bytes that spell a name: letters and digits, and then zeros
pub record IsNameText (text : ℕ → ℕ) : Type 0 where
  pub field : IsField text
  pub some : 0 < text 0

-- there is such a block of this volume
abbrev pub IsBlockOf : VolumeState → ℕ → ℕ → Type 0
IsBlockOf s id v = IsNamedId s id × (v < s.size id)

-- When a call is refused. Where names differ, no two of these hold of one call.
pub data IsCallRefused (s : VolumeState) : VolCall → VolFault → Type 0 where
  unnamed_delete : (id : ℕ) → (IsNamedId s id → ⊥) → IsCallRefused s (delete id) (NoVolume id)
  unnamed_read : (id v : ℕ) → (IsNamedId s id → ⊥) → IsCallRefused s (read id v) (NoVolume id)
  unnamed_write : (id v : ℕ) (bytes : Block)
      → (IsNamedId s id → ⊥) → IsCallRefused s (write id v bytes) (NoVolume id)
  past_read : (id v : ℕ) → IsNamedId s id → s.size id ≤ v → IsCallRefused s (read id v) (NoBlock v)
  past_write : (id v : ℕ) (bytes : Block)
      → IsNamedId s id → s.size id ≤ v → IsCallRefused s (write id v bytes) (NoBlock v)
  exists : (text : ℕ → ℕ) (extents id : ℕ)
      → HasName s id text → IsCallRefused s (create text extents) (Exists id)
  no_extents : (text : ℕ → ℕ) → IsUnused s text → IsCallRefused s (create text 0) NoExtents
  all_named : (text : ℕ → ℕ) (extents : ℕ) → IsUnused s text → 0 < extents
      → ((id : ℕ) → 1 ≤ id → id ≤ 31 → IsNamedId s id) → IsCallRefused s (create text extents) Names
  no_space : (text : ℕ → ℕ) (extents id : ℕ) → IsUnused s text → IsLeastUnnamed s id
      → s.free < extents → IsCallRefused s (create text extents) (Space s.free)

-- Volume step: a call with its answer, and the state after it. Which number a flush is answered is
-- for the device to say.
pub data VolumeStep (count : ℕ) (s : VolumeState) : VolCall → VolAnswer → VolumeState → Type 0 where
  creates : (text : ℕ → ℕ) (extents id : ℕ) → IsNameText text
      → IsUnused s text → 0 < extents → IsLeastUnnamed s id → extents ≤ s.free → VolumeStep count s
      (create text extents) (made id) (with_volume (extent_size count) s id text extents)
  deletes : (id : ℕ) → IsNamedId s id
      → VolumeStep count s (delete id) removed (without_volume (extent_size count) s id)
  reads : (id v : ℕ) → IsBlockOf s id v → VolumeStep count s (read id v) (value (s.block id v)) s
  writes : (id v : ℕ) (bytes : Block)
      → IsBlockOf s id v → VolumeStep count s (write id v bytes) wrote (with_block s id v bytes)
  flushes : (number : ℕ) → VolumeStep count s flush (flushed number) s
  refuses : (call : VolCall) (fault : VolFault)
      → IsCallRefused s call fault → VolumeStep count s call (refused fault) s

-- the number of a flush is at most `k`
abbrev pub IsFlushedBy : ℕ → VolCall × VolAnswer → Type 0
IsFlushedBy k pair = (number : ℕ) × (pair.1 ≡ flushed number) × (number ≤ k)

-- The calls of one value. The writes that a call added show the state before it or, all of them,
-- the state after it.
pub data Life (count : ℕ) (start : ℕ) : History → VolumeState → VolLog → Type 0 where
  begun : (h : History) (s : VolumeState)
      → length h ≡ start → ShowsVolumes count (after_all h) s → Life count start h s []
  next : (h more : History) (s t : VolumeState) (log : VolLog) (call : VolCall) (answer : VolAnswer)
      → Life count start h s log → VolumeStep count s call answer t
      → ((k : ℕ) → ShowsVolumes count (after_all (h ++ take k more)) s
      ⊎ ShowsVolumes count (after_all (h ++ take k more)) t)
      → ShowsVolumes count (after_all (h ++ more)) t
      → ((number : ℕ) → answer ≡ flushed number → number ≡ length h)
      → Life count start (h ++ more) t (log ++ (call, answer) ∷ [])

-- After the first `k` writes the device shows the state after a first part of the calls, which
-- holds every flush whose number is at most `k`, and with it each call before one. That part is a
-- life over `past`, and `past` is a first part of the writes.
pub record IsLeftByLife (count start : ℕ) (h : History) (k : ℕ) (log : VolLog) : Type 0 where
  pub done : VolLog
  pub rest : VolLog
  pub parts : log ≡ done ++ rest
  pub past : History
  pub later : History
  pub begins : h ≡ past ++ later
  pub state : VolumeState
  pub lived : Life count start past state done
  pub shows : ShowsVolumes count (after h k) state
  pub flushed_all : All (λ pair. IsFlushedBy k pair → ⊥) rest

-- These calls were answered, and the writes that they made are stood for.
pub record HasLived (holds : History → Type 0) (count start : ℕ) (log : VolLog) : Type 0 where
  pub writes : History
  pub state : VolumeState
  pub stands : holds writes
  pub life : Life count start writes state log

-- One call more was answered, from the state of the life so far.
pub record LivesMore (old new : History → Type 0) (count start : ℕ) (log : VolLog)
    (lived : HasLived old count start log) (call : VolCall) (answer : VolAnswer) : Type 0 where
  pub all : HasLived new count start (log ++ (call, answer) ∷ [])
  pub step : VolumeStep count lived.state call answer all.state

-- A life begins with no volume.
pub record BeginsLife (holds : History → Type 0) (count start : ℕ) : Type 0 where
  pub lived : HasLived holds count start []
  pub none : lived.state ≡ no_volumes count
