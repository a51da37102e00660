-- The bytes of a block device by its history, and what a request does with them
use Rattle.std.specs.Prelude.{◌≡◌, ◌≢◌, ℕ, ◌+◌, ◌-◌, ◌*◌, ◌/◌, ◌%◌, ◌<◌, ◌≤◌, ◌⊎◌, ◌==◌, nat_lt, nat_le, ◌&&◌, if◌then◌else◌, List, [], ◌∷◌, ◌++◌, length, take, slice_index, Option, Some, None, IsSome, IsTrue, Bool, map}
use Rattle.std.proofs.Common.{zero, suc}
use Rattle.paraid_base.specs.declared.block.Block.{Block}
use Rattle.paraid_base.specs.declared.event.Answer.TheVariants.{Flushed, Halted as HaltedAnswer}
use Rattle.paraid_base.specs.declared.event.Event.{Event}
use Rattle.paraid_base.specs.declared.event.Event.TheVariants.{Read as ReadEvent, Write as WriteEvent, Flush as FlushEvent, Tick, Up, Down, Fail, Replace, State, Energy, Bad}
use Rattle.paraid_base.specs.declared.fault.Halt.{Halt}
use Rattle.paraid_base.specs.BlockAnswers.{Answers}
use Rattle.paraid_base.specs.History.{Entry, History, after_all}
use Rattle.paraid_base.specs.Pairs.{single_pair}
use Rattle.paraid_nbd.specs.declared.request.Command.TheVariants.{Read, Write, Flush}
use Rattle.paraid_nbd.specs.declared.request.Outcome.TheVariants.{Done, Halted}
use Rattle.paraid_nbd.specs.declared.request.Request.{Request}
use Rattle.paraid_nbd.specs.Requests.{RequestParts, request_in, outcome_of, reply_head}

-- the byte at a place of the device
unfoldable pub byte_at : History → ℕ → ℕ
byte_at h k = slice_index (after_all h (k / 512)).bytes (k % 512)

-- so many bytes from a place on
unfoldable pub bytes_from : History → ℕ → ℕ → List ℕ
bytes_from h place zero = []
bytes_from h place (suc n) = byte_at h place ∷ bytes_from h (place + 1) n

-- all bytes of a device of so many blocks
abbrev pub export_bytes : ℕ → History → List ℕ
export_bytes count h = bytes_from h 0 (512 * count)

-- so many blocks from one on, joined
abbrev pub blocks_joined : History → ℕ → ℕ → List ℕ
blocks_joined h block zero = []
blocks_joined h block (suc n) = (after_all h block).bytes ++ blocks_joined h (block + 1) n

-- the byte at a place when these bytes were written from `offset` on
unfoldable pub byte_after : History → ℕ → List ℕ → ℕ → ℕ
byte_after h offset bytes k = if nat_le offset k && nat_lt k (offset + length bytes)
    then slice_index bytes (k - offset) else byte_at h k

-- so many numbers from the first one on
abbrev pub count_from : ℕ → ℕ → List ℕ
count_from first zero = []
count_from first (suc n) = first ∷ count_from (first + 1) n

-- how many blocks so many bytes from `offset` on touch
abbrev pub block_span : ℕ → ℕ → ℕ
block_span offset count = if count == 0 then 0 else (offset % 512 + count + 511) / 512

-- each of these pairs as a write of its own
abbrev pub each_alone : Entry → History
each_alone [] = []
each_alone (w ∷ ws) = (w ∷ []) ∷ each_alone ws

-- After these writes the device has the bytes from `offset` on, and its other bytes as before. Each
-- block that they touch was written once, in ascending order.
pub record AreBytesWritten
    (h : History) (offset : ℕ) (bytes : List ℕ) (writes : Entry) : Type 0 where
  pub blocks : map (λ w. w.0) writes ≡ count_from (offset / 512) (block_span offset (length bytes))
  pub bytes_are : (k : ℕ) → byte_at (h ++ each_alone writes) k ≡ byte_after h offset bytes k

-- an event before others, unless it is a read
abbrev pub with_change : Event → List Event → List Event
with_change (ReadEvent block) es = es
with_change (WriteEvent pairs) es = WriteEvent pairs ∷ es
with_change FlushEvent es = FlushEvent ∷ es
with_change Tick es = Tick ∷ es
with_change Up es = Up ∷ es
with_change Down es = Down ∷ es
with_change (Fail disk) es = Fail disk ∷ es
with_change (Replace disk) es = Replace disk ∷ es
with_change State es = State ∷ es
with_change Energy es = Energy ∷ es
with_change Bad es = Bad ∷ es

-- the events other than reads
abbrev pub changes : Answers → List Event
changes [] = []
changes (e ∷ es) = with_change e.0 (changes es)

-- a write of one block for each of these pairs
abbrev pub write_events : Entry → List Event
write_events [] = []
write_events (w ∷ ws) = WriteEvent (single_pair w.0 w.1) ∷ write_events ws

-- What a device holds: `Some h`, or None once it has halted. Of a halted device no contents are
-- claimed.
pub record IsDeviceState
    (stands : History → Type 0) (halted : Option Halt) (s : Option History) : Type 0 where
  pub serves : (h : History) → s ≡ Some h → stands h × (halted ≡ None)
  pub halts : s ≡ None → IsSome halted

-- The last call gave a halt; before it these events were kept.
pub record HaltsAtLast (kept : Answers → Type 0) (events done : Answers) : Type 0 where
  pub event : Event
  pub halt : Halt
  pub kept_is : kept (events ++ (done ++ (event, HaltedAnswer halt) ∷ []))

-- What was written before a halt: nothing, or the first bytes of a write, up to the end of a block
-- and not all of them. After an earlier halt the first call gives it again.
abbrev pub WrittenFirst : Option History → ℕ → List ℕ → Answers → Type 0
WrittenFirst None offset bytes done = done ≡ []
WrittenFirst (Some h) offset bytes done =
    (writes : Entry) × (m : ℕ)
    × ((m ≡ 0) ⊎ ((m < length bytes) × ((offset + m) % 512 ≡ 0)))
    × AreBytesWritten h offset (take m bytes) writes × (changes done ≡ write_events writes)

-- P holds of each state that a device may have and each list of the events that were kept until
-- then, if it still tells
abbrev pub ForEachState : (History → Type 0)
    → Option Halt → (Answers → Type 0) → Bool → (Option History → Answers → Type 0) → Type 0
ForEachState stands halted kept tells P = IsTrue tells → (s : Option History) (events : Answers)
    → IsDeviceState stands halted s → kept events → P s events

-- Whatever was kept since any time before, more is kept now.
pub record KeepsOn {D : Type 0} (kept : D → D → Answers → Type 0) (old new : D) : Type 0 where
  pub grows : (first : D) (events : Answers)
      → kept first old events → (more : Answers) × kept first new (events ++ more)

-- A call gave a halt, and before it nothing was written.
pub record HaltsHere (stands : History → Type 0) (halted : Option Halt)
    (kept : Answers → Type 0) (s : Option History) (events : Answers) : Type 0 where
  pub now : IsDeviceState stands halted None
  pub done : Answers
  pub reads : changes done ≡ []
  pub quiet : s ≡ None → done ≡ []
  pub halting : HaltsAtLast kept events done

-- A device that serves was read.
pub record HasRead (stands : History → Type 0) (halted : Option Halt) (kept : Answers → Type 0)
    (s : Option History) (events : Answers) (block : ℕ) (bytes : Block) : Type 0 where
  pub h : History
  pub was : s ≡ Some h
  pub now : IsDeviceState stands halted s
  pub value : bytes ≡ after_all h block
  pub new : Answers
  pub reads : changes new ≡ []
  pub kept_is : kept (events ++ new)

-- The block was read, unless all of it is to be written.
pub record HasRest (stands : History → Type 0) (halted : Option Halt) (kept : Answers → Type 0)
    (s : Option History) (events : Answers) (block size : ℕ) (bytes : Block) : Type 0 where
  pub now : IsDeviceState stands halted s
  pub value : (h : History) → s ≡ Some h → size ≢ 512 → bytes ≡ after_all h block
  pub new : Answers
  pub reads : changes new ≡ []
  pub quiet : s ≡ None → new ≡ []
  pub kept_is : kept (events ++ new)

-- A device that serves wrote this block.
pub record HasBlock (stands : History → Type 0) (halted : Option Halt) (kept : Answers → Type 0)
    (s : Option History) (events : Answers) (number : ℕ) (block : Block) : Type 0 where
  pub h : History
  pub was : s ≡ Some h
  pub now : IsDeviceState stands halted (Some (h ++ ((number, block) ∷ []) ∷ []))
  pub new : Answers
  pub writes : changes new ≡ WriteEvent (single_pair number block) ∷ []
  pub kept_is : kept (events ++ new)

-- These bytes were read from `offset` on. For no bytes no call was made.
pub record HasBytes (stands : History → Type 0) (halted : Option Halt) (kept : Answers → Type 0)
    (s : Option History) (events : Answers) (offset : ℕ) (bytes : List ℕ) : Type 0 where
  pub now : IsDeviceState stands halted s
  pub value : (h : History) → s ≡ Some h → bytes ≡ bytes_from h offset (length bytes)
  pub serves : s ≡ None → length bytes ≡ 0
  pub new : Answers
  pub reads : changes new ≡ []
  pub quiet : length bytes ≡ 0 → new ≡ []
  pub kept_is : kept (events ++ new)

-- A call gave a halt, after a first part of these bytes was written from `offset` on.
pub record Stops (stands : History → Type 0) (halted : Option Halt) (kept : Answers → Type 0)
    (s : Option History) (events : Answers) (offset : ℕ) (bytes : List ℕ) : Type 0 where
  pub now : IsDeviceState stands halted None
  pub done : Answers
  pub first : WrittenFirst s offset bytes done
  pub halting : HaltsAtLast kept events done

-- One block was written, with these bytes from `start` on and its other bytes as before.
pub record HasPart (stands : History → Type 0) (halted : Option Halt) (kept : Answers → Type 0)
    (s : Option History) (events : Answers) (number start : ℕ) (bytes : List ℕ) : Type 0 where
  pub h : History
  pub was : s ≡ Some h
  pub block : Block
  pub now : IsDeviceState stands halted (Some (h ++ ((number, block) ∷ []) ∷ []))
  pub inside : (k : ℕ)
      → k < length bytes → slice_index block.bytes (start + k) ≡ slice_index bytes k
  pub outside : (k : ℕ) → (start ≤ k → k < start + length bytes → ⊥)
      → slice_index block.bytes k ≡ slice_index (after_all h number).bytes k
  pub new : Answers
  pub writes : changes new ≡ WriteEvent (single_pair number block) ∷ []
  pub kept_is : kept (events ++ new)

-- how a write of these bytes from `offset` on changes the state
abbrev pub WritesBytes : Option History → ℕ → List ℕ → Option History → Answers → Type 0
WritesBytes None offset bytes t new = (length bytes ≡ 0) × (t ≡ None) × (new ≡ [])
WritesBytes (Some h) offset bytes t new = (writes : Entry) × AreBytesWritten h offset bytes writes
    × (t ≡ Some (h ++ each_alone writes)) × (changes new ≡ write_events writes)

-- These bytes were written from `offset` on. For no bytes no call was made.
pub record HasWritten (stands : History → Type 0) (halted : Option Halt) (kept : Answers → Type 0)
    (s : Option History) (events : Answers) (offset : ℕ) (bytes : List ℕ) : Type 0 where
  pub t : Option History
  pub now : IsDeviceState stands halted t
  pub new : Answers
  pub wrote : WritesBytes s offset bytes t new
  pub quiet : length bytes ≡ 0 → new ≡ []
  pub kept_is : kept (events ++ new)

-- One request, on a device of so many bytes: the state before, the reply, the events that were
-- kept, the state after.
pub data RequestStep (size : ℕ) (s : Option History) (r : Request)
    (content : List ℕ) (out : List ℕ) (events : Answers) (t : Option History) : Type 0 where
  -- it cannot be done
  Refused : outcome_of size r ≢ Done → out ≡ reply_head r (outcome_of size r)
      → events ≡ [] → t ≡ s → RequestStep size s r content out events t
  Reads : (h : History) → outcome_of size r ≡ Done → r.command ≡ Read → s ≡ Some h
      → t ≡ s → changes events ≡ [] → out ≡ reply_head r Done ++ bytes_from h r.offset r.length
      → RequestStep size s r content out events t
  Writes : (h : History) (writes : Entry) → outcome_of size r ≡ Done
      → r.command ≡ Write → s ≡ Some h → t ≡ Some (h ++ each_alone writes)
      → AreBytesWritten h r.offset content writes → changes events ≡ write_events writes
      → out ≡ reply_head r Done → RequestStep size s r content out events t
  Flushes : (h : History) → outcome_of size r ≡ Done
      → r.command ≡ Flush → s ≡ Some h → t ≡ s → events ≡ (FlushEvent, Flushed (length h)) ∷ []
      → out ≡ reply_head r Done → RequestStep size s r content out events t
  -- a read or write of no bytes makes no call
  Empties : outcome_of size r ≡ Done → r.command ≢ Flush → r.length ≡ 0 → events ≡ [] → t ≡ s
      → out ≡ reply_head r Done → RequestStep size s r content out events t
  -- a call gives a halt
  Halts : (done : Answers) (event : Event) (halt : Halt) → outcome_of size r ≡ Done → t ≡ None
      → WrittenFirst s r.offset content done → events ≡ done ++ (event, HaltedAnswer halt) ∷ []
      → out ≡ reply_head r Halted → RequestStep size s r content out events t

-- Requests, one after the other.
pub data RequestSteps (size : ℕ) (s : Option History) : List RequestParts
    → List ℕ → Answers → Option History → Type 0 where
  None_yet : RequestSteps size s [] [] [] s
  One_more : (ps : List RequestParts) (out : List ℕ) (events : Answers)
      (m : Option History) (p : RequestParts) (more : List ℕ) (kept : Answers) (t : Option History)
      → RequestSteps size s ps out events m
      → RequestStep size m (request_in p.head) p.content more kept t
      → RequestSteps size s (ps ++ p ∷ []) (out ++ more) (events ++ kept) t
