-- What a request asks of the device, over every device: which blocks are read and written, in which
-- order, with which bytes.
use Rattle.std.specs.Prelude.{◌≡◌, ◌≢◌, ℕ, ◌+◌, ◌/◌, ◌%◌, ◌<◌, ◌≤◌, ◌⊎◌, List, [], ◌∷◌, ◌++◌, length, take, drop, slice_index}
use Rattle.paraid_base.specs.declared.block.Block.{Block}
use Rattle.paraid_base.specs.declared.event.Answer.TheVariants.{Value, Wrote, Flushed, Halted as HaltedAnswer}
use Rattle.paraid_base.specs.declared.event.Event.{Event}
use Rattle.paraid_base.specs.declared.event.Event.TheVariants.{Read as ReadEvent, Write as WriteEvent, Flush as FlushEvent}
use Rattle.paraid_base.specs.declared.fault.Halt.{Halt}
use Rattle.paraid_base.specs.BlockAnswers.{Answers}
use Rattle.paraid_base.specs.Pairs.{single_pair}
use Rattle.paraid_nbd.specs.declared.request.Command.{Command}
use Rattle.paraid_nbd.specs.declared.request.Command.TheVariants.{Read, Write, Disconnect, Flush, Unknown}

-- Whatever was kept since any time before, it grew by events of which P holds.
pub record KeepsBy {D : Type 0}
    (kept : D → D → Answers → Type 0) (old new : D) (P : Answers → Type 0) : Type 0 where
  pub grows : (first : D) (events : Answers)
      → kept first old events → (more : Answers) × P more × kept first new (events ++ more)

-- It grew by events and one more that was answered with a halt, and H holds of them.
pub record KeepsHalted {D : Type 0}
    (kept : D → D → Answers → Type 0) (old new : D) (H : Answers → Event → Type 0) : Type 0 where
  pub grows : (first : D) (events : Answers)
      → kept first old events → (done : Answers) × (event : Event) × (halt : Halt)
      × H done event × kept first new (events ++ (done ++ (event, HaltedAnswer halt) ∷ []))

-- The next part of a request, after `done` bytes of it: it lies in one block, and it begins that
-- block unless it is the first part. A part that another one follows ends its block, since that one
-- must begin one.
pub record IsNextPart (offset done size : ℕ) : Type 0 where
  pub some : 0 < size
  pub within : (offset + done) % 512 + size ≤ 512
  pub begins : (done ≡ 0) ⊎ ((offset + done) % 512 ≡ 0)

-- a read of this block, which gave this value
abbrev pub IsOneRead : ℕ → Block → Answers → Type 0
IsOneRead block value events = events ≡ (ReadEvent block, Value block value) ∷ []

-- a write of this block alone, which was accepted
abbrev pub IsOneWrite : ℕ → Block → Answers → Type 0
IsOneWrite block bytes events =
    (number : ℕ) × (events ≡ (WriteEvent (single_pair block bytes), Wrote number) ∷ [])

-- the first call, which is this one, gave a halt
abbrev pub HaltsAtOnce : Event → Answers → Event → Type 0
HaltsAtOnce asked done event = (done ≡ []) × (event ≡ asked)

-- a block was read, unless all of it is to be written
abbrev pub IsRestRead : ℕ → ℕ → Block → Answers → Type 0
IsRestRead size block value events =
    ((size ≡ 512) × (events ≡ [])) ⊎ ((size ≢ 512) × IsOneRead block value events)

-- that read gave a halt
abbrev pub IsRestHalted : ℕ → ℕ → Answers → Event → Type 0
IsRestHalted size block done event = (size ≢ 512) × HaltsAtOnce (ReadEvent block) done event

-- a block with this piece from `start` on, and its other bytes as in another one
pub record IsReplaced (start : ℕ) (piece : List ℕ) (rest new : Block) : Type 0 where
  pub inside : (k : ℕ) → k < length piece → slice_index new.bytes (start + k) ≡ slice_index piece k
  pub outside : (k : ℕ) → (start ≤ k → k < start + length piece → ⊥)
      → slice_index new.bytes k ≡ slice_index rest.bytes k

-- A piece was written into a block from `start` on: by a read of the block, unless the piece is all
-- of it, and one write of it, with the piece in it and its other bytes as they were read.
pub record IsPartWritten (block start : ℕ) (piece : List ℕ) (events : Answers) : Type 0 where
  pub value : Block
  pub bytes : Block
  pub reads : Answers
  pub writes : Answers
  pub read : IsRestRead (length piece) block value reads
  pub replaced : IsReplaced start piece value bytes
  pub written : IsOneWrite block bytes writes
  pub is : events ≡ reads ++ writes

-- A call for such a piece gave a halt: the read, or the write.
pub data IsPartHalted
    (block start : ℕ) (piece : List ℕ) (done : Answers) (event : Event) : Type 0 where
  At_read : IsRestHalted (length piece) block done event → IsPartHalted block start piece done event
  At_write : (value bytes : Block)
      → IsRestRead (length piece) block value done → IsReplaced start piece value bytes
      → event ≡ WriteEvent (single_pair block bytes) → IsPartHalted block start piece done event

-- These bytes from `offset` on were read, part by part: each part is of what a read of its block
-- gave.
pub data AreBytesRead (offset : ℕ) : List ℕ → Answers → Type 0 where
  Nothing_read : AreBytesRead offset [] []
  One_read : (bytes : List ℕ) (events more : Answers) (size : ℕ) (value : Block)
      → AreBytesRead offset bytes events → IsNextPart offset (length bytes) size
      → IsOneRead ((offset + length bytes) / 512) value more → AreBytesRead offset
      (bytes ++ take size (drop ((offset + length bytes) % 512) value.bytes)) (events ++ more)

-- These bytes were written from `offset` on, part by part.
pub data ArePartsWritten (offset : ℕ) : List ℕ → Answers → Type 0 where
  Nothing_written : ArePartsWritten offset [] []
  One_written : (bytes piece : List ℕ) (events more : Answers)
      → ArePartsWritten offset bytes events → IsNextPart offset (length bytes) (length piece)
      → IsPartWritten ((offset + length bytes) / 512) ((offset + length bytes) % 512) piece more
      → ArePartsWritten offset (bytes ++ piece) (events ++ more)

-- A read of `count` bytes from `offset` on came to a halt: these first bytes were read, and the
-- read of the block of the next part gave it.
pub record IsReadHalted (offset count : ℕ) (done : Answers) (event : Event) : Type 0 where
  pub bytes : List ℕ
  pub size : ℕ
  pub within : length bytes + size ≤ count
  pub part : IsNextPart offset (length bytes) size
  pub read : AreBytesRead offset bytes done
  pub is : event ≡ ReadEvent ((offset + length bytes) / 512)

-- A write of these bytes from `offset` on came to a halt: the first `count` were written, and a
-- call for the next part gave it.
pub record IsWriteHalted
    (offset : ℕ) (content : List ℕ) (done : Answers) (event : Event) : Type 0 where
  pub count : ℕ
  pub size : ℕ
  pub within : count + size ≤ length content
  pub part : IsNextPart offset count size
  pub before : Answers
  pub more : Answers
  pub written : ArePartsWritten offset (take count content) before
  pub halted : IsPartHalted
      ((offset + count) / 512) ((offset + count) % 512) (take size (drop count content)) more event
  pub is : done ≡ before ++ more

-- What was asked of the device for a request that was done, with the bytes that it brought and
-- those that were found. Without any byte to read or to write nothing is asked.
abbrev pub Asks : Command → ℕ → List ℕ → List ℕ → Answers → Type 0
Asks Read offset content found events = AreBytesRead offset found events
Asks Write offset content found events = ArePartsWritten offset content events
Asks Flush offset content found events = (writes : ℕ) × (events ≡ (FlushEvent, Flushed writes) ∷ [])
Asks Disconnect offset content found events = events ≡ []
Asks Unknown offset content found events = events ≡ []

-- what was asked for one that came to a halt, and the event that was answered by it
abbrev pub AsksUntil : Command → ℕ → ℕ → List ℕ → Answers → Event → Type 0
AsksUntil Read offset size content done event = IsReadHalted offset size done event
AsksUntil Write offset size content done event = IsWriteHalted offset content done event
AsksUntil Flush offset size content done event = HaltsAtOnce FlushEvent done event
AsksUntil Disconnect offset size content done event = ⊥
AsksUntil Unknown offset size content done event = ⊥
