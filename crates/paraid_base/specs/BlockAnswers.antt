-- What a block device answers, and what its answers say of its history
use Rattle.std.specs.Prelude.{◌≡◌, ℕ, ◌<◌, ◌≤◌, ◌+◌, List, [], ◌∷◌, ◌++◌, length, All, Option, Some, None, Result, Ok, Err}
use Rattle.paraid_base.specs.declared.block.Block.{Block}
use Rattle.paraid_base.specs.declared.event.Answer.{Answer}
use Rattle.paraid_base.specs.declared.event.Answer.TheVariants.{Value, NoBlock, Wrote, Flushed, Halted}
use Rattle.paraid_base.specs.declared.event.Event.{Event}
use Rattle.paraid_base.specs.declared.event.Event.TheVariants.{Write}
use Rattle.paraid_base.specs.declared.fault.BlockFault.{BlockFault}
use Rattle.paraid_base.specs.declared.fault.BlockFault.TheVariants.{NoBlock as BlockMissing, Halt as BlockHalt}
use Rattle.paraid_base.specs.declared.fault.Halt.{Halt}
use Rattle.paraid_base.specs.History.{Entry, History}
use Rattle.paraid_base.specs.Pairs.{pairs_of}

-- events with their answers, the first event first
abbrev pub Answers : Type 0
Answers = List (Event × Answer)

-- the entry that an event adds: that of a write that was accepted; no other event has one
abbrev pub accepted_write : Event → Answer → History
accepted_write (Write pairs) (Wrote number) = pairs_of pairs ∷ []
accepted_write event answer = []

-- the answer to the read of a block that gave these bytes
abbrev pub answer_to_read : ℕ → Block → Result (Unit {0}) BlockFault → Answer
answer_to_read block bytes (Ok done) = Value block bytes
answer_to_read block bytes (Err (BlockMissing missing)) = NoBlock missing
answer_to_read block bytes (Err (BlockHalt halt)) = Halted halt

-- the answer in the result of a write
abbrev pub answer_to_write : Result ℕ BlockFault → Answer
answer_to_write (Ok number) = Wrote number
answer_to_write (Err (BlockMissing missing)) = NoBlock missing
answer_to_write (Err (BlockHalt halt)) = Halted halt

-- the answer in the result of a flush
abbrev pub answer_to_flush : Result ℕ Halt → Answer
answer_to_flush (Ok writes) = Flushed writes
answer_to_flush (Err halt) = Halted halt

-- the halt in the result of a read or a write
abbrev pub halt_of : {A : Type 0} → Result A BlockFault → Option Halt
halt_of (Ok value) = None
halt_of (Err (BlockMissing missing)) = None
halt_of (Err (BlockHalt halt)) = Some halt

-- the halt in the result of a flush
abbrev pub flush_halt_of : Result ℕ Halt → Option Halt
flush_halt_of (Ok writes) = None
flush_halt_of (Err halt) = Some halt

-- of `count` blocks, exactly those past the last one are refused, by their number
abbrev pub RefusesMissing : {A : Type 0} → ℕ → ℕ → Result A BlockFault → Type 0
RefusesMissing count block (Ok value) = block < count
RefusesMissing count block (Err (BlockMissing missing)) = (missing ≡ block) × (count ≤ block)
RefusesMissing count block (Err (BlockHalt halt)) = Unit {0}

-- what was stood for before a read is stood for after it, unless it gave a halt
abbrev pub AfterRead : (History → Type 0) → History → Result (Unit {0}) BlockFault → Type 0
AfterRead stands h (Ok done) = stands h
AfterRead stands h (Err (BlockMissing missing)) = stands h
AfterRead stands h (Err (BlockHalt halt)) = Unit {0}

-- block `block` is the first of these pairs that is past the last of `count` blocks
pub record IsFirstMissing (count : ℕ) (entry : Entry) (block : ℕ) : Type 0 where
  pub before : Entry
  pub bytes : Block
  pub rest : Entry
  pub is : entry ≡ before ++ (block, bytes) ∷ rest
  pub below : All (λ (pair : ℕ × Block). pair.0 < count) before
  pub missing : count ≤ block

-- of `count` blocks, pairs of which one is past the last one are refused, by the first such
abbrev pub RefusesMany : {A : Type 0} → ℕ → Entry → Result A BlockFault → Type 0
RefusesMany count entry (Ok value) = All (λ (pair : ℕ × Block). pair.0 < count) entry
RefusesMany count entry (Err (BlockMissing missing)) = IsFirstMissing count entry missing
RefusesMany count entry (Err (BlockHalt halt)) = Unit {0}

-- a write is appended to the history as one entry and gives its new length, or there is no such
-- block and the history stays
abbrev pub AfterWrite : (History → Type 0) → History → Entry → Result ℕ BlockFault → Type 0
AfterWrite stands h entry (Ok number) = (number ≡ length h + 1) × stands (h ++ entry ∷ [])
AfterWrite stands h entry (Err (BlockMissing missing)) = stands h
AfterWrite stands h entry (Err (BlockHalt halt)) = Unit {0}

-- a flush gives the length of the history, which stays
abbrev pub AfterFlush : (History → Type 0) → History → Result ℕ Halt → Type 0
AfterFlush stands h (Ok writes) = (writes ≡ length h) × stands h
AfterFlush stands h (Err halt) = Unit {0}
