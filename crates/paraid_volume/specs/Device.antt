-- What several calls leave of a device
use Rattle.std.specs.Prelude.{◌≡◌, ℕ, ◌<◌, ◌≤◌, ◌+◌, ◌*◌, ◌++◌, [], ◌∷◌, take, Bool, IsTrue, Option, Some, None, IsSome, IsNone, Result, Ok, Err}
use Rattle.paraid_base.specs.declared.fault.Halt.{Halt}
use Rattle.paraid_base.specs.declared.event.Event.{Event}
use Rattle.paraid_base.specs.declared.event.Event.TheVariants.{Read, Write, Flush}
use Rattle.paraid_base.specs.BlockAnswers.{Answers, accepted_write}
use Rattle.paraid_base.specs.History.{History, after_all}
use Rattle.paraid_base.specs.Xor.{zero_block}
use Rattle.paraid_base.specs.Told.{HasRisen}

-- its size is the same, a halt has a cause and stays, and what is told was told before
pub record DeviceGoesOn {S : Type 0}
    (count halts : S → ℕ) (halted : S → Option Halt) (tells : S → Bool) (old new : S) : Type 0 where
  pub size : count new ≡ count old
  pub later : halts old ≤ halts new
  pub cause : IsNone (halted old) → IsSome (halted new) → HasRisen (halts old) (halts new)
  pub again : IsSome (halted old) → halted new ≡ halted old
  pub told : IsTrue (tells new) → IsTrue (tells old)

-- what it stood for it stands for
abbrev pub KeepsHistories : {S : Type 0} → (S → History → Type 0) → (S → Bool) → S → S → Type 0
KeepsHistories stands tells old new = (h : History)
    → stands old h → IsTrue (tells new) → stands new h

-- the event is a read
abbrev pub IsReadEvent : Event → Type 0
IsReadEvent (Read block) = Unit {0}
IsReadEvent event = ⊥

-- the event is a write
abbrev pub IsWriteEvent : Event → Type 0
IsWriteEvent (Write pairs) = Unit {0}
IsWriteEvent event = ⊥

-- the event is a flush
abbrev pub IsFlushEvent : Event → Type 0
IsFlushEvent Flush = Unit {0}
IsFlushEvent event = ⊥

-- it looks at the device or writes to it, and does not flush it
abbrev pub IsReadOrWrite : Event → Type 0
IsReadOrWrite (Read block) = Unit {0}
IsReadOrWrite (Write pairs) = Unit {0}
IsReadOrWrite event = ⊥

-- each of these events is of this kind
abbrev pub AreAll : (Event → Type 0) → Answers → Type 0
AreAll kind [] = Unit {0}
AreAll kind (e ∷ es) = kind e.0 × AreAll kind es

-- What is kept are these events and more, all of this kind.
pub record More (holds : Answers → Type 0) (kind : Event → Type 0) (events : Answers) : Type 0 where
  pub more : Answers
  pub kept : holds (events ++ more)
  pub all : AreAll kind more

-- The events that were kept are kept, and more of this kind, those that gave a halt included.
pub record KeepsMore {S : Type 0} (kept : S → S → Answers → Type 0)
    (tells : S → Bool) (kind : Event → Type 0) (old new : S) : Type 0 where
  pub grows : (first : S) (events : Answers)
      → kept first old events → More (kept first new) kind events

-- the entries of the writes that were accepted among these events
abbrev pub entries_in : Answers → History
entries_in [] = []
entries_in (e ∷ es) = accepted_write e.0 e.1 ++ entries_in es

-- a device as it was, a history, and the events that were kept since then with it; or none of these
abbrev pub SinceHistory : Type 0 → Type 0
SinceHistory S = Option (S × History × Answers)

-- The device stands for this history. If a history and events are given, it is that history with
-- the writes of the events that were kept after these.
abbrev pub DeviceHolds : {S : Type 0}
    → (S → History → Type 0) → (S → S → Answers → Type 0) → SinceHistory S → S → History → Type 0
DeviceHolds stands kept None device h = stands device h
DeviceHolds stands kept (Some from) device h =
    stands device h
    × (made : Answers) × kept from.0 device (from.2 ++ made) × (h ≡ from.1 ++ entries_in made)

-- the halt in a result
abbrev pub halt_in : {A : Type 0} → Result A Halt → Option Halt
halt_in (Ok value) = None
halt_in (Err halt) = Some halt

-- a block from `start` to `end - 1`
abbrev pub Between : ℕ → ℕ → ℕ → Type 0
Between start end b = (start ≤ b) × (b < end)

-- What was stood for is stood for with more writes. Each of them left the blocks that are not
-- inside as they were, and after the last one those inside are zeros.
pub record IsZeroed (holds : History → Type 0) (h : History) (inside : ℕ → Type 0) : Type 0 where
  pub more : History
  pub stands : holds (h ++ more)
  pub rest : (k b : ℕ) → (inside b → ⊥) → after_all (h ++ take k more) b ≡ after_all h b
  pub zeros : (b : ℕ) → inside b → after_all (h ++ more) b ≡ zero_block

-- What was stood for is stood for with such writes, in each case.
abbrev pub Clears : {S : Type 0}
    → (S → History → Type 0) → (S → Bool) → S → S → (ℕ → Type 0) → Type 0
Clears stands tells old new inside = (h : History)
    → stands old h → IsTrue (tells new) → IsZeroed (stands new) h inside

-- a block of extent `e`, which `id` owns
abbrev pub OfExtent : (ℕ → ℕ) → ℕ → ℕ → ℕ → ℕ → Type 0
OfExtent owner id size e b = (owner e ≡ id) × Between (6 + e * size) (6 + e * size + size) b

-- a block of an extent, of those below `n`, that `id` owns
pub record InExtent (owner : ℕ → ℕ) (id size n b : ℕ) : Type 0 where
  pub extent : ℕ
  pub below : extent < n
  pub of : OfExtent owner id size extent b
