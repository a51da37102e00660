-- What each line is answered by the state of the volumes.
use Rattle.std.specs.Prelude.{◌≡◌, ℕ, ◌<◌, ◌≤◌, List, [], ◌∷◌, ◌++◌, true, codes, Option, Some, None, Ok}
use Rattle.paraid_base.specs.declared.event.Event.{Event}
use Rattle.paraid_base.specs.declared.fault.Halt.{Halt}
use Rattle.paraid_trace.specs.Replies.{halt_text}
use Rattle.paraid_volume.specs.Device.{IsFlushEvent, IsReadEvent, IsReadOrWrite, IsWriteEvent}
use Rattle.paraid_volume.specs.Lives.{HasName, VolAnswer, VolCall, VolLog, VolumeStep, create as CreateCall, delete as DeleteCall, read as ReadCall, write as WriteCall, flush as FlushCall, made, removed, value, wrote, flushed, refused}
use Rattle.paraid_volume.specs.States.{VolumeState, no_volumes}
use Rattle.paraid_volume.specs.Tables.{extent_count, extent_size}
use Rattle.paraid_volume_lines.specs.Grammar.{AsksVolumes, VolLine, bad, create, delete, flush, init, list, read, write}
use Rattle.paraid_volume_lines.specs.Lists.{Lists, name_text}
use Rattle.paraid_volume_lines.specs.Texts.{begun_text, created_text, deleted_text, fault_text, flushed_text, read_text, written_text}
use Rattle.paraid_base.specs.declared.block.Block.{Block}

-- a line about a volume is this call, by the id that its name has
pub data IsCallOf (s : VolumeState) : VolLine → VolCall → Type 0 where
  creates : (name : List ℕ) (extents : ℕ) (text : ℕ → ℕ)
      → ((k : ℕ) → k < 16 → text k ≡ name_text name k)
      → IsCallOf s (create name extents) (CreateCall text extents)
  deletes : (name : List ℕ) (id : ℕ)
      → HasName s id (name_text name) → IsCallOf s (delete name) (DeleteCall id)
  reads : (name : List ℕ) (id block : ℕ)
      → HasName s id (name_text name) → IsCallOf s (read name block) (ReadCall id block)
  writes : (name : List ℕ) (id block : ℕ) (bytes : Block) → HasName s id (name_text name)
      → IsCallOf s (write name block bytes) (WriteCall id block bytes)
  flushes : IsCallOf s flush FlushCall

-- the name of the volume that a line is about, if it must be there
abbrev pub named_in : VolLine → Option (List ℕ)
named_in (delete name) = Some name
named_in (read name block) = Some name
named_in (write name block bytes) = Some name
named_in line = None

-- what is answered to a line by the answer of its call
abbrev pub answer_text : VolLine → VolAnswer → List ℕ
answer_text (create name extents) (made id) = created_text name (Ok id)
answer_text (delete name) removed = deleted_text name true
answer_text (read name block) (value bytes) = read_text name block (Ok tt) bytes
answer_text (write name block bytes) wrote = written_text (Ok tt)
answer_text flush (flushed number) = flushed_text (Ok number)
answer_text line (refused fault) = fault_text fault
answer_text line answer = []

-- what the array holds: volumes in this state, or no table
abbrev pub Held : Type 0
Held = Option VolumeState

-- One line on a device of `count` blocks: what is answered, the calls that it makes on volumes, and
-- what is held then.
pub data LineStep (count : ℕ) (s : Held) : VolLine → List ℕ → VolLog → Held → Type 0 where
  is_bad : LineStep count s bad (codes "bad") [] s
  no_table : (line : VolLine) → (line ≡ init → ⊥)
      → (line ≡ bad → ⊥) → s ≡ None → LineStep count s line (codes "novolumes") [] s
  is_small : s ≡ None → count < 7 → LineStep count s init (codes "small") [] s
  begins : s ≡ None → 7 ≤ count → LineStep count s init
      (begun_text (extent_count count) (extent_size count)) [] (Some (no_volumes count))
  is_already : (v : VolumeState) → s ≡ Some v → LineStep count s init (codes "already") [] s
  unknown : (v : VolumeState) (line : VolLine) (name : List ℕ)
      → s ≡ Some v → named_in line ≡ Some name → ((id : ℕ) → HasName v id (name_text name) → ⊥)
      → LineStep count s line (codes "novolume") [] s
  calls : (v w : VolumeState) (line : VolLine) (call : VolCall) (answer : VolAnswer)
      → s ≡ Some v → IsCallOf v line call → VolumeStep count v call answer w
      → LineStep count s line (answer_text line answer) ((call, answer) ∷ []) (Some w)
  lists : (v : VolumeState) (text : List ℕ)
      → s ≡ Some v → Lists v 31 text → LineStep count s list (codes "list" ++ text) [] s

-- what a line is answered after a halt
abbrev pub halted_text : Halt → VolLine → List ℕ
halted_text halt bad = codes "bad"
halted_text halt line = halt_text halt

-- the events that the array keeps for a line are of this kind
abbrev pub IsEventOf : VolLine → Event → Type 0
IsEventOf init = IsReadOrWrite
IsEventOf (create name extents) = IsWriteEvent
IsEventOf (delete name) = IsWriteEvent
IsEventOf (read name block) = IsReadEvent
IsEventOf (write name block bytes) = IsWriteEvent
IsEventOf flush = IsFlushEvent
IsEventOf list = λ event. ⊥
IsEventOf bad = λ event. ⊥

-- Lines, one after the other, until a halt comes of one, or from a halt on: then each that asks for
-- something is answered by it. `front` are the answers but the last, `reply` is the last. The last
-- argument is the line in which the halt came; it is None if there is no halt, or if it came before
-- the first line.
pub data LinesStep (count : ℕ) (s : Held) (begun : Option Halt) : List (List ℕ)
    → List ℕ → List ℕ → VolLog → Held → Option Halt → Option VolLine → Type 0 where
  none_yet : LinesStep count s begun [] [] [] [] s begun None
  one_more : (t u : Held) (lines : List (List ℕ)) (line front reply said : List ℕ) (asked : VolLine)
      (log more : VolLog) → LinesStep count s begun lines front reply log t None None
      → AsksVolumes line asked → LineStep count t asked said more u → LinesStep count s begun
      (lines ++ line ∷ []) (front ++ reply) (said ++ codes "\n") (log ++ more) u None None
  halting : (t : Held) (lines : List (List ℕ))
      (line front reply : List ℕ) (asked : VolLine) (log : VolLog) (halt : Halt)
      → LinesStep count s begun lines front reply log t None None → AsksVolumes line asked
      → (asked ≡ bad → ⊥) → (asked ≡ list → ⊥) → LinesStep count s begun (lines ++ line ∷ [])
      (front ++ reply) (halt_text halt ++ codes "\n") log t (Some halt) (Some asked)
  later : (t : Held) (lines : List (List ℕ)) (line front reply : List ℕ)
      (asked : VolLine) (log : VolLog) (halt : Halt) (cut : Option VolLine)
      → LinesStep count s begun lines front reply log t (Some halt) cut
      → AsksVolumes line asked → LinesStep count s begun (lines ++ line ∷ [])
      (front ++ reply) (halted_text halt asked ++ codes "\n") log t (Some halt) cut
