-- The form of what a session of volumes writes, by the events of the array and their causes,
-- whatever the rack holds.
use Rattle.std.specs.Prelude.{◌≡◌, ℕ, ◌*◌, ◌^◌, ◌<◌, ◌≤◌, ◌⊎◌, List, [], ◌∷◌, ◌++◌, length, take, true, codes, Option, Some, None, Ok}
use Rattle.paraid_base.specs.declared.block.Block.{Block}
use Rattle.paraid_base.specs.declared.event.Answer.TheVariants.{Value, Wrote, Flushed, Halted}
use Rattle.paraid_base.specs.declared.event.Event.TheVariants.{Read, Write, Flush}
use Rattle.paraid_base.specs.declared.fault.Halt.{Halt}
use Rattle.paraid_base.specs.BlockAnswers.{Answers}
use Rattle.paraid_base.specs.Pairs.{single_pair}
use Rattle.paraid_base.specs.Xor.{zero_block}
use Rattle.paraid_device.specs.Devices.{HaveAnswerCauses}
use Rattle.paraid_io.specs.Lines.{lines_of, whole_lines}
use Rattle.paraid_machine.specs.Machine.{block_count}
use Rattle.paraid_serve.specs.Causes.{HasCause, Shown}
use Rattle.paraid_serve.specs.Ending.{end_line, halt_line, status_of_halt}
use Rattle.paraid_serve.specs.Output.{first_line}
use Rattle.paraid_serve.specs.Statuses.{status_done, status_sink, status_source, status_too_long}
use Rattle.paraid_trace.specs.Replies.{halt_text}
use Rattle.paraid_volume.specs.declared.name.Name.{Name}
use Rattle.paraid_volume.specs.Device.{AreAll}
use Rattle.paraid_volume.specs.Faults.{IsLeastFree}
use Rattle.paraid_volume.specs.Laid.{AreChanges, IsWith, IsWithout}
use Rattle.paraid_volume.specs.TableCalls.{AreHaltedReads, AreOfCreate, AreOfInit, AreOtherReads, AreTableReads, IsTableWrite, table_reads}
use Rattle.paraid_volume.specs.States.{IsPlace, ShowsVolumes, VolumeState}
use Rattle.paraid_volume.specs.Tables.{IsLiveId, IsSameTable, IsVolumeTable, extent_count, extent_size, extents_owned, name_in, owner_in}
use Rattle.paraid_volume.specs.declared.fault.VolFault.{VolFault}
use Rattle.paraid_volume.specs.declared.fault.VolFault.TheVariants.{NoVolume, NoBlock, Exists, NoExtents, Names, Space}
use Rattle.paraid_volume_lines.specs.Grammar.{AsksVolumes, VolLine, bad, create, delete, flush, init, list, read, write}
use Rattle.paraid_volume_lines.specs.Lists.{Lists, name_text}
use Rattle.paraid_volume_lines.specs.Texts.{begun_text, created_text, deleted_text, fault_text, read_text}
use Rattle.paraid_service.specs.VolumeLines.{IsEventOf, halted_text, named_in}
use Rattle.paraid_base.specs.Told.{stream_most}

-- the table that the volumes have in memory, or none where there are no volumes
abbrev pub Tabled : Type 0
Tabled = Option (ℕ → Block)

-- there are volumes only on seven blocks or more, and they have a table for them
abbrev pub AreTabled : ℕ → Tabled → Type 0
AreTabled count None = Unit {0}
AreTabled count (Some table) = (7 ≤ count) × IsVolumeTable count table

-- volume `id` of this table has this name
pub record IsIdOf (table : ℕ → Block) (name : List ℕ) (id : ℕ) : Type 0 where
  pub live : IsLiveId table id
  pub spells : (k : ℕ) → k < 16 → name_text name k ≡ name_in table id k

-- no volume of it has
abbrev pub IsNoName : (ℕ → Block) → List ℕ → Type 0
IsNoName table name = (id : ℕ) → IsIdOf table name id → ⊥

-- how many of its extents belong to this volume; those of 0 are free
abbrev pub extents_of : ℕ → (ℕ → Block) → ℕ → ℕ
extents_of count table id = extents_owned (owner_in table) id (extent_count count)

-- When a line is refused by a table, and by which fault.
pub data IsLineRefused (count : ℕ) (table : ℕ → Block) : VolLine → VolFault → Type 0 where
  exists : (name : List ℕ) (extents id : ℕ)
      → IsIdOf table name id → IsLineRefused count table (create name extents) (Exists id)
  no_extents : (name : List ℕ)
      → IsNoName table name → IsLineRefused count table (create name 0) NoExtents
  all_named : (name : List ℕ) (extents : ℕ)
      → IsNoName table name → 0 < extents → ((id : ℕ) → 1 ≤ id → id ≤ 31 → IsLiveId table id)
      → IsLineRefused count table (create name extents) Names
  no_space : (name : List ℕ) (extents id : ℕ)
      → IsNoName table name → IsLeastFree table id → extents_of count table 0 < extents
      → IsLineRefused count table (create name extents) (Space (extents_of count table 0))
  no_volume : (line : VolLine) (name : List ℕ) (id : ℕ) → named_in line ≡ Some name
      → IsNoName table name → IsLineRefused count table line (NoVolume id)
  past_read : (name : List ℕ) (id block : ℕ)
      → IsIdOf table name id → extent_size count * extents_of count table id ≤ block
      → IsLineRefused count table (read name block) (NoBlock block)
  past_write : (name : List ℕ) (id block : ℕ) (bytes : Block)
      → IsIdOf table name id → extent_size count * extents_of count table id ≤ block
      → IsLineRefused count table (write name block bytes) (NoBlock block)

-- The reads before the first line, with the halt that came in them and the table that they gave:
-- none of a device that is too small, and else those of its first six blocks, one after the other,
-- up to a halt.
pub data AreFirstReads (count : ℕ) : Option Halt → Answers → Tabled → Type 0 where
  too_small : count < 7 → AreFirstReads count None [] None
  gave : (table : ℕ → Block)
      → AreTabled count (Some table) → AreFirstReads count None (table_reads table 6) (Some table)
  gave_none : (made : Answers)
      → 7 ≤ count → AreOtherReads count made → AreFirstReads count None made None
  cut : (halt : Halt) (made : Answers)
      → 7 ≤ count → AreHaltedReads halt made → AreFirstReads count (Some halt) made None

-- A line is answered so, by the table before it and by exactly these events of the array, if no
-- halt comes of it; and the table after it. `is_found` is an `init` whose six reads gave a table,
-- where the reads before the first line gave none; there are still no volumes. If all is told, on a
-- rack that held a history, it cannot come: `LineStep` has no such case.
pub data IsReplyToLine (count : ℕ) : Tabled → VolLine → List ℕ → Answers → Tabled → Type 0 where
  no_task : (was : Tabled) → IsReplyToLine count was bad (codes "bad") [] was
  no_table : (line : VolLine) → (line ≡ init → ⊥)
      → (line ≡ bad → ⊥) → IsReplyToLine count None line (codes "novolumes") [] None
  is_small : count < 7 → IsReplyToLine count None init (codes "small") [] None
  begun : (next : ℕ → Block) (made : Answers)
      → AreTabled count (Some next) → ((k : ℕ) → 1 ≤ k → next k ≡ zero_block)
      → AreOfInit count next made → IsReplyToLine count None init
      (begun_text (extent_count count) (extent_size count)) made (Some next)
  is_found : (made : Answers) → 7 ≤ count
      → AreTableReads count made → IsReplyToLine count None init (codes "already") made None
  is_already : (table : ℕ → Block)
      → IsReplyToLine count (Some table) init (codes "already") [] (Some table)
  created : (table next : ℕ → Block) (name : List ℕ) (extents id : ℕ) (made : Answers)
      → IsNoName table name → 0 < extents
      → IsLeastFree table id → extents ≤ extents_of count table 0 → AreTabled count (Some next)
      → (text : Name) → IsWith id text extents (extent_count count) table next → IsIdOf next name id
      → AreOfCreate id (extent_size count) (extent_count count) table next made
      → IsReplyToLine count
      (Some table) (create name extents) (created_text name (Ok id)) made (Some next)
  deleted : (table next : ℕ → Block) (name : List ℕ) (id : ℕ) (made : Answers)
      → IsIdOf table name id → AreTabled count (Some next)
      → IsWithout id (extent_count count) table next → IsTableWrite (AreChanges table next 6) made
      → IsReplyToLine count (Some table) (delete name) (deleted_text name true) made (Some next)
  told : (table : ℕ → Block) (name : List ℕ) (id block place : ℕ) (bytes : Block)
      → IsIdOf table name id
      → IsPlace count table id block place → IsReplyToLine count (Some table) (read name block)
      (read_text name block (Ok tt) bytes) ((Read place, Value place bytes) ∷ []) (Some table)
  wrote : (table : ℕ → Block) (name : List ℕ) (id block place number : ℕ) (bytes : Block)
      → IsIdOf table name id → IsPlace count table id block place
      → IsReplyToLine count (Some table) (write name block bytes)
      (codes "wrote") ((Write (single_pair place bytes), Wrote number) ∷ []) (Some table)
  flushed : (table : ℕ → Block) (number : ℕ) → IsReplyToLine count
      (Some table) flush (codes "flushed") ((Flush, Flushed number) ∷ []) (Some table)
  listed : (table : ℕ → Block) (text : List ℕ) → ((content : ℕ → Block) (s : VolumeState)
      → IsSameTable table content → ShowsVolumes count content s → Lists s 31 text)
      → IsReplyToLine count (Some table) list (codes "list" ++ text) [] (Some table)
  refused : (table : ℕ → Block) (line : VolLine) (fault : VolFault)
      → IsLineRefused count table line fault
      → IsReplyToLine count (Some table) line (fault_text fault) [] (Some table)

-- Lines, one after the other, are answered so, until one is answered by a halt, or from a halt on:
-- then each that asks for something is. Those before the last stand apart, and then the last. The
-- array that was seen so at first answered these events for them, each with its cause: the reads
-- before the first line, and then those of each line. A halt that is told is the one that is seen
-- of the array then, with none before it. The table of the volumes goes from line to line.
pub data FormsLines (old : Shown) : List (List ℕ)
    → List ℕ → List ℕ → Answers → Shown → Tabled → Type 0 where
  none_yet : (made : Answers) (now : Shown) (table : Tabled)
      → AreFirstReads (block_count old.setup) now.halt made table
      → HaveAnswerCauses old made now → FormsLines old [] [] [] made now table
  one_more : (lines : List (List ℕ)) (line front reply said : List ℕ)
      (asked : VolLine) (made more : Answers) (mid now : Shown) (was table : Tabled)
      → FormsLines old lines front reply made mid was → mid.halt ≡ None
      → AsksVolumes line asked → IsReplyToLine (block_count old.setup) was asked said more table
      → HaveAnswerCauses mid more now → now.halt ≡ None → FormsLines old
      (lines ++ line ∷ []) (front ++ reply) (said ++ codes "\n") (made ++ more) now table
  halting : (lines : List (List ℕ)) (line front reply : List ℕ)
      (asked : VolLine) (halt : Halt) (made more : Answers) (mid now : Shown) (was table : Tabled)
      → FormsLines old lines front reply made mid was → mid.halt ≡ None → AsksVolumes line asked
      → (asked ≡ bad → ⊥) → (asked ≡ list → ⊥) → AreAll (IsEventOf asked) more
      → HaveAnswerCauses mid more now → now.halt ≡ Some halt → FormsLines old
      (lines ++ line ∷ []) (front ++ reply) (halt_text halt ++ codes "\n") (made ++ more) now table
  later : (lines : List (List ℕ)) (line front reply : List ℕ) (asked : VolLine) (halt : Halt)
      (made : Answers) (now : Shown) (table : Tabled) → FormsLines old lines front reply made now
      table → now.halt ≡ Some halt → AsksVolumes line asked → FormsLines old
      (lines ++ line ∷ []) (front ++ reply) (halted_text halt asked ++ codes "\n") made now table

-- The form of a whole text for these bytes, by its status: the line of the array that was mounted
-- with the answers, and the last line. All events of the array are those of the lines, and where
-- all lines were answered a flush, by whose answer the last line is.
pub data VolumesForm (old new : Shown) (bytes : List ℕ) : Answers
    → ℕ → List ℕ → List ℕ → Type 0 where
  done : (front reply : List ℕ) (made : Answers) (mid : Shown) (table : Tabled) (number : ℕ)
      → FormsLines old (lines_of bytes) front reply made mid table
      → mid.halt ≡ None → HasCause mid Flush (Flushed number) new
      → VolumesForm old new bytes (made ++ (Flush, Flushed number) ∷ []) status_done
      (first_line old ++ (front ++ reply)) (end_line number)
  halted : (front reply : List ℕ) (made : Answers) (mid : Shown) (table : Tabled) (halt : Halt)
      → FormsLines old (lines_of bytes) front reply made mid table
      → (mid.halt ≡ None) ⊎ (mid.halt ≡ Some halt) → HasCause mid Flush (Halted halt) new
      → VolumesForm old new bytes (made ++ (Flush, Halted halt) ∷ [])
      (status_of_halt halt) (first_line old ++ (front ++ reply)) (halt_line halt)
  source : (front reply : List ℕ) (made : Answers) (table : Tabled)
      → FormsLines old (whole_lines bytes) front reply made new table
      → VolumesForm old new bytes made status_source
      (first_line old ++ (front ++ reply)) (codes "source\n")
  too_long : (front reply : List ℕ) (made : Answers) (table : Tabled)
      → length bytes ≡ stream_most → FormsLines old (whole_lines bytes) front reply made new table
      → VolumesForm old new bytes made status_too_long
      (first_line old ++ (front ++ reply)) (codes "toolong\n")

-- The form of what was written: of a whole text; or at `status_sink` of one whose last line is cut,
-- or of a first part of the first line, and then no byte was taken and no event was made; or of the
-- answers up to one that is cut, and no event came after those of its line. Of what is cut a first
-- part stands that is not the whole.
pub data HasVolumesForm
    (old new : Shown) (bytes : List ℕ) (made : Answers) (status : ℕ) (text : List ℕ) : Type 0 where
  whole : (said last : List ℕ) → VolumesForm old new bytes made status said last
      → text ≡ said ++ last → HasVolumesForm old new bytes made status text
  last_line : status ≡ status_sink → (code : ℕ) (said last : List ℕ) (count : ℕ)
      → VolumesForm old new bytes made code said last → count < length last
      → text ≡ said ++ take count last → HasVolumesForm old new bytes made status text
  answers : status ≡ status_sink
      → (before more : List (List ℕ)) (line front reply : List ℕ) (count : ℕ) (table : Tabled)
      → lines_of bytes ≡ (before ++ line ∷ []) ++ more
      → FormsLines old (before ++ line ∷ []) front reply made new table
      → count < length reply → text ≡ first_line old ++ (front ++ take count reply)
      → HasVolumesForm old new bytes made status text
  at_first_line : status ≡ status_sink
      → bytes ≡ [] → made ≡ [] → new ≡ old → (count : ℕ) → count < length (first_line old)
      → text ≡ take count (first_line old) → HasVolumesForm old new bytes made status text
