-- How the lines of a session of volumes are taken, and how they end.
use Rattle.std.specs.Prelude.{◌≡◌, ℕ, ◌^◌, ◌<◌, ◌++◌, List, [], ◌∷◌, length, take, Option, Some, None, Result, Ok, Err}
use Rattle.paraid_base.specs.declared.block.Block.{Block}
use Rattle.paraid_base.specs.declared.event.Event.{Event}
use Rattle.paraid_base.specs.declared.fault.Halt.{Halt}
use Rattle.paraid_base.specs.Told.{AtEnd, Gives, GrowsByBytes, stream_most}
use Rattle.paraid_blocks.specs.declared.blocks.Blocks.{Ghosts}
use Rattle.paraid_io.specs.declared.line.LineFault.{LineFault}
use Rattle.paraid_io.specs.Lines.{lines_of, whole_lines}
use Rattle.paraid_io.specs.Reading.{Reading}
use Rattle.paraid_serve.specs.Heard.{HearsLine}
use Rattle.paraid_volume_lines.specs.declared.asked.VolAsked.{VolAsked}
use Rattle.paraid_volume_lines.specs.Asked.{line_with}
use Rattle.paraid_volume_lines.specs.Grammar.{AsksVolumes}
use Rattle.paraid_service.specs.declared.run.LinesEnd.{LinesEnd}
use Rattle.paraid_service.specs.declared.run.LinesEnd.TheVariants.{Done, Source, TooLong, Sink}
use Rattle.paraid_service.specs.declared.shelf.Shelf.{Shelf}
use Rattle.paraid_service.specs.LineRuns.{RunsLines}

-- a line was taken, and this is what it asks for
pub record HearsAsked (before after : Option (List ℕ))
    (old new : Reading) (bytes : Block) (asked : VolAsked) : Type 0 where
  pub event : Event
  pub line : HearsLine before after old new (Ok (Some event))
  pub asks : AsksVolumes (line.says.0) (line_with asked bytes)

-- one call that takes the next line
abbrev pub HearsVolumes : Option (List ℕ)
    → Option (List ℕ) → Reading → Reading → Block → Result (Option VolAsked) LineFault → Type 0
HearsVolumes before after old new bytes (Ok (Some asked)) =
    HearsAsked before after old new bytes asked
HearsVolumes before after old new bytes (Ok None) = HearsLine before after old new (Ok None)
HearsVolumes before after old new bytes (Err fault) = HearsLine before after old new (Err fault)

-- The last of these lines of the bytes is the one whose answer is cut: what was written of it is a
-- first part of the last reply, which is not the whole.
pub record CutsLines
    (bytes : List ℕ) (lines : List (List ℕ)) (front reply written : List ℕ) : Type 0 where
  pub before : List (List ℕ)
  pub line : List ℕ
  pub more : List (List ℕ)
  pub are : lines ≡ before ++ line ∷ []
  pub split : lines_of bytes ≡ (before ++ line ∷ []) ++ more
  pub count : ℕ
  pub short : count < length reply
  pub cut : written ≡ front ++ take count reply

-- these lines of the bytes were answered so, those before the last and the last, and this text of
-- the answers was written
abbrev pub EndsLines : List ℕ
    → List (List ℕ) → List ℕ → List ℕ → List ℕ → Option (List ℕ) → LinesEnd → Type 0
EndsLines bytes lines front reply written after Done =
    (lines ≡ lines_of bytes)
    × (written ≡ front ++ reply) × (length bytes < stream_most) × AtEnd after
EndsLines bytes lines front reply written after Source =
    (lines ≡ whole_lines bytes) × (written ≡ front ++ reply)
EndsLines bytes lines front reply written after TooLong =
    (lines ≡ whole_lines bytes) × (written ≡ front ++ reply) × (length bytes ≡ stream_most)
EndsLines bytes lines front reply written after Sink = CutsLines bytes lines front reply written

-- Lines of the bytes that were taken were answered on a device.
pub record ServesVolumeLines {B : Type 0}
    (g : Ghosts B) (start : B) (left_before left written_before written : Option (List ℕ))
    (shelf : Shelf B g) (halt : Option Halt) (end : LinesEnd) : Type 0 where
  pub bytes : List ℕ
  pub given : Gives left_before left bytes
  pub lines : List (List ℕ)
  pub front : List ℕ
  pub reply : List ℕ
  pub told : List ℕ
  pub grows : GrowsByBytes written_before written told
  pub ends : EndsLines bytes lines front reply told left end
  pub runs : RunsLines g start lines front reply shelf halt
