-- Lines, one after the other, on a device.
use Rattle.std.specs.Prelude.{◌≡◌, ℕ, ◌++◌, [], ◌∷◌, List, Option, Some, None, IsTrue, codes}
use Rattle.paraid_base.specs.declared.fault.Halt.{Halt}
use Rattle.paraid_base.specs.BlockAnswers.{Answers}
use Rattle.paraid_base.specs.History.{History, after_all}
use Rattle.paraid_blocks.specs.declared.blocks.Blocks.{Ghosts}
use Rattle.paraid_trace.specs.Replies.{halt_text}
use Rattle.paraid_volume.specs.Device.{DeviceGoesOn, KeepsMore}
use Rattle.paraid_volume.specs.Lives.{VolLog}
use Rattle.paraid_volume_lines.specs.Grammar.{AsksVolumes, VolLine, bad, list}
use Rattle.paraid_service.specs.declared.shelf.Shelf.{Shelf}
use Rattle.paraid_nbd.specs.Export.{KeepsOn}
use Rattle.paraid_service.specs.LineSteps.{KeepsReply}
use Rattle.paraid_service.specs.Shelves.{IsGoing, OnShelf, device_in, table_in}
use Rattle.paraid_service.specs.VolumeForms.{AreFirstReads, IsReplyToLine}
use Rattle.paraid_service.specs.VolumeLines.{Held, IsEventOf, LinesStep, halted_text}
use Rattle.paraid_service.specs.VolumeSessions.{AreOfHalt, BeginsWith, IsLifeOf}

-- The events that were kept before the call in which the halt came are those of a life; the others
-- are of the line of that call.
pub record BrokenOff (kept : Answers → Type 0) (count : ℕ) (h : History)
    (first last : Held) (log : VolLog) (begun : Option Halt) (cut : Option VolLine) : Type 0 where
  pub before : Answers
  pub rest : Answers
  pub all : kept (before ++ rest)
  pub life : IsLifeOf count h first before last log
  pub came : AreOfHalt begun cut rest

-- Lines were answered so since the device stood for this history: those before the last, and the
-- last.
pub record SaysLines {B : Type 0} (g : Ghosts B) (start : B) (h : History) (lines : List (List ℕ))
    (front reply : List ℕ) (shelf : Shelf B g) (halt : Option Halt) : Type 0 where
  pub first : Held
  pub begun : Option Halt
  pub begins : BeginsWith (g.block_count start) (after_all h) first begun
  pub log : VolLog
  pub last : Held
  pub cut : Option VolLine
  pub steps : LinesStep (g.block_count start) first begun lines front reply log last halt cut
  pub on : halt ≡ None → OnShelf g start (g.block_count start) h first shelf last log
  pub broken : (own : Halt) → halt ≡ Some own
      → BrokenOff (g.kept start (device_in shelf)) (g.block_count start) h first last log begun cut

-- Lines have answers of such a form, each by what the one before has left: by the events that the
-- device kept for it and by the table of the volumes, and by its halt as soon as it has one.
pub data KeepsLines {B : Type 0} (g : Ghosts B) (start : B) : List (List ℕ)
    → List ℕ → List ℕ → Shelf B g → Type 0 where
  none_yet : (shelf : Shelf B g) → KeepsReply g.kept (λ made. AreFirstReads (g.block_count start)
      (g.halted (device_in shelf)) made (table_in shelf)) start (device_in shelf)
      → KeepsLines g start [] [] [] shelf
  one_more : (lines : List (List ℕ)) (line front reply said : List ℕ) (asked : VolLine) (old new
      : Shelf B g) → KeepsLines g start lines front reply old → g.halted (device_in old) ≡ None
      → AsksVolumes line asked → KeepsReply g.kept (λ made. IsReplyToLine (g.block_count start)
      (table_in old) asked said made (table_in new)) (device_in old) (device_in new)
      → g.halted (device_in new) ≡ None
      → KeepsLines g start (lines ++ line ∷ []) (front ++ reply) (said ++ codes "\n") new
  halting : (lines : List (List ℕ))
      (line front reply : List ℕ) (asked : VolLine) (halt : Halt) (old new : Shelf B g)
      → KeepsLines g start lines front reply old → g.halted (device_in old) ≡ None
      → AsksVolumes line asked → (asked ≡ bad → ⊥) → (asked ≡ list → ⊥)
      → KeepsMore g.kept g.tells (IsEventOf asked) (device_in old) (device_in new)
      → g.halted (device_in new) ≡ Some halt
      → KeepsLines g start (lines ++ line ∷ []) (front ++ reply) (halt_text halt ++ codes "\n") new
  later : (lines : List (List ℕ)) (line front reply : List ℕ) (asked : VolLine)
      (halt : Halt) (shelf : Shelf B g) → KeepsLines g start lines front reply shelf
      → g.halted (device_in shelf) ≡ Some halt → AsksVolumes line asked → KeepsLines g start
      (lines ++ line ∷ []) (front ++ reply) (halted_text halt asked ++ codes "\n") shelf

-- Lines were answered since the device was so.
pub record RunsLines {B : Type 0} (g : Ghosts B) (start : B) (lines : List (List ℕ))
    (front reply : List ℕ) (shelf : Shelf B g) (halt : Option Halt) : Type 0 where
  pub going : halt ≡ None → IsGoing shelf
  pub went : DeviceGoesOn g.block_count g.halts g.halted g.tells start (device_in shelf)
  pub keeps : KeepsOn g.kept start (device_in shelf)
  pub form : g.halted start ≡ None → KeepsLines g start lines front reply shelf
  pub halted : g.halted start ≡ None → g.halted (device_in shelf) ≡ halt
  pub says : (h : History) → g.stands start h
      → IsTrue (g.tells (device_in shelf)) → SaysLines g start h lines front reply shelf halt

-- One line more is answered.
abbrev pub RunsOn : {B : Type 0} (g : Ghosts B)
    → (old new : Shelf B g) → (halt_old halt_new : Option Halt) → VolLine → List ℕ → Type 0
RunsOn {B} g old new halt_old halt_new asked said =
    (start : B) (lines : List (List ℕ)) (line front reply : List ℕ)
    → AsksVolumes line asked → RunsLines g start lines front reply old halt_old
    → RunsLines g start (lines ++ line ∷ []) (front ++ reply) said new halt_new
