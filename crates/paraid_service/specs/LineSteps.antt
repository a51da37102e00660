-- A line as a step of the life of volumes.
use Rattle.std.specs.Prelude.{◌≡◌, ℕ, ◌++◌, ◌∷◌, [], List, length, Option, Some, None, IsTrue, codes}
use Rattle.paraid_base.specs.declared.event.Answer.TheVariants.{Flushed}
use Rattle.paraid_base.specs.declared.event.Event.TheVariants.{Flush}
use Rattle.paraid_base.specs.declared.fault.Halt.{Halt}
use Rattle.paraid_base.specs.BlockAnswers.{Answers}
use Rattle.paraid_base.specs.History.{History}
use Rattle.paraid_blocks.specs.declared.blocks.Blocks.{Ghosts}
use Rattle.paraid_trace.specs.Replies.{halt_text}
use Rattle.paraid_volume.specs.declared.volumes.Volumes.{Volumes}
use Rattle.paraid_volume.specs.Device.{DeviceGoesOn, DeviceHolds, KeepsMore, SinceHistory}
use Rattle.paraid_volume.specs.Lives.{HasLived, VolLog}
use Rattle.paraid_volume.specs.Values.{VolumesStandFor, device_of, halted_of, volume_table}
use Rattle.paraid_volume_lines.specs.Grammar.{VolLine, bad, flush, list}
use Rattle.paraid_service.specs.VolumeForms.{IsReplyToLine}
use Rattle.paraid_service.specs.VolumeLines.{IsEventOf, LineStep}

-- The line was answered with this text, from the state of the life so far, which goes on by the
-- calls of the line.
pub record AnswersLine (old new : History → Type 0) (count start : ℕ) (log : VolLog)
    (lived : HasLived old count start log) (line : VolLine) (text : List ℕ) : Type 0 where
  pub more : VolLog
  pub all : HasLived new count start (log ++ more)
  pub step : LineStep count (Some lived.state) line text more (Some all.state)

-- The events that were kept are kept, and more, of which this holds.
pub record KeepsReply {B : Type 0}
    (kept : B → B → Answers → Type 0) (reply : Answers → Type 0) (old new : B) : Type 0 where
  pub grows : (first : B) (events : Answers)
      → kept first old events → (more : Answers) × kept first new (events ++ more) × reply more

-- All was kept: the device kept a flush, which was answered with the number of writes.
pub record KeepsFlush {B : Type 0} (g : Ghosts B) (old new : Volumes B g) : Type 0 where
  pub number : ℕ
  pub kept : (first : B) (events : Answers) → g.kept first (device_of old) events
      → g.kept first (device_of new) (events ++ (Flush, Flushed number) ∷ [])
  pub counts : (h : History)
      → VolumesStandFor g.stands old h → IsTrue (g.tells (device_of new)) → number ≡ length h
  pub stands : (h : History) → VolumesStandFor g.stands old h
      → IsTrue (g.tells (device_of new)) → VolumesStandFor g.stands new h

-- Volumes answered a line so, by the events that they kept for it, and by their table.
abbrev pub RepliesHeld : {B : Type 0} (g : Ghosts B)
    → (old new : Volumes B g) → VolLine → List ℕ → Type 0
RepliesHeld g old new line said =
    KeepsReply g.kept (λ made. IsReplyToLine (g.block_count (device_of old)) (Some
    (volume_table old)) line said made (Some (volume_table new))) (device_of old) (device_of new)

-- Volumes answered a line, by its text with a newline: by a step of their life, or by a halt, which
-- came of it.
pub record ServesHeld {B : Type 0} (g : Ghosts B)
    (old new : Volumes B g) (line : VolLine) (text : List ℕ) (halt : Option Halt) : Type 0 where
  pub halted : halted_of new ≡ halt
  pub went : DeviceGoesOn g.block_count g.halts g.halted g.tells (device_of old) (device_of new)
  pub keeps : KeepsMore g.kept g.tells (IsEventOf line) (device_of old) (device_of new)
  pub said : List ℕ
  pub printed : text ≡ said ++ codes "\n"
  pub step : halt ≡ None → (from : SinceHistory B) (start : ℕ) (log : VolLog)
      → (lived : HasLived (VolumesStandFor (DeviceHolds g.stands g.kept from) old)
      (g.block_count (device_of old)) start log) → IsTrue (g.tells (device_of new))
      → AnswersLine (VolumesStandFor (DeviceHolds g.stands g.kept from) old)
      (VolumesStandFor (DeviceHolds g.stands g.kept from) new)
      (g.block_count (device_of old)) start log lived line said
  pub reply : halt ≡ None → RepliesHeld g old new line said
  pub flushes : halt ≡ None → line ≡ flush → KeepsFlush g old new × (said ≡ codes "flushed")
  pub halts : (own : Halt)
      → halt ≡ Some own → (said ≡ halt_text own) × (line ≡ bad → ⊥) × (line ≡ list → ⊥)
