-- How a command ends over a rack whose writes are gathered.
use Rattle.std.specs.Prelude.{◌≡◌, ℕ, List, length, Option, Some, None}
use Rattle.paraid_gather.specs.Above.{slots_above}
use Rattle.paraid_gather.specs.Finish.{EndsGathered, WritesSlotOut}
use Rattle.paraid_gather.specs.Waiting.{Waiting}
use Rattle.paraid_imgrack.specs.declared.rack.ImageRack.{ImageRack}
use Rattle.paraid_imgrack.specs.Images.{image_slot_at}
use Rattle.paraid_imgrack.specs.Looks.{images_of}
use Rattle.paraid_program.specs.CommandCompletes.{CompletesCommand}
use Rattle.paraid_program.specs.CommandDoes.{DoesCommand}
use Rattle.paraid_rack.specs.Slots.{Slot}
use Rattle.paraid_rack.specs.Trail.{Trail}
use Rattle.paraid_serve.specs.Ending.{EndsWithLine}
use Rattle.paraid_serve.specs.Statuses.{status_words}
use Rattle.paraid_serve.specs.Streams.{EndsAtFaults}
use Rattle.paraid_serve.specs.Uses.{RackUse, SinkUse, SourceUse}
use Rattle.paraid_words.specs.declared.command.Command.{Command}
use Rattle.paraid_words.specs.Reads.{ReadsSource}
use Rattle.paraid_words.specs.Words.{usage_line}

-- The slots of a rack below, once all that waited in the rack above is written out: each is left as
-- the rack above had it, or a block waited for it and its disk is lost.
pub record AreLeftBelow (above after : ℕ → Slot) : Type 0 where
  pub below : ℕ → Slot
  pub waiting : ℕ → Waiting
  pub shown : (d : ℕ) → above d ≡ slots_above below waiting d
  pub left : (d : ℕ) → WritesSlotOut (below d) (waiting d) (after d)

-- A command was done with a rack that had these slots and the record `begun`, with this source and
-- this sink, and ended with this status. Its writes were gathered: the rack below has the slots
-- `after` then and tells `ended`, and `noted` is what was noted of the calls. No fault of a stream
-- is left untold.
pub record EndsCommand (slots : ℕ) (slot after : ℕ → Slot) (begun ended noted : Option Trail)
    (source : SourceUse) (sink : SinkUse) (c : Command) (status : ℕ) : Type 0 where
  pub rack : RackUse
  pub count : rack.slots ≡ slots
  pub before : (d : ℕ) → rack.old d ≡ slot d
  pub told : rack.before ≡ begun
  pub gathered : (below log : Trail)
      → ended ≡ Some below → noted ≡ Some log → EndsGathered rack.after below log
  pub does : DoesCommand rack source sink status c
  pub complete : CompletesCommand rack source sink status c
  pub left : AreLeftBelow rack.new after
  pub unhurt : EndsAtFaults source sink status

-- There are a source, a sink and slots with which a command was done so over a rack of image files,
-- which tells its slots alone, from the source and the sink as they were given. A source that the
-- command does not read is the one that was given. That these are the streams and slots that are
-- left, no clause says: they are shut where the command ends, and what is shut changes no more.
pub record EndsOverImages {S K F : Type 0} (heard : S → SourceUse)
    (said : K → SinkUse) (given : S) (rack : ImageRack F) (c : Command) (status : ℕ) : Type 0 where
  pub source : S
  pub sink : K
  pub after : ℕ → Slot
  pub ends : EndsCommand (length (images_of rack))
      (image_slot_at (images_of rack)) after None None None (heard source) (said sink) c status
  pub unread : (ReadsSource c → ⊥) → source ≡ given

-- There is a sink to which the line was written that says which words there are, and the status is
-- 2; or a first part of it, and the status is 4.
abbrev pub EndsWithUsage : {K : Type 0} → (K → Option (List ℕ)) → K → ℕ → Type 0
EndsWithUsage {K} written old status =
    (new : K) × EndsWithLine (written old) (written new) usage_line status_words status
