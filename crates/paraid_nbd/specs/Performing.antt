-- A request on the device, and what its reply says
use Rattle.std.specs.Prelude.{◌≡◌, ℕ, ◌≤◌, List, [], ◌++◌, length, take, Option}
use Rattle.paraid_base.specs.declared.fault.Halt.{Halt}
use Rattle.paraid_base.specs.BlockAnswers.{Answers}
use Rattle.paraid_base.specs.History.{History}
use Rattle.paraid_nbd.specs.declared.request.Command.{Command}
use Rattle.paraid_nbd.specs.declared.request.Command.TheVariants.{Read, Write, Disconnect, Flush, Unknown}
use Rattle.paraid_nbd.specs.declared.request.Outcome.{Outcome}
use Rattle.paraid_nbd.specs.declared.request.Outcome.TheVariants.{Done, Halted, Invalid, NoSpace}
use Rattle.paraid_nbd.specs.declared.request.Request.{Request}
use Rattle.paraid_nbd.specs.Requests.{content_length, reply_head, outcome_of}
use Rattle.paraid_nbd.specs.Export.{IsDeviceState, RequestStep}
use Rattle.paraid_nbd.specs.Taking.{Takes}

-- how much of the buffer a request is about
abbrev pub part_length : Command → Outcome → ℕ → ℕ
part_length Read Done count = count
part_length Read Halted count = 0
part_length Read Invalid count = 0
part_length Read NoSpace count = 0
part_length Write Done count = count
part_length Write Halted count = 0
part_length Write Invalid count = 0
part_length Write NoSpace count = 0
part_length Disconnect outcome count = 0
part_length Flush outcome count = 0
part_length Unknown outcome count = 0

-- the bytes that a read found follow the head of its reply
abbrev pub answer_content : Command → Outcome → List ℕ → List ℕ
answer_content Read Done content = content
answer_content Read Halted content = []
answer_content Read Invalid content = []
answer_content Read NoSpace content = []
answer_content Write outcome content = []
answer_content Disconnect outcome content = []
answer_content Flush outcome content = []
answer_content Unknown outcome content = []

-- the reply to a request, with the bytes that a read found
abbrev pub said_with : Request → Outcome → List ℕ → List ℕ
said_with r outcome content = reply_head r outcome ++ answer_content r.command outcome content

-- this is as much of the buffer as the request is about
abbrev pub Fills : Request → Outcome → List ℕ → Type 0
Fills r outcome content = length content ≡ part_length r.command outcome r.length

-- The bytes to write were taken, and stand in the buffer where they are to be written.
pub record TakesContent (before after : Option (List ℕ))
    (old new : ℕ) (r : Request) (outcome : Outcome) (n : ℕ) (buffer : List ℕ) : Type 0 where
  pub content : List ℕ
  pub whole : length content ≡ content_length r.command r.length
  pub takes : Takes before after old new content
  pub part : n ≡ part_length r.command outcome r.length
  pub within : n ≤ length buffer
  pub held : r.command ≡ Write → outcome ≡ Done → take n buffer ≡ content

-- A request was done: this is its step, whatever follows a request that is not written, and its
-- reply says `found`.
pub record Performs (size : ℕ) (stands : History → Type 0)
    (halted : Option Halt) (kept : Answers → Type 0) (s : Option History)
    (events : Answers) (r : Request) (content found : List ℕ) (outcome : Outcome) : Type 0 where
  pub new : Answers
  pub t : Option History
  pub now : IsDeviceState stands halted t
  pub kept_is : kept (events ++ new)
  pub step : (bytes : List ℕ) → (r.command ≡ Write → outcome_of size r ≡ Done → bytes ≡ content)
      → RequestStep size s r bytes (said_with r outcome found) new t
