-- The grammar of requests, and how each is answered
use Rattle.std.specs.Prelude.{◌≡◌, ◌≢◌, ℕ, ◌+◌, ◌<◌, ◌==◌, nat_lt, ◌||◌, if◌then◌else◌, List, ◌++◌, length, drop}
use Rattle.paraid_nbd.specs.declared.request.Command.{Command}
use Rattle.paraid_nbd.specs.declared.request.Command.TheVariants.{Read, Write, Disconnect, Flush, Unknown}
use Rattle.paraid_nbd.specs.declared.request.Outcome.{Outcome}
use Rattle.paraid_nbd.specs.declared.request.Outcome.TheVariants.{Done, Halted, Invalid, NoSpace}
use Rattle.paraid_nbd.specs.declared.request.Request.{Request}
use Rattle.paraid_nbd.specs.Numbers.{number_bytes, number}

-- the number before a request, its 24 bytes, and the bytes to write
pub record RequestParts : Type 0 where
  pub magic : List ℕ
  pub head : List ℕ
  pub content : List ℕ

-- a request as it is sent
abbrev pub request_bytes : RequestParts → List ℕ
request_bytes p = p.magic ++ (p.head ++ p.content)

-- the command of this number
abbrev pub command_in : ℕ → Command
command_in n = if n == 0 then Read
    else if n == 1 then Write else if n == 2 then Disconnect else if n == 3 then Flush else Unknown

-- what the 24 bytes of a request say
unfoldable pub request_in : List ℕ → Request
request_in head = record {
  flags = number 2 head;
  command = command_in (number 2 (drop 2 head));
  cookie = number 8 (drop 4 head);
  offset = number 8 (drop 12 head);
  length = number 4 (drop 20 head);
}

-- how a command is answered by a device of so many bytes
abbrev pub command_outcome : ℕ → Command → ℕ → ℕ → Outcome
command_outcome size Read offset count =
    if nat_lt 33554432 count || nat_lt size (offset + count) then Invalid else Done
command_outcome size Write offset count = if nat_lt 33554432 count
    then Invalid else if nat_lt size (offset + count) then NoSpace else Done
command_outcome size Disconnect offset count = Done
command_outcome size Flush offset count = Done
command_outcome size Unknown offset count = Invalid

-- how a request is answered by a device of so many bytes that does not halt
abbrev pub outcome_of : ℕ → Request → Outcome
outcome_of size r =
    if r.flags == 0 then command_outcome size r.command r.offset r.length else Invalid

-- the number of an outcome in a reply
abbrev pub error_of : Outcome → ℕ
error_of Done = 0
error_of Halted = 5
error_of Invalid = 22
error_of NoSpace = 28

-- a reply up to the bytes of a read
abbrev pub reply_head : Request → Outcome → List ℕ
reply_head r outcome =
    number_bytes 4 0x67446698 ++ (number_bytes 4 (error_of outcome) ++ number_bytes 8 r.cookie)

-- the number before a request
abbrev pub IsRequestMagic : List ℕ → Type 0
IsRequestMagic magic = (length magic ≡ 4) × (number 4 magic ≡ 0x25609513)

-- how many bytes follow a request
abbrev pub content_length : Command → ℕ → ℕ
content_length Read count = 0
content_length Write count = count
content_length Disconnect count = 0
content_length Flush count = 0
content_length Unknown count = 0

-- a whole request that is not the last
pub record IsRequest (p : RequestParts) : Type 0 where
  pub magic : IsRequestMagic p.magic
  pub head : length p.head ≡ 24
  pub stays : (request_in p.head).command ≢ Disconnect
  pub content : length p.content
      ≡ content_length (request_in p.head).command (request_in p.head).length

-- less than a request, with nothing wrong in it
pub data IsPartRequest (rest : List ℕ) : Type 0 where
  InMagic : length rest < 4 → IsPartRequest rest
  InHead : (magic part : List ℕ)
      → rest ≡ magic ++ part → IsRequestMagic magic → length part < 24 → IsPartRequest rest
  InContent : (magic head part : List ℕ) → rest ≡ magic ++ (head ++ part)
      → IsRequestMagic magic → length head ≡ 24 → (request_in head).command ≢ Disconnect
      → length part < content_length (request_in head).command (request_in head).length
      → IsPartRequest rest

-- the client disconnects
pub record IsLast (rest : List ℕ) : Type 0 where
  pub magic : List ℕ
  pub head : List ℕ
  pub is : rest ≡ magic ++ head
  pub magic_is : IsRequestMagic magic
  pub whole : length head ≡ 24
  pub last : (request_in head).command ≡ Disconnect

-- what is left where no whole request stands at the front that another may follow
pub data IsRequestRest (rest : List ℕ) : Type 0 where
  Part : IsPartRequest rest → IsRequestRest rest
  Wrong : length rest ≡ 4 → number 4 rest ≢ 0x25609513 → IsRequestRest rest
  Last : IsLast rest → IsRequestRest rest
