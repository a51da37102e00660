-- The event of a line, as a function
use Rattle.std.specs.Prelude.{ℕ, ◌+◌, ◌^◌, ◌==◌, ◌&&◌, nat_le, nat_lt, if◌then◌else◌, Bool, List, [], ◌∷◌, length, take, drop, Option, Some, None, Result, Ok, Err, codes, decimal}
use Rattle.std.specs.List.{position, position_or_len}
use Rattle.std.proofs.Common.{zero, suc}
use Rattle.std.specs.Str.{bytes_eq}
use Rattle.std.specs.Str.Parse.{digits_value}
use Rattle.hex.specs.Hex.{decode_of}
use Rattle.hex.specs.declared.error.FromHexError.{FromHexError}
use Rattle.paraid_base.specs.declared.block.Block.{Block}
use Rattle.paraid_base.specs.declared.event.Event.{Event}
use Rattle.paraid_base.specs.declared.event.Event.TheVariants.{Read, Write, Flush, Tick, Up, Down, Fail, Replace, State, Energy, Bad}
use Rattle.paraid_base.specs.History.{Entry}
use Rattle.paraid_base.specs.Pairs.{pairs_with}
use Rattle.paraid_trace.specs.Repeats.{repeating_block}

-- the number below 2^32 that is printed as these digits
unfoldable pub number_of : List ℕ → Option ℕ
number_of digits =
    if nat_lt (digits_value 10 digits)
    (2 ^ 32) && bytes_eq digits (decimal (digits_value 10 digits))
    then Some (digits_value 10 digits) else None

-- a block from digits that are hexadecimal
abbrev pub repeated_if_ok : Result (List ℕ) FromHexError → Option Block
repeated_if_ok (Ok pattern) = Some (repeating_block pattern)
repeated_if_ok (Err e) = None

-- the block of 2 to 1,024 hexadecimal digits
unfoldable pub block_from_digits : List ℕ → Option Block
block_from_digits digits =
    if nat_le 2 (length digits) && nat_le (length digits) 1024
    then repeated_if_ok (decode_of digits) else None

-- the event of a line of one word
abbrev pub word_event : List ℕ → Event
word_event word =
    if bytes_eq word (codes "f") then Flush
    else if bytes_eq word (codes "t") then Tick
    else if bytes_eq word (codes "up") then Up
    else if bytes_eq word (codes "down") then Down
    else if bytes_eq word (codes "s") then State
    else if bytes_eq word (codes "e") then Energy
    else Bad

-- a read of a number, if it is one
abbrev pub read_of : Option ℕ → Event
read_of (Some block) = Read block
read_of None = Bad

-- a failure of a number, if it is one
abbrev pub fail_of : Option ℕ → Event
fail_of (Some disk) = Fail disk
fail_of None = Bad

-- a replacement of a number, if it is one
abbrev pub replace_of : Option ℕ → Event
replace_of (Some disk) = Replace disk
replace_of None = Bad

-- whether a byte is a space
abbrev pub is_space : ℕ → Bool
is_space c = c == 32

-- the first group of a text: its pair, and the place behind its digits
pub record Group : Type 0 where
  pub block : ℕ
  pub bytes : Block
  pub end : ℕ

-- a group of a block, its bytes and its end, if all are there
abbrev pub group_with : Option ℕ → Option Block → ℕ → Option Group
group_with (Some block) (Some bytes) end = Some (record { block = block; bytes = bytes; end = end })
group_with (Some block) None end = None
group_with None bytes end = None

-- the group of a number that ends at place `at` and of the digits from there to the next space
abbrev pub group_at : Option ℕ → List ℕ → Option Group
group_at (Some at) text =
    group_with (number_of (take at text))
    (block_from_digits (take (position_or_len is_space (drop (at + 1) text)) (drop (at + 1) text)))
    (at + 1 + position_or_len is_space (drop (at + 1) text))
group_at None text = None

-- the first group of a text, if it begins with one
unfoldable pub group_of : List ℕ → Option Group
group_of text = group_at (position is_space text) text

-- a pair before others
abbrev pub onto : ℕ × Block → Option Entry → Option Entry
onto pair (Some pairs) = Some (pair ∷ pairs)
onto pair None = None

-- what follows the digits that end at a place: nothing, or a space and further groups
abbrev pub rest_at : (List ℕ → Option Entry) → List ℕ → ℕ → Option Entry
rest_at others text end = if nat_lt end (length text) then others (drop (end + 1) text) else Some []

-- the groups of a text as an entry, from its first group on
abbrev pub entry_from : (List ℕ → Option Entry) → List ℕ → Option Group → Option Entry
entry_from others text (Some group) =
    onto (group.block, group.bytes) (rest_at others text group.end)
entry_from others text None = None

-- the pairs of a text of one to `room` groups
unfoldable pub entry_of : ℕ → List ℕ → Option Entry
entry_of zero text = None
entry_of (suc room) text = entry_from (entry_of room) text (group_of text)

-- a write of a number and a block, if they are
abbrev pub write_of : Option Entry → Event
write_of (Some entry) = Write (pairs_with entry)
write_of None = Bad

-- a line that begins with `replace`
abbrev pub replace_event : List ℕ → List ℕ → Event
replace_event word rest =
    if bytes_eq word (codes "replace") then replace_of (number_of rest) else Bad

-- the event of a first word and what follows its space
abbrev pub named_event : List ℕ → List ℕ → Event
named_event word rest =
    if bytes_eq word (codes "r") then read_of (number_of rest)
    else if bytes_eq word (codes "w") then write_of (entry_of 8 rest)
    else if bytes_eq word (codes "fail") then fail_of (number_of rest)
    else replace_event word rest

-- the event of a line whose first space is here
abbrev pub event_at : Option ℕ → List ℕ → Event
event_at (Some at) line = named_event (take at line) (drop (at + 1) line)
event_at None line = word_event line

-- the event of a line of at most 1,100 bytes, which is cut at its first space
unfoldable pub event_of : List ℕ → Event
event_of line = if nat_lt 1100 (length line) then Bad else event_at (position is_space line) line
