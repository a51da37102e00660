-- What a line asks for, as a function.
use Rattle.std.specs.Prelude.{ℕ, ◌+◌, ◌&&◌, nat_le, if◌then◌else◌, Bool, List, length, take, drop, Option, Some, None, codes}
use Rattle.std.specs.List.{list_all, position}
use Rattle.std.specs.Str.{bytes_eq}
use Rattle.paraid_base.specs.declared.block.Block.{Block}
use Rattle.paraid_trace.specs.LineEvents.{block_from_digits, is_space, number_of}
use Rattle.paraid_volume.specs.Names.{is_letter}
use Rattle.paraid_volume_lines.specs.Grammar.{VolLine, bad, create, delete, flush, init, list, read, write}

-- whether these bytes are a name
unfoldable pub is_name : List ℕ → Bool
is_name bytes = (nat_le 1 (length bytes) && nat_le (length bytes) 16) && list_all is_letter bytes

-- a line of one word
abbrev pub bare_line : List ℕ → VolLine
bare_line word =
    if bytes_eq word (codes "init") then init
    else if bytes_eq word (codes "f") then flush
    else if bytes_eq word (codes "list") then list
    else bad

-- what a creation with a name asks for, where its number is read
abbrev pub create_with : List ℕ → Option ℕ → VolLine
create_with name (Some extents) = create name extents
create_with name None = bad

-- what a read of a name asks for, where its number is read
abbrev pub read_with : List ℕ → Option ℕ → VolLine
read_with name (Some block) = read name block
read_with name None = bad

-- what a write to a name asks for, where its number and its block are read
abbrev pub write_with : List ℕ → Option (ℕ × Block) → VolLine
write_with name (Some pair) = write name pair.0 pair.1
write_with name None = bad

-- a number and a block, where both are read
abbrev pub pair_with : Option ℕ → Option Block → Option (ℕ × Block)
pair_with (Some block) (Some bytes) = Some (block, bytes)
pair_with (Some block) None = None
pair_with None bytes = None

-- a number that ends at place `at`, and the digits of a block from there to the end
abbrev pub pair_at : Option ℕ → List ℕ → Option (ℕ × Block)
pair_at (Some at) text =
    pair_with (number_of (take at text)) (block_from_digits (drop (at + 1) text))
pair_at None text = None

-- what a deletion asks for, where these bytes are a name
abbrev pub deletes : List ℕ → VolLine
deletes name = if is_name name then delete name else bad

-- a word and the name behind it
abbrev pub delete_of : List ℕ → List ℕ → VolLine
delete_of word name = if bytes_eq word (codes "delete") then deletes name else bad

-- a creation, if this is its word
abbrev pub create_line : List ℕ → List ℕ → List ℕ → VolLine
create_line word name rest =
    if bytes_eq word (codes "create") then create_with name (number_of rest) else bad

-- what a word asks for with a name and what follows the space behind it
abbrev pub asked_of : List ℕ → List ℕ → List ℕ → VolLine
asked_of word name rest =
    if bytes_eq word (codes "r") then read_with name (number_of rest)
    else if bytes_eq word (codes "w") then write_with name (pair_at (position is_space rest) rest)
    else create_line word name rest

-- a word, what is to be a name, and what follows the space behind it
abbrev pub named_line : List ℕ → List ℕ → List ℕ → VolLine
named_line word name rest = if is_name name then asked_of word name rest else bad

-- a word and what follows its space, which is cut at its own first space
abbrev pub named_at : List ℕ → Option ℕ → List ℕ → VolLine
named_at word (Some at) rest = named_line word (take at rest) (drop (at + 1) rest)
named_at word None rest = delete_of word rest

-- a line that is cut at its first space
abbrev pub line_at : Option ℕ → List ℕ → VolLine
line_at (Some at) line =
    named_at (take at line) (position is_space (drop (at + 1) line)) (drop (at + 1) line)
line_at None line = bare_line line

-- what a line asks for
unfoldable pub line_of : List ℕ → VolLine
line_of line = line_at (position is_space line) line
