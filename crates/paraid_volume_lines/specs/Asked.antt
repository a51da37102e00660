-- What is asked for, with the bytes that stand beside it.
use Rattle.std.specs.Prelude.{ℕ, Option, Some, None}
use Rattle.paraid_base.specs.declared.block.Block.{Block}
use Rattle.paraid_volume_lines.specs.declared.asked.VolAsked.{VolAsked}
use Rattle.paraid_volume_lines.specs.declared.asked.VolAsked.TheVariants.{Init as AskInit, Create as AskCreate, Delete as AskDelete, Read as AskRead, Write as AskWrite, Flush as AskFlush, List as AskList, Bad as AskBad}
use Rattle.paraid_volume_lines.specs.Grammar.{VolLine, bad, create, delete, flush, init, list, read, write}
use Rattle.paraid_volume_lines.specs.NameWords.{word_of}

-- the task of what is asked for, where these bytes stand beside it
abbrev pub line_with : VolAsked → Block → VolLine
line_with AskInit bytes = init
line_with (AskCreate name extents) bytes = create (word_of name) extents
line_with (AskDelete name) bytes = delete (word_of name)
line_with (AskRead name block) bytes = read (word_of name) block
line_with (AskWrite name block) bytes = write (word_of name) block bytes
line_with AskFlush bytes = flush
line_with AskList bytes = list
line_with AskBad bytes = bad

-- the number of a block whose bytes stand beside it
abbrev pub pair_in : Option ℕ → Block → Option (ℕ × Block)
pair_in (Some block) bytes = Some (block, bytes)
pair_in None bytes = None
