-- The writes that were accepted, and what a block holds after them.
use Rattle.std.specs.Prelude.{ℕ, ◌==◌, if◌then◌else◌, List, [], ◌∷◌, ◌++◌, length, take}
use Rattle.paraid_base.specs.declared.block.Block.{Block}
use Rattle.paraid_base.specs.Xor.{zero_block}

-- the pairs of one write: block numbers and bytes, the first pair first
abbrev pub Entry : Type 0
Entry = List (ℕ × Block)

-- the entry of each write, the first write first
abbrev pub History : Type 0
History = List Entry

-- the entries joined in order
abbrev pub joined_entries : History → Entry
joined_entries [] = []
joined_entries (entry ∷ entries) = entry ++ joined_entries entries

-- the bytes of the last pair that names block `b`, or these bytes where none does
abbrev pub last_of : ℕ → Block → Entry → Block
last_of b bytes [] = bytes
last_of b bytes (pair ∷ pairs) = last_of b (if pair.0 == b then pair.1 else bytes) pairs

-- block `b` after the first `k` writes: the last pair that names it, or zeros where none does
unfoldable pub after : History → ℕ → ℕ → Block
after h k b = last_of b zero_block (joined_entries (take k h))

-- block `b` after all writes
abbrev pub after_all : History → ℕ → Block
after_all h b = after h (length h) b
