-- The six blocks of a table in memory
use Rattle.std.specs.Prelude.{ℕ, get_or}
use Rattle.paraid_base.specs.declared.block.Block.{Block}
use Rattle.paraid_base.specs.Xor.{zero_block}
use Rattle.paraid_volume.specs.declared.table.Table.{Table}

-- block `b` of a table in memory
abbrev pub in_table : Table → ℕ → Block
in_table t b = get_or t.blocks b zero_block
