use Rattle.std.proofs.Common.{ℕ, ◌∙◌, ap, arith}
use Rattle.paraid_base.specs.declared.block.Block.{Block}
use Rattle.paraid_volume.specs.TableBlocks.{in_table}
use Rattle.paraid_volume.specs.Tables.{extent_size, head_bytes}
use Rattle.paraid_volume.proofs.ChangeLemmas.{empty_table}
use Rattle.paraid_volume.proofs.table.Table.empty.Goals as goal

pub returns-clause-table : goal.returns-clause-table
returns-clause-table c =
    empty_table c.args.count (in_table c.put.new.self) c.requires
    (ap (λ (x : Block). x.bytes) c.put.ensures.here ∙ c.head.ensures ∙ ap (λ (n : ℕ). head_bytes n c.extent_count.result) c.extent_size.ensures.value
    ∙ ap (λ (n : ℕ). head_bytes (extent_size c.args.count) n) c.extent_count.ensures.value)
    (λ k low high. c.put.ensures.rest k (λ z. let no : ⊥ = omega (arith, z, low) in absurd no) ∙ c.zero-table.ensures k)
