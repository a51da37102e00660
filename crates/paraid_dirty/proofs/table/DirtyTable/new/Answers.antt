use Rattle.std.proofs.Common.{arith}
use Rattle.paraid_dirty.proofs.TableLemmas.{new_clean, new_table, rows_length}
use Rattle.paraid_dirty.proofs.table.DirtyTable.new.Goals as goal

pub invariant_of-result : goal.invariant_of-result
invariant_of-result c =
    let count = c.div_ceil-count.ensures in
    let sets = c.div_ceil.ensures in
    new_table c.in-Ok.words.items c.in-Ok-vec.marks.items c.div_ceil-count.result c.div_ceil.result c.args.rows
    (c.in-Ok.ensures.items_if_clones_equal (λ y same. same)) (c.in-Ok-vec.ensures.items_if_clones_equal (λ y same. same))
    c.requires (omega arith) (omega arith) (omega arith) (omega arith)

pub returns-clause-rows : goal.returns-clause-rows
returns-clause-rows c = rows_length c.in-Ok.words.items c.args.rows

pub returns-clause-clean : goal.returns-clause-clean
returns-clause-clean c =
    new_clean c.in-Ok.words.items c.in-Ok-vec.marks.items c.div_ceil-count.result c.args.rows (c.in-Ok.ensures.items_if_clones_equal (λ y same. same)) (invariant_of-result c)
