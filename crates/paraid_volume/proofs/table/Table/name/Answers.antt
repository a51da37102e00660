use Rattle.std.proofs.Common.{arith, sym, slice_index}
use Rattle.paraid_volume.specs.TableBlocks.{in_table}
use Rattle.paraid_volume.specs.Tables.{name_in}
use Rattle.paraid_volume.proofs.ExtentLemmas.{field_same}
use Rattle.paraid_volume.proofs.table.Table.name.Goals as goal

pub from_field-requires-clause-field : goal.from_field-requires-clause-field
from_field-requires-clause-field c =
    let past = c.loop-at-test.false in
    field_same (name_in (in_table c.args.self.now) c.args.id) (slice_index c.loop-at.text) (λ k l. sym (c.loop-at.invariant.1 k (omega (arith, past, l)))) c.requires.field
