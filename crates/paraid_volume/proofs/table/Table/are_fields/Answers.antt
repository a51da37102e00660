use Rattle.std.proofs.Common.{ℕ, ◌≤◌}
use Rattle.paraid_volume.specs.Names.{IsField}
use Rattle.paraid_volume.specs.TableBlocks.{in_table}
use Rattle.paraid_volume.specs.Tables.{name_in}
use Rattle.paraid_volume.proofs.Steps.{below_more}
use Rattle.paraid_volume.proofs.table.Table.are_fields.Goals as goal

pub loop-id-preserved : goal.loop-id-preserved
loop-id-preserved c = λ id low l.
    below_more (λ (i : ℕ). 1 ≤ i → IsField (name_in (in_table c.args.self.now) i)) c.loop-id.id (λ i below some. c.loop-id.invariant i some below)
    (λ some. c.is_field.ensures.0 c.if-not-is_field.false) id l low
