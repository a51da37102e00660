use Rattle.std.proofs.Common.{ℕ}
use Rattle.paraid_volume.specs.Names.{IsFieldAt}
use Rattle.paraid_volume.specs.TableBlocks.{in_table}
use Rattle.paraid_volume.specs.Tables.{name_in}
use Rattle.paraid_volume.proofs.Steps.{below_more}
use Rattle.paraid_volume.proofs.table.Table.is_field.Goals as goal

pub loop-at-preserved : goal.loop-at-preserved
loop-at-preserved c =
    below_more (λ (k : ℕ). IsFieldAt (name_in (in_table c.args.self.now) c.args.id) k) c.loop-at.at c.loop-at.invariant
    (c.is_field_at.ensures.0 c.if-not-is_field_at.false)
