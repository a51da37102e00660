use Rattle.std.proofs.Common.{arith, sym, ◌∙◌}
use Rattle.paraid_schedule.proofs.RowLemmas.{row_start-end}
use Rattle.paraid_schedule.proofs.check.end_at_zero.Goals as goal

pub are_all-requires : goal.are_all-requires
are_all-requires c =
    omega (arith, c.row.ensures.value, row_start-end c.args.geometry.now c.args.ups c.args.periods c.args.periods c.loop-a.a (sym c.is_gear.ensures ∙ c.if-is_gear.true) (omega arith))
