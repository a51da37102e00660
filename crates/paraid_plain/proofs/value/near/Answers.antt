use Rattle.std.proofs.Common.{sym, ◌∙◌}
use Rattle.paraid_image.specs.Spot.{is_hard}
use Rattle.paraid_image.proofs.ViewLemmas.{not_below}
use Rattle.paraid_plain.proofs.value.near.Goals as goal

pub soft_value-requires-clause-parked : goal.soft_value-requires-clause-parked
unfolding is_hard
soft_value-requires-clause-parked c = not_below c.args.disk c.args.says.now.meta.gear _ (sym c.is_hard.ensures ∙ c.if-is_hard.false)
