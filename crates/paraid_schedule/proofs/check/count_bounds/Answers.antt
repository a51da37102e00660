use Rattle.paraid_schedule.proofs.NumberLemmas.{top_low, counts_fit, count_fits, bound_count-is}
use Rattle.paraid_schedule.proofs.RoomLemmas.{ups_fit}
use Rattle.paraid_schedule.proofs.check.count_bounds.Goals as goal

pub rank-requires : goal.rank-requires
rank-requires c = top_low _ c.args.geometry.now.disks_high

pub overflow_mul-result : goal.overflow_mul-result
overflow_mul-result c = counts_fit _ _ _ c.args.geometry.now.disks_high c.rank.ensures.few c.requires.periods

pub overflow_add-result-2 : goal.overflow_add-result-2
overflow_add-result-2 c = ups_fit c.args.ups c.requires.ups

pub overflow_mul-result-2 : goal.overflow_mul-result-2
overflow_mul-result-2 c = count_fits _ _ _ c.args.geometry.now.disks_high c.rank.ensures.few c.requires.periods _ c.requires.ups

pub returns : goal.returns
returns c = bound_count-is c.args.geometry.now c.args.ups c.args.periods c.rank.result c.rank.ensures.value
