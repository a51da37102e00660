use Rattle.paraid_schedule.proofs.NumberLemmas.{top_low, periods_fit, number_fits, row_fits, row_small, row_start-is}
use Rattle.paraid_schedule.proofs.RoomLemmas.{ups_fit}
use Rattle.paraid_schedule.proofs.check.row.Goals as goal

pub rank-requires : goal.rank-requires
rank-requires c = top_low _ c.args.geometry.now.disks_high

pub overflow_mul-result : goal.overflow_mul-result
overflow_mul-result c = periods_fit _ _ _ c.args.geometry.now.disks_high c.rank.ensures.few c.requires.period

pub rank-requires-2 : goal.rank-requires-2
rank-requires-2 c = c.requires.gear

pub overflow_add-result : goal.overflow_add-result
overflow_add-result c = number_fits _ _ _ c.args.geometry.now.disks_high c.rank.ensures.few c.requires.period _ _ c.rank-2.ensures.few c.requires.gear

pub overflow_add-result-2 : goal.overflow_add-result-2
overflow_add-result-2 c = ups_fit c.args.ups c.requires.ups

pub overflow_mul-result-2 : goal.overflow_mul-result-2
overflow_mul-result-2 c = row_fits _ _ _ c.args.geometry.now.disks_high c.rank.ensures.few c.requires.period _ _ c.rank-2.ensures.few c.requires.gear _ c.requires.ups

pub returns : goal.returns
returns c = record {
  value = row_start-is c.args.geometry.now c.args.ups c.args.t c.args.a c.rank.result c.rank-2.result c.rank.ensures.value c.rank-2.ensures.value;
  small = row_small _ _ _ c.args.geometry.now.disks_high c.rank.ensures.few c.requires.period _ _ c.rank-2.ensures.few c.requires.gear _ c.requires.ups;
}
