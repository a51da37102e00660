use Rattle.paraid_schedule.proofs.NumberLemmas.{top_low, periods_fit, number_fits, row_fits, row_small, row_start-is}
use Rattle.paraid_schedule.proofs.RoomLemmas.{ups_fit}
use Rattle.paraid_schedule.proofs.planner.place.Goals as goal

pub gears_below-gears-requires : goal.gears_below-gears-requires
gears_below-gears-requires c = top_low _ c.args.geometry.now.disks_high

pub overflow_mul-result : goal.overflow_mul-result
overflow_mul-result c = periods_fit _ _ _ c.args.geometry.now.disks_high c.gears_below-gears.ensures.few c.requires.period

pub gears_below-requires : goal.gears_below-requires
gears_below-requires c = c.requires.gear

pub overflow_add-result : goal.overflow_add-result
overflow_add-result c =
    number_fits _ _ _ c.args.geometry.now.disks_high c.gears_below-gears.ensures.few c.requires.period _ _ c.gears_below.ensures.few c.requires.gear

pub overflow_add-result-2 : goal.overflow_add-result-2
overflow_add-result-2 c = ups_fit c.args.ups c.requires.ups

pub overflow_mul-result-2 : goal.overflow_mul-result-2
overflow_mul-result-2 c =
    row_fits _ _ _ c.args.geometry.now.disks_high c.gears_below-gears.ensures.few c.requires.period _ _ c.gears_below.ensures.few c.requires.gear _ c.requires.ups

pub returns : goal.returns
returns c = record {
  value =
      row_start-is c.args.geometry.now c.args.ups c.args.t c.args.a c.gears_below-gears.result c.gears_below.result
      c.gears_below-gears.ensures.value c.gears_below.ensures.value;
  small = row_small _ _ _ c.args.geometry.now.disks_high c.gears_below-gears.ensures.few c.requires.period _ _ c.gears_below.ensures.few c.requires.gear _ c.requires.ups;
}
