use Rattle.paraid_schedule.proofs.RoomLemmas.{gear_low, period_low, period_next, period_fits, place_fits, cost_fits, at_within, row_within, next_within}
use Rattle.paraid_schedule.proofs.TestLemmas.{stay_is_met}
use Rattle.paraid_schedule.proofs.planner.stay_meets.Goals as goal

pub place-requires : goal.place-requires
place-requires c =
    let row = c.requires.row in
    record { ups = row.few; period = period_low c.args.t row.period; gear = gear_low c.args.setup.now.geometry c.args.a row.gear }

pub overflow_add-aim : goal.overflow_add-aim
overflow_add-aim c = place_fits c.place.result c.args.left c.args.ups c.place.ensures.small c.requires.left c.requires.row.few

pub bounds-bounds-place : goal.bounds-bounds-place
bounds-bounds-place c =
    at_within c.place.result c.args.left c.args.ups _ (row_within c.args.setup.now.geometry c.args.ups c.args.bounds.now c.args.t c.args.a c.requires.row c.place.result c.place.ensures.value) c.requires.left

pub overflow_add-t : goal.overflow_add-t
overflow_add-t c = period_fits c.args.t c.requires.row.period

pub place-requires-2 : goal.place-requires-2
place-requires-2 c =
    let row = c.requires.row in
    record { ups = row.few; period = period_next c.args.t row.period; gear = gear_low c.args.setup.now.geometry c.args.a row.gear }

pub overflow_add-next : goal.overflow_add-next
overflow_add-next c = place_fits c.place-2.result c.args.left c.args.ups c.place-2.ensures.small c.requires.left c.requires.row.few

pub bounds-bounds-place-2 : goal.bounds-bounds-place-2
bounds-bounds-place-2 c =
    at_within c.place-2.result c.args.left c.args.ups _
    (next_within c.args.setup.now.geometry c.args.ups c.args.bounds.now c.args.t c.args.a c.requires.row c.args.a c.place-2.result c.requires.row.gear c.place-2.ensures.value) c.requires.left

pub period_cost-requires : goal.period_cost-requires
period_cost-requires c = c.args.setup.now.geometry.gears_high c.args.a c.requires.row.gear

pub overflow_add-result : goal.overflow_add-result
overflow_add-result c = cost_fits _ _ c.period_cost.ensures.small (c.requires.row.most _)

pub returns : goal.returns
returns c =
    stay_is_met c.args.setup.now c.args.ups c.args.bounds.now c.args.t c.args.a c.args.left c.place.result c.place-2.result c.period_cost.result
    c.place.ensures.value c.place-2.ensures.value c.period_cost.ensures.value
