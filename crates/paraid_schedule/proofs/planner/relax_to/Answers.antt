use Rattle.paraid_schedule.proofs.RoomLemmas.{gear_low, period_low, period_next, period_fits, ups_fit, cost_low, rows_apart, next_within}
use Rattle.paraid_schedule.proofs.LoweredLemmas.{lowered_level}
use Rattle.paraid_schedule.proofs.planner.relax_to.Goals as goal

pub place-at-requires : goal.place-at-requires
place-at-requires c =
    let row = c.requires.row in
    record { ups = row.few; period = period_low c.args.t row.period; gear = gear_low c.args.setup.now.geometry c.args.a row.gear }

pub overflow_add-t : goal.overflow_add-t
overflow_add-t c = period_fits c.args.t c.requires.row.period

pub place-next-requires : goal.place-next-requires
place-next-requires c =
    let row = c.requires.row in
    record { ups = row.few; period = period_next c.args.t row.period; gear = gear_low c.args.setup.now.geometry c.args.b c.requires.gear }

pub period_cost-requires : goal.period_cost-requires
period_cost-requires c = c.args.setup.now.geometry.gears_high c.args.a c.requires.row.gear

pub overflow_add-ups : goal.overflow_add-ups
overflow_add-ups c = ups_fit c.args.ups c.requires.row.few

pub relax-requires : goal.relax-requires
relax-requires c =
    let g = c.args.setup.now.geometry in
    let old = c.args.bounds.now in
    let row = c.requires.row in
    record {
      apart = rows_apart g c.args.ups old c.args.t c.args.a row c.args.b c.place-at.result c.place-next.result c.place-at.ensures.value c.place-next.ensures.value;
      within = next_within g c.args.ups old c.args.t c.args.a row c.args.b c.place-next.result c.requires.gear c.place-next.ensures.value;
      most = row.most;
      cost = cost_low c.period_cost.result c.period_cost.ensures.small;
    }

pub returns : goal.returns
returns c =
    lowered_level c.args.setup.now c.args.ups c.args.t c.args.a c.args.bounds.now c.relax.new.bounds c.args.b c.place-at.result c.place-next.result c.period_cost.result
    c.requires.low c.place-at.ensures.value c.place-next.ensures.value c.period_cost.ensures.value c.relax.ensures.relaxed c.relax.ensures.same c.relax.ensures.most
