use Rattle.std.proofs.Common.{◌≡◌, ◌+◌, ◌∙◌, ap, arith}
use Rattle.paraid_record.specs.Range.{AreNextGears}
use Rattle.paraid_schedule.specs.Cost.{period_cost as price_of_period, step_cost as price_of_step}
use Rattle.paraid_schedule.proofs.GearStepLemmas.{next_higher-is, next_higher-none}
use Rattle.paraid_schedule.proofs.LoweredLemmas.{lowered_rise, lowered_none}
use Rattle.paraid_schedule.proofs.RoomLemmas.{gear_low, period_low, period_next, period_fits, place_fits-one, rise_apart, rise_within, rows_apart, next_within}
use Rattle.paraid_schedule.proofs.TestLemmas.{costs_low, costs_fit}
use Rattle.paraid_schedule.proofs.planner.relax_by_rise.Goals as goal

pub place-at-requires : goal.place-at-requires
place-at-requires c =
    let row = c.requires in
    record { ups = row.few; period = period_low c.args.t row.period; gear = gear_low c.args.setup.now.geometry c.args.a row.gear }

pub overflow_add-t : goal.overflow_add-t
overflow_add-t c = period_fits c.args.t c.requires.period

pub place-next-requires : goal.place-next-requires
place-next-requires c =
    let row = c.requires in
    record { ups = row.few; period = period_next c.args.t row.period; gear = gear_low c.args.setup.now.geometry c.in-Some.b c.in-Some.ensures.1 }

pub period_cost-requires : goal.period_cost-requires
period_cost-requires c = c.args.setup.now.geometry.gears_high c.args.a c.requires.gear

pub rise_cost-requires : goal.rise_cost-requires
rise_cost-requires c = let low = c.in-Some.ensures.0 in omega (arith, low)

pub overflow_add-cost : goal.overflow_add-cost
overflow_add-cost c = costs_fit c.period_cost.result c.rise_cost.result c.period_cost.ensures.small c.rise_cost.ensures.small

pub overflow_add-at : goal.overflow_add-at
overflow_add-at c = place_fits-one c.place-at.result c.place-at.ensures.small

pub relax-requires : goal.relax-requires
relax-requires c =
    let g = c.args.setup.now.geometry in
    let old = c.args.bounds.now in
    let row = c.requires in
    record {
      apart =
          rise_apart c.place-at.result c.args.ups c.place-next.result
          (rows_apart g c.args.ups old c.args.t c.args.a row c.in-Some.b c.place-at.result c.place-next.result c.place-at.ensures.value c.place-next.ensures.value);
      within = rise_within c.place-next.result c.args.ups _ (next_within g c.args.ups old c.args.t c.args.a row c.in-Some.b c.place-next.result c.in-Some.ensures.1 c.place-next.ensures.value);
      most = row.most;
      cost = costs_low c.period_cost.result c.rise_cost.result c.period_cost.ensures.small c.rise_cost.ensures.small;
    }

pub returns-in-Some : goal.returns-in-Some
returns-in-Some c =
    let s = c.args.setup.now in
    let a = c.args.a in
    let b = c.in-Some.b in
    let price : c.period_cost.result + c.rise_cost.result ≡ price_of_period s a + price_of_step s a b =
    ap (λ n. n + c.rise_cost.result) c.period_cost.ensures.value ∙ ap (λ n. price_of_period s a + n) c.rise_cost.ensures.value in
    lowered_rise s c.args.ups c.args.t a c.args.bounds.now c.relax.new.bounds b c.place-at.result c.place-next.result (c.period_cost.result + c.rise_cost.result)
    (next_higher-is s.geometry a b c.requires.gear c.in-Some.ensures) c.place-at.ensures.value c.place-next.ensures.value price c.relax.ensures.relaxed c.relax.ensures.same c.relax.ensures.most

pub returns-in_default : goal.returns-in_default
returns-in_default c =
    let g = c.args.setup.now.geometry in
    lowered_none (λ b. AreNextGears g c.args.a b) c.args.setup.now c.args.ups c.args.t c.args.a c.args.bounds.now (λ b is. next_higher-none g c.args.a b c.in_default.ensures is) c.requires.most
