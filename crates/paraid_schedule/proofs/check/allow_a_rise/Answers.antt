use Rattle.std.proofs.Common.{◌≡◌, ◌+◌, arith, ◌∙◌, ap, refl}
use Rattle.paraid_schedule.proofs.RoomLemmas.{gear_low, period_low, period_next, period_fits, place_fits-one, rise_before, rise_within, row_within, next_within}
use Rattle.paraid_schedule.specs.Cost.{period_cost, step_cost}
use Rattle.paraid_schedule.proofs.GearStepLemmas.{next_higher-is, next_higher-none}
use Rattle.paraid_schedule.proofs.OnwardLemmas.{allow_rise}
use Rattle.paraid_schedule.proofs.TestLemmas.{costs_low, costs_fit}
use Rattle.paraid_schedule.proofs.check.allow_a_rise.Goals as goal

pub higher-requires : goal.higher-requires
higher-requires c = c.args.setup.now.geometry.gears_high c.args.a c.requires.gear

pub row-at-requires : goal.row-at-requires
row-at-requires c =
    let row = c.requires in
    record { ups = row.few; period = period_low c.args.t row.period; gear = gear_low c.args.setup.now.geometry c.args.a row.gear }

pub overflow_add-t : goal.overflow_add-t
overflow_add-t c = period_fits c.args.t c.requires.period

pub row-next-requires : goal.row-next-requires
row-next-requires c =
    let row = c.requires in
    record { ups = row.few; period = period_next c.args.t row.period; gear = gear_low c.args.setup.now.geometry c.in-Some.b c.in-Some.ensures.1 }

pub period_of-requires : goal.period_of-requires
period_of-requires c = c.args.setup.now.geometry.gears_high c.args.a c.requires.gear

pub step_of-requires : goal.step_of-requires
step_of-requires c = let low = c.in-Some.ensures.0 in omega (arith, low)

pub overflow_add-cost : goal.overflow_add-cost
overflow_add-cost c = costs_fit c.period_of.result c.step_of.result c.period_of.ensures.small c.step_of.ensures.small

pub overflow_add-at : goal.overflow_add-at
overflow_add-at c = place_fits-one c.row-at.result c.row-at.ensures.small

pub are_within-requires : goal.are_within-requires
are_within-requires c =
    let g = c.args.setup.now.geometry in
    let row = c.requires in
    record {
      at = rise_before c.row-at.result c.args.ups _ (row_within g c.args.ups c.args.bounds.now c.args.t c.args.a row c.row-at.result c.row-at.ensures.value);
      next = rise_within c.row-next.result c.args.ups _ (next_within g c.args.ups c.args.bounds.now c.args.t c.args.a row c.in-Some.b c.row-next.result c.in-Some.ensures.1 c.row-next.ensures.value);
      most = row.most;
      cost = costs_low c.period_of.result c.step_of.result c.period_of.ensures.small c.step_of.ensures.small;
    }

pub returns-in-None : goal.returns-in-None
returns-in-None c = (λ _ left b few rise room. absurd (next_higher-none c.args.setup.now.geometry c.args.a b c.in-None.ensures rise), λ _. refl)

pub returns-in-Some : goal.returns-in-Some
returns-in-Some c =
    let g = c.args.setup.now.geometry in
    let up_step = next_higher-is g c.args.a c.in-Some.b c.requires.gear c.in-Some.ensures in
    let place = ap (λ n. n + 1) c.row-at.ensures.value in
    let price : c.period_of.result + c.step_of.result ≡ period_cost c.args.setup.now c.args.a + step_cost c.args.setup.now c.args.a c.in-Some.b =
    ap (λ n. n + c.step_of.result) c.period_of.ensures.value ∙ ap (λ n. period_cost c.args.setup.now c.args.a + n) c.step_of.ensures.value in
    let same = allow_rise c.args.setup.now c.args.ups c.args.bounds.now c.args.t c.args.a c.in-Some.b (c.row-at.result + 1) c.row-next.result (c.period_of.result + c.step_of.result) up_step place c.row-next.ensures.value price in
    (λ is. same.0 (c.are_within.ensures.0 is), λ all. c.are_within.ensures.1 (same.1 all))
