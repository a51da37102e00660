use Rattle.paraid_schedule.proofs.RoomLemmas.{gear_low, period_low, period_next, period_fits, ups_fit, cost_low, row_within, next_within}
use Rattle.paraid_schedule.proofs.GearStepLemmas.{next_lower-is, next_lower-none}
use Rattle.std.proofs.Common.{refl}
use Rattle.paraid_schedule.proofs.OnwardLemmas.{allow_fall}
use Rattle.paraid_schedule.proofs.check.allow_a_fall.Goals as goal

pub lower-requires : goal.lower-requires
lower-requires c = c.args.setup.now.geometry.gears_high c.args.a c.requires.gear

pub row-at-requires : goal.row-at-requires
row-at-requires c =
    let row = c.requires in
    record { ups = row.few; period = period_low c.args.t row.period; gear = gear_low c.args.setup.now.geometry c.args.a row.gear }

pub overflow_add-t : goal.overflow_add-t
overflow_add-t c = period_fits c.args.t c.requires.period

pub row-next-requires : goal.row-next-requires
row-next-requires c =
    let row = c.requires in
    record { ups = row.few; period = period_next c.args.t row.period; gear = gear_low c.args.setup.now.geometry c.in-Some.b c.in-Some.ensures.1 }

pub period_of-requires : goal.period_of-requires
period_of-requires c = c.args.setup.now.geometry.gears_high c.args.a c.requires.gear

pub overflow_add-ups : goal.overflow_add-ups
overflow_add-ups c = ups_fit c.args.ups c.requires.few

pub are_within-requires : goal.are_within-requires
are_within-requires c =
    let g = c.args.setup.now.geometry in
    let row = c.requires in
    record {
      at = row_within g c.args.ups c.args.bounds.now c.args.t c.args.a row c.row-at.result c.row-at.ensures.value;
      next = next_within g c.args.ups c.args.bounds.now c.args.t c.args.a row c.in-Some.b c.row-next.result c.in-Some.ensures.1 c.row-next.ensures.value;
      most = row.most;
      cost = cost_low c.period_of.result c.period_of.ensures.small;
    }

pub returns-in-None : goal.returns-in-None
returns-in-None c = (λ _ left b few fall. absurd (next_lower-none c.args.setup.now.geometry c.args.a b c.in-None.ensures fall), λ _. refl)

pub returns-in-Some : goal.returns-in-Some
returns-in-Some c =
    let g = c.args.setup.now.geometry in
    let fall = next_lower-is g c.args.a c.in-Some.b c.requires.gear c.in-Some.ensures in
    let same = allow_fall c.args.setup.now c.args.ups c.args.bounds.now c.args.t c.args.a c.in-Some.b c.row-at.result c.row-next.result c.period_of.result fall c.row-at.ensures.value c.row-next.ensures.value c.period_of.ensures.value in
    (λ is. same.0 (c.are_within.ensures.0 is), λ all. c.are_within.ensures.1 (same.1 all))
