use Rattle.std.proofs.Common.{arith, subst}
use Rattle.paraid_schedule.specs.Solved.{IsMetBy}
use Rattle.paraid_schedule.proofs.RoomLemmas.{gear_low, period_low, period_next, period_fits, place_fits, cost_fits, at_within, row_within, next_within}
use Rattle.paraid_schedule.proofs.GearStepLemmas.{next_lower-is, next_lower-none, next_lower-one}
use Rattle.paraid_schedule.proofs.TestLemmas.{level_is_met, level_not_met}
use Rattle.paraid_schedule.proofs.planner.meeting_fall.Goals as goal

pub place-requires : goal.place-requires
place-requires c =
    let row = c.requires.row in
    record { ups = row.few; period = period_low c.args.t row.period; gear = gear_low c.args.setup.now.geometry c.args.a row.gear }

pub overflow_add-aim : goal.overflow_add-aim
overflow_add-aim c = place_fits c.place.result c.args.left c.args.ups c.place.ensures.small c.requires.left c.requires.row.few

pub bounds-bounds-place : goal.bounds-bounds-place
bounds-bounds-place c =
    at_within c.place.result c.args.left c.args.ups _ (row_within c.args.setup.now.geometry c.args.ups c.args.bounds.now c.args.t c.args.a c.requires.row c.place.result c.place.ensures.value) c.requires.left

pub lower-requires : goal.lower-requires
lower-requires c = c.args.setup.now.geometry.gears_high c.args.a c.requires.row.gear

pub overflow_add-t : goal.overflow_add-t
overflow_add-t c = period_fits c.args.t c.requires.row.period

pub place-requires-in-Some : goal.place-requires-in-Some
place-requires-in-Some c =
    let row = c.requires.row in
    record { ups = row.few; period = period_next c.args.t row.period; gear = gear_low c.args.setup.now.geometry c.in-Some.b c.in-Some.ensures.1 }

pub overflow_add-next : goal.overflow_add-next
overflow_add-next c = place_fits c.place-in-Some.result c.args.left c.args.ups c.place-in-Some.ensures.small c.requires.left c.requires.row.few

pub bounds-bounds-place-in-Some : goal.bounds-bounds-place-in-Some
bounds-bounds-place-in-Some c =
    at_within c.place-in-Some.result c.args.left c.args.ups _
    (next_within c.args.setup.now.geometry c.args.ups c.args.bounds.now c.args.t c.args.a c.requires.row c.in-Some.b c.place-in-Some.result c.in-Some.ensures.1 c.place-in-Some.ensures.value) c.requires.left

pub period_cost-requires : goal.period_cost-requires
period_cost-requires c = c.args.setup.now.geometry.gears_high c.args.a c.requires.row.gear

pub overflow_add-period_cost : goal.overflow_add-period_cost
overflow_add-period_cost c = cost_fits _ _ c.period_cost.ensures.small (c.requires.row.most _)

pub returns-in-None : goal.returns-in-None
returns-in-None c = λ b is met. next_lower-none c.args.setup.now.geometry c.args.a b c.in-None.ensures is

pub returns-then-period_cost-next : goal.returns-then-period_cost-next
returns-then-period_cost-next c =
    let fall = next_lower-is c.args.setup.now.geometry c.args.a c.in-Some.b c.requires.row.gear c.in-Some.ensures in
    let low = c.in-Some.ensures.0 in (
      fall,
      level_is_met c.args.setup.now c.args.ups c.args.bounds.now c.args.t c.args.a c.in-Some.b c.args.left c.place.result c.place-in-Some.result c.period_cost.result
          (omega (arith, low)) c.place.ensures.value c.place-in-Some.ensures.value c.period_cost.ensures.value c.if-period_cost-next.true,
    )

pub returns-else-period_cost-next : goal.returns-else-period_cost-next
returns-else-period_cost-next c = λ b is met.
    let s = c.args.setup.now in
    let fall = next_lower-is s.geometry c.args.a c.in-Some.b c.requires.row.gear c.in-Some.ensures in
    let low = c.in-Some.ensures.0 in
    level_not_met s c.args.ups c.args.bounds.now c.args.t c.args.a c.in-Some.b c.args.left c.place.result c.place-in-Some.result c.period_cost.result
    (omega (arith, low)) c.place.ensures.value c.place-in-Some.ensures.value c.period_cost.ensures.value c.if-period_cost-next.false
    (subst (λ e. IsMetBy s c.args.ups c.args.bounds.now c.args.t c.args.a c.args.left e) (next_lower-one s.geometry c.args.a b c.in-Some.b is fall) met)
