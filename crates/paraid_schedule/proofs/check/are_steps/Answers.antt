use Rattle.std.proofs.Common.{ℕ, ◌+◌, slice_index, length, refl}
use Rattle.paraid_schedule.specs.Schedule.{IsGearStep}
use Rattle.paraid_schedule.proofs.TestLemmas.{refused, before_end, steps_more, step_at}
use Rattle.paraid_schedule.proofs.check.are_steps.Goals as goal

pub returns-then-not-is_step : goal.returns-then-not-is_step
returns-then-not-is_step c =
    let gears = c.args.gears.now in
    refused _ c.is_step.result c.is_step.ensures c.if-not-is_step.true
    (step_at (λ (a b : ℕ). IsGearStep c.args.geometry.now (slice_index gears a) (slice_index gears b)) c.loop-t.t (length gears) c.loop-t.auto.t c.loop-t-test.true)

pub loop-t-preserved : goal.loop-t-preserved
loop-t-preserved c =
    let gears = c.args.gears.now in
    steps_more (λ (a b : ℕ). IsGearStep c.args.geometry.now (slice_index gears a) (slice_index gears b)) c.loop-t.t c.loop-t.auto.t c.loop-t.invariant
    (c.is_step.ensures.0 c.if-not-is_step.false)

pub returns : goal.returns
returns c = (λ _ k low. c.loop-t.invariant k (before_end (k + 1) _ _ low c.loop-t-test.false), λ _. refl)
