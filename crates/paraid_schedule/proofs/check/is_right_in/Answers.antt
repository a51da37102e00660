use Rattle.std.proofs.Common.{◌+◌, ◌<◌, ◌≤◌, ℕ, ◌∙◌, sym, refl, arith, below_more}
use Rattle.std.proofs.lemmas.Bool.{false≢true}
use Rattle.paraid_base.specs.declared.geometry.Geometry.{Geometry}
use Rattle.paraid_base.specs.Regions.{IsGear}
use Rattle.paraid_schedule.proofs.check.is_right_in.Goals as goal

gear_below : (g : Geometry) (end e : ℕ) → g.disks + 1 ≤ end → IsGear g e → e < end
gear_below g end e high gear = let top = g.gears_high e gear in omega (arith, top, high)

pub returns : goal.returns
returns c = (λ _ e gear. c.loop-a.invariant e (gear_below c.args.setup.now.geometry c.loop-a.a e c.loop-a-test.false gear) gear, λ _. refl)

pub loop-a-preserved : goal.loop-a-preserved
loop-a-preserved c = below_more _ _ c.loop-a.invariant (λ gear.
    elim c.else-is_gear.branch [
      | goal.else-is_gear-via-then-is_gear+else-not-is_right_at w ↦ w.is_right_at.ensures.0 w.if-not-is_right_at.false
      | goal.else-is_gear-via-else-is_gear w ↦ absurd (false≢true (sym w.if-is_gear.false ∙ c.is_gear.ensures ∙ gear))
    ])
