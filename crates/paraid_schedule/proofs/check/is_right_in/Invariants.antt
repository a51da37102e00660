use Rattle.std.proofs.Common.{ℕ, ◌<◌}
use Rattle.paraid_base.specs.Regions.{IsGear}
use Rattle.paraid_schedule.specs.Bounds.{IsRightAt}
use Rattle.paraid_schedule.proofs.check.is_right_in.Given as goal

abbrev pub invariant-loop-a : goal.invariant-loop-a
invariant-loop-a l = (e : ℕ) → e < l.a → IsGear l.setup.geometry e → IsRightAt l.setup l.demanded l.ups l.bounds l.t e
