use Rattle.std.proofs.Common.{ℕ, ◌<◌, slice_index}
use Rattle.paraid_base.specs.Regions.{IsGear}
use Rattle.paraid_schedule.specs.Bounds.{IsRightAt}
use Rattle.paraid_schedule.proofs.check.are_right_in_each.Given as goal

abbrev pub invariant-loop-t : goal.invariant-loop-t
invariant-loop-t l = (k a : ℕ) → k < l.t → IsGear l.setup.geometry a → IsRightAt l.setup (slice_index l.demand k) l.ups l.bounds k a
