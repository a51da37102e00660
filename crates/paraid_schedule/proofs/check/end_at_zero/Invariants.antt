use Rattle.std.proofs.Common.{◌≡◌, ℕ, ◌<◌, ◌≤◌}
use Rattle.paraid_base.specs.Regions.{IsGear}
use Rattle.paraid_schedule.specs.Bounds.{bound}
use Rattle.paraid_schedule.proofs.check.end_at_zero.Given as goal

abbrev pub invariant-loop-a : goal.invariant-loop-a
invariant-loop-a l = (e left : ℕ) → e < l.a → IsGear l.geometry e → left ≤ l.ups → bound l.geometry l.ups l.bounds l.periods e left ≡ 0
