use Rattle.std.proofs.Common.{◌≡◌, ℕ, ◌<◌, get_or, false}
use Rattle.paraid_base.proofs.geometry.Geometry.higher.Given as goal

abbrev pub invariant-loop-e : goal.invariant-loop-e
invariant-loop-e l = (e : ℕ) → l.fn.a < e → e < l.e → get_or l.self.gears e false ≡ false
