use Rattle.std.proofs.Common.{◌≤◌, length, arith, ap}
use Rattle.paraid_gear.specs.Window.{SampleWindow}
use Rattle.paraid_gear.proofs.SumLemmas.{square_of_sum-le}
use Rattle.paraid_gear.proofs.window.Window.is_quiet.Goals as goal

pub overflow_sub-spread : goal.overflow_sub-spread
overflow_sub-spread c =
    let samples = c.args.self.now.samples in
    let short : length samples ≤ c.self.inside.span = omega (arith, ap (λ (w : SampleWindow). length w.samples) c.self.view_is, c.self.invariant) in
    rw (c.sum-sum.ensures.value, c.squares.ensures.value) (square_of_sum-le samples c.self.inside.span short)
