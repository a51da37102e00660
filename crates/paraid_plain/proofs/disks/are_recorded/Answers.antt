use Rattle.std.proofs.Common.{◌≡◌, sym, ◌∙◌, arith}
use Rattle.paraid_base.specs.declared.state.Phase.TheVariants.{Up}
use Rattle.paraid_plain.proofs.disks.are_recorded.Goals as goal

pub returns-in-Up : goal.returns-in-Up
returns-in-Up c =
    let below = c.are_recorded_below.ensures in (
      λ t to d is low high.
          let both : Up c.in-Up.to ≡ Up to = sym c.in-Up.is ∙ is in
          let same : c.in-Up.to ≡ to = cc in
          below.0 t d low (omega arith),
      λ all. below.1 (λ d low high. all c.in-Up.to d c.in-Up.is low high),
    )
