use Rattle.std.proofs.Common.{arith, ◌∙◌}
use Rattle.paraid_imgrack.specs.Images.{image_misfit}
use Rattle.paraid_imgrack.proofs.ImagesLemmas.{AreLoaded-none, AreLoaded-push}
use Rattle.paraid_imgrack.proofs.LooksLemmas.{none_whole}
use Rattle.paraid_imgrack.proofs.rack.ImageRack.load.Goals as goal

pub loop-disk-init : goal.loop-disk-init
loop-disk-init g c = (c.in-Ok.ensures.exact, AreLoaded-none _ c.in-Ok.ensures.items)

pub loop-disk-preserved : goal.loop-disk-preserved
loop-disk-preserved g c = (
  c.push_reserved.ensures.capacity ∙ c.loop-disk.invariant.0,
  rw c.push_reserved.ensures.items (AreLoaded-push c.loop-disk.images.items c.in_ok-load.field-0 c.loop-disk.disk c.loop-disk.invariant.1 c.in_ok-load.ensures.loaded c.in_ok-load.ensures.fresh c.in_ok-load.ensures.clean),
)

pub invariant_of-result : goal.invariant_of-result
invariant_of-result g c = record { few = omega (arith, c.loop-disk.invariant.1.number, c.requires) }

pub returns-clause-loaded : goal.returns-clause-loaded
returns-clause-loaded g c d below = c.loop-disk.invariant.1.loaded d (omega (arith, below, c.loop-disk-test.false))

pub returns-clause-opened : goal.returns-clause-opened
returns-clause-opened g c d below = c.loop-disk.invariant.1.loaded d (omega (arith, below, c.loop-disk.invariant.1.number))

pub returns-clause-fresh : goal.returns-clause-fresh
returns-clause-fresh g c = none_whole image_misfit _ (λ d below. c.loop-disk.invariant.1.fresh d (omega (arith, below, c.loop-disk.invariant.1.number)))

pub returns-clause-clean : goal.returns-clause-clean
returns-clause-clean g c d below = c.loop-disk.invariant.1.clean d (omega (arith, below, c.loop-disk-test.false))
