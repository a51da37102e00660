use Rattle.std.proofs.Common.{◌∙◌}
use Rattle.paraid_imgrack.specs.Labels.{label_in}
use Rattle.paraid_imgrack.proofs.LooksLemmas.{FitsSoFar-next}
use Rattle.paraid_imgrack.proofs.rack.ImageRack.fits.Goals as goal

pub loop-disk-preserved : goal.loop-disk-preserved
loop-disk-preserved g c = (
  c.fits_slot-fits.ensures.known ∙ c.loop-disk.invariant.0,
  (
    c.fits_slot-fits.ensures.causes ∙ c.loop-disk.invariant.1.0,
    (
      c.fits_slot-fits.ensures.opened ∙ c.loop-disk.invariant.1.1.0,
      FitsSoFar-next (label_in c.args.labels.now) c.args.self.now.images.items c.loop-disk.self.images.items c.fits_slot-fits.new.self.images.items c.args.identity.now c.loop-disk.disk
          c.loop-disk.fits c.fits_slot-fits.result c.loop-disk.invariant.1.1.1 c.fits_slot-fits.ensures.look c.fits_slot-fits.ensures.tails c.fits_slot-fits.ensures.fits
          c.fits_slot-fits.ensures.same c.fits_slot-fits.ensures.misfit c.fits_slot-fits.ensures.others,
    ),
  ),
)
