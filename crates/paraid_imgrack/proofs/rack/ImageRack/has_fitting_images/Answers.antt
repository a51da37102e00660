use Rattle.paraid_imgrack.proofs.CallsLemmas.{KeepsCauses-same, looked_at-same}
use Rattle.paraid_imgrack.proofs.LooksLemmas.{AreTrueMisfits-by, IsDrawn-by, IsFitting-by, Names-by}
use Rattle.paraid_imgrack.proofs.rack.ImageRack.has_fitting_images.Goals as goal

pub returns-clause-fits : goal.returns-clause-fits
returns-clause-fits g c fit = IsFitting-by c.read_labels-labels.result c.read_labels-labels.new.self.images.items c.fits.new.self.images.items c.in-Some.identity c.fits.new.self.identity
    c.in-Some.ensures.names c.read_labels-labels.ensures.labels c.fits.ensures.tails c.fits.ensures.known (c.fits.ensures.fits fit)

pub returns-clause-misfits : goal.returns-clause-misfits
returns-clause-misfits g c none = record {
  names = Names-by c.read_labels-labels.result c.read_labels-labels.new.self.images.items c.fits.new.self.images.items c.in-Some.identity c.fits.new.self.identity
      c.in-Some.ensures.names c.read_labels-labels.ensures.labels c.fits.ensures.tails c.fits.ensures.known;
  misfits = AreTrueMisfits-by c.read_labels-labels.result c.args.self.now.images.items c.read_labels-labels.new.self.images.items c.fits.new.self.images.items c.in-Some.identity c.fits.new.self.identity
      c.read_labels-labels.ensures.misfits c.read_labels-labels.ensures.labels c.fits.ensures.tails c.fits.ensures.known c.fits.ensures.misfits none;
}

pub returns-clause-drawn : goal.returns-clause-drawn
returns-clause-drawn g c _ none = IsDrawn-by c.read_labels-labels.result c.read_labels-labels.new.self.images.items c.fits.new.self.images.items c.in-Some.identity c.fits.new.self.identity
    c.read_labels-labels.ensures.labels c.fits.ensures.tails c.fits.ensures.look.slots c.fits.ensures.known c.in-Some.ensures.drawn none

pub returns-clause-read : goal.returns-clause-read
returns-clause-read g c d = looked_at-same c.read_labels-labels.new.self.images.items c.fits.new.self.images.items c.fits.ensures.look.slots c.fits.ensures.tails c.fits.ensures.causes c.fits.ensures.opened d (c.read_labels-labels.ensures.read d)

pub returns-clause-causes : goal.returns-clause-causes
returns-clause-causes g c = KeepsCauses-same c.args.self.now.images.items c.read_labels-labels.new.self.images.items c.fits.new.self.images.items c.read_labels-labels.ensures.causes c.fits.ensures.causes
