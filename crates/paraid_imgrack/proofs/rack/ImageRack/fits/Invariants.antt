use Rattle.std.proofs.Common.{◌≡◌, map}
use Rattle.paraid_imgrack.specs.Calls.{image_cause, has_file}
use Rattle.paraid_imgrack.specs.Labels.{label_in}
use Rattle.paraid_imgrack.proofs.LooksLemmas.{FitsSoFar}
use Rattle.paraid_imgrack.proofs.rack.ImageRack.fits.Given as goal

abbrev pub invariant-loop-disk : goal.invariant-loop-disk
invariant-loop-disk g l = (l.self.identity ≡ l.fn.self.identity) × ((map image_cause l.self.images.items ≡ map image_cause l.fn.self.images.items) × ((map has_file l.self.images.items ≡ map has_file l.fn.self.images.items) × FitsSoFar (label_in l.fn.labels) l.fn.self.images.items l.self.images.items l.fn.identity l.disk l.fits))
