use Rattle.std.proofs.Common.{ap, rules}
use Rattle.std.proofs.Math.Seq.{map-set_same}
use Rattle.paraid_imgrack.specs.Calls.{image_cause, has_file}
use Rattle.paraid_imgrack.specs.Images.{image_hindrance, image_slot, image_tail}
use Rattle.paraid_imgrack.specs.Labels.{label_in}
use Rattle.paraid_imgrack.proofs.LooksLemmas.{misfit-set_other, misfit_here}
use Rattle.paraid_imgrack.proofs.rack.ImageRack.fits_slot.Goals as goal

pub returns-in-Some-clause-look : goal.returns-in-Some-clause-look
returns-in-Some-clause-look g c = record {
  slots = map-set_same image_slot _ _ _ c.index_mut.result.now (ap image_slot c.index_mut.ensures.value);
  hindrances = map-set_same image_hindrance _ _ _ c.index_mut.result.now (ap image_hindrance c.index_mut.ensures.value);
}

pub returns-in-Some-clause-tails : goal.returns-in-Some-clause-tails
returns-in-Some-clause-tails g c = map-set_same image_tail _ _ _ c.index_mut.result.now (ap image_tail c.index_mut.ensures.value)

pub returns-in-Some-clause-causes : goal.returns-in-Some-clause-causes
returns-in-Some-clause-causes g c = map-set_same image_cause _ _ _ c.index_mut.result.now (ap image_cause c.index_mut.ensures.value)

pub returns-in-Some-clause-opened : goal.returns-in-Some-clause-opened
returns-in-Some-clause-opened g c = map-set_same has_file _ _ _ c.index_mut.result.now (ap has_file c.index_mut.ensures.value)

pub returns-in-Some-clause-misfit : goal.returns-in-Some-clause-misfit
returns-in-Some-clause-misfit g c _ = misfit_here (label_in c.args.labels.now) c.args.self.now.images.items c.args.disk c.index.result.now _ c.tail.result c.args.identity.now c.in-Some.misfit
    c.requires c.index.ensures (map-set_same image_tail _ _ _ c.index_mut.result.now (ap image_tail c.index_mut.ensures.value)) (search rules) c.tail.ensures c.in-Some.ensures.none (c.in-Some.ensures.read c.in-Some.ensures.none)

pub returns-in-Some-clause-others : goal.returns-in-Some-clause-others
returns-in-Some-clause-others g c e not = misfit-set_other _ _ _ e not
