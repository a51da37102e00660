use Rattle.paraid_imgrack.proofs.found.+has_descriptors.Given as goal

abbrev pub decreases-has_descriptors : goal.decreases-has_descriptors
decreases-has_descriptors g l = l.count
