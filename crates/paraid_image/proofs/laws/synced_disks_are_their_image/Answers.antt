use Rattle.paraid_image.proofs.HeldLemmas.{image_is, image_of_synced}
use Rattle.paraid_image.proofs.laws.synced_disks_are_their_image.Goals as goal

pub returns : goal.returns
returns c = record { is = image_of_synced; only = image_is }
