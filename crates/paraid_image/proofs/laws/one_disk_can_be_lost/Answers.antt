use Rattle.paraid_image.proofs.OneDiskLessLemmas.{IsSoundAt-lost}
use Rattle.paraid_image.proofs.laws.one_disk_can_be_lost.Goals as goal

pub returns : goal.returns
returns c = IsSoundAt-lost
