use Rattle.paraid_image.proofs.StandingLemmas.{IsWeak-same}
use Rattle.paraid_image.proofs.laws.one_disk_is_weak.Goals as goal

pub returns : goal.returns
returns c = IsWeak-same
