use Rattle.paraid_image.proofs.FailedCallLemmas.{IsHeld-lost, failed_is_loss}
use Rattle.paraid_image.proofs.laws.a_lost_disk_leaves_what_is_held.Goals as goal

pub returns : goal.returns
returns c = record { failed = failed_is_loss; held = IsHeld-lost }
