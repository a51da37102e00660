use Rattle.paraid_plain.specs.Images.{disks_in}
use Rattle.paraid_plain.specs.LogParts.{AreTargetsSpinning, IsTargetSpinning}
use Rattle.paraid_plain.specs.Statements.{said_of}
use Rattle.paraid_plain.specs.Views.{out_at}
use Rattle.paraid_plain.proofs.BatchLemmas.{targets_all, targets_each}
use Rattle.paraid_plain.proofs.TestLemmas.{reworded}
use Rattle.paraid_plain.proofs.log.are_targets_spinning.Goals as goal

pub returns : goal.returns
returns c =
    let image = c.args.image.now in
    let says = c.args.says.now in
    reworded (AreTargetsSpinning (disks_in image).power (said_of image says) (out_at image says)) c.are_spinning_on.result c.are_spinning_on.ensures
    (targets_each image says (IsTargetSpinning (disks_in image).power (out_at image says)))
    (targets_all image says (IsTargetSpinning (disks_in image).power (out_at image says)))
