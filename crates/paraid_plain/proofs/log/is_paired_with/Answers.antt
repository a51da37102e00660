use Rattle.std.proofs.Common.{subst}
use Rattle.paraid_image.specs.Sides.{LogState, Says}
use Rattle.paraid_image.specs.Sound.{Pairing}
use Rattle.paraid_image.proofs.SidesLemmas.{Says-same}
use Rattle.paraid_plain.specs.Images.{disks_in}
use Rattle.paraid_plain.specs.Statements.{said_of}
use Rattle.paraid_plain.proofs.TestLemmas.{reworded}
use Rattle.paraid_plain.proofs.log.is_paired_with.Goals as goal

pub returns-in-Some : goal.returns-in-Some
returns-in-Some c =
    let image = c.args.image.now in
    let second = said_of image c.in-Some.second in
    reworded ((b : LogState) → Says (disks_in image) 1 b → Pairing (said_of image c.args.first.now) b) c.is_pairing.result c.is_pairing.ensures
    (λ pairing b says. subst (Pairing (said_of image c.args.first.now)) (Says-same (disks_in image) 1 second b c.in-Some.ensures.some says) pairing)
    (λ all. all second c.in-Some.ensures.some)
