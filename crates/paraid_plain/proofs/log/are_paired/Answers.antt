use Rattle.std.proofs.Common.{subst}
use Rattle.paraid_image.specs.Sides.{LogState}
use Rattle.paraid_image.specs.Sound.{Pairing}
use Rattle.paraid_image.proofs.SidesLemmas.{Says-same}
use Rattle.paraid_plain.specs.Images.{disks_in}
use Rattle.paraid_plain.specs.LogParts.{ArePaired}
use Rattle.paraid_plain.specs.Statements.{said_of}
use Rattle.paraid_plain.specs.Views.{out_at}
use Rattle.paraid_plain.proofs.OutLemmas.{not_out}
use Rattle.paraid_plain.proofs.TestLemmas.{reworded}
use Rattle.paraid_plain.proofs.log.are_paired.Goals as goal

pub returns-in-Some : goal.returns-in-Some
returns-in-Some c =
    let image = c.args.image.now in
    let first = said_of image c.in-Some.first in
    let in_first = not_out (out_at image c.args.says.now) 0 c.is_out_disk.result c.is_out_disk.ensures c.if-is_out_disk.false in
    let in_second = not_out (out_at image c.args.says.now) 1 c.is_out_disk-else-is_out_disk.result c.is_out_disk-else-is_out_disk.ensures c.if-is_out_disk-2.false in
    reworded (ArePaired (disks_in image) (out_at image c.args.says.now)) c.is_paired_with.result c.is_paired_with.ensures
    (λ paired a b p q _ _. subst (λ (s : LogState). Pairing s b) (Says-same (disks_in image) 0 first a c.in-Some.ensures.some p) (paired b q))
    (λ all b q. all first b c.in-Some.ensures.some q in_first in_second)
