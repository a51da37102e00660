use Rattle.std.proofs.Common.{sym}
use Rattle.paraid_plain.specs.Images.{disks_in}
use Rattle.paraid_plain.specs.Statements.{said_of}
use Rattle.paraid_plain.proofs.StatementLemmas.{stands_first, stands_second}
use Rattle.paraid_plain.proofs.standing.standing_at.Goals as goal

pub returns-then-stands_before-clause-some : goal.returns-then-stands_before-clause-some
returns-then-stands_before-clause-some c =
    let image = c.args.image.now in
    stands_first (disks_in image) c.args.disk c.in_ok-mine.mine.disk (said_of image c.in_ok-mine.mine) c.in_ok-mine.ensures.disk c.in_ok-mine.ensures.some
    (said_of image c.in-Some.other) c.in-Some.ensures.some c.requires (sym (c.if-stands_before.ensures image))

pub returns-else-stands_before-clause-none : goal.returns-else-stands_before-clause-none
returns-else-stands_before-clause-none c =
    let image = c.args.image.now in
    stands_second (disks_in image) c.args.disk c.in_ok-mine.mine.disk (said_of image c.in_ok-mine.mine) c.in_ok-mine.ensures.disk c.in_ok-mine.ensures.some
    (said_of image c.in-Some.other) c.in-Some.ensures.some (sym (c.if-stands_before.ensures image))
