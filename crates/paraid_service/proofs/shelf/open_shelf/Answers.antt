use Rattle.std.proofs.Common.{arith}
use Rattle.paraid_service.proofs.ShelfLemmas.{open_bare, open_held, open_small}
use Rattle.paraid_service.proofs.shelf.open_shelf.Goals as goal

pub returns-then-blocks-lt7-clause-opens : goal.returns-then-blocks-lt7-clause-opens
returns-then-blocks-lt7-clause-opens g c = open_small g.B.Blocks c.args.blocks (let small = c.if-blocks-lt7.true in let is = c.blocks-2.ensures in omega (arith, small, is))

pub returns-in-Ok-clause-opens : goal.returns-in-Ok-clause-opens
returns-in-Ok-clause-opens g c =
    let e = c.in-Ok.ensures in
    open_held g.B.Blocks c.args.blocks c.in-Ok.volumes e.ok e.went e.grown e.reads e.lived

pub returns-in-Err-clause-opens : goal.returns-in-Err-clause-opens
returns-in-Err-clause-opens g c =
    let e = c.in-Err.ensures in
    rw c.leave.ensures (open_bare g.B.Blocks c.args.blocks c.in-Err.refused.blocks c.in-Err.refused.fault (let large = c.if-blocks-lt7.false in let is = c.blocks-2.ensures in omega (arith, large, is)) e.went_refused e.grown_refused e.reads_refused e.refused e.stands_refused)
