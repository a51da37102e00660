use Rattle.std.proofs.Common.{true, refl}
use Rattle.paraid_memrack.specs.Lists.{noted_in}
use Rattle.paraid_memrack.proofs.ListLemmas.{tells_no_more}
use Rattle.paraid_memrack.proofs.NoteLemmas.{grows_told, told_more}
use Rattle.paraid_memrack.proofs.list.CallListNoted.note.Goals as goal

pub returns : goal.returns
returns c =
    let list = c.args.self.now in
    grows_told (noted_in list) _ true c.args.call (told_more list.tells list.start.items list.calls.items _ c.args.call true refl c.in-Ok.ensures.items)

pub returns-in_default : goal.returns-in_default
returns-in_default c =
    let list = c.args.self.now in
    tells_no_more (noted_in list) list.start.items c.push.new.self.items c.args.call
