use Rattle.std.proofs.Common.{◌∙◌, sym}
use Rattle.paraid_memrack.proofs.ListLemmas.{told_alike}
use Rattle.paraid_memrack.proofs.rack.MemRack.list.Goals as goal

pub returns : goal.returns
returns c =
    let log = c.args.self.now.log in
    told_alike log.tells log.start.items c.in_ok-start.start.items log.calls.items c.new.result.items c.in_ok-start.ensures (c.new.ensures.items ∙ sym c.requires.unused)
