use Rattle.paraid_memrack.proofs.RackLemmas.{all_told}
use Rattle.paraid_memrack.proofs.rack.MemRack.told_calls.Goals as goal

pub returns-then-self : goal.returns-then-self
returns-then-self c =
    let log = c.args.self.now.log in
    all_told log.tells log.start.items log.calls.items c.deref.result.now c.if-self.true c.deref.ensures.value
