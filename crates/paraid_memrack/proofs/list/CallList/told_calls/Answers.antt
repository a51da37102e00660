use Rattle.paraid_memrack.proofs.RackLemmas.{all_told}
use Rattle.paraid_memrack.proofs.list.CallList.told_calls.Goals as goal

pub returns-then-self : goal.returns-then-self
returns-then-self c =
    let list = c.args.self.now in
    all_told list.tells list.start.items list.calls.items c.deref.result.now c.if-self.true c.deref.ensures.value
