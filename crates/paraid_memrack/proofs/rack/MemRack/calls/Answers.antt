use Rattle.std.proofs.Common.{arith}
use Rattle.paraid_memrack.proofs.RackLemmas.{told_calls}
use Rattle.paraid_memrack.proofs.rack.MemRack.calls.Goals as goal

pub overflow_cast-result : goal.overflow_cast-result
overflow_cast-result c =
    let log = c.args.self.now.log in
    omega (arith, c.len.ensures, log.calls.ok.0, log.few, log.short)

pub returns-clause-value : goal.returns-clause-value
returns-clause-value c = omega (arith, c.len.ensures, c.args.self.now.log.calls.ok.0)

pub returns-clause-told : goal.returns-clause-told
returns-clause-told c t is = told_calls _ _ _ t is
