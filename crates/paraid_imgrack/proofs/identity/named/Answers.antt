use Rattle.paraid_imgrack.specs.Labels.{label_in}
use Rattle.paraid_imgrack.proofs.NamedLemmas.{MostBelow-next, MostBelow-none, decided_most}
use Rattle.paraid_imgrack.proofs.identity.named.Goals as goal

pub loop-slot-init : goal.loop-slot-init
loop-slot-init c = (c.in_ok-first.ensures.one, MostBelow-none (label_in c.args.labels.now) c.in_ok-first.first)

pub loop-slot-preserved : goal.loop-slot-preserved
loop-slot-preserved c = (
  c.commoner-most.ensures.one,
  MostBelow-next (label_in c.args.labels.now) c.in_ok-first.first c.loop-slot.most c.commoner-most.result c.loop-slot.slot c.loop-slot-test.true c.commoner-most.ensures.kept c.loop-slot.invariant.1,
)

pub returns-clause-deciding : goal.returns-clause-deciding
returns-clause-deciding c = decided_most (label_in c.args.labels.now) c.in_ok-first.first c.loop-slot.most c.loop-slot.slot c.in_ok-first.ensures.first
    (c.is_whole.ensures.no c.if-is_whole.false) c.loop-slot-test.false c.loop-slot.invariant.1
