use Rattle.std.proofs.Common.{arith, ◌≡◌, ap, sym, ◌∙◌, ℕ}
use Rattle.paraid_imgrack.specs.Labels.{label_in}
use Rattle.paraid_imgrack.proofs.NamedLemmas.{counted_next, of_array_below, of_array_none, of_array_whole}
use Rattle.paraid_imgrack.proofs.identity.count.Goals as goal

pub loop-slot-init : goal.loop-slot-init
loop-slot-init c = (omega arith, sym (of_array_none (label_in c.args.labels.now) c.args.named.now))

pub loop-slot-preserved : goal.loop-slot-preserved
loop-slot-preserved c = counted_next (label_in c.args.labels.now) c.args.named.now c.loop-slot.slot c.loop-slot.count c.count_in.result c.saturating_add-count.result
    c.saturating_add-count.ensures c.count_in.ensures c.loop-slot-test.true c.loop-slot.invariant.0 c.loop-slot.invariant.1

pub returns : goal.returns
returns c =
    let end : c.loop-slot.slot ≡ 8 = omega (arith, c.loop-slot-test.false, c.loop-slot.auto.slot-end) in
    c.loop-slot.invariant.1 ∙ ap (λ (n : ℕ). of_array_below (label_in c.args.labels.now) c.args.named.now n) end ∙ of_array_whole (label_in c.args.labels.now) c.args.named.now
