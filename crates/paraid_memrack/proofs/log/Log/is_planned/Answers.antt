use Rattle.std.proofs.Common.{◌≡◌, ◌∙◌, sym, ap, arith, ◌&&◌, Bool, length, get_or}
use Rattle.std.specs.List.{list_any}
use Rattle.paraid_memrack.specs.CallPlan.{names_call}
use Rattle.paraid_memrack.proofs.PlanLemmas.{lt_true, lt_false, planned_is}
use Rattle.paraid_memrack.proofs.log.Log.is_planned.Goals as goal

pub overflow_cast-at : goal.overflow_cast-at
overflow_cast-at c = omega (arith, c.len-at.ensures, c.args.self.now.calls.ok.0, c.args.self.now.few, c.args.self.now.short)

pub returns-then-at-self : goal.returns-then-at-self
returns-then-at-self c =
    let log = c.args.self.now in
    let at : c.len-at.result ≡ length log.calls.items = omega (arith, c.len-at.ensures, log.calls.ok.0) in
    c.names_any.ensures
    ∙ ap (λ (b : Bool). b && list_any (names_call c.len-at.result c.args.disk (get_or log.counts c.args.disk 0)) log.plan.items) (sym (lt_true _ _ c.if-at-self.true))
    ∙ planned_is log.most c.len-at.result (get_or log.counts c.args.disk 0) c.args.disk log.plan.items log.calls.items at (log.counted c.args.disk c.requires)

pub returns-else-at-self : goal.returns-else-at-self
returns-else-at-self c =
    let log = c.args.self.now in
    let at : c.len-at.result ≡ length log.calls.items = omega (arith, c.len-at.ensures, log.calls.ok.0) in
    lt_false _ _ c.if-at-self.false
    ∙ ap (λ (b : Bool). b && list_any (names_call c.len-at.result c.args.disk (get_or log.counts c.args.disk 0)) log.plan.items) (sym (lt_false _ _ c.if-at-self.false))
    ∙ planned_is log.most c.len-at.result (get_or log.counts c.args.disk 0) c.args.disk log.plan.items log.calls.items at (log.counted c.args.disk c.requires)
