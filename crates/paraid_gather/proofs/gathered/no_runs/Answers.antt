use Rattle.std.proofs.Common.{◌≡◌, ◌∙◌, ◌+◌, ℕ, List, length, length-append, ap, sym, subst}
use Rattle.paraid_gather.specs.declared.run.Run.{Run}
use Rattle.paraid_gather.specs.Waiting.{none_waits, waiting_at}
use Rattle.paraid_gather.proofs.WholeLemmas.{none_push, none_start}
use Rattle.paraid_gather.proofs.gathered.no_runs.Goals as goal

pub loop-made-init : goal.loop-made-init
loop-made-init c = (c.in-Ok.ensures.exact, ap length c.in-Ok.ensures.items, none_start _ c.in-Ok.ensures.items)

pub loop-made-preserved : goal.loop-made-preserved
loop-made-preserved c = (
  c.push_reserved.ensures.capacity ∙ c.loop-made.invariant.0,
  ap length c.push_reserved.ensures.items ∙ length-append _ _ ∙ ap (λ (n : ℕ). n + 1) c.loop-made.invariant.1,
  subst (λ (l : List Run). (d : ℕ) → waiting_at l d ≡ none_waits) (sym c.push_reserved.ensures.items) (none_push c.loop-made.runs.items c.in_ok-new.field-0 c.loop-made.invariant.2 c.in_ok-new.ensures),
)
