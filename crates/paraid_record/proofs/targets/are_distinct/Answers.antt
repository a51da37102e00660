use Rattle.std.specs.Prelude.{◌≡◌, ◌<◌, get_or}
use Rattle.std.proofs.Common.{arith, ap, inl, inr, sym, ◌∙◌}
use Rattle.std.proofs.lemmas.Bool.{cases_lt, false≢true}
use Rattle.paraid_record.proofs.TargetLemmas.{stands_before}
use Rattle.paraid_record.proofs.targets.are_distinct.Goals as goal

pub loop-at-preserved : goal.loop-at-preserved
loop-at-preserved c = λ i j d less l e. elim (cases_lt j c.loop-at.at) [
  | inl h ↦ c.loop-at.invariant i j d less h e
  | inr h ↦
      let same : j ≡ c.loop-at.at = omega arith in
      let before : i < c.loop-at.at = omega arith in
      let twice = stands_before c.args.targets.now i c.loop-at.at d before (omega arith) (e ∙ ap (λ n. get_or c.args.targets.now n d) same) in
      absurd (false≢true (sym c.if-stands_in.false ∙ c.stands_in.ensures.1 twice))
]
