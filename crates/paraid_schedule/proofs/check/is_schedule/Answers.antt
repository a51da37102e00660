use Rattle.std.proofs.Common.{ℕ, ◌≤◌, sym, subst, ◌∙◌}
use Rattle.std.proofs.lemmas.Bool.{eqb-true, eq-eqb, leb-true, le-leb, false≢true}
use Rattle.paraid_schedule.proofs.check.is_schedule.Goals.{then-gears-demand, else-gears-demand, then-gears-setup, else-gears-setup, then-are_served, else-are_served}
use Rattle.paraid_schedule.proofs.check.is_schedule.Goals as goal

pub returns-then-are_steps : goal.returns-then-are_steps
returns-then-are_steps c =
    elim c.if-are_served.branch [
      | then-are_served w ↦
          elim c.if-gears-setup.branch [
            | then-gears-setup v ↦
                elim c.if-gears-demand.branch [
                  | then-gears-demand u ↦ (
                    λ is. record {
                      periods = u.if-gears-demand.true;
                      first = eqb-true _ _ (sym u.value-is ∙ v.if-gears-setup.true);
                      served = v.are_served.ensures.0 (sym v.value-is ∙ w.if-are_served.true);
                      steps = w.are_steps.ensures.0 (sym w.value-is ∙ c.if-are_steps.true);
                      within = subst (λ (n : ℕ). n ≤ c.args.ups) c.count_rises.ensures (leb-true _ _ is);
                    },
                    λ all. le-leb _ _ (subst (λ (n : ℕ). n ≤ c.args.ups) (sym c.count_rises.ensures) all.within),
                  )
                  | else-gears-demand u ↦ absurd (u.if-gears-demand.false (eqb-true _ _ (sym u.value-is ∙ v.if-gears-setup.true)))
                ]
            | else-gears-setup v ↦ absurd (false≢true (sym v.if-gears-setup.false ∙ sym v.value-is ∙ w.if-are_served.true))
          ]
      | else-are_served w ↦ absurd (false≢true (sym w.if-are_served.false ∙ sym w.value-is ∙ c.if-are_steps.true))
    ]

pub returns-else-are_steps : goal.returns-else-are_steps
returns-else-are_steps c = (
  λ is. absurd (false≢true (sym c.if-are_steps.false ∙ is)),
  λ all.
      elim c.if-are_served.branch [
        | then-are_served w ↦ w.value-is ∙ w.are_steps.ensures.1 all.steps
        | else-are_served w ↦
            elim c.if-gears-setup.branch [
              | then-gears-setup v ↦ absurd (false≢true (sym w.if-are_served.false ∙ v.value-is ∙ v.are_served.ensures.1 all.served))
              | else-gears-setup v ↦
                  elim c.if-gears-demand.branch [
                    | then-gears-demand u ↦ absurd (false≢true (sym v.if-gears-setup.false ∙ u.value-is ∙ eq-eqb _ _ all.first))
                    | else-gears-demand u ↦ absurd (u.if-gears-demand.false all.periods)
                  ]
            ]
      ],
)
