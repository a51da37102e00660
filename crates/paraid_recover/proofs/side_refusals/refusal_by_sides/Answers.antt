use Rattle.std.proofs.Common.{rules, refl}
use Rattle.paraid_recover.specs.Said.{AreSilent}
use Rattle.paraid_recover.proofs.SidesLemmas.{faultless, least_at_fault}
use Rattle.paraid_recover.proofs.side_refusals.refusal_by_sides.Goals as goal

pub returns-in-Some : goal.returns-in-Some
returns-in-Some c =
    let said : AreSilent c.args.sides.now → ⊥ = search rules in (
      said,
      least_at_fault _ _ _ _ c.standing_out-out.ensures (c.in-Some.ensures.some _ refl)
          (λ e low faulty. c.in-Some.ensures.least _ e refl low faulty),
    )

pub returns-in-Some-first_faulty : goal.returns-in-Some-first_faulty
returns-in-Some-first_faulty c =
    let said : AreSilent c.args.sides.now → ⊥ = search rules in (
      said,
      faultless _ _ _ c.standing_out-out.ensures (λ e low faulty. c.first_faulty.ensures.none e (search rules) low faulty),
      least_at_fault _ _ _ _ c.standing_out-out.ensures (c.in-Some-first_faulty.ensures.some _ refl)
          (λ e low faulty. c.in-Some-first_faulty.ensures.least _ e refl low faulty),
    )
