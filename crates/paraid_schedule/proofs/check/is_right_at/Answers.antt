use Rattle.std.proofs.Common.{◌+◌, arith, sym, ◌∙◌}
use Rattle.std.proofs.lemmas.Bool.{false≢true}
use Rattle.paraid_schedule.proofs.RowLemmas.{row_start-end}
use Rattle.paraid_schedule.proofs.TestLemmas.{not_so, unserved_is_right, served_is_right, right_stay, right_fall, right_rise}
use Rattle.paraid_schedule.proofs.check.is_right_at.Goals.{then-allow_a_stay, else-allow_a_stay}
use Rattle.paraid_schedule.proofs.check.is_right_at.Goals as goal

pub are_all-requires : goal.are_all-requires
are_all-requires c =
    omega (arith, c.row-at.ensures.value, row_start-end c.args.setup.now.geometry c.args.ups c.args.t (c.args.t + 1) c.args.a c.requires.gear (omega arith))

pub returns-then-not-is_served : goal.returns-then-not-is_served
returns-then-not-is_served c =
    unserved_is_right c.args.setup.now c.args.demanded c.args.ups c.args.bounds.now c.args.t c.args.a c.row-at.result c.are_all.result
    (not_so c.is_served.result c.is_served.ensures c.if-not-is_served.true) c.row-at.ensures.value c.are_all.ensures

pub returns-then-allow_a_fall : goal.returns-then-allow_a_fall
returns-then-allow_a_fall c =
    let served = c.is_served.ensures.0 c.if-not-is_served.false in
    elim c.if-allow_a_stay.branch [
      | then-allow_a_stay w ↦ (
        λ is. served_is_right c.args.setup.now c.args.demanded c.args.ups c.args.bounds.now c.args.t c.args.a served
            (c.allow_a_stay.ensures.0 w.if-allow_a_stay.true) (w.allow_a_fall.ensures.0 (sym w.value-is ∙ c.if-allow_a_fall.true)) (c.allow_a_rise.ensures.0 is),
        λ right. c.allow_a_rise.ensures.1 (right_rise c.args.setup.now c.args.demanded c.args.ups c.args.bounds.now c.args.t c.args.a served right),
      )
      | else-allow_a_stay w ↦ absurd (false≢true (sym w.if-allow_a_stay.false ∙ sym w.value-is ∙ c.if-allow_a_fall.true))
    ]

pub returns-else-allow_a_fall : goal.returns-else-allow_a_fall
returns-else-allow_a_fall c =
    let served = c.is_served.ensures.0 c.if-not-is_served.false in (
      λ is. absurd (false≢true (sym c.if-allow_a_fall.false ∙ is)),
      λ right.
          elim c.if-allow_a_stay.branch [
            | then-allow_a_stay w ↦
                w.value-is ∙ w.allow_a_fall.ensures.1 (right_fall c.args.setup.now c.args.demanded c.args.ups c.args.bounds.now c.args.t c.args.a served right)
            | else-allow_a_stay w ↦
                absurd (not_so c.allow_a_stay.result c.allow_a_stay.ensures w.if-allow_a_stay.false
                (right_stay c.args.setup.now c.args.demanded c.args.ups c.args.bounds.now c.args.t c.args.a served right))
          ],
    )
