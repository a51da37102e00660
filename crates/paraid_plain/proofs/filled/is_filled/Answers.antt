use Rattle.std.proofs.Common.{sym, ◌∙◌}
use Rattle.std.proofs.lemmas.Bool.{false≢true}
use Rattle.paraid_plain.proofs.TestLemmas.{not_so}
use Rattle.paraid_plain.proofs.filled.is_filled.Goals.{then-are_copied, else-are_copied}
use Rattle.paraid_plain.proofs.filled.is_filled.Goals as goal

pub returns-then-are_pads_zero : goal.returns-then-are_pads_zero
returns-then-are_pads_zero c =
    elim c.if-are_copied.branch [
      | then-are_copied w ↦
          let copied = c.are_copied.ensures.0 w.if-are_copied.true in (
            λ zero. record {
              cells = λ r d row low high is. copied r row d low high is;
              pads = w.are_pads_zero.ensures.0 (sym w.value-is ∙ c.if-are_pads_zero.true);
              zero = c.is_stripe_zero.ensures.0 zero;
            },
            λ filled. c.is_stripe_zero.ensures.1 filled.zero,
          )
      | else-are_copied w ↦ absurd (false≢true (sym w.if-are_copied.false ∙ sym w.value-is ∙ c.if-are_pads_zero.true))
    ]

pub returns-else-are_pads_zero : goal.returns-else-are_pads_zero
returns-else-are_pads_zero c = (
  λ is. absurd (false≢true (sym c.if-are_pads_zero.false ∙ is)),
  λ filled.
      elim c.if-are_copied.branch [
        | then-are_copied w ↦ w.value-is ∙ w.are_pads_zero.ensures.1 filled.pads
        | else-are_copied w ↦ absurd (not_so c.are_copied.result c.are_copied.ensures w.if-are_copied.false (λ r row d low high is. filled.cells r d row low high is))
      ],
)
