use Rattle.std.proofs.Common.{arith, get_or, ap, ◌∙◌, inl, inr, rules}
use Rattle.std.proofs.lemmas.Bool.{cases_eq}
use Rattle.paraid_base.specs.declared.block.Block.{Block}
use Rattle.paraid_parity.proofs.BlockPlaces.{zeroed_from_places, place_of_zeroed}
use Rattle.paraid_parity.proofs.is_zero.Goals as goal

pub loop-at-preserved : goal.loop-at-preserved
loop-at-preserved c =
    let i = c.loop-at.invariant in
    record {
      zero = λ e k lt. elim (cases_eq k c.loop-at.at) [
        | inl here ↦ ap (λ n. get_or c.args.block.now.bytes n 0) here ∙ omega arith
        | inr before ↦ i.zero (omega arith) k (omega arith)
      ];
      other = λ e.
          let was = i.other e in
          let here = ap (λ (b : Block). get_or b.bytes c.loop-at.at 0) e ∙ place_of_zeroed c.loop-at.at (omega arith) in
          omega (arith, was, here);
    }

pub returns : goal.returns
returns c = (
  λ f. zeroed_from_places _ (λ k l. c.loop-at.invariant.zero (search rules) k (omega arith)),
  λ e. search (rules, c.loop-at.invariant.other e),
)
