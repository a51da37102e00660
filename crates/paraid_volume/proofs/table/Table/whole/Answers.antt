use Rattle.std.proofs.Common.{ap, ◌≡◌, ℕ, ◌∙◌, ◌++◌, ◌∷◌, [], arith, subst, inl, inr, get_or}
use Rattle.std.proofs.lemmas.Bool.{cases_eq}
use Rattle.std.proofs.lemmas.List.{get_or_default}
use Rattle.std.proofs.lemmas.List.Elements.{All-nil}
use Rattle.paraid_base.specs.declared.block.Block.{Block}
use Rattle.paraid_base.specs.History.{Entry, last_of}
use Rattle.paraid_base.specs.Pairs.{pairs_of}
use Rattle.paraid_base.specs.Xor.{zero_block}
use Rattle.paraid_volume.specs.Laid.{table_pairs}
use Rattle.paraid_volume.proofs.CallLemmas.{one_more}
use Rattle.paraid_volume.specs.TableBlocks.{in_table}
use Rattle.paraid_volume.proofs.LaidLemmas.{IsLow, added_here, added_low, added_other}
use Rattle.paraid_volume.proofs.table.Table.whole.Goals as goal

pub loop-at-init : goal.loop-at-init
loop-at-init c =
    let t = c.args.self.now in
    let whole = t.whole in
    let y = get_or t.blocks 0 c.index-self-0.result in
    let is : pairs_of c.one-pairs.result ≡ [] ++ (0, y) ∷ [] = c.one-pairs.ensures.pairs in
    record {
      few = c.one-pairs.ensures.count;
      here = λ k x l. let z : 0 ≡ k = omega (arith, l) in subst (λ (n : ℕ). last_of n x (pairs_of c.one-pairs.result) ≡ in_table t n) z
          (added_here [] (pairs_of c.one-pairs.result) 0 y is x ∙ get_or_default t.blocks 0 c.index-self-0.result zero_block (omega (arith, whole)));
      rest = λ k x l. added_other [] (pairs_of c.one-pairs.result) 0 y is k x (λ e. let no : ⊥ = omega (arith, e, l) in absurd no);
      below = added_low [] (pairs_of c.one-pairs.result) 0 y is (omega arith) (All-nil IsLow);
      exact = is ∙ ap (λ (x : Block). (0, x) ∷ []) (get_or_default t.blocks 0 c.index-self-0.result zero_block (omega (arith, whole)));
    }

pub loop-at-preserved : goal.loop-at-preserved
loop-at-preserved c =
    let t = c.args.self.now in
    let whole = t.whole in
    let inv = c.loop-at.invariant in
    let at = c.loop-at.at in
    let test = c.loop-at-test.true in
    let few = inv.few in
    let count = c.add.ensures.count in
    let y = get_or t.blocks at c.index-self-at.result in
    let p = pairs_of c.loop-at.pairs in
    let q = pairs_of c.add.new.self in
    let is = c.add.ensures.pairs in
    record {
      few = omega (arith, few, count);
      here = λ k x l. elim (cases_eq at k) [
        | inl e ↦ subst (λ (n : ℕ). last_of n x q ≡ in_table t n) e (added_here p q at y is x ∙ get_or_default t.blocks at c.index-self-at.result zero_block (omega (arith, whole, test)))
        | inr e ↦ added_other p q at y is k x e ∙ inv.here k x (omega (arith, l, e))
      ];
      rest = λ k x l. added_other p q at y is k x (λ e. let no : ⊥ = omega (arith, e, l) in absurd no) ∙ inv.rest k x (omega (arith, l));
      below = added_low p q at y is test inv.below;
      exact =
          is ∙ ap (λ (x : Block). p ++ (at, x) ∷ []) (get_or_default t.blocks at c.index-self-at.result zero_block (omega (arith, whole, test)))
          ∙ ap (λ (e : Entry). e ++ (at, in_table t at) ∷ []) inv.exact ∙ ap (table_pairs (in_table t)) (one_more at);
    }

pub returns-clause-exact : goal.returns-clause-exact
returns-clause-exact c =
    let past = c.loop-at-test.false in
    let until = c.loop-at.auto.at-end in
    let six : c.loop-at.at ≡ 6 = omega (arith, past, until) in
    subst (λ (n : ℕ). pairs_of c.loop-at.pairs ≡ table_pairs (in_table c.args.self.now) n) six c.loop-at.invariant.exact
