use Rattle.std.proofs.Common.{ℕ, ◌≡◌, ◌<◌, ◌∙◌, ◌∷◌, [], take, drop, suc, sym, subst, arith, get_or}
use Rattle.std.specs.Prelude.{All}
use Rattle.std.proofs.lemmas.List.Elements.{All-append}
use Rattle.paraid_base.specs.declared.block.Block.{Block}
use Rattle.paraid_base.specs.History.{Entry}
use Rattle.paraid_base.specs.Pairs.{pairs_of, numbered_blocks}
use Rattle.paraid_base.specs.Xor.{zero_block}
use Rattle.paraid_base.proofs.PairsLemmas.{all_one, split-zipped, take-zipped}
use Rattle.paraid_base.proofs.pairs.Pairs.missing.Goals as goal

pub loop-at-preserved : goal.loop-at-preserved
loop-at-preserved c =
    let p = c.args.self.now in
    let blocks = p.blocks_whole in
    let few = p.few in
    let test = c.loop-at-test.true in
    let P = λ (pair : ℕ × Block). pair.0 < c.args.count in
    subst (λ (e : Entry). All P e) (sym (take-zipped p.blocks p.bytes c.loop-at.at 0 zero_block (p.blocks_whole ∙ sym p.bytes_whole) (omega (arith, blocks, few, test))))
    (All-append P (take c.loop-at.at (numbered_blocks p.blocks p.bytes)) ((get_or p.blocks c.loop-at.at 0, get_or p.bytes c.loop-at.at zero_block) ∷ []) c.loop-at.invariant
    (all_one P _ (let small = c.if-self-at.false in omega (arith, small))))

pub returns-then-self-at-clause-some : goal.returns-then-self-at-clause-some
unfolding pairs_of
returns-then-self-at-clause-some c =
    let p = c.args.self.now in
    let blocks = p.blocks_whole in
    let few = p.few in
    let test = c.loop-at-test.true in
    record {
      before = take c.loop-at.at (numbered_blocks p.blocks p.bytes);
      bytes = get_or p.bytes c.loop-at.at zero_block;
      rest = drop (suc c.loop-at.at) (take p.count (numbered_blocks p.blocks p.bytes));
      is = split-zipped p.blocks p.bytes p.count c.loop-at.at 0 zero_block (p.blocks_whole ∙ sym p.bytes_whole) (omega (arith, blocks, few)) test;
      below = c.loop-at.invariant;
      missing = c.if-self-at.true;
    }

pub returns-clause-none : goal.returns-clause-none
unfolding pairs_of
returns-clause-none c =
    let past = c.loop-at-test.false in
    let until = c.loop-at.auto.at-end in
    let same : c.loop-at.at ≡ c.args.self.now.count = omega (arith, past, until) in
    subst (λ (n : ℕ). All (λ (pair : ℕ × Block). pair.0 < c.args.count) (take n (numbered_blocks c.args.self.now.blocks c.args.self.now.bytes))) same c.loop-at.invariant
