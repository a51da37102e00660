use Rattle.std.proofs.lemmas.Bool.{false≢true}
use Rattle.std.proofs.Common.{◌∙◌, ◌≡◌, ℕ, ◌+◌, arith, sym, subst, get_or}
use Rattle.std.proofs.lemmas.List.{get_or_default}
use Rattle.paraid_base.specs.declared.pairs.Pairs.{Pairs}
use Rattle.paraid_base.specs.Xor.{zero_block}
use Rattle.paraid_base.specs.Pairs.{pairs_of}
use Rattle.paraid_volume.specs.Laid.{AreChanges}
use Rattle.paraid_volume.specs.TableBlocks.{in_table}
use Rattle.paraid_volume.proofs.LaidLemmas.{Laying, laying_added, laying_first, laying_same}
use Rattle.paraid_base.proofs.XorLemmas.{same_block}
use Rattle.paraid_volume.proofs.table.Table.changes.Goals as goal
use Rattle.paraid_volume.proofs.table.Table.changes.Goals.{then-not-is_same_at, else-not-is_same_at}

pub loop-at-init : goal.loop-at-init
loop-at-init c =
    let t = c.args.new.now in
    let whole = t.whole in
    laying_first (in_table c.args.self.now) (in_table t) (get_or t.blocks 1 c.index-new-1.result) c.one-pairs.result c.one-pairs.ensures.pairs c.one-pairs.ensures.count
    (get_or_default t.blocks 1 c.index-new-1.result zero_block (omega (arith, whole))) c.requires

pub loop-at-preserved : goal.loop-at-preserved
loop-at-preserved c =
    let s = c.args.self.now in
    let t = c.args.new.now in
    let whole = t.whole in
    let own = s.whole in
    let at = c.loop-at.at in
    let test = c.loop-at-test.true in
    elim c.if-not-is_same_at.branch [
      | then-not-is_same_at w ↦
          subst (λ (z : Pairs). Laying (in_table s) (in_table t) (at + 1) z) (sym w.pairs-is)
          (laying_added (in_table s) (in_table t) at c.loop-at.pairs c.loop-at.invariant test (λ e. false≢true (sym w.if-not-is_same_at.true ∙ c.is_same_at.ensures.1 e)) (get_or t.blocks at w.index-new-at.result) w.add.new.self w.add.ensures.pairs w.add.ensures.count
          (get_or_default t.blocks at w.index-new-at.result zero_block (omega (arith, whole, test))))
      | else-not-is_same_at w ↦
          subst (λ (z : Pairs). Laying (in_table s) (in_table t) (at + 1) z) (sym w.pairs-is)
          (laying_same (in_table s) (in_table t) at c.loop-at.pairs c.loop-at.invariant
          (same_block (in_table s at) (in_table t at) (c.is_same_at.ensures.0 w.if-not-is_same_at.false)))
    ]

pub returns-clause-exact : goal.returns-clause-exact
returns-clause-exact c =
    let past = c.loop-at-test.false in
    let until = c.loop-at.auto.at-end in
    let six : c.loop-at.at ≡ 6 = omega (arith, past, until) in
    subst (λ (n : ℕ). AreChanges (in_table c.args.self.now) (in_table c.args.new.now) n (pairs_of c.loop-at.pairs)) six c.loop-at.invariant.exact
