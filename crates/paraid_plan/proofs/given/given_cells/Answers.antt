use Rattle.std.proofs.Common.{◌≡◌, ◌∙◌, ap, subst, arith, None, replicate}
use Rattle.std.proofs.lemmas.List.{get_or-replicate}
use Rattle.paraid_base.specs.History.{Entry}
use Rattle.paraid_plan.specs.RowWrites.{AreGivenBy, pairs_before}
use Rattle.paraid_plan.proofs.ManyLemmas.{pair_below}
use Rattle.paraid_plan.proofs.PairLemmas.{before_all, gives_none}
use Rattle.paraid_plan.proofs.given.given_cells.Goals as goal

pub loop-at-init : goal.loop-at-init
loop-at-init c =
    let high = c.args.g.now.disks_high in
    gives_none c.args.pairs.now c.args.g.now.disks c.args.r (replicate 8 None) (λ d l. get_or-replicate 8 d None None (omega (arith, high, l)))

pub give-requires-clause-block : goal.give-requires-clause-block
give-requires-clause-block c = pair_below c.args.pairs.now _ c.loop-at.at c.requires.blocks c.loop-at-test.true

pub returns : goal.returns
returns c =
    let past = c.loop-at-test.false in
    let until = c.loop-at.auto.at-end in
    let p = c.args.pairs.now in
    let same : c.loop-at.at ≡ p.count = omega (arith, past, until) in
    subst (λ (z : Entry). AreGivenBy p.bytes c.args.g.now.disks z c.args.r c.loop-at.given) (ap (pairs_before p) same ∙ before_all p) c.loop-at.invariant
