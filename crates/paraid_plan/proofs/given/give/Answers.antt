use Rattle.std.proofs.Common.{◌∙◌, ap, sym, arith}
use Rattle.paraid_base.specs.Cells.{cell_block, parity_disk}
use Rattle.paraid_plan.proofs.PairLemmas.{gives_away, gives_here}
use Rattle.paraid_plan.proofs.given.give.Goals as goal

pub returns-then-q-r : goal.returns-then-q-r
returns-then-q-r c =
    let low = c.args.g.now.disks_low in
    gives_away c.args.pairs.now c.args.g.now.disks c.args.at c.args.r c.home-q.result.0 c.args.given.now (omega (arith, low)) c.requires.at c.home-q.ensures.row c.if-q-r.true c.requires.before

pub returns : goal.returns
returns c =
    let n = c.args.g.now.disks in
    let low = c.args.g.now.disks_low in
    let d = c.home-q.result.1 in
    gives_here c.args.pairs.now n c.args.at c.args.r d c.args.given.now c.set_given.new.given (omega (arith, low)) c.requires.at c.home-q.ensures.disk_in
    (λ is. c.home-q.ensures.not_parity (is ∙ ap (parity_disk n) (sym c.if-q-r.false))) (ap (λ (z : _). cell_block n z d) (sym c.if-q-r.false) ∙ c.home-q.ensures.back)
    c.set_given.ensures.here c.set_given.ensures.others c.requires.before
