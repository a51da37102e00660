use Rattle.std.proofs.Common.{◌∙◌, ap, sym}
use Rattle.paraid_base.specs.Pairs.{pairs_of}
use Rattle.paraid_base.specs.Xor.{xor, zero_block}
use Rattle.paraid_base.proofs.XorLemmas.{xor_zero_right}
use Rattle.paraid_plan.proofs.PairLemmas.{gives_not, gives_this}
use Rattle.paraid_plan.proofs.given.add_given.Goals as goal

pub returns-in_default : goal.returns-in_default
returns-in_default c n r ld given = rw (gives_not c.args.pairs.now.bytes n (pairs_of c.args.pairs.now) r c.args.d c.args.given.now ld given c.in_default.not-Some) (sym (xor_zero_right c.args.sum.now))

pub returns : goal.returns
returns c n r ld given =
    let this = gives_this c.args.pairs.now.bytes n (pairs_of c.args.pairs.now) r c.args.d _ c.args.given.now ld given c.in-Some.is in
    rw this.1 (c.xor_into.ensures ∙ ap (xor c.args.sum.now) (c.block_of.ensures ∙ sym (this.2 zero_block)))
