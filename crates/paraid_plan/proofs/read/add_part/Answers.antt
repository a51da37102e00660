use Rattle.std.proofs.Common.{◌∙◌, ap, Bool, if◌then◌else◌}
use Rattle.paraid_base.specs.Pairs.{pairs_of}
use Rattle.paraid_base.specs.Xor.{xor, zero_block}
use Rattle.paraid_plan.proofs.PartLemmas.{part_added}
use Rattle.paraid_plan.proofs.read.add_part.Goals as goal

pub returns : goal.returns
returns c n r row ld given changed is =
    part_added n (pairs_of c.args.pairs.now) r row c.args.anew c.args.changed c.args.d c.args.value.now c.args.sum.now c.add_if.new.sum c.add_given.new.sum
    changed is (c.add_if.ensures ∙ ap (λ (z : Bool). xor c.args.sum.now (if z then c.args.value.now else zero_block)) c.is_part.ensures) (c.add_given.ensures n r ld given)
