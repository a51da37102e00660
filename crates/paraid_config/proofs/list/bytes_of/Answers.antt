use Rattle.std.proofs.Common.{sym}
use Rattle.std.proofs.lemmas.List.{take_more}
use Rattle.paraid_config.proofs.ListLemmas.{fits_byte}
use Rattle.paraid_config.proofs.list.bytes_of.Goals as goal

pub overflow_cast-number : goal.overflow_cast-number
overflow_cast-number c = fits_byte _ (c.requires c.loop-number.number-index 0 c.loop-number-test.true)

pub loop-number-preserved : goal.loop-number-preserved
loop-number-preserved c =
    rw (c.in-Ok.ensures.items, c.loop-number.invariant) (sym (take_more c.args.numbers.now c.loop-number.number-index 0 c.loop-number-test.true))
