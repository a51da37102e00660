use Rattle.std.proofs.Common.{arith, ◌∙◌}
use Rattle.std.proofs.lemmas.List.{length-set}
use Rattle.hex.specs.Hex.{lower_digits}
use Rattle.hex.proofs.Pairs.{encode_done, encode_step}
use Rattle.paraid_trace.proofs.text.spell.Goals as goal

pub loop-i-preserved : goal.loop-i-preserved
loop-i-preserved c =
    let i = c.loop-i.invariant in
    record {
      size = length-set _ _ c.digit-in-loop-i.result ∙ length-set c.loop-i.room _ c.digit.result ∙ i.size;
      spelt = encode_step lower_digits c.args.bytes.now c.loop-i.room c.loop-i.i c.digit.result c.digit-in-loop-i.result (omega arith) (omega arith) c.digit.ensures c.digit-in-loop-i.ensures i.spelt;
    }

pub returns : goal.returns
returns c = encode_done lower_digits c.args.bytes.now c.loop-i.room c.loop-i.i (omega arith) c.loop-i.invariant.size c.loop-i.invariant.spelt
