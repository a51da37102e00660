use Rattle.std.proofs.Common.{slice_index, arith, ◌*◌, ◌+◌, inl, inr, ◌∙◌}
use Rattle.std.proofs.lemmas.List.{length-set}
use Rattle.std.proofs.lemmas.Bool.{cases_lt}
use Rattle.hex.proofs.Pairs.{decode_done}
use Rattle.paraid_trace.proofs.DecodeSteps.{IsDigitValue, read_step, refused_step}
use Rattle.paraid_trace.proofs.hexes.greatest.Goals as goal

pub loop-i-preserved : goal.loop-i-preserved
loop-i-preserved c =
    let i = c.loop-i.invariant in
    let high : IsDigitValue (slice_index c.args.digits.now (2 * c.loop-i.i)) c.digit-high.result = record { value = c.digit-high.ensures.value; none = c.digit-high.ensures.none } in
    let low : IsDigitValue (slice_index c.args.digits.now (2 * c.loop-i.i + 1)) c.digit-low.result = record { value = c.digit-low.ensures.value; none = c.digit-low.ensures.none } in
    record {
      size = length-set c.loop-i.room c.loop-i.i _ ∙ i.size;
      read = λ lt. read_step c.args.digits.now c.loop-i.room c.loop-i.i c.digit-high.result c.digit-low.result (omega arith) (omega arith) high low (omega arith) (omega arith) (i.read (omega arith));
      refused = λ le. elim (cases_lt c.loop-i.greatest 16) [
        | inl good ↦ refused_step c.args.digits.now c.loop-i.room c.loop-i.i c.digit-high.result c.digit-low.result (omega arith) high low (λ small. omega arith) (i.read good)
        | inr high ↦ i.refused high
      ];
    }

pub returns-clause-read : goal.returns-clause-read
returns-clause-read c = λ lt. decode_done c.args.digits.now c.loop-i.room c.loop-i.i (omega arith) (omega arith) (c.loop-i.invariant.read lt)
