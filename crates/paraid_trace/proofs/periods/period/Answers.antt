use Rattle.std.proofs.Common.{arith, ap, sym, ◌∙◌}
use Rattle.paraid_trace.specs.BlockTexts.{is_period}
use Rattle.paraid_trace.proofs.PeriodLemmas.{NoneBelow-next, Repeats-long, Repeats-period, period_of-is}
use Rattle.paraid_trace.proofs.periods.period.Goals as goal

pub returns-then-is_period-clause-value : goal.returns-then-is_period-clause-value
returns-then-is_period-clause-value c =
    let passes = ap (λ bytes. is_period bytes c.loop-p.p) (sym c.as_slice-bytes.ensures.value) ∙ sym c.is_period.ensures ∙ c.if-is_period.true in
    period_of-is c.args.block.now.bytes c.loop-p.p c.loop-p.invariant.low (omega arith) c.loop-p.invariant.none (λ lt. passes)

pub returns-then-is_period-clause-repeats : goal.returns-then-is_period-clause-repeats
returns-then-is_period-clause-repeats c =
    let passes = ap (λ bytes. is_period bytes c.loop-p.p) (sym c.as_slice-bytes.ensures.value) ∙ sym c.is_period.ensures ∙ c.if-is_period.true in
    Repeats-period c.args.block.now c.loop-p.p c.loop-p.invariant.low (omega arith) (λ lt. passes)

pub returns-then-is_period-clause-least : goal.returns-then-is_period-clause-least
returns-then-is_period-clause-least c = Repeats-long c.args.block.now c.loop-p.p (omega arith) c.loop-p.invariant.none

pub returns-clause-value : goal.returns-clause-value
returns-clause-value c = period_of-is c.args.block.now.bytes 512 (omega arith) (omega arith) (λ q le lt. c.loop-p.invariant.none q le (omega arith)) (λ lt. absurd (omega arith))

pub returns-clause-repeats : goal.returns-clause-repeats
returns-clause-repeats c = Repeats-period c.args.block.now 512 (omega arith) (omega arith) (λ lt. absurd (omega arith))

pub returns-clause-least : goal.returns-clause-least
returns-clause-least c = Repeats-long c.args.block.now 512 (omega arith) (λ q le lt. c.loop-p.invariant.none q le (omega arith))

pub loop-p-init : goal.loop-p-init
loop-p-init c = record {
  low = c.next_place-p.ensures.low;
  high = c.next_place-p.ensures.within;
  none = λ q from below. ap (λ bytes. is_period bytes q) (sym c.as_slice-bytes.ensures.value) ∙ c.next_place-p.ensures.passed q from below;
}

pub loop-p-preserved : goal.loop-p-preserved
loop-p-preserved c =
    let bytes = c.args.block.now.bytes in
    let here = ap (λ bytes. is_period bytes c.loop-p.p) (sym c.as_slice-bytes.ensures.value) ∙ sym c.is_period.ensures ∙ c.if-is_period.false in
    record {
      low = omega (arith, c.loop-p.invariant.low, c.next_place-p-in-loop-p.ensures.low);
      high = c.next_place-p-in-loop-p.ensures.within;
      none = NoneBelow-next bytes c.loop-p.p c.next_place-p-in-loop-p.result here (λ q from below. ap (λ bytes. is_period bytes q) (sym c.as_slice-bytes.ensures.value) ∙ c.next_place-p-in-loop-p.ensures.passed q from below) c.loop-p.invariant.none;
    }
