use Rattle.std.proofs.Common.{◌-◌, ◌≡◌, arith, drop, length, length-drop, length-take, take}
use Rattle.std.proofs.lemmas.List.{length-take-le}
use Rattle.paraid_trace.proofs.PeriodLemmas.{passed_place}
use Rattle.paraid_trace.proofs.periods.next_place.Goals as goal

pub returns-in-Some-clause-passed : goal.returns-in-Some-clause-passed
returns-in-Some-clause-passed c = λ q from below.
    let bytes = c.args.bytes.now in
    let n = length bytes - c.args.p in
    let found = c.in-Some.ensures in
    let high = simp (length-take, length-drop) at found.0.high in
    passed_place bytes c.args.p n c.in-Some.more q found.0.before (omega (arith, high)) from below (omega (arith, high, c.requires.size))

pub returns-in-None-clause-passed : goal.returns-in-None-clause-passed
returns-in-None-clause-passed c = λ q from below.
    let bytes = c.args.bytes.now in
    let n = length bytes - c.args.p in
    let size : length (take n (drop c.args.p bytes)) ≡ n = length-take-le n (drop c.args.p bytes) (omega (arith, length-drop c.args.p bytes)) in
    passed_place bytes c.args.p n n q (λ k low lt. c.in-None.ensures k low (omega (arith, size))) (omega arith) from (omega (arith, c.requires.size)) below
