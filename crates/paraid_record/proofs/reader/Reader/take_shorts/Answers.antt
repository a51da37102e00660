use Rattle.std.specs.Prelude.{◌≡◌, ◌<◌, ◌++◌, ℕ, List, [], length, drop}
use Rattle.std.proofs.Common.{arith, ap, sym, ◌∙◌}
use Rattle.std.proofs.lemmas.List.{drop_all, length-set, take_all}
use Rattle.paraid_record.specs.Spelling.{shorts}
use Rattle.paraid_record.proofs.SpellingLemmas.{shorts_step}
use Rattle.paraid_record.proofs.reader.Reader.take_shorts.Goals as goal

pub loop-at-preserved : goal.loop-at-preserved
loop-at-preserved c =
    let known = c.loop-at.invariant in
    record {
      room = omega (arith, known.room);
      same = (length-set c.loop-at.into c.loop-at.at c.take_u16.result ∙ known.same.0, λ i. length c.args.into.now);
      reads = λ xs rest l small e.
          let before = known.reads xs rest l small e in
          let inside : c.loop-at.at < length xs = omega (arith, l, known.same.1) in
          shorts_step xs rest c.loop-at.self c.take_u16.new.self c.loop-at.into c.loop-at.at c.take_u16.result inside (known.same.0 ∙ sym l)
          (small c.loop-at.at) c.take_u16.ensures.reads before.0 before.1;
    }

pub returns-clause-reads : goal.returns-clause-reads
returns-clause-reads c = λ xs rest l small e.
    let known = c.loop-at.invariant in
    let done = known.reads xs rest l small e in
    let full = take_all c.loop-at.at c.loop-at.into (omega (arith, known.same.0)) in
    let whole = take_all c.loop-at.at xs (omega (arith, l)) in
    let none : shorts (drop c.loop-at.at xs) ≡ [] = ap shorts (drop_all c.loop-at.at xs (omega (arith, l))) in
    (sym full ∙ done.1 ∙ whole, done.0 ∙ ap (λ (s : List ℕ). s ++ rest) none)
