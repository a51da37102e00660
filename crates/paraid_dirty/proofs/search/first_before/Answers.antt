use Rattle.std.specs.Prelude.{slice_index}
use Rattle.std.proofs.Common.{ap, bit_and}
use Rattle.paraid_dirty.proofs.SearchLemmas.{word_found, word_passed}
use Rattle.paraid_dirty.proofs.search.first_before.Goals as goal

pub returns-in-Some-clause-some : goal.returns-in-Some-clause-some
returns-in-Some-clause-some c =
    word_found c.args.words.now c.loop-at.at c.args.from c.args.lo c.args.hi _ _ c.in-Some.i c.requires.high c.saturating_sub-low.ensures
    (ap (bit_and (slice_index c.args.words.now c.loop-at.at)) c.pattern-pattern.ensures) c.in-Some.ensures.within c.in-Some.ensures.some c.loop-at.invariant

pub loop-at-preserved : goal.loop-at-preserved
loop-at-preserved c =
    word_passed c.args.words.now c.loop-at.at c.args.from c.args.lo c.args.hi _ _ c.requires.high c.saturating_sub-low.ensures
    (ap (bit_and (slice_index c.args.words.now c.loop-at.at)) c.pattern-pattern.ensures) c.in_default.ensures.none c.loop-at.invariant
