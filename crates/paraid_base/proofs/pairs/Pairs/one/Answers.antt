use Rattle.std.proofs.Common.{◌∙◌, ap, refl}
use Rattle.paraid_base.specs.Pairs.{single_pair, pairs_of}
use Rattle.paraid_base.proofs.PairsLemmas.{pairs_of-one, same_pairs}
use Rattle.paraid_base.proofs.pairs.Pairs.one.Goals as goal

pub returns-clause-value : goal.returns-clause-value
unfolding single_pair
returns-clause-value c = same_pairs _ _ refl refl (rw (c.copy_from.ensures, c.zero.ensures, c.zero-2.ensures, c.zero-3.ensures, c.zero-4.ensures, c.zero-5.ensures, c.zero-6.ensures, c.zero-7.ensures) refl)

pub returns-clause-pairs : goal.returns-clause-pairs
returns-clause-pairs c = ap pairs_of (returns-clause-value c) ∙ pairs_of-one c.args.block c.args.bytes.now
