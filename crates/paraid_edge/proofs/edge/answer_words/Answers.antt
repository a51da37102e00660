use Rattle.std.proofs.Common.{◌≡◌, refl}
use Rattle.paraid_words.proofs.AskedLemmas.{asks, does_it, nothing_asked}
use Rattle.paraid_edge.proofs.edge.answer_words.Goals as goal

pub work-requires : goal.work-requires
work-requires g c k = ((refl, tt), does_it _ _ c.read_words.ensures.exact (λ k. k ≡ c.in-Some.command) c.in-Some.command c.in-Some.is refl)

pub tell-requires : goal.tell-requires
tell-requires g c = nothing_asked _ _ c.read_words.ensures.exact c.in-None.is

pub returns-in-Some-clause-unasked : goal.returns-in-Some-clause-unasked
returns-in-Some-clause-unasked g c none = absurd (none c.in-Some.command (asks _ _ c.read_words.ensures.exact c.in-Some.command c.in-Some.is))

pub returns-in-Ok-clause-asked : goal.returns-in-Ok-clause-asked
returns-in-Ok-clause-asked g c command asked = absurd (nothing_asked _ _ c.read_words.ensures.exact c.in-None.is command asked)

pub returns-in-Err-clause-asked : goal.returns-in-Err-clause-asked
returns-in-Err-clause-asked g c command asked = absurd (nothing_asked _ _ c.read_words.ensures.exact c.in-None.is command asked)
