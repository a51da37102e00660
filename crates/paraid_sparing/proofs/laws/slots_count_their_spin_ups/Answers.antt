use Rattle.std.proofs.Common.{refl}
use Rattle.paraid_sparing.specs.Session.{fresh_stock}
use Rattle.paraid_sparing.proofs.RecordedLemmas.{trace_counts}
use Rattle.paraid_sparing.proofs.laws.slots_count_their_spin_ups.Goals as goal

pub returns : goal.returns
returns c slots wait left setup p q events turns text stock answers one d low = trace_counts slots setup wait p (fresh_stock left) events turns text q stock answers one d low refl
