use Rattle.std.proofs.lemmas.List.{append_assoc, append-nil}
use Rattle.paraid_record.specs.Meta.{clock_bytes}
use Rattle.paraid_record.proofs.write.put_clocks.Goals as goal

pub returns-clause-value : goal.returns-clause-value
unfolding clock_bytes
returns-clause-value c = simp (append_assoc, append-nil, c.put_u64-3.ensures.value, c.put_u64-2.ensures.value, c.put_u64.ensures.value)
