use Rattle.std.proofs.lemmas.List.{append_assoc, append-nil}
use Rattle.paraid_record.specs.Meta.{count_bytes}
use Rattle.paraid_record.proofs.write.put_counts.Goals as goal

pub returns-clause-value : goal.returns-clause-value
unfolding count_bytes
returns-clause-value c = simp (append_assoc, append-nil, c.put_shorts.ensures.value, c.put_u32-2.ensures.value, c.put_u32.ensures.value, c.rebuilt.ensures)
