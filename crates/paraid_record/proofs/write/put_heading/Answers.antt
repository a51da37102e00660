use Rattle.std.proofs.lemmas.List.{append_assoc, append-nil}
use Rattle.paraid_record.specs.Meta.{heading_bytes}
use Rattle.paraid_record.proofs.write.put_heading.Goals as goal

pub returns-clause-value : goal.returns-clause-value
unfolding heading_bytes
returns-clause-value c = simp (append_assoc, append-nil, c.put_u16.ensures.value, c.put_bytes.ensures.value)
