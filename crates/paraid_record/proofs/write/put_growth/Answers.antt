use Rattle.std.proofs.lemmas.List.{append_assoc, append-nil}
use Rattle.paraid_record.specs.Meta.{growth_bytes}
use Rattle.paraid_record.proofs.write.put_growth.Goals as goal

pub returns-clause-value : goal.returns-clause-value
unfolding growth_bytes
returns-clause-value c = simp (append_assoc, append-nil, c.put_u32.ensures.value, c.put_u16.ensures.value, c.burst_code.ensures, c.period_code.ensures)
