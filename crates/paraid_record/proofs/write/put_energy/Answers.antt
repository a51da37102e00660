use Rattle.std.proofs.lemmas.List.{append_assoc, append-nil}
use Rattle.paraid_record.specs.Meta.{energy_bytes}
use Rattle.paraid_record.proofs.write.put_energy.Goals as goal

pub returns-clause-value : goal.returns-clause-value
unfolding energy_bytes
returns-clause-value c = simp (append_assoc, append-nil, c.put_u32-3.ensures.value, c.put_u32-2.ensures.value, c.put_u32.ensures.value)
