use Rattle.std.proofs.lemmas.List.{append_assoc, append-nil}
use Rattle.paraid_record.specs.Meta.{geometry_bytes}
use Rattle.paraid_record.proofs.write.put_geometry.Goals as goal

pub returns-clause-value : goal.returns-clause-value
unfolding geometry_bytes
returns-clause-value c = simp (append_assoc, append-nil, c.put_u32.ensures.value, c.put_bytes.ensures.value, c.put_u8-2.ensures.value, c.put_u8.ensures.value, c.gear_list-count.ensures.gears, c.gear_list-count.ensures.count)
