use Rattle.std.proofs.Common.{ap, ◌∙◌}
use Rattle.paraid_record.specs.declared.meta.Meta.{Meta}
use Rattle.paraid_array.proofs.FirstLemmas.{writes_at}
use Rattle.paraid_array.proofs.array.Array.writes.Goals as goal

pub returns : goal.returns
returns g c = record { point = λ going p at. ap (λ (m : Meta). m.writes) c.meta.ensures ∙ writes_at g.R.Rack.slot_count g.R.Rack.told c.args.self.now going p at; shown = ap (λ (m : Meta). m.writes) c.meta.ensures }
