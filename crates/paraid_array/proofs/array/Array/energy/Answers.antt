use Rattle.std.proofs.Common.{◌∙◌}
use Rattle.paraid_array.proofs.FirstLemmas.{energy_at}
use Rattle.paraid_array.proofs.array.Array.energy.Goals as goal

pub returns : goal.returns
returns g c = record { point = λ p at. c.total.ensures ∙ energy_at g.R.Rack.slot_count g.R.Rack.told c.args.self.now p at; value = c.total.ensures }
