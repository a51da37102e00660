use Rattle.std.proofs.Common.{rules}
use Rattle.paraid_recover.specs.Refusals.{IsNone, is_small}
use Rattle.paraid_recover.proofs.SizesLemmas.{large_enough}
use Rattle.paraid_recover.proofs.sizes.first_small.Goals as goal

pub returns : goal.returns
returns g c = record {
  enough = λ none.
      let all : IsNone (is_small (g.R.Rack.slot_count c.args.rack.now) (g.R.Rack.slot c.args.rack.now) c.args.meta.now) c.args.meta.now.setup.geometry.disks = search rules in
      large_enough _ _ _ _ all;
  least = search rules;
}
