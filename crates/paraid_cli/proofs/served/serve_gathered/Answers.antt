use Rattle.std.proofs.Common.{◌∙◌, Option, ap, refl}
use Rattle.paraid_cli.proofs.CommandEndLemmas.{slots_alone}
use Rattle.paraid_rack.specs.Trail.{Trail}
use Rattle.paraid_gather.specs.Above.{slots_above, told_above}
use Rattle.paraid_gather.specs.Gathers.{waiting_in}
use Rattle.paraid_cli.proofs.served.serve_gathered.Goals as goal

pub returns-clause-told : goal.returns-clause-told
returns-clause-told g c command asked =
    let taken = c.in-Ok.gathered in
    let left = c.paraid-status.result.rack in
    let is = c.in-Ok.ensures in
    record {
      rack = record {
        slots = g.R.Rack.slot_count taken.rack;
        old = slots_above (g.R.Rack.slot taken.rack) (waiting_in taken);
        new = slots_above (g.R.Rack.slot left.rack) (waiting_in left);
        before = told_above (g.R.Rack.told taken.rack) (g.L.Noted.noted taken.log);
        after = told_above (g.R.Rack.told left.rack) (g.L.Noted.noted left.log);
      };
      count = ap g.R.Rack.slot_count is.rack;
      before = slots_alone g.R.Rack.slot taken.rack c.args.rack.inside (waiting_in taken) is.rack is.none;
      told = ap (λ (o : Option Trail). told_above o (g.L.Noted.noted taken.log)) (ap g.R.Rack.told is.rack) ∙ ap (λ (o : Option Trail). told_above (g.R.Rack.told c.args.rack.inside) o) (ap g.L.Noted.noted is.log);
      gathered = c.finish-rack.ensures.gathered;
      does = c.paraid-status.ensures.does command asked;
      complete = c.paraid-status.ensures.complete command asked;
      left = record { below = g.R.Rack.slot left.rack; waiting = waiting_in left; shown = λ d. refl; left = c.finish-rack.ensures.slot };
      unhurt = c.paraid-status.ensures.unhurt;
    }
