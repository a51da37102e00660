use Rattle.std.proofs.Common.{◌≡◌, ◌-◌, ◌*◌, ◌^◌, ◌≤◌}
use Rattle.paraid_schedule.specs.Cost.{cost_before}
use Rattle.paraid_energy.specs.Account.{HasFigures}
use Rattle.paraid_schedule.proofs.check.cost_of.Given as goal

abbrev pub invariant-loop-t : goal.invariant-loop-t
invariant-loop-t l = record {
  figures : HasFigures l.setup l.ledger;
  counted : l.ledger.total ≡ cost_before l.setup l.gears (l.t - 1);
  small : l.ledger.total ≤ l.t * 2 ^ 41;
}
