use Rattle.std.proofs.Common.{◌≤◌}
use Rattle.paraid_scrub.specs.Counts.{CountBelow, IsOff}
use Rattle.paraid_scrub.specs.Looks.{KeepsView}
use Rattle.paraid_scrub.proofs.scrub.count.Given as goal

abbrev pub invariant-loop-at : goal.invariant-loop-at
invariant-loop-at g l = record {
  kept : KeepsView g.C.Stored.meta g.C.Stored.usable g.C.Stored.tells g.C.Stored.shows g.C.Stored.leads l.fn.core l.core
      (λ v. CountBelow (IsOff v l.fn.kind) l.at l.found);
  few : l.found ≤ l.at;
}
