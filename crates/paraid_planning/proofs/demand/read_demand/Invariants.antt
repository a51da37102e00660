use Rattle.std.proofs.Common.{◌≡◌, ◌+◌, ◌-◌, ◌^◌, length}
use Rattle.paraid_planning.proofs.GatheredLemmas.{Gathered}
use Rattle.paraid_planning.proofs.demand.read_demand.Given as goal
use Rattle.paraid_base.specs.Told.{stream_most}

abbrev pub invariant-lines : goal.invariant-lines
invariant-lines g l = record {
  gathered : Gathered (g.S.Source.left l.initial.source) (g.S.Source.left l.source) l.reader l.demand.items;
  still : g.S.Source.faults l.source ≡ g.S.Source.faults l.initial.source;
}

abbrev pub decreases-lines : goal.decreases-lines
decreases-lines g l = (stream_most - l.reader.taken) + length l.reader.rest
