use Rattle.std.proofs.Common.{◌≡◌, ◌+◌, ◌-◌, ◌^◌, length}
use Rattle.paraid_rack.specs.Told.{Extends}
use Rattle.paraid_serve.specs.Lost.{HasServedSince}
use Rattle.paraid_serve.proofs.Sofar.{Sofar}
use Rattle.paraid_serve.proofs.run.session.Given as goal
use Rattle.paraid_base.specs.Told.{stream_most}

abbrev pub invariant-lines : goal.invariant-lines
invariant-lines g l = record {
  sofar : Sofar (g.A.Serves.shown l.initial.array) (g.A.Serves.shown l.array) (g.A.Serves.slots l.initial.array) (g.A.Serves.setup l.initial.array) (g.A.Serves.stands l.initial.array) (g.S.Source.left l.initial.source) (g.S.Source.left l.source) (g.K.Sink.written l.initial.sink) (g.K.Sink.written l.sink) (g.A.Serves.told l.initial.array) (g.A.Serves.told l.array) (g.A.Serves.stands l.array) l.reader;
  told : Extends (g.A.Serves.told l.initial.array) (g.A.Serves.told l.array);
  slots : g.A.Serves.slots l.array ≡ g.A.Serves.slots l.initial.array;
  setup : g.A.Serves.setup l.array ≡ g.A.Serves.setup l.initial.array;
  halt : l.halt ≡ g.A.Serves.halted l.array;
  since : HasServedSince (g.A.Serves.slot l.initial.array) (g.A.Serves.slot l.array) (g.A.Serves.halted l.array);
  source : g.S.Source.faults l.source ≡ g.S.Source.faults l.initial.source;
  sink : g.K.Sink.faults l.sink ≡ g.K.Sink.faults l.initial.sink;
}

abbrev pub decreases-lines : goal.decreases-lines
decreases-lines g l = (stream_most - l.reader.taken) + length l.reader.rest
