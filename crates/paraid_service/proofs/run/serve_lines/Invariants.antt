use Rattle.std.proofs.Common.{◌≡◌, ◌+◌, ◌-◌, ◌^◌, length}
use Rattle.paraid_service.proofs.TakeLemmas.{Taken}
use Rattle.paraid_service.proofs.run.serve_lines.Given as goal
use Rattle.paraid_base.specs.Told.{stream_most}

abbrev pub invariant-lines : goal.invariant-lines
invariant-lines g l = record {
  taken : Taken g.B.Blocks l.fn.blocks (g.S.Source.left l.fn.source) (g.S.Source.left l.source) (g.K.Sink.written l.fn.sink) (g.K.Sink.written l.sink) l.reader l.shelved.shelf l.shelved.halt;
  source : g.S.Source.faults l.source ≡ g.S.Source.faults l.fn.source;
  sink : g.K.Sink.faults l.sink ≡ g.K.Sink.faults l.fn.sink;
}

abbrev pub decreases-lines : goal.decreases-lines
decreases-lines g l = (stream_most - l.reader.taken) + length l.reader.rest
