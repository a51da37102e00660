use Rattle.std.proofs.Common.{◌≡◌, ℕ, List, ◌-◌, ◌^◌}
use Rattle.paraid_nbd.specs.Options.{OptionParts}
use Rattle.paraid_nbd.specs.Handshake.{IsGreeted}
use Rattle.paraid_nbd.proofs.options.negotiate.Given as goal
use Rattle.paraid_base.specs.Told.{stream_most}

abbrev pub invariant-loop : goal.invariant-loop
invariant-loop g l = record {
  greeted : (flags : List ℕ) × (options : List OptionParts) × IsGreeted l.size (g.S.Source.left l.fn.source) (g.S.Source.left l.source) l.fn.input.taken l.input.taken (g.K.Sink.written l.fn.sink) (g.K.Sink.written l.sink) flags l.no_zeros options;
  still : g.S.Source.faults l.source ≡ g.S.Source.faults l.fn.source;
  still_sink : g.K.Sink.faults l.sink ≡ g.K.Sink.faults l.fn.sink;
}

abbrev pub decreases-loop : goal.decreases-loop
decreases-loop g l = stream_most - l.input.taken
