use Rattle.std.proofs.Common.{◌≡◌, ◌-◌, ◌^◌, List, length, IsTrue}
use Rattle.paraid_nbd.specs.Requests.{RequestParts}
use Rattle.paraid_nbd.specs.Export.{KeepsOn}
use Rattle.paraid_nbd.specs.Service.{ServesAll}
use Rattle.paraid_nbd.proofs.serve.transmit.Given as goal
use Rattle.paraid_base.specs.Told.{stream_most}

abbrev pub invariant-loop-end : goal.invariant-loop-end
invariant-loop-end g l =
    let b = g.B.Blocks in
    record {
      served : (requests : List RequestParts) × ServesAll l.size b.stands b.halted b.kept b.tells l.initial.blocks l.blocks
          (g.S.Source.left l.initial.source) (g.S.Source.left l.source) l.initial.input.taken l.input.taken (g.K.Sink.written l.initial.sink) (g.K.Sink.written l.sink) requests;
      size : b.block_count l.blocks ≡ b.block_count l.initial.blocks;
      room : length l.buffer ≡ length l.initial.buffer;
      told : IsTrue (b.tells l.blocks) → IsTrue (b.tells l.initial.blocks);
      keeps : KeepsOn b.kept l.initial.blocks l.blocks;
      still : g.S.Source.faults l.source ≡ g.S.Source.faults l.initial.source;
      still_sink : g.K.Sink.faults l.sink ≡ g.K.Sink.faults l.initial.sink;
    }

abbrev pub decreases-loop-end : goal.decreases-loop-end
decreases-loop-end g l = stream_most - l.input.taken
