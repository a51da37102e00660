use Rattle.std.proofs.Common.{◌++◌, ◌∷◌, [], refl, ◌∙◌}
use Rattle.paraid_nbd.proofs.DeviceLemmas.{keeps_none, keeps_then}
use Rattle.paraid_nbd.proofs.TakingLemmas.{later_then, room_falls, ok_apart, stood}
use Rattle.paraid_nbd.proofs.ServiceLemmas.{request_some, serves_none, serves_more}
use Rattle.paraid_nbd.proofs.serve.transmit.Goals as goal

pub loop-end-init : goal.loop-end-init
loop-end-init g c =
    let b = g.B.Blocks in
    record {
      served = ([], serves_none c.args.size b.stands b.halted b.kept b.tells _ _ _ _);
      size = refl;
      room = refl;
      told = λ t. t;
      keeps = keeps_none _ _;
      still = refl;
      still_sink = refl;
    }

pub loop-end-preserved : goal.loop-end-preserved
loop-end-preserved g c =
    let b = g.B.Blocks in
    let i = c.loop-end.invariant in
    let e = c.in_default.ensures in
    let v = e.serves in
    record {
      served = (i.served.0 ++ v.parts ∷ [], serves_more c.args.size b.stands b.halted b.kept b.tells i.served.0 i.served.1 v e.told);
      size = e.size ∙ i.size;
      room = c.serve_request.auto.buffer ∙ i.room;
      told = λ t. i.told (e.told t);
      keeps = keeps_then _ _ _ _ i.keeps e.keeps;
      still = e.still ok_apart ∙ i.still;
      still_sink = e.still_sink ok_apart ∙ i.still_sink;
    }

pub returns-in-Err : goal.returns-in-Err
returns-in-Err g c =
    let i = c.loop-end.invariant in
    record {
      transmits = record {
        device = c.loop-end.blocks;
        left = g.S.Source.left c.loop-end.source;
        at = c.loop-end.input.taken;
        said = g.K.Sink.written c.loop-end.sink;
        low = g.S.Source.faults c.loop-end.source;
        sink_low = g.K.Sink.faults c.loop-end.sink;
        requests = i.served.0;
        serves = i.served.1;
        later = stood i.still;
        later_sink = stood i.still_sink;
        told = c.serve_request.ensures.told;
        ends = c.in-Err.ensures.ends;
      };
      size = c.serve_request.ensures.size ∙ c.loop-end.invariant.size;
      told = λ t. c.loop-end.invariant.told (c.serve_request.ensures.told t);
      keeps = keeps_then _ _ _ _ i.keeps c.serve_request.ensures.keeps;
      later = later_then _ _ _ (stood c.loop-end.invariant.still) c.serve_request.ensures.later;
      still = λ n. c.in-Err.ensures.still (λ is. n cc) ∙ c.loop-end.invariant.still;
      later_sink = later_then _ _ _ (stood c.loop-end.invariant.still_sink) c.serve_request.ensures.later_sink;
      still_sink = λ n. c.in-Err.ensures.still_sink (λ is. n cc) ∙ c.loop-end.invariant.still_sink;
    }

pub loop-end-smaller : goal.loop-end-smaller
loop-end-smaller g c =
    let s = c.in_default.ensures.serves in
    room_falls s.takes (request_some s.parts s.is) c.serve_request.new.input.limit
