use Rattle.std.proofs.Common.{[], subst}
use Rattle.paraid_record.specs.declared.meta.Setup.{Setup}
use Rattle.paraid_device.specs.Devices.{array_of}
use Rattle.paraid_device.specs.Laws.{answered_none}
use Rattle.paraid_serve.specs.Calls.{IsNotDouble}
use Rattle.paraid_serve.specs.Streams.{Streams, sink_use, source_use, streams_of}
use Rattle.paraid_service.proofs.CauseLemmas.{service_cause}
use Rattle.paraid_service.proofs.EndLemmas.{ends_answered, ends_going, ends_sink, ends_source, ends_status, ends_two, not_at_sink, not_at_source}
use Rattle.paraid_service.proofs.HeadlineLemmas.{ends_at, headline_at}
use Rattle.paraid_service.proofs.ReplyLemmas.{caused_at, client_replied}
use Rattle.paraid_service.proofs.client.serve_client.Goals as goal

pub returns : goal.returns
returns g c =
    let a = c.args.array in
    let b = c.close.result in
    let first = c.new-device.result in
    let last = c.end_client-status.new.device in
    let k = c.serve_nbd-end.ensures.keeps.grows first [] (answered_none g.A.Serves (array_of first)) in
    let status = c.end_client-status.result in
    let end = c.serve_nbd-end.result in
    let e = ends_at g.A.Serves (array_of first) (array_of last) a b c.new-device.ensures.array c.close.ensures (c.end_client-status.ensures.ends first k.0 k.1) in
    let all = ends_answered g.A.Serves a b k.0 end status e in
    let cause = service_cause _ _ _ _ _ first c.serve_nbd-end.new.blocks c.serve_nbd-end.ensures.service in
    let x : Streams = streams_of (source_use g.S.Source.left g.S.Source.faults c.args.source.now c.serve_nbd-end.new.source) (sink_use g.K.Sink.written g.K.Sink.faults c.args.sink.now c.serve_nbd-end.new.sink) in
    let replied = client_replied _ _ _ _ _ x end first first c.serve_nbd-end.new.blocks (answered_none g.A.Serves (array_of first)) c.serve_nbd-end.ensures.service in
    record {
      causes = caused_at g.A.Serves (array_of first) (array_of last) a b x end status replied.events c.new-device.ensures.array c.close.ensures (g.met.A.Serves.shows (array_of first)).setup replied.answers (c.end_client-status.ensures.ends first replied.events replied.kept_is);
      headline = headline_at g.A.Serves g.met.A.Serves.agrees first c.serve_nbd-end.new.blocks last x status c.new-device.ensures.going c.serve_nbd-end.ensures.service c.end_client-status.ensures.ends a b c.new-device.ensures.array c.close.ensures;
      told = all.1.grows;
      slots = all.1.same_slots;
      status = ends_status g.A.Serves a b k.0 end status e;
      present = λ zero. subst (λ (z : Setup). IsNotDouble z (g.A.Serves.slot b)) all.1.same_setup (g.met.A.Serves.serves b (ends_going g.A.Serves a b k.0 end status e zero));
      two = λ five. ends_two g.A.Serves a b k.0 end status c.requires.going e five;
      source = λ three. cause.source (ends_source g.A.Serves a b k.0 end status e three);
      sink = λ four. cause.sink (ends_sink g.A.Serves a b k.0 end status e four);
      unhurt = record {
        sink = λ n. c.serve_nbd-end.ensures.still_sink (not_at_sink g.A.Serves a b k.0 end status e n);
        source = λ n m. c.serve_nbd-end.ensures.still (not_at_source g.A.Serves a b k.0 end status e n);
      };
    }
