use Rattle.std.proofs.Common.{◌++◌, List, [], ℕ, refl, sym, ap, ◌∙◌, subst, ◌≡◌}
use Rattle.std.proofs.lemmas.Result.{IfErr-weaker, on_ok_weaker}
use Rattle.paraid_base.specs.Told.{GrowsByBytes}
use Rattle.paraid_nbd.specs.Handshake.{IsUnsent}
use Rattle.paraid_nbd.specs.Performing.{answer_content, said_with}
use Rattle.paraid_nbd.specs.Requests.{reply_head}
use Rattle.paraid_nbd.proofs.ServiceLemmas.{nothing_after, nothing_unless_read, reply_made, said_alone}
use Rattle.paraid_nbd.proofs.serve.reply.Goals as goal
use Rattle.paraid_nbd.proofs.serve.reply.Goals.{in_default-via-in-Read+in_default, in_default-via-in_default}

pub returns-in-Read-Done : goal.returns-in-Read-Done
returns-in-Read-Done g c =
    let r = c.args.request.now in
    let content : List ℕ = c.args.content.now in
    let head : c.put_u64.new.self ≡ reply_head r c.args.outcome = reply_made r c.args.outcome _ _ _ _ _ c.new-packet.ensures c.put_u32.ensures.value c.error_number.ensures c.put_u32-2.ensures.value c.put_u64.ensures.value in
    let alone : answer_content r.command c.args.outcome content ≡ content = rw (c.in-Read-Done.is-0, c.in-Read-Done.is-1) refl in
    let all : c.put_u64.new.self ++ content ≡ said_with r c.args.outcome content = ap (λ (x : List ℕ). x ++ content) head ∙ ap (λ (x : List ℕ). reply_head r c.args.outcome ++ x) (sym alone) in
    record {
      sends = on_ok_weaker c.send_read.result (λ f. subst (λ (x : List ℕ). GrowsByBytes (g.K.Sink.written c.args.sink.now) (g.K.Sink.written c.send_read.new.sink) x) all f) c.send_read.ensures.sends;
      unsent = IfErr-weaker c.send_read.result _ _ (λ e f. subst (λ (x : List ℕ). IsUnsent (g.K.Sink.written c.args.sink.now) (g.K.Sink.written c.send_read.new.sink) x (g.K.Sink.faults c.args.sink.now) (g.K.Sink.faults c.send_read.new.sink) e) all f) c.send_read.ensures.unsent;
      later_sink = c.send_read.ensures.later_sink;
      still_sink = c.send_read.ensures.still_sink;
    }

pub returns-in_default : goal.returns-in_default
returns-in_default g c =
    let r = c.args.request.now in
    let content : List ℕ = c.args.content.now in
    let head : c.put_u64.new.self ≡ reply_head r c.args.outcome = reply_made r c.args.outcome _ _ _ _ _ c.new-packet.ensures c.put_u32.ensures.value c.error_number.ensures c.put_u32-2.ensures.value c.put_u64.ensures.value in
    let none : answer_content r.command c.args.outcome content ≡ [] = elim c.in_default.branch [
      | in_default-via-in-Read+in_default w ↦ nothing_after r.command c.args.outcome content w.in_default.not-Done-1
      | in_default-via-in_default w ↦ nothing_unless_read r.command c.args.outcome content w.in_default.not-Read-0
    ] in
    let all : c.put_u64.new.self ≡ said_with r c.args.outcome content = head ∙ sym (said_alone r c.args.outcome content none) in
    record {
      sends = on_ok_weaker c.send.result (λ f. subst (λ (x : List ℕ). GrowsByBytes (g.K.Sink.written c.args.sink.now) (g.K.Sink.written c.send.new.sink) x) all f) c.send.ensures.sends;
      unsent = IfErr-weaker c.send.result _ _ (λ e f. subst (λ (x : List ℕ). IsUnsent (g.K.Sink.written c.args.sink.now) (g.K.Sink.written c.send.new.sink) x (g.K.Sink.faults c.args.sink.now) (g.K.Sink.faults c.send.new.sink) e) all f) c.send.ensures.unsent;
      later_sink = c.send.ensures.later_sink;
      still_sink = c.send.ensures.still_sink;
    }
