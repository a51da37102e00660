use Rattle.paraid_nbd.proofs.DeviceLemmas.{keeps_none}
use Rattle.paraid_nbd.proofs.TakingLemmas.{later_then, ok_apart, passed}
use Rattle.std.proofs.Common.{arith, refl, sym, ◌∙◌, subst}
use Rattle.std.proofs.lemmas.List.{length-take-le}
use Rattle.std.proofs.lemmas.Result.{err_from_is_err_and, on_ok_weaker, MatchResult-weaker}
use Rattle.paraid_base.proofs.ToldLemmas.{GrowsByBytes-none}
use Rattle.paraid_nbd.specs.declared.request.Request.{Request}
use Rattle.paraid_nbd.specs.Export.{RequestStep}
use Rattle.paraid_nbd.specs.Performing.{said_with}
use Rattle.paraid_nbd.specs.Service.EndsRequest.{UnreadRequest, UnsentAnswer}
use Rattle.paraid_nbd.proofs.OptionLemmas.{Takes-last}
use Rattle.paraid_nbd.proofs.ErrorLemmas.{reply_over}
use Rattle.paraid_nbd.proofs.ServiceLemmas.{content_stops, request_taken}
use Rattle.paraid_nbd.proofs.serve.serve_request.Goals as goal

pub returns-in_err-request : goal.returns-in_err-request
returns-in_err-request g c =
    let p = err_from_is_err_and c.from_residual.result c.from_residual.ensures.1 in
    record {
      serves = rw p.1 tt;
      ends = rw (p.1, p.2) (UnreadRequest c.in_err-request.ensures.stops (GrowsByBytes-none _) refl);
      size = refl;
      told = λ t. t;
      keeps = keeps_none _ _;
      later = c.in_err-request.ensures.later;
      still = passed p.1 p.2 c.in_err-request.ensures.still;
      later_sink = omega arith;
      still_sink = λ n. refl;
    }

pub returns-in_err-content : goal.returns-in_err-content
returns-in_err-content g c =
    let p = err_from_is_err_and c.from_residual-in_err-content.result c.from_residual-in_err-content.ensures.1 in
    record {
      serves = rw p.1 tt;
      ends = rw (p.1, p.2) (UnreadRequest (content_stops c.in_ok-request.ensures.takes c.in_ok-request.ensures.later c.in_err-content.ensures.lacks) (GrowsByBytes-none _) refl);
      size = refl;
      told = λ t. t;
      keeps = keeps_none _ _;
      later = later_then _ _ _ c.in_ok-request.ensures.later c.in_err-content.ensures.later;
      still = λ n. passed p.1 p.2 c.in_err-content.ensures.still n ∙ c.in_ok-request.ensures.still ok_apart;
      later_sink = omega arith;
      still_sink = λ n. refl;
    }

pub returns : goal.returns
returns g c =
    let h = c.in_ok-request.ensures.takes in
    let t = c.in_ok-content.ensures.takes in
    record {
      serves = on_ok_weaker c.reply.result (λ f. record {
        parts = record { magic = h.magic; head = h.head; content = t.content };
        is = request_taken t.content h t.whole;
        takes = Takes-last h.magic h.head t.content h.takes t.takes;
        does = λ first tells s events is kept.
            let x = c.perform-outcome.ensures.performs first tells s events is kept in
            record {
              out = said_with c.in_ok-request.request c.perform-outcome.result c.perform-outcome.new.content;
              new = x.new;
              t = x.t;
              step = subst (λ (y : Request). RequestStep c.args.size s y t.content (said_with c.in_ok-request.request c.perform-outcome.result c.perform-outcome.new.content) x.new x.t) h.is (x.step t.content (λ w d. sym (t.held w (c.outcome-outcome.ensures ∙ d))));
              now = x.now;
              kept_is = x.kept_is;
              grows = f;
            };
        replies = λ first events kept.
            let x = reply_over _ _ _ c.args.size c.in_ok-request.request h.head _ t.content c.perform-outcome.result c.perform-outcome.new.content h.is c.perform-outcome.ensures.comes (λ w d. t.held w (c.outcome-outcome.ensures ∙ d)) c.perform-outcome.ensures.many first events kept in
            record { out = said_with c.in_ok-request.request c.perform-outcome.result c.perform-outcome.new.content; new = x.0; reply = x.1; kept_is = x.2; grows = f };
      }) c.reply.ensures.sends;
      ends = MatchResult-weaker c.reply.result c.reply.ensures.unsent (λ x e. tt) (λ e f. UnsentAnswer (record { magic = h.magic; head = h.head; content = t.content }) (request_taken t.content h t.whole) (Takes-last h.magic h.head t.content h.takes t.takes) f.is f.cause
          (λ first tells s events is kept.
          let x = c.perform-outcome.ensures.performs first tells s events is kept in
          record {
            out = said_with c.in_ok-request.request c.perform-outcome.result c.perform-outcome.new.content;
            new = x.new;
            t = x.t;
            step = subst (λ (y : Request). RequestStep c.args.size s y t.content (said_with c.in_ok-request.request c.perform-outcome.result c.perform-outcome.new.content) x.new x.t) h.is (x.step t.content (λ w d. sym (t.held w (c.outcome-outcome.ensures ∙ d))));
            now = x.now;
            kept_is = x.kept_is;
            unsent = f;
          })
          (λ first events kept.
          let x = reply_over _ _ _ c.args.size c.in_ok-request.request h.head _ t.content c.perform-outcome.result c.perform-outcome.new.content h.is c.perform-outcome.ensures.comes (λ w d. t.held w (c.outcome-outcome.ensures ∙ d)) c.perform-outcome.ensures.many first events kept in
          record { out = said_with c.in_ok-request.request c.perform-outcome.result c.perform-outcome.new.content; new = x.0; reply = x.1; kept_is = x.2; unsent = f }));
      size = c.perform-outcome.ensures.size;
      told = c.perform-outcome.ensures.told;
      keeps = c.perform-outcome.ensures.keeps;
      later = later_then _ _ _ c.in_ok-request.ensures.later c.in_ok-content.ensures.later;
      still = λ n. c.in_ok-content.ensures.still ok_apart ∙ c.in_ok-request.ensures.still ok_apart;
      later_sink = c.reply.ensures.later_sink;
      still_sink = c.reply.ensures.still_sink;
    }

pub perform-outcome-requires : goal.perform-outcome-requires
perform-outcome-requires g c = record {
  size = c.requires.size;
  few = c.requires.few;
  outcome = c.outcome-outcome.ensures;
  stays = c.in_ok-request.ensures.takes.stays;
  room = length-take-le _ _ c.in_ok-content.ensures.takes.within ∙ c.in_ok-content.ensures.takes.part;
}
