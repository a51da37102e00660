-- From the service of a device to what a client was answered over every rack.
use Rattle.std.proofs.Common.{◌≡◌, ℕ, ◌*◌, [], ◌++◌, Option, refl, sym, subst}
use Rattle.std.specs.Prelude.{Bool}
use Rattle.std.proofs.lemmas.List.{append-nil}
use Rattle.paraid_base.specs.declared.fault.Halt.{Halt}
use Rattle.paraid_base.specs.BlockAnswers.{Answers}
use Rattle.paraid_base.specs.History.{History}
use Rattle.paraid_machine.specs.Machine.{block_count}
use Rattle.paraid_nbd.specs.declared.ending.NbdEnd.{NbdEnd}
use Rattle.paraid_nbd.specs.Errors.{RepliesAll}
use Rattle.paraid_nbd.specs.Service.{EndsRequest, Service, Transmits}
use Rattle.paraid_nbd.specs.Service.EndsRequest.{UnreadRequest, UnsentAnswer}
use Rattle.paraid_nbd.specs.Service.Service.{NoRoom, Early, Late}
use Rattle.paraid_record.specs.declared.meta.Setup.{Setup}
use Rattle.paraid_serve.specs.declared.serves.Serves.{Ghosts}
use Rattle.paraid_serve.specs.Streams.{Streams}
use Rattle.paraid_service.specs.ClientCauses.{ClientCauses, EndsWithCauses, Midpoint, RepliesFrom, RepliesToClient}
use Rattle.paraid_service.specs.ClientCauses.EndsByReply.{unread, unsent}
use Rattle.paraid_service.specs.ClientCauses.EndsWithCauses.{broken as caused_broken, halted as caused_halted, kept as caused_kept}
use Rattle.paraid_service.specs.ClientCauses.RepliesToClient.{early, late, no_room}
use Rattle.paraid_service.specs.Ends.{EndsService}
use Rattle.paraid_service.specs.Ends.EndsService.{broken, flushed}
use Rattle.paraid_service.specs.Ends.Flushes.{halted, kept}

-- A client was answered so, and these events were kept.
pub record Replied {D : Type 0} (holds : D → D → Answers → Type 0) (first now : D) (client : Answers → Type 0) : Type 0 where
  pub events : Answers
  pub answers : client events
  pub kept_is : holds first now events

module _ {D : Type 0} (size : ℕ) (stands : D → History → Type 0) (halts : D → Option Halt) (holds : D → D → Answers → Type 0) (tells : D → Bool) where
  nothing : (first was now : D) (client : Answers → Type 0) → holds first was [] → now ≡ was → client [] → Replied holds first now client
  nothing first was now client begins same answers = record { events = []; answers = answers; kept_is = subst (λ (d : D). holds first d []) (sym same) begins }

  module _ (x : Streams) (end : NbdEnd) (first was now : D) where
    ended : (m : Midpoint) (taken : ℕ) (tr : Transmits size stands halts holds tells was now m.left x.source.left m.at taken m.said x.sink.written m.low x.source.faults m.sink_low x.sink.faults end)
        → RepliesAll size (holds first tr.device) m.said tr.said [] tr.requests
        → EndsRequest size stands halts holds tells tr.device now tr.left x.source.left tr.at taken tr.said x.sink.written tr.low x.source.faults tr.sink_low x.sink.faults end
        → Replied holds first now (RepliesFrom size m x taken end)
    ended m taken tr a (UnreadRequest stops grows same) = record {
      events = a.new;
      answers = record {
        middle = record { left = tr.left; at = tr.at; said = tr.said; low = tr.low; sink_low = tr.sink_low };
        requests = tr.requests;
        each = tr.serves.each;
        takes = tr.serves.takes;
        out = a.out;
        made = a.new;
        replies = a.replies;
        grows = a.grows;
        later = tr.later;
        later_sink = tr.later_sink;
        last = [];
        all = sym (append-nil a.new);
        ends = unread stops grows refl;
      };
      kept_is = subst (λ (d : D). holds first d a.new) (sym same) a.kept_is;
    }
    ended m taken tr a (UnsentAnswer p is_request takes e cause does replies) =
        let b = replies first a.new a.kept_is in
        record {
          events = a.new ++ b.new;
          answers = record {
            middle = record { left = tr.left; at = tr.at; said = tr.said; low = tr.low; sink_low = tr.sink_low };
            requests = tr.requests;
            each = tr.serves.each;
            takes = tr.serves.takes;
            out = a.out;
            made = a.new;
            replies = a.replies;
            grows = a.grows;
            later = tr.later;
            later_sink = tr.later_sink;
            last = b.new;
            all = refl;
            ends = unsent p b.out is_request takes b.reply b.unsent;
          };
          kept_is = b.kept_is;
        }

    pub client_replied : holds first was [] → Service size stands halts holds tells was now x.source.left_before x.source.left x.sink.written_before x.sink.written x.source.faults_before x.source.faults x.sink.faults_before x.sink.faults end
        → Replied holds first now (RepliesToClient size x end)
    client_replied begins (NoRoom e same takes grows) = nothing first was now (RepliesToClient size x end) begins same (no_room e takes grows refl)
    client_replied begins (Early taken same ends) = nothing first was now (RepliesToClient size x end) begins same (early taken ends refl)
    client_replied begins (Late left at taken said low sink_low starts later later_sink tr) =
        let m : Midpoint = record { left = left; at = at; said = said; low = low; sink_low = sink_low } in
        let a = ended m taken tr (tr.serves.replies first [] begins) tr.ends in
        record { events = a.events; answers = late m taken starts later later_sink a.answers; kept_is = a.kept_is }

-- how the service ended, with the causes of its events
pub ends_caused : {A : Type 0} (g : Ghosts A) (first last : A) (events : Answers) (end : NbdEnd) (status : ℕ) → EndsService g first last events end status → EndsWithCauses (g.shown first) (g.shown last) events end status
ends_caused g first last events end status (broken e k) = caused_broken e k.causes
ends_caused g first last events end status (flushed e (kept writes zero going k)) = caused_kept writes e zero k.causes
ends_caused g first last events end status (flushed e (halted halt told now k)) = caused_halted halt e told k.causes

-- both, of an array whose setup is seen
pub client_caused : {A : Type 0} (g : Ghosts A) (a b : A) (x : Streams) (end : NbdEnd) (status : ℕ) (events : Answers) → (g.shown a).setup ≡ g.setup a → RepliesToClient (512 * block_count (g.setup a)) x end events → EndsService g a b events end status
    → ClientCauses (g.shown a) (g.shown b) x status
client_caused g a b x end status events same client ends = record {
  end = end;
  events = events;
  client = subst (λ (z : Setup). RepliesToClient (512 * block_count z) x end events) (sym same) client;
  session = ends_caused g a b events end status ends;
}

-- the same, told of the arrays of a device
pub caused_at : {A : Type 0} (g : Ghosts A) (x y a b : A) (e : Streams) (end : NbdEnd) (status : ℕ) (events : Answers) → x ≡ a → b ≡ y → (g.shown x).setup ≡ g.setup x → RepliesToClient (512 * block_count (g.setup x)) e end events
    → EndsService g x y events end status → ClientCauses (g.shown a) (g.shown b) e status
caused_at {A} g x y a b e end status events first last same client ends =
    subst (λ (z : A). ClientCauses (g.shown a) (g.shown z) e status) (sym last) (subst (λ (z : A). ClientCauses (g.shown z) (g.shown y) e status) first (client_caused g x y e end status events same client ends))
