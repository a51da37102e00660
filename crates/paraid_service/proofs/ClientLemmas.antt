-- From the service of a device to what a client was answered.
use Rattle.std.proofs.Common.{◌≡◌, ℕ, List, [], ◌++◌, Option, Some, None, refl, sym, subst}
use Rattle.std.specs.Prelude.{Bool, IsTrue}
use Rattle.std.proofs.lemmas.List.{append-nil}
use Rattle.paraid_base.specs.declared.fault.Halt.{Halt}
use Rattle.paraid_base.specs.BlockAnswers.{Answers}
use Rattle.paraid_base.specs.History.{History}
use Rattle.paraid_nbd.specs.declared.ending.NbdEnd.{NbdEnd}
use Rattle.paraid_nbd.specs.Export.{IsDeviceState}
use Rattle.paraid_nbd.specs.Service.{DoesRequests, EndsRequest, Service, Transmits}
use Rattle.paraid_nbd.specs.Service.EndsRequest.{UnreadRequest, UnsentAnswer}
use Rattle.paraid_nbd.specs.Service.Service.{NoRoom, Early, Late}
use Rattle.paraid_nbd.proofs.TakingLemmas.{later_then}
use Rattle.paraid_serve.specs.Streams.{Streams}
use Rattle.paraid_service.specs.Clients.{AnswersClient, AnswersRequests, StopsAtRequest, TakesClient}
use Rattle.paraid_service.specs.Clients.StopsAtRequest.{cut_short, stopped}
use Rattle.paraid_service.specs.Clients.TakesClient.{early as takes_early, late as takes_late, no_room as takes_no_room}
use Rattle.paraid_service.specs.Clients.AnswersClient.{early, late, no_room}
use Rattle.paraid_service.specs.Clients.EndsAtRequest.{unread, unsent}

some_same : (a b : History) → Some a ≡ Some b → a ≡ b
some_same a b e = cc

none_some : (a : History) → Some a ≡ None → ⊥
none_some a e = cc

module _ {D : Type 0} (size : ℕ) (stands : D → History → Type 0) (halted : D → Option Halt) (kept : D → D → Answers → Type 0) (tells : D → Bool) where
  -- A client was answered so, these events were kept, and the device is in this state.
  pub record Answered (first now : D) (client : Answers → Option History → Type 0) : Type 0 where
    pub events : Answers
    pub t : Option History
    pub answers : client events t
    pub state : IsDeviceState (stands now) (halted now) t
    pub kept_is : kept first now events

  serving : (was : D) (h : History) → stands was h → halted was ≡ None → IsDeviceState (stands was) (halted was) (Some h)
  serving was h at none = record { serves = λ x e. (subst (stands was) (some_same h x e) at, none); halts = λ e. absurd (none_some h e) }

  quiet : (was now : D) (h : History) (client : Answers → Option History → Type 0) → IsDeviceState (stands was) (halted was) (Some h) → kept was was [] → now ≡ was → client [] (Some h) → Answered was now client
  quiet was now h client state begins same answers = record {
    events = [];
    t = Some h;
    answers = answers;
    state = subst (λ (d : D). IsDeviceState (stands d) (halted d) (Some h)) (sym same) state;
    kept_is = subst (λ (d : D). kept was d []) (sym same) begins;
  }

  stopped_at : {a b w x : Option (List ℕ)} {i k f z sf sz : ℕ} {end : NbdEnd} (d now : D) → EndsRequest size stands halted kept tells d now a b i k w x f z sf sz end → StopsAtRequest a b i k f z sf sz end
  stopped_at d now (UnreadRequest stops grows same) = stopped stops
  stopped_at d now (UnsentAnswer p is_request takes e cause does replies) = cut_short p is_request takes e cause

  -- what was taken, over every device
  pub client_taken : (x : Streams) {end : NbdEnd} (was now : D) → Service size stands halted kept tells was now x.source.left_before x.source.left x.sink.written_before x.sink.written x.source.faults_before x.source.faults x.sink.faults_before x.sink.faults end → TakesClient size x end
  client_taken x was now (NoRoom e same takes grows) = takes_no_room e takes grows
  client_taken x was now (Early taken same ends) = takes_early taken ends
  client_taken x was now (Late left at taken said low sink_low begun later later_sink tr) =
      takes_late left tr.left at tr.at taken said tr.low tr.sink_low tr.requests begun tr.serves.each tr.serves.takes (later_then _ _ _ later tr.later) (later_then _ _ _ later_sink tr.later_sink) (stopped_at tr.device now tr.ends)

  module _ {before after : Option (List ℕ)} {old new : ℕ} {written now_written : Option (List ℕ)} {faults now_faults sink_faults sink_now : ℕ} {end : NbdEnd} (was now : D) (h : History) (is : IsTrue (tells now)) where
    ended : (tr : Transmits size stands halted kept tells was now before after old new written now_written faults now_faults sink_faults sink_now end)
        → DoesRequests size (stands tr.device) (halted tr.device) (kept was tr.device) written tr.said (Some h) [] tr.requests
        → EndsRequest size stands halted kept tells tr.device now tr.left after tr.at new tr.said now_written tr.low now_faults tr.sink_low sink_now end
        → Answered was now (AnswersRequests size (Some h) before after old new written now_written faults now_faults sink_faults sink_now end)
    ended tr x (UnreadRequest stops grows same) = record {
      events = x.new;
      t = x.t;
      answers = record {
        left = tr.left;
        at = tr.at;
        said = tr.said;
        low = tr.low;
        sink_low = tr.sink_low;
        requests = tr.requests;
        each = tr.serves.each;
        takes = tr.serves.takes;
        out = x.out;
        made = x.new;
        m = x.t;
        steps = x.steps;
        grows = x.grows;
        later = tr.later;
        later_sink = tr.later_sink;
        last = [];
        all = sym (append-nil x.new);
        ends = unread stops grows refl refl;
      };
      state = subst (λ (d : D). IsDeviceState (stands d) (halted d) x.t) (sym same) x.now;
      kept_is = subst (λ (d : D). kept was d x.new) (sym same) x.kept_is;
    }
    ended tr x (UnsentAnswer p is_request takes e cause does replies) =
        let y = does was is x.t x.new x.now x.kept_is in
        record {
          events = x.new ++ y.new;
          t = y.t;
          answers = record {
            left = tr.left;
            at = tr.at;
            said = tr.said;
            low = tr.low;
            sink_low = tr.sink_low;
            requests = tr.requests;
            each = tr.serves.each;
            takes = tr.serves.takes;
            out = x.out;
            made = x.new;
            m = x.t;
            steps = x.steps;
            grows = x.grows;
            later = tr.later;
            later_sink = tr.later_sink;
            last = y.new;
            all = refl;
            ends = unsent p y.out is_request takes y.step y.unsent;
          };
          state = y.now;
          kept_is = y.kept_is;
        }

  module _ (x : Streams) {end : NbdEnd} (was now : D) (h : History) (at : stands was h) (none : halted was ≡ None) (begins : kept was was []) (is : IsTrue (tells now)) where
    pub client_answered : Service size stands halted kept tells was now x.source.left_before x.source.left x.sink.written_before x.sink.written x.source.faults_before x.source.faults x.sink.faults_before x.sink.faults end
        → Answered was now (AnswersClient size h x end)
    client_answered (NoRoom e same takes grows) = quiet was now h _ (serving was h at none) begins same (no_room e takes grows refl refl)
    client_answered (Early taken same ends) = quiet was now h _ (serving was h at none) begins same (early taken ends refl refl)
    client_answered (Late left place taken said low sink_low begun later later_sink tr) =
        let a = ended was now h is tr (tr.serves.does was (tr.told is) (Some h) [] (serving was h at none) begins) tr.ends in
        record { events = a.events; t = a.t; answers = late left place taken said low sink_low begun later later_sink a.answers; state = a.state; kept_is = a.kept_is }
