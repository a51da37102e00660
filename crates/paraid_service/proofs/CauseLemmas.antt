-- A service ends by a fault of the source or of the sink only where that count rose.
use Rattle.std.proofs.Common.{◌≡◌, ◌≢◌, ℕ, ◌≤◌, List, Option, sym, ◌∙◌, subst}
use Rattle.std.specs.Prelude.{Bool}
use Rattle.paraid_base.specs.declared.fault.Halt.{Halt}
use Rattle.paraid_base.specs.BlockAnswers.{Answers}
use Rattle.paraid_base.specs.History.{History}
use Rattle.paraid_base.specs.Told.{HasRisen}
use Rattle.paraid_base.proofs.ToldLemmas.{HasRisen-sooner}
use Rattle.paraid_nbd.specs.declared.ending.NbdEnd.{NbdEnd}
use Rattle.paraid_nbd.specs.declared.ending.NbdEnd.TheVariants.{Done, Aborted, Protocol, Source, Sink, NoMemory}
use Rattle.paraid_nbd.specs.Handshake.{EndsEarly, EndsOption, IsUnsent, StopsFlags, StopsOption}
use Rattle.paraid_nbd.specs.Handshake.EndsEarly.{Ungreeted, Unflagged, AmongOptions}
use Rattle.paraid_nbd.specs.Handshake.EndsOption.{Unread, Leaves, UnsentReply}
use Rattle.paraid_nbd.specs.Handshake.StopsFlags.{CutFlags, WrongFlags}
use Rattle.paraid_nbd.specs.Handshake.StopsOption.{CutOption, WrongOption}
use Rattle.paraid_nbd.specs.Service.{EndsRequest, Service, StopsRequest}
use Rattle.paraid_nbd.specs.Service.EndsRequest.{UnreadRequest, UnsentAnswer}
use Rattle.paraid_nbd.specs.Service.Service.{NoRoom, Early, Late}
use Rattle.paraid_nbd.specs.Service.StopsRequest.{CutRequest, WrongRequest, LastRequest}
use Rattle.paraid_nbd.specs.Taking.{IsCut}

pub record HasCause (faults now sink_faults sink_now : ℕ) (end : NbdEnd) : Type 0 where
  pub source : end ≡ Source → HasRisen faults now
  pub sink : end ≡ Sink → HasRisen sink_faults sink_now

sink_not_source : Sink ≢ Source
sink_not_source e = cc

protocol_not_source : (at : ℕ) → Protocol at ≢ Source
protocol_not_source at e = cc

protocol_not_sink : (at : ℕ) → Protocol at ≢ Sink
protocol_not_sink at e = cc

cause_is : {f z sf sz : ℕ} {end : NbdEnd} (other : NbdEnd) → other ≢ Source → other ≢ Sink → end ≡ other → HasCause f z sf sz end
cause_is other apart apart_sink is = record { source = λ e. absurd (apart (sym is ∙ e)); sink = λ e. absurd (apart_sink (sym is ∙ e)) }

cause_cut : {f z sf sz : ℕ} {end : NbdEnd} (after : Option (List ℕ)) (taken : ℕ) → IsCut end after taken f z → HasCause f z sf sz end
cause_cut {f} {z} {sf} {sz} after taken cut = record {
  source = λ e. (subst (λ (x : NbdEnd). IsCut x after taken f z) e cut).0;
  sink = λ e. absurd (subst (λ (x : NbdEnd). IsCut x after taken f z) e cut);
}

cause_unsent : {f z sf sz : ℕ} {a b : Option (List ℕ)} {out : List ℕ} {end : NbdEnd} → IsUnsent a b out sf sz end → HasCause f z sf sz end
cause_unsent u = record { source = λ e. absurd (sink_not_source (sym u.is ∙ e)); sink = λ e. u.cause }

cause_later : {f low z sf sink_low sz : ℕ} {end : NbdEnd} → f ≤ low → sf ≤ sink_low → HasCause low z sink_low sz end → HasCause f z sf sz end
cause_later {f} {low} {z} {sf} {sink_low} {sz} later later_sink c = record { source = λ e. HasRisen-sooner f low z later (c.source e); sink = λ e. HasRisen-sooner sf sink_low sz later_sink (c.sink e) }

cause_protocol : {f z sf sz : ℕ} {end : NbdEnd} (at : ℕ) → end ≡ Protocol at → HasCause f z sf sz end
cause_protocol at is = cause_is (Protocol at) (protocol_not_source at) (protocol_not_sink at) is

cause_flags : {a b : Option (List ℕ)} {i k f z sf sz : ℕ} {end : NbdEnd} → StopsFlags a b i k f z end → HasCause f z sf sz end
cause_flags (CutFlags lacks) = cause_cut _ _ lacks.cause
cause_flags {i = i} (WrongFlags flags takes many high is) = cause_protocol i is

cause_option : {a b : Option (List ℕ)} {i k f z sf sz : ℕ} {end : NbdEnd} → StopsOption a b i k f z end → HasCause f z sf sz end
cause_option (CutOption rest takes part cut) = cause_cut _ _ cut
cause_option (WrongOption rest place takes wrong is) = cause_protocol place is

cause_options : {size : ℕ} {no_zeros : Bool} {a b w x : Option (List ℕ)} {i k f z sf sz : ℕ} {end : NbdEnd} → EndsOption size no_zeros a b i k w x f z sf sz end → HasCause f z sf sz end
cause_options (Unread stops grows) = cause_option stops
cause_options (Leaves p is kind takes grows e) = cause_is Aborted (λ q. cc) (λ q. cc) e
cause_options (UnsentReply p is takes u) = cause_unsent u

cause_early : {size : ℕ} {a b w x : Option (List ℕ)} {i k f z sf sz : ℕ} {end : NbdEnd} → EndsEarly size a b i k w x f z sf sz end → HasCause f z sf sz end
cause_early (Ungreeted takes u) = cause_unsent u
cause_early (Unflagged stops grows) = cause_flags stops
cause_early (AmongOptions mid at said flags no_zeros options low sink_low greeted later later_sink ends) = cause_later later later_sink (cause_options ends)

cause_request : {a b : Option (List ℕ)} {i k f z sf sz : ℕ} {end : NbdEnd} → StopsRequest a b i k f z end → HasCause f z sf sz end
cause_request (CutRequest rest takes part cut) = cause_cut _ _ cut
cause_request {i = i} (WrongRequest rest takes many wrong is) = cause_protocol i is
cause_request (LastRequest rest takes last is) = cause_is Done (λ q. cc) (λ q. cc) is

module _ {D : Type 0} (size : ℕ) (stands : D → History → Type 0) (halted : D → Option Halt) (kept : D → D → Answers → Type 0) (tells : D → Bool) {a b w x : Option (List ℕ)} {f z sf sz : ℕ} {end : NbdEnd} where
  cause_requests : {i k : ℕ} (d now : D) → EndsRequest size stands halted kept tells d now a b i k w x f z sf sz end → HasCause f z sf sz end
  cause_requests d now (UnreadRequest stops grows same) = cause_request stops
  cause_requests d now (UnsentAnswer p is takes e cause does replies) = record { source = λ q. absurd (sink_not_source (sym e ∙ q)); sink = λ q. cause }

module _ {D : Type 0} (size : ℕ) (stands : D → History → Type 0) (halted : D → Option Halt) (kept : D → D → Answers → Type 0) (tells : D → Bool) {a b w x : Option (List ℕ)} {f z sf sz : ℕ} {end : NbdEnd} where
  pub service_cause : (was now : D) → Service size stands halted kept tells was now a b w x f z sf sz end → HasCause f z sf sz end
  service_cause was now (NoRoom e same takes grows) = cause_is NoMemory (λ q. cc) (λ q. cc) e
  service_cause was now (Early taken same ends) = cause_early ends
  service_cause was now (Late left at taken said low sink_low begun later later_sink tr) =
      cause_later later later_sink (cause_later tr.later tr.later_sink (cause_requests size stands halted kept tells tr.device now tr.ends))
