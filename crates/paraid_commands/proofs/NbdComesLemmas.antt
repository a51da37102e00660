-- How `nbd` comes out on a rack that held a history.
use Rattle.std.proofs.Common.{◌≡◌, ℕ, ◌*◌, List, [], ◌∷◌, ◌++◌, Some, None, inr, refl, sym, ap, subst, ◌∙◌, arith}
use Rattle.paraid_base.specs.declared.event.Answer.{Answer}
use Rattle.paraid_base.specs.declared.event.Answer.TheVariants.{Halted}
use Rattle.paraid_base.specs.declared.event.Event.{Event}
use Rattle.paraid_base.specs.declared.event.Event.TheVariants.{Flush}
use Rattle.paraid_base.specs.BlockAnswers.{Answers}
use Rattle.paraid_base.specs.Log.{worn_at}
use Rattle.paraid_base.specs.Told.{HasRisen}
use Rattle.paraid_device.specs.Devices.{answers_in}
use Rattle.paraid_nbd.specs.declared.ending.NbdEnd.{NbdEnd}
use Rattle.paraid_nbd.specs.declared.ending.NbdEnd.TheVariants.{Done, Aborted, Closed, Protocol, TooLong, Source, Sink, NoMemory}
use Rattle.paraid_image.specs.Rest.{AreSynced}
use Rattle.paraid_machine.specs.Machine.{block_count}
use Rattle.paraid_rack.specs.declared.call.Call.{Call}
use Rattle.paraid_rack.specs.Trail.{Trail, extend, now}
use Rattle.paraid_record.specs.declared.meta.Setup.{Setup}
use Rattle.paraid_recover.specs.Mount.{IsUnstarted}
use Rattle.paraid_serve.specs.Calls.{IsNotDouble}
use Rattle.paraid_serve.specs.Streams.{streams_of}
use Rattle.paraid_serve.specs.Stretch.{EndsStretch, Span, Turn}
use Rattle.paraid_serve.specs.Uses.{RackUse, SinkUse, SourceUse}
use Rattle.paraid_serve.proofs.StretchLemmas.{some_is}
use Rattle.paraid_session.specs.Mount.{IsBegun}
use Rattle.paraid_session.specs.Turn.{Point}
use Rattle.paraid_service.specs.Clients.{EndsWithStatus, FollowsForClient, IsStatusOfEnd, Keeps, LosesTwo, TakesClient}
use Rattle.paraid_service.specs.Clients.EndsWithStatus.{broken, halted, kept as kept_all}
use Rattle.paraid_service.specs.Clients.IsStatusOfEnd.{flushed, told}
use Rattle.paraid_service.specs.Ends.{broken_status}
use Rattle.paraid_commands.specs.Clients.{HindersNbd, IsNbdWhole, ServesNbd, ServesNbdOrNot}
use Rattle.paraid_commands.specs.Clients.HindersNbd.{client, other, source_failed}
use Rattle.paraid_commands.specs.Clients.ServesNbdOrNot.{mounted, refused}
use Rattle.paraid_commands.specs.Complete.{Completes, HeldHistory}
use Rattle.paraid_commands.specs.Complete.Hinders.{sink_failed}
use Rattle.paraid_commands.specs.Complete.Completes.{hindered, whole}
use Rattle.paraid_commands.specs.Ends.{BeginsAt, IsEndOver, IsServed, ServiceStart, served_span}
use Rattle.paraid_commands.proofs.CompleteLemmas.{from_point, halted_comes, refused_comes}

none_some : (n : ℕ) → None ≡ Some n → ⊥
none_some n e = cc

status_is : (n status : ℕ) → Some n ≡ Some status → status ≡ n
status_is n status e = cc

no_pairs : (es : Answers) (e : Event × Answer) → [] ≡ es ++ e ∷ [] → ⊥
no_pairs [] e is = cc
no_pairs (x ∷ es) e is = cc

first_is : (a b : Event × Answer) (xs ys : Answers) → a ∷ xs ≡ b ∷ ys → a ≡ b
first_is a b xs ys e = cc

rest_is : (a b : Event × Answer) (xs ys : Answers) → a ∷ xs ≡ b ∷ ys → xs ≡ ys
rest_is a b xs ys e = cc

-- turns of which these are the events and answers end with the turn of the last one
pub record EndsTurns (ts : List Turn) (answer : Answer) : Type 0 where
  pub before : List Turn
  pub last : Turn
  pub split : ts ≡ before ++ last ∷ []
  pub is : last.answer ≡ answer

alone : (t : Turn) (ts : List Turn) (e : Event × Answer) → (t.event, t.answer) ∷ answers_in ts ≡ e ∷ [] → EndsTurns (t ∷ ts) e.1
alone t [] e is = record { before = []; last = t; split = refl; is = ap (λ (x : Event × Answer). x.1) (first_is _ _ _ _ is) }
alone t (u ∷ ts) e is = absurd (let z = rest_is _ _ _ _ is in cc)

pub ends_turns : (ts : List Turn) (es : Answers) (e : Event × Answer) → answers_in ts ≡ es ++ e ∷ [] → EndsTurns ts e.1
ends_turns [] es e is = absurd (no_pairs es e is)
ends_turns (t ∷ ts) [] e is = alone t ts e is
ends_turns (t ∷ ts) (x ∷ es) e is =
    let r = ends_turns ts es e (rest_is _ _ _ _ is) in
    record { before = t ∷ r.before; last = r.last; split = ap (λ (l : List Turn). t ∷ l) r.split; is = r.is }

keeps_ends : (span : Span) (p : Point) (events : Answers) (event : Event) (answer : Answer) → (k : Keeps span p (events ++ (event, answer) ∷ [])) → EndsStretch span p k.asked answer
keeps_ends span p events event answer k =
    let e = ends_turns k.all.turns events (event, answer) k.answered in
    record { all = k.all; before = e.before; last = e.last; split = e.split; answered = e.is }

-- with no line written, what is known over every rack
over : (setup : Setup) (rack : RackUse) (kept : SinkUse) (status : ℕ) → (status ≡ 0 → IsNotDouble setup rack.new) → (status ≡ 5 → LosesTwo rack.old rack.new) → IsEndOver setup rack (record kept { written_before = None; written = None }) status
over setup rack kept status present two = record {
  present = present;
  two = λ five. let l = two five in record { two = l.two; lost = l.lost; text = []; line = record { before = λ s. s; bytes = λ s. cc } };
  worn = λ twelve. record { count = worn_at; many = omega arith; text = []; line = record { before = λ s. s; bytes = λ s. cc } };
}

module _ {rack : RackUse} (h : HeldHistory rack) (given : SourceUse) (kept : SinkUse) (status : ℕ) (sunk : status ≡ 4 → HasRisen kept.faults_before kept.faults) (heard : status ≡ 3 → HasRisen given.faults_before given.faults) where
  abbrev Whole : Type 0
  Whole = IsNbdWhole h given kept

  abbrev Hindered : Type 0
  Hindered = HindersNbd h given kept status

  abbrev Comes : Type 0
  Comes = Completes Whole (IsUnstarted rack.old rack.new rack.before rack.after) Hindered status

  -- a client that was broken off
  by_client : (setup : Setup) (end : NbdEnd) → broken_status end ≡ Some status → TakesClient (512 * block_count setup) (streams_of given kept) end → Hindered
  by_client setup Done e taken = absurd (none_some status e)
  by_client setup Aborted e taken = absurd (none_some status e)
  by_client setup Closed e taken = absurd (none_some status e)
  by_client setup (Protocol at) e taken = client setup (Protocol at) e taken
  by_client setup (TooLong bytes) e taken = client setup (TooLong bytes) e taken
  by_client setup Source e taken = let three = status_is 3 status e in source_failed three (heard three)
  by_client setup Sink e taken = let four = status_is 4 status e in other (sink_failed four (sunk four))
  by_client setup NoMemory e taken = client setup NoMemory e taken

  module _ (service : ServiceStart) (stood : IsServed rack service) (begins : BeginsAt rack.before service.told rack.after service.began) (s : ServesNbd rack given kept status service) where
    at_end : IsEndOver service.array.meta.setup rack (record kept { written_before = None; written = None }) status
    at_end = over service.array.meta.setup rack kept status s.present s.two

    taken_of : {setup : Setup} → service.array.meta.setup ≡ setup → TakesClient (512 * block_count setup) (streams_of given kept) s.headline.end
    taken_of is = subst (λ (setup : Setup). TakesClient (512 * block_count setup) (streams_of given kept) s.headline.end) is s.headline.taken

    by_session : (base : ℕ → ℕ) (t : Trail) (cs : List Call) (p : Point) → service.told ≡ Some t → t ≡ extend h.first cs → IsBegun rack.slots (now h.first) h.said h.history h.low h.down base cs p → h.said.meta.setup ≡ service.array.meta.setup
        → (events : Answers) → broken_status s.headline.end ≡ None → (status ≡ 0 → AreSynced (now h.last)) → EndsWithStatus (served_span rack service) p events s.headline.end status → Comes
    by_session base t cs p here split starts same events none synced (broken e k) = absurd (none_some status (sym none ∙ e))
    by_session base t cs p here split starts same events none synced (kept_all writes e zero k) = whole zero (record { end = s.headline.end; taken = taken_of (sym same); whole = none; synced = synced zero })
    by_session base t cs p here split starts same events none synced (halted halt e is k) =
        halted_comes h (record kept { written_before = None; written = None }) status Whole Hindered other sunk service stood begins at_end base t cs p here split starts same k.asked halt (keeps_ends (served_span rack service) p events Flush (Halted halt) k) is

    by_end : IsStatusOfEnd s.headline.end status → Comes
    by_end (told e) = hindered (by_client service.array.meta.setup s.headline.end e s.headline.taken)
    by_end (flushed none fits) =
        from_point h (record kept { written_before = None; written = None }) status Whole Hindered other sunk service stood begins at_end
        (FollowsForClient (served_span rack service) (streams_of given kept) status s.headline.end) (s.headline.said (some_is rack.after h.last h.at_last))
        (λ base t cs p here split starts same x. by_session base t cs p here split starts same x.events none (λ zero. x.synced zero h.last h.at_last) x.session)

  pub nbd_comes : ServesNbdOrNot rack given kept status → Comes
  nbd_comes (refused fault back is taken grows) = refused_comes h (record kept { written_before = None; written = None }) status Whole Hindered other sunk fault back.cause back.refused 0 0 (inr (refl, is))
  nbd_comes (mounted service stood begins s) = by_end service stood begins s s.headline.ended
