-- How lines about volumes come out, on a rack that held a history.
use Rattle.std.proofs.Common.{◌≡◌, ℕ, List, ◌∷◌, [], ◌++◌, ◌∙◌, Option, Some, inl, refl, sym, ap, subst, append_assoc}
use Rattle.paraid_base.specs.declared.event.Answer.TheVariants.{Halted}
use Rattle.paraid_base.specs.declared.event.Answer.{Answer}
use Rattle.paraid_base.specs.declared.event.Event.{Event}
use Rattle.paraid_base.specs.declared.event.Event.TheVariants.{Flush}
use Rattle.paraid_base.specs.Told.{GrowsByBytes, HasRisen}
use Rattle.paraid_rack.specs.declared.call.Call.{Call}
use Rattle.paraid_serve.specs.Uses.{RackUse, SinkUse, SourceUse}
use Rattle.paraid_rack.specs.Trail.{Trail, extend, now}
use Rattle.paraid_rack.proofs.TrailsLemmas.{extend-extend}
use Rattle.paraid_record.specs.declared.meta.Setup.{Setup}
use Rattle.paraid_recover.specs.Mount.{IsUnstarted}
use Rattle.paraid_recover.proofs.ToldLemmas.{same_trail}
use Rattle.paraid_serve.specs.Causes.{Shown}
use Rattle.paraid_serve.specs.Output.{begins_with}
use Rattle.paraid_serve.specs.Streams.{streams_of}
use Rattle.paraid_serve.specs.Stretch.{EndsStretch, Stretch, Turn, TurnsLead, span_of, turn_calls, turn_events}
use Rattle.paraid_serve.proofs.StretchLemmas.{some_is}
use Rattle.paraid_service.specs.VolumeSessions.{FlushesLast, FollowsForVolumes, VolumesHeadline, VolumesText, WritesVolumes}
use Rattle.paraid_service.specs.VolumeSessions.VolumesText.{done as text_done, halted as text_halted, source as text_source, too_long as text_long}
use Rattle.paraid_service.specs.VolumeSessions.WritesVolumes.{whole as wrote_whole, last_line as wrote_last, answers as wrote_answers, first_line as wrote_first}
use Rattle.paraid_session.specs.Mount.{IsBegun}
use Rattle.paraid_session.specs.Turn.{Point}
use Rattle.paraid_commands.specs.Complete.{Completes, HeldHistory, HindersRun, IsRunWhole}
use Rattle.paraid_commands.specs.Complete.Completes.{hindered, whole}
use Rattle.paraid_commands.specs.Complete.Hinders.{sink_failed}
use Rattle.paraid_commands.specs.Complete.HindersRun.{other, source_failed, too_long}
use Rattle.paraid_commands.specs.Ends.{BeginsAt, IsEndOver, IsServed, MountsAndThen, ServiceStart, served_span, shown_served}
use Rattle.paraid_commands.specs.Ends.MountsAndThen.{mounted, refused}
use Rattle.paraid_commands.specs.Volumes.{ServesVolumes}
use Rattle.paraid_commands.proofs.CompleteLemmas.{from_point, halted_comes, refused_comes}
use Rattle.paraid_commands.proofs.NbdComesLemmas.{ends_turns}
use Rattle.paraid_commands.proofs.EndLemmas.{over_span}

events_joined : (ts us : List Turn) → turn_events (ts ++ us) ≡ turn_events ts ++ turn_events us
events_joined [] us = refl
events_joined (t ∷ ts) us = ap (λ (es : List Event). t.event ∷ es) (events_joined ts us)

calls_joined : (ts us : List Turn) → turn_calls (ts ++ us) ≡ turn_calls ts ++ turn_calls us
calls_joined [] us = refl
calls_joined (t ∷ ts) us = ap (λ (l : List Call). t.calls ++ l) (calls_joined ts us) ∙ sym (append_assoc t.calls (turn_calls ts) (turn_calls us))

module _ (slots : ℕ) (setup : Setup) where
  turns_joined : (p q r : Point) (ts us : List Turn) → TurnsLead slots setup p ts q → TurnsLead slots setup q us r → TurnsLead slots setup p (ts ++ us) r
  turns_joined p q r [] us went next = subst (λ (x : Point). TurnsLead slots setup x us r) went next
  turns_joined p q r (t ∷ ts) us went next = (went.0, went.1, turns_joined went.0 q r ts us went.2 next)

  module _ (start mid final : Option Trail) (p : Point) (asked : List Event) (c : Stretch (span_of slots setup start mid) p asked) where
    -- two parts of a session, one after the other
    stretch_joined : (more : List Event) (d : Stretch (span_of slots setup mid final) c.end more) → Stretch (span_of slots setup start final) p (asked ++ more)
    stretch_joined more d = record {
      turns = c.turns ++ d.turns;
      end = d.end;
      went = turns_joined p c.end d.end c.turns d.turns c.went d.went;
      asked = events_joined c.turns d.turns ∙ ap (λ (es : List Event). es ++ turn_events d.turns) c.asked ∙ ap (λ (es : List Event). asked ++ es) d.asked;
      from = c.from;
      to = d.to;
      was = c.was;
      is = d.is;
      calls = d.calls ∙ ap (λ (t : Trail). extend t (turn_calls d.turns)) (same_trail mid d.from c.to d.was c.is ∙ c.calls) ∙ extend-extend c.from (turn_calls c.turns) (turn_calls d.turns)
          ∙ ap (λ (l : List Call). extend c.from l) (sym (calls_joined c.turns d.turns));
    }

    -- the last event of a session is its flush
    flush_ends : (answer : Answer) (f : FlushesLast (span_of slots setup mid final) c.end answer) → EndsStretch (span_of slots setup start final) p (asked ++ f.asked) answer
    unfolding stretch_joined
    flush_ends answer f =
        let e = ends_turns f.all.turns [] (Flush, answer) f.answered in
        record {
          all = stretch_joined f.asked f.all;
          before = c.turns ++ e.before;
          last = e.last;
          split = ap (λ (ts : List Turn). c.turns ++ ts) e.split ∙ sym (append_assoc c.turns e.before (e.last ∷ []));
          answered = e.is;
        }

-- from what a mounted array serves to what the program does
pub volumes_over : (rack : RackUse) (source : SourceUse) (sink : SinkUse) (status : ℕ) (service : ServiceStart) (slots : ℕ) (setup : Setup) (final : Option Trail) → slots ≡ rack.slots → setup ≡ service.array.meta.setup → rack.after ≡ final → IsEndOver setup rack sink status
    → (begun seen : Shown) → begun ≡ shown_served service.array → seen.slot ≡ rack.new → VolumesHeadline begun seen (span_of slots setup service.told final) service.began (streams_of source sink) status → ServesVolumes rack source sink status service
volumes_over rack source sink status service slots setup final e same f end begun seen begins ends h = record {
  seen = seen;
  headline = subst (λ (y : Shown). VolumesHeadline y seen (served_span rack service) service.began (streams_of source sink) status) begins
      (over_span rack service slots setup final e same f (λ span. VolumesHeadline begun seen span service.began (streams_of source sink) status) h);
  last = ends;
  end = subst (λ (z : Setup). IsEndOver z rack sink status) same end;
}

module _ {rack : RackUse} (h : HeldHistory rack) (kept : SinkUse) (status : ℕ) (sunk : status ≡ 4 → HasRisen kept.faults_before kept.faults) (given : SourceUse) (heard : status ≡ 3 → HasRisen given.faults_before given.faults) where
  abbrev Hindered : Type 0
  Hindered = HindersRun h given kept status

  abbrev VolumesCome : Type 0
  VolumesCome = Completes (IsRunWhole given kept) (IsUnstarted rack.old rack.new rack.before rack.after) Hindered status

  module _ (service : ServiceStart) (stood : IsServed rack service) (begins : BeginsAt rack.before service.told rack.after service.began) (served : ServesVolumes rack given kept status service) where
    by_text : (base : ℕ → ℕ) (t : Trail) (cs : List Call) (p : Point) → service.told ≡ Some t → t ≡ extend h.first cs → IsBegun rack.slots (now h.first) h.said h.history h.low h.down base cs p → h.said.meta.setup ≡ service.array.meta.setup
        → (code : ℕ) (text last : List ℕ) → VolumesText (served_span rack service) p served.headline.bytes code text last → status ≡ code → GrowsByBytes kept.written_before kept.written (text ++ last) → VolumesCome
    by_text base t cs p here split starts same code text last (text_done mid front reply a f) is grows =
        whole is ((served.headline.all (inl is)).1, _, record { text = begins_with p ++ (front ++ reply); grows = grows })
    by_text base t cs p here split starts same code text last (text_halted mid halt met front reply a of_lines f) is grows =
        halted_comes h kept status (IsRunWhole given kept) Hindered other sunk service stood begins served.end
        base t cs p here split starts same (a.asked ++ f.asked) halt (flush_ends rack.slots service.array.meta.setup service.told mid rack.after p a.asked a.all (Halted halt) f) is
    by_text base t cs p here split starts same code text last (text_source met front reply a) is grows = hindered (source_failed is (heard is))
    by_text base t cs p here split starts same code text last (text_long ten met front reply a) is grows = hindered (too_long is served.headline.bytes served.headline.given ten)

    by_output : (base : ℕ → ℕ) (t : Trail) (cs : List Call) (p : Point) → service.told ≡ Some t → t ≡ extend h.first cs → IsBegun rack.slots (now h.first) h.said h.history h.low h.down base cs p → h.said.meta.setup ≡ service.array.meta.setup
        → WritesVolumes (served_span rack service) p served.headline.bytes status served.headline.text → VolumesCome
    by_output base t cs p here split starts same (wrote_whole said last out is) =
        by_text base t cs p here split starts same status said last out refl (subst (λ (x : List ℕ). GrowsByBytes kept.written_before kept.written x) is served.headline.grows)
    by_output base t cs p here split starts same (wrote_last four code said last count out short is) = hindered (other (sink_failed four (sunk four)))
    by_output base t cs p here split starts same (wrote_answers four before more line front reply count met split_lines a short is) = hindered (other (sink_failed four (sunk four)))
    by_output base t cs p here split starts same (wrote_first four count none c short is) = hindered (other (sink_failed four (sunk four)))

  pub volumes_come : {U : Type 0} → MountsAndThen rack kept status U (ServesVolumes rack given kept status) → VolumesCome
  volumes_come (refused fault back end unheard) =
      refused_comes h kept status (IsRunWhole given kept) Hindered other sunk fault back.cause back.refused end.count _ end.whole
  volumes_come (mounted service stood begins served) =
      from_point h kept status (IsRunWhole given kept) Hindered other sunk service stood begins served.end
      (FollowsForVolumes (served_span rack service) served.headline.bytes status served.headline.text) (served.headline.said (some_is rack.after h.last h.at_last))
      (λ base t cs p here split starts same f. by_output service stood begins served base t cs p here split starts same f.wrote)
