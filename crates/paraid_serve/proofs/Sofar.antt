-- What a session keeps from line to line.
use Rattle.std.proofs.Common.{◌≡◌, ℕ, ◌^◌, ◌<◌, ◌≤◌, ◌⊎◌, Bool, true, false, List, [], ◌∷◌, ◌++◌, length, take, IsTrue, Option, Some, None, IsSome, Result, Ok, Err, refl, sym, ap, ◌∙◌, subst, inl, inr, arith, length-append}
use Rattle.std.proofs.lemmas.List.{append_assoc, append-nil}
use Rattle.std.proofs.lemmas.Bool.{false≢true}
use Rattle.paraid_base.specs.declared.event.Answer.{Answer}
use Rattle.paraid_base.specs.declared.event.Answer.TheVariants.{Flushed, Halted}
use Rattle.paraid_base.specs.declared.event.Event.{Event}
use Rattle.paraid_base.specs.declared.event.Event.TheVariants.{Flush}
use Rattle.paraid_base.specs.declared.fault.Halt.{Halt}
use Rattle.paraid_base.specs.Told.{Gives, GrowsByBytes, AtEnd, told_bytes, stream_most}
use Rattle.paraid_base.proofs.ToldLemmas.{Gives-none, Gives-then, GrowsByBytes-none, GrowsByBytes-then}
use Rattle.paraid_io.specs.declared.line.LineFault.{LineFault}
use Rattle.paraid_io.specs.Lines.{lines_of, whole_lines}
use Rattle.paraid_io.specs.Reading.{IsNextLine, Reading, fresh_reader}
use Rattle.paraid_rack.specs.Told.{Ran}
use Rattle.paraid_rack.specs.Trail.{Trail}
use Rattle.paraid_record.specs.declared.meta.Setup.{Setup}
use Rattle.paraid_trace.specs.LineEvents.{event_of}
use Rattle.paraid_trace.specs.Replies.{reply_of}
use Rattle.paraid_serve.specs.Heard.{HearsLine}
use Rattle.paraid_serve.specs.Causes.{HasCause, Shown}
use Rattle.paraid_serve.specs.Form.{HasAnswers}
use Rattle.paraid_serve.specs.Session.{ServesSession}
use Rattle.paraid_serve.proofs.FormLemmas.{answers_push, no_answers}
use Rattle.paraid_serve.specs.Streams.{streams_of}
use Rattle.paraid_serve.specs.Uses.{SinkUse, SourceUse}
use Rattle.paraid_serve.specs.Stretch.{EndsStretch, Span, Stretch, events_in, replies, span_of, turn_with}
use Rattle.paraid_session.specs.Turn.{GoesOn, Point}
use Rattle.paraid_serve.specs.declared.stop.Stop.TheVariants.{Source, TooLong, Sink, Halt as Halts}
use Rattle.paraid_serve.proofs.StretchLemmas.{More, events_in-push, replies-push, stretch_more, stretch_none}

-- so many lines were answered, and the array stands at the last point
pub record Said (span : Span) (p : Point) (lines : List (List ℕ)) (text : List ℕ) (stood : Point → Type 0) : Type 0 where
  pub all : Stretch span p (events_in lines)
  pub text_is : text ≡ replies all.turns
  pub stands : stood all.end

-- a source with this left before and after, and these counts of faults
abbrev pub source_from : Option (List ℕ) → Option (List ℕ) → ℕ → ℕ → SourceUse
source_from before after was is = record { left_before = before; left = after; faults_before = was; faults = is }

-- a sink with this written before and after, and these counts
abbrev pub sink_from : Option (List ℕ) → Option (List ℕ) → ℕ → ℕ → SinkUse
sink_from before after was is = record { written_before = before; written = after; faults_before = was; faults = is }

pub record Sofar (seen seen_now : Shown) (slots : ℕ) (setup : Setup) (first : Point → Type 0) (left_before left written_before written : Option (List ℕ)) (start now : Option Trail) (stood : Point → Type 0) (reader : Reading) : Type 0 where
  pub bytes : List ℕ
  pub answered : List (List ℕ)
  pub text : List ℕ
  pub given : Gives left_before left bytes
  -- whatever follows, the lines are those that were answered and those of what is left
  pub lines : (more : List ℕ) → (IsTrue reader.ended → more ≡ []) → lines_of (bytes ++ more) ≡ answered ++ lines_of (reader.rest ++ more)
  pub whole : reader.ended ≡ false → (more : List ℕ) → whole_lines (bytes ++ more) ≡ answered ++ whole_lines (reader.rest ++ more)
  pub at_end : IsTrue reader.ended → AtEnd left
  pub in_time : IsTrue reader.ended → reader.taken < stream_most
  pub fault : reader.fault ≡ None
  pub limit : reader.taken ≤ stream_most
  pub count : reader.taken ≡ length bytes
  pub grows : GrowsByBytes written_before written text
  pub form : HasAnswers seen answered text seen_now
  pub tells : IsSome now → IsSome start
  pub said : IsSome now → (p : Point) → first p → Said (span_of slots setup start now) p answered text stood

pub sofar_start : (seen : Shown) (slots : ℕ) (setup : Setup) (left written : Option (List ℕ)) (start : Option Trail) (stood : Point → Type 0) → Sofar seen seen slots setup stood left left written written start start stood (fresh_reader 0)
sofar_start seen slots setup left written start stood = record {
  bytes = [];
  answered = [];
  text = [];
  given = Gives-none left;
  lines = λ more none. refl;
  whole = λ f more. refl;
  at_end = λ e. absurd (false≢true e);
  in_time = λ e. absurd (false≢true e);
  fault = refl;
  limit = omega arith;
  count = refl;
  grows = GrowsByBytes-none written;
  form = no_answers seen;
  tells = λ t. t;
  said = λ t p first. record { all = stretch_none slots setup start p t; text_is = refl; stands = first };
}

-- no byte comes after the end
none_more : {a b : Option (List ℕ)} {got : List ℕ} → Gives a b got → got ≡ [] → AtEnd a → AtEnd b
none_more {a} {b} {got} g none end s = ap (λ x. x ++ told_bytes b) (sym none) ∙ sym (g.bytes s) ∙ end (g.before s)

ended_or_not : (b : Bool) → (b ≡ true) ⊎ (b ≡ false)
ended_or_not true = inl refl
ended_or_not false = inr refl

-- the end is kept, or it came in this call
pub heard_end : {before after : Option (List ℕ)} {old new : Reading} {r : Result (Option Event) LineFault} → HearsLine before after old new r → (IsTrue old.ended → AtEnd before) → IsTrue new.ended → AtEnd after
heard_end {before} {after} {old} {new} {r} h end now = elim (ended_or_not old.ended) [
  | inl e ↦ none_more h.given (h.ended_before e) (end e)
  | inr f ↦ (h.ended_now now f).0
]

-- fewer bytes were taken than may be
pub heard_in_time : {before after : Option (List ℕ)} {old new : Reading} {r : Result (Option Event) LineFault} → HearsLine before after old new r → (IsTrue old.ended → old.taken < stream_most) → IsTrue new.ended → new.taken < stream_most
heard_in_time {before} {after} {old} {new} {r} h end now = elim (ended_or_not old.ended) [
  | inl e ↦ omega (arith, h.taken, ap length (h.ended_before e), end e)
  | inr f ↦ (h.ended_now now f).1
]

-- the lines of all bytes, one line on
lines_more : (bytes got rest more : List ℕ) (lines ls : List (List ℕ)) (line : List ℕ) (f : List ℕ → List (List ℕ))
    → f (bytes ++ (got ++ more)) ≡ lines ++ f (rest ++ (got ++ more)) → f ((rest ++ got) ++ more) ≡ line ∷ ls → f ((bytes ++ got) ++ more) ≡ (lines ++ line ∷ []) ++ ls
lines_more bytes got rest more lines ls line f before cut =
    ap f (append_assoc bytes got more) ∙ before ∙ ap (λ x. lines ++ f x) (sym (append_assoc rest got more)) ∙ ap (λ x. lines ++ x) cut ∙ sym (append_assoc lines (line ∷ []) ls)

both_none : (x y : List ℕ) → x ≡ [] → y ≡ [] → x ++ y ≡ []
both_none x y e f = rw (e, f) refl

was_open : {a b : Bool} → (IsTrue a → IsTrue b) → b ≡ false → a ≡ false
was_open {a = true} {b} f e = absurd (false≢true (sym e ∙ f refl))
was_open {a = false} {b} f e = refl

-- one event more, of a line or of none
one_event : {span : Span} {p : Point} {lines : List (List ℕ)} {text : List ℕ} {stood : Point → Type 0} (said : Said span p lines text stood)
    → (event : Event) (answer : Answer) (later : Option Trail) (new_stood : Point → Type 0) (slots_now : ℕ) (setup_now : Setup) → slots_now ≡ span.slots → setup_now ≡ span.setup
    → ((q : Point) → stood q → Ran span.now later (GoesOn slots_now setup_now q event answer new_stood)) → IsSome later → More said.all later event answer new_stood
one_event {span} {p} {lines} {text} {stood} said event answer later new_stood slots_now setup_now same_slots same_setup goes t =
    stretch_more said.all later event answer stood new_stood said.stands
    (λ q is. subst (λ (k : ℕ). Ran span.now later (GoesOn k span.setup q event answer new_stood)) same_slots (subst (λ (u : Setup). Ran span.now later (GoesOn slots_now u q event answer new_stood)) same_setup (goes q is))) t

module _ {seen seen_now : Shown} {slots : ℕ} {setup : Setup} {first : Point → Type 0} {left_before left after written_before written : Option (List ℕ)} {start now : Option Trail} {stood : Point → Type 0} {old new : Reading} (s : Sofar seen seen_now slots setup first left_before left written_before written start now stood old) where
  -- what is said with one line more
  one_more : {event : Event} (h : HearsLine left after old new (Ok (Some event))) → (answer : Answer) (later : Option Trail) (new_stood : Point → Type 0) (slots_now : ℕ) (setup_now : Setup) → slots_now ≡ slots → setup_now ≡ setup
      → (IsSome later → IsSome now) → ((q : Point) → stood q → Ran now later (GoesOn slots_now setup_now q event answer new_stood))
      → IsSome later → (p : Point) → first p → Said (span_of slots setup start later) p (s.answered ++ h.says.0 ∷ []) (s.text ++ reply_of answer) new_stood
  one_more {event} h answer later new_stood slots_now setup_now same_slots same_setup tells goes t p f =
      let is : event ≡ event_of h.says.0 = h.says.1 in
      let said = s.said (tells t) p f in
      let more = one_event said event answer later new_stood slots_now setup_now same_slots same_setup goes t in
      let asked : events_in s.answered ++ event ∷ [] ≡ events_in (s.answered ++ h.says.0 ∷ []) = ap (λ (e : Event). events_in s.answered ++ e ∷ []) is ∙ sym (events_in-push s.answered h.says.0) in
      record {
        all = record {
          turns = more.all.turns;
          end = more.all.end;
          went = more.all.went;
          asked = more.all.asked ∙ asked;
          from = more.all.from;
          to = more.all.to;
          was = more.all.was;
          is = more.all.is;
          calls = more.all.calls;
        };
        text_is = ap (λ x. x ++ reply_of answer) said.text_is ∙ sym (replies-push said.all.turns event answer more.calls) ∙ ap replies (sym more.turns);
        stands = more.stands;
      }

  pub sofar_more : {event : Event} (h : HearsLine left after old new (Ok (Some event))) → new.fault ≡ None → (answer : Answer) → (seen_later : Shown) → HasCause seen_now event answer seen_later → (later : Option Trail) (wrote : Option (List ℕ)) (new_stood : Point → Type 0) (slots_now : ℕ) (setup_now : Setup) → slots_now ≡ slots → setup_now ≡ setup
      → (IsSome later → IsSome now) → ((q : Point) → stood q → Ran now later (GoesOn slots_now setup_now q event answer new_stood))
      → GrowsByBytes written wrote (reply_of answer)
      → Sofar seen seen_later slots setup first left_before after written_before wrote start later new_stood new
  sofar_more {event} h fault answer seen_later cause later wrote new_stood slots_now setup_now same_slots same_setup tells goes grew =
      let line : List ℕ = h.says.0 in
      let n : IsNextLine (old.rest ++ h.got) line new = h.says.2 in
      record {
        bytes = s.bytes ++ h.got;
        answered = s.answered ++ line ∷ [];
        text = s.text ++ reply_of answer;
        given = Gives-then left_before left after s.bytes h.got s.given h.given;
        lines = λ more none. lines_more s.bytes h.got old.rest more s.answered (lines_of (new.rest ++ more)) line lines_of (s.lines (h.got ++ more) (λ e. both_none h.got more (h.ended_before e) (none (h.stays_ended e)))) (n.lines more none);
        whole = λ f more. lines_more s.bytes h.got old.rest more s.answered (whole_lines (new.rest ++ more)) line whole_lines (s.whole (was_open h.stays_ended f) (h.got ++ more)) (n.whole f more);
        at_end = λ e. heard_end h s.at_end e;
        in_time = λ e. heard_in_time h s.in_time e;
        fault = fault;
        limit = h.limit;
        count = omega (arith, s.count, h.taken, length-append s.bytes h.got);
        grows = GrowsByBytes-then written_before written wrote s.text (reply_of answer) s.grows grew;
        form = answers_push seen seen_now seen_later s.answered s.text line event answer h.says.1 cause s.form;
        tells = λ t. s.tells (tells t);
        said = one_more h answer later new_stood slots_now setup_now same_slots same_setup tells goes;
      }

  -- the input has ended, and all lines are answered
  all_lines : (h : HearsLine left after old new (Ok None)) → lines_of (s.bytes ++ h.got) ≡ s.answered
  all_lines h = s.lines h.got h.ended_before ∙ ap (λ x. s.answered ++ lines_of x) h.says.0 ∙ append-nil s.answered

  -- a flush is answered at last
  ended : (h : HearsLine left after old new (Ok None)) → (answer : Answer) (later : Option Trail) (new_stood : Point → Type 0) (slots_now : ℕ) (setup_now : Setup) → slots_now ≡ slots → setup_now ≡ setup
      → (IsSome later → IsSome now) → ((q : Point) → stood q → Ran now later (GoesOn slots_now setup_now q Flush answer new_stood))
      → IsSome later → (p : Point) → first p
      → (e : EndsStretch (span_of slots setup start later) p (events_in (lines_of (s.bytes ++ h.got)) ++ Flush ∷ []) answer) × (s.text ≡ replies e.before)
  ended h answer later new_stood slots_now setup_now same_slots same_setup tells goes t p f =
      let said = s.said (tells t) p f in
      let more = one_event said Flush answer later new_stood slots_now setup_now same_slots same_setup goes t in (
        record {
          all = record {
            turns = more.all.turns;
            end = more.all.end;
            went = more.all.went;
            asked = more.all.asked ∙ ap (λ ls. events_in ls ++ Flush ∷ []) (sym (all_lines h));
            from = more.all.from;
            to = more.all.to;
            was = more.all.was;
            is = more.all.is;
            calls = more.all.calls;
          };
          before = said.all.turns;
          last = turn_with Flush answer more.calls;
          split = more.turns;
          answered = refl;
        },
        said.text_is,
      )

  -- all of the source was taken
  all_taken : (h : HearsLine left after old new (Ok None)) → (length (s.bytes ++ h.got) < stream_most) × AtEnd after
  all_taken h = (
    omega (arith, s.count, h.taken, length-append s.bytes h.got, heard_in_time h s.in_time h.says.2),
    heard_end h s.at_end h.says.2,
  )

  module _ (h : HearsLine left after old new (Ok None)) (later : Option Trail) (new_stood : Point → Type 0) (slots_now : ℕ) (setup_now : Setup) (same_slots : slots_now ≡ slots) (same_setup : setup_now ≡ setup) (tells : IsSome later → IsSome now) where
    pub ends_well : {a b m n : ℕ} (writes : ℕ) → (seen_later : Shown) → HasCause seen_now Flush (Flushed writes) seen_later → ((q : Point) → stood q → Ran now later (GoesOn slots_now setup_now q Flush (Flushed writes) new_stood))
        → ServesSession seen seen_later (span_of slots setup start later) first (streams_of (source_from left_before after a b) (sink_from written_before written m n)) (Ok writes)
    ends_well {a} {b} {m} {n} writes seen_later cause goes = record {
      bytes = s.bytes ++ h.got;
      text = s.text;
      given = Gives-then left_before left after s.bytes h.got s.given h.given;
      grows = s.grows;
      full = all_taken h;
      form = (seen_now, subst (λ (ls : List (List ℕ)). HasAnswers seen ls s.text seen_now) (sym (all_lines h)) s.form, cause);
      answered = ended h (Flushed writes) later new_stood slots_now setup_now same_slots same_setup tells goes;
    }

    pub ends_halted : {a b m n : ℕ} (halt : Halt) → (seen_later : Shown) → HasCause seen_now Flush (Halted halt) seen_later → ((q : Point) → stood q → Ran now later (GoesOn slots_now setup_now q Flush (Halted halt) new_stood))
        → ServesSession seen seen_later (span_of slots setup start later) first (streams_of (source_from left_before after a b) (sink_from written_before written m n)) (Err (Halts halt))
    ends_halted {a} {b} {m} {n} halt seen_later cause goes = record {
      bytes = s.bytes ++ h.got;
      text = s.text;
      given = Gives-then left_before left after s.bytes h.got s.given h.given;
      grows = s.grows;
      full = all_taken h;
      form = (seen_now, subst (λ (ls : List (List ℕ)). HasAnswers seen ls s.text seen_now) (sym (all_lines h)) s.form, cause);
      answered = ended h (Halted halt) later new_stood slots_now setup_now same_slots same_setup tells goes;
    }

  fault_lines : {fault : LineFault} (h : HearsLine left after old new (Err fault)) → s.answered ≡ whole_lines (s.bytes ++ h.got)
  fault_lines h = sym (s.whole (was_open h.stays_ended h.says.1) h.got ∙ ap (λ x. s.answered ++ x) h.says.0 ∙ append-nil s.answered)

  faulted : {fault : LineFault} (h : HearsLine left after old new (Err fault)) → IsSome now → (p : Point) → first p
      → (c : Stretch (span_of slots setup start now) p (events_in (whole_lines (s.bytes ++ h.got)))) × (s.text ≡ replies c.turns)
  faulted h t p f =
      let said = s.said t p f in
      subst (λ (ls : List (List ℕ)). (c : Stretch (span_of slots setup start now) p (events_in ls)) × (s.text ≡ replies c.turns)) (fault_lines h) (said.all, said.text_is)

  pub ends_at_source : {a b m n : ℕ} {fault : LineFault} (h : HearsLine left after old new (Err fault)) → ServesSession seen seen_now (span_of slots setup start now) first (streams_of (source_from left_before after a b) (sink_from written_before written m n)) (Err Source)
  ends_at_source {a} {b} {m} {n} {fault} h = record {
    bytes = s.bytes ++ h.got;
    text = s.text;
    given = Gives-then left_before left after s.bytes h.got s.given h.given;
    grows = s.grows;
    full = tt;
    form = subst (λ (ls : List (List ℕ)). HasAnswers seen ls s.text seen_now) (fault_lines h) s.form;
    answered = faulted h;
  }

  pub ends_too_long : {a b m n : ℕ} {fault : LineFault} (h : HearsLine left after old new (Err fault)) → new.taken ≡ stream_most → ServesSession seen seen_now (span_of slots setup start now) first (streams_of (source_from left_before after a b) (sink_from written_before written m n)) (Err TooLong)
  ends_too_long {a} {b} {m} {n} {fault} h full = record {
    bytes = s.bytes ++ h.got;
    text = s.text;
    given = Gives-then left_before left after s.bytes h.got s.given h.given;
    grows = s.grows;
    full = omega (arith, s.count, h.taken, length-append s.bytes h.got, full);
    form = subst (λ (ls : List (List ℕ)). HasAnswers seen ls s.text seen_now) (fault_lines h) s.form;
    answered = faulted h;
  }

  -- an answer could not be written
  pub ends_at_sink : {a b m k : ℕ} {event : Event} (h : HearsLine left after old new (Ok (Some event))) → (answer : Answer) → (seen_later : Shown) → HasCause seen_now event answer seen_later → (later : Option Trail) (wrote : Option (List ℕ)) (new_stood : Point → Type 0) (slots_now : ℕ) (setup_now : Setup) → slots_now ≡ slots → setup_now ≡ setup
      → (IsSome later → IsSome now) → ((q : Point) → stood q → Ran now later (GoesOn slots_now setup_now q event answer new_stood))
      → (n : ℕ) → n < length (reply_of answer) → GrowsByBytes written wrote (take n (reply_of answer)) → ServesSession seen seen_later (span_of slots setup start later) first (streams_of (source_from left_before after a b) (sink_from written_before wrote m k)) (Err Sink)
  unfolding one_more one_event
  ends_at_sink {a} {b} {m} {k} {event} h answer seen_later cause later wrote new_stood slots_now setup_now same_slots same_setup tells goes n short grew =
      let line : List ℕ = h.says.0 in
      let next_line : IsNextLine (old.rest ++ h.got) line new = h.says.2 in
      let cut : lines_of (s.bytes ++ h.got) ≡ (s.answered ++ line ∷ []) ++ lines_of new.rest = s.lines h.got h.ended_before ∙ ap (λ x. s.answered ++ lines_of x) (sym (append-nil (old.rest ++ h.got))) ∙ ap (λ x. s.answered ++ x) (next_line.lines [] (λ e. refl)) ∙ ap (λ x. s.answered ++ line ∷ lines_of x) (append-nil new.rest) ∙ sym (append_assoc s.answered (line ∷ []) (lines_of new.rest)) in
      record {
        bytes = s.bytes ++ h.got;
        text = s.text ++ take n (reply_of answer);
        given = Gives-then left_before left after s.bytes h.got s.given h.given;
        grows = GrowsByBytes-then written_before written wrote s.text (take n (reply_of answer)) s.grows grew;
        full = tt;
        form = record {
          before = s.answered;
          line = line;
          more = lines_of new.rest;
          split = cut;
          front = s.text;
          mid = seen_now;
          told = s.form;
          answer = answer;
          cause = subst (λ (e : Event). HasCause seen_now e answer seen_later) h.says.1 cause;
          count = n;
          short = short;
          cut = refl;
        };
        answered = λ t p f.
            let said = s.said (tells t) p f in
            let turned = one_event said event answer later new_stood slots_now setup_now same_slots same_setup goes t in
            record {
              before = s.answered;
              line = line;
              more = lines_of new.rest;
              split = cut;
              answer = answer;
              ends = record {
                all = (one_more h answer later new_stood slots_now setup_now same_slots same_setup tells goes t p f).all;
                before = said.all.turns;
                last = turn_with event answer turned.calls;
                split = turned.turns;
                answered = refl;
              };
              count = n;
              short = short;
              cut = ap (λ x. x ++ take n (reply_of answer)) said.text_is;
            };
      }
