-- Sessions, one event after the other.
use Rattle.std.proofs.Common.{◌≡◌, ◌≢◌, ℕ, List, [], ◌∷◌, ◌++◌, Option, Some, None, IsSome, refl, sym, ap, ◌∙◌, subst, append_assoc}
use Rattle.std.proofs.lemmas.List.{append-nil}
use Rattle.std.proofs.lemmas.Bool.{false≢true}
use Rattle.paraid_base.specs.declared.event.Answer.{Answer}
use Rattle.paraid_base.specs.declared.event.Answer.TheVariants.{Bad as IsBad, Halted}
use Rattle.paraid_base.specs.declared.event.Event.{Event}
use Rattle.paraid_base.specs.declared.event.Event.TheVariants.{Bad}
use Rattle.paraid_base.specs.declared.fault.Halt.{Halt}
use Rattle.paraid_rack.specs.declared.call.Call.{Call}
use Rattle.paraid_rack.specs.Told.{Ran}
use Rattle.paraid_rack.specs.Trail.{Trail, extend}
use Rattle.paraid_rack.proofs.TrailsLemmas.{Ran-none, extend-extend}
use Rattle.paraid_record.specs.declared.meta.Setup.{Setup}
use Rattle.paraid_trace.specs.LineEvents.{event_of}
use Rattle.paraid_trace.specs.Replies.{reply_of}
use Rattle.paraid_serve.specs.Stretch.{Span, Stretch, Turn, TurnsLead, span_of, turn_calls, events_in, turn_events, replies, turn_with}
use Rattle.paraid_session.specs.Turn.{GoesOn, IsTurn, Point}
use Rattle.paraid_session.specs.Turn.IsTurn.{again, bad}

-- a line that is no event
pub bad_turn : (slots : ℕ) (setup : Setup) (told : Option Trail) (p : Point) (stands : Point → Type 0) → stands p → Ran told told (GoesOn slots setup p Bad IsBad stands)
bad_turn slots setup told p stands at_p = Ran-none (GoesOn slots setup p Bad IsBad stands) (λ s. (p, bad refl refl refl refl, at_p)) told

-- an event after a halt
pub again_turn : (slots : ℕ) (setup : Setup) (told : Option Trail) (p : Point) (stands : Point → Type 0) (event : Event) (halt : Halt) → event ≢ Bad → p.halt ≡ Some halt → stands p
    → Ran told told (GoesOn slots setup p event (Halted halt) stands)
again_turn slots setup told p stands event halt apart halted at_p = Ran-none (GoesOn slots setup p event (Halted halt) stands) (λ s. (p, again halt halted apart refl refl refl, at_p)) told

TurnsLead-push : (slots : ℕ) (setup : Setup) (p q r : Point) (ts : List Turn) (e : Event) (a : Answer) (cs : List Call) → TurnsLead slots setup p ts q → IsTurn slots setup q e a cs r
    → TurnsLead slots setup p (ts ++ turn_with e a cs ∷ []) r
TurnsLead-push slots setup p q r [] e a cs went next = (r, subst (λ (x : Point). IsTurn slots setup x e a cs r) went next, refl)
TurnsLead-push slots setup p q r (t ∷ ts) e a cs went next = (went.0, went.1, TurnsLead-push slots setup went.0 q r ts e a cs went.2 next)

turn_events-push : (ts : List Turn) (e : Event) (a : Answer) (cs : List Call) → turn_events (ts ++ turn_with e a cs ∷ []) ≡ turn_events ts ++ e ∷ []
turn_events-push [] e a cs = refl
turn_events-push (t ∷ ts) e a cs = ap (λ (es : List Event). t.event ∷ es) (turn_events-push ts e a cs)

turn_calls-push : (ts : List Turn) (e : Event) (a : Answer) (cs : List Call) → turn_calls (ts ++ turn_with e a cs ∷ []) ≡ turn_calls ts ++ cs
turn_calls-push [] e a cs = append-nil cs
turn_calls-push (t ∷ ts) e a cs = ap (λ (l : List Call). t.calls ++ l) (turn_calls-push ts e a cs) ∙ sym (append_assoc t.calls (turn_calls ts) cs)

pub replies-push : (ts : List Turn) (e : Event) (a : Answer) (cs : List Call) → replies (ts ++ turn_with e a cs ∷ []) ≡ replies ts ++ reply_of a
replies-push [] e a cs = append-nil (reply_of a)
replies-push (t ∷ ts) e a cs = ap (λ (l : List ℕ). reply_of t.answer ++ l) (replies-push ts e a cs) ∙ sym (append_assoc (reply_of t.answer) (replies ts) (reply_of a))

pub events_in-push : (lines : List (List ℕ)) (line : List ℕ) → events_in (lines ++ line ∷ []) ≡ events_in lines ++ event_of line ∷ []
events_in-push [] line = refl
events_in-push (l ∷ lines) line = ap (λ (es : List Event). event_of l ∷ es) (events_in-push lines line)

-- a record that is told
pub some_told : (o : Option Trail) → IsSome o → (t : Trail) × (o ≡ Some t)
some_told (Some t) is = (t, refl)
some_told None is = absurd (false≢true is)

pub some_is : (o : Option Trail) (t : Trail) → o ≡ Some t → IsSome o
some_is o t is = subst IsSome (sym is) refl

same_trail : (o : Option Trail) (a b : Trail) → o ≡ Some a → o ≡ Some b → a ≡ b
same_trail o a b e f = some_same a b (sym e ∙ f)
  where
    some_same : (a b : Trail) → Some a ≡ Some b → a ≡ b
    some_same a b e = cc

-- no event yet
abbrev pub stretch_none : (slots : ℕ) (setup : Setup) (told : Option Trail) (p : Point) → IsSome told → Stretch (span_of slots setup told told) p []
stretch_none slots setup told p is =
    let t = some_told told is in
    record {
      turns = [];
      end = p;
      went = refl;
      asked = refl;
      from = t.0;
      to = t.0;
      was = t.1;
      is = t.1;
      calls = ap (λ (l : List Call). record { start = t.0.start; calls = l }) (sym (append-nil t.0.calls));
    }

-- one event more
pub record More {span : Span} {p : Point} {events : List Event} (c : Stretch span p events) (later : Option Trail) (event : Event) (answer : Answer) (stood : Point → Type 0) : Type 0 where
  pub all : Stretch (record span { now = later }) p (events ++ event ∷ [])
  pub calls : List Call
  pub turns : all.turns ≡ c.turns ++ turn_with event answer calls ∷ []
  pub stands : stood all.end

pub stretch_more : {span : Span} {p : Point} {events : List Event} (c : Stretch span p events) (later : Option Trail) (event : Event) (answer : Answer) (stood new_stood : Point → Type 0)
    → stood c.end → ((q : Point) → stood q → Ran span.now later (GoesOn span.slots span.setup q event answer new_stood)) → IsSome later → More c later event answer new_stood
stretch_more {span} {p} {events} c later event answer stood new_stood at_end goes is =
    let t = some_told later is in
    let came = goes c.end at_end t.0 t.1 in
    let next = came.holds in
    let same : came.from ≡ c.to = same_trail span.now came.from c.to came.was c.is in
    record {
      all = record {
        turns = c.turns ++ turn_with event answer came.calls ∷ [];
        end = next.0;
        went = TurnsLead-push span.slots span.setup p c.end next.0 c.turns event answer came.calls c.went next.1;
        asked = turn_events-push c.turns event answer came.calls ∙ ap (λ (es : List Event). es ++ event ∷ []) c.asked;
        from = c.from;
        to = t.0;
        was = c.was;
        is = t.1;
        calls = came.is ∙ ap (λ (r : Trail). extend r came.calls) (same ∙ c.calls) ∙ extend-extend c.from (turn_calls c.turns) came.calls
            ∙ ap (λ (l : List Call). extend c.from l) (sym (turn_calls-push c.turns event answer came.calls));
      };
      calls = came.calls;
      turns = refl;
      stands = next.2;
    }
