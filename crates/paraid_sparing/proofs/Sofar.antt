-- What a session with spares keeps from line to line.
use Rattle.std.proofs.Common.{◌≡◌, ℕ, ◌^◌, ◌<◌, ◌≤◌, Bool, true, false, List, [], ◌∷◌, ◌++◌, length, take, IsTrue, Option, Some, None, IsSome, Ok, Err, refl, sym, ap, ◌∙◌, subst, arith, length-append}
use Rattle.std.proofs.lemmas.List.{append_assoc, append-nil}
use Rattle.std.proofs.lemmas.Bool.{false≢true}
use Rattle.paraid_base.specs.declared.event.Answer.{Answer}
use Rattle.paraid_base.specs.declared.event.Answer.TheVariants.{Flushed, Halted}
use Rattle.paraid_base.specs.declared.event.Event.{Event}
use Rattle.paraid_base.specs.declared.event.Event.TheVariants.{Flush}
use Rattle.paraid_base.specs.declared.fault.Halt.{Halt}
use Rattle.paraid_base.specs.Told.{Gives, GrowsByBytes, AtEnd, stream_most}
use Rattle.paraid_base.proofs.ToldLemmas.{Gives-none, Gives-then, GrowsByBytes-none, GrowsByBytes-then}
use Rattle.paraid_io.specs.declared.line.LineFault.{LineFault}
use Rattle.paraid_io.specs.Lines.{lines_of, whole_lines}
use Rattle.paraid_io.specs.Reading.{IsNextLine, Reading, fresh_reader}
use Rattle.paraid_rack.specs.declared.call.Call.{Call}
use Rattle.paraid_rack.specs.Told.{Came, Ran}
use Rattle.paraid_rack.specs.Trail.{Trail, extend}
use Rattle.paraid_rack.proofs.TrailsLemmas.{extend-extend}
use Rattle.paraid_record.specs.declared.meta.Setup.{Setup}
use Rattle.paraid_trace.specs.LineEvents.{event_of}
use Rattle.paraid_serve.specs.declared.stop.Stop.TheVariants.{Source, TooLong, Sink, Halt as Halts}
use Rattle.paraid_serve.specs.Causes.{HasCause, Shown}
use Rattle.paraid_serve.specs.Heard.{HearsLine}
use Rattle.paraid_serve.specs.Streams.{streams_of}
use Rattle.paraid_serve.specs.Stretch.{Span, Turn, TurnsLead, events_in, span_of, turn_calls, turn_events}
use Rattle.paraid_serve.proofs.Sofar.{heard_end, heard_in_time, sink_from, source_from}
use Rattle.paraid_serve.proofs.StretchLemmas.{More, events_in-push, some_told, stretch_more, stretch_none}
use Rattle.paraid_session.specs.Turn.{GoesOn, Point}
use Rattle.paraid_spare.specs.declared.pool.Pool.{Pool}
use Rattle.paraid_sparing.specs.Serving.{Keeps, ServesLine}
use Rattle.paraid_sparing.specs.Session.{CutsSpared, EndsSpared, ServesSpared, Spared}
use Rattle.paraid_sparing.specs.Sparing.{AnswersLine, AnswersTrace, Stock, spun_by}
use Rattle.paraid_sparing.proofs.RecordedLemmas.{ends_count, trace_counts}
use Rattle.paraid_sparing.specs.SparedCauses.{CausesFlush, CausesLine, CausesLines}
use Rattle.paraid_sparing.proofs.SparedCauseLemmas.{causes_cut, causes_none, causes_push}
use Rattle.paraid_sparing.specs.Sparing.AnswersLine.{alone, spared}
use Rattle.paraid_sparing.specs.Sparing.AnswersTrace.{more as one_more_line, none as no_line}

-- ---- some turns more

leads_then : (slots : ℕ) (setup : Setup) (p q r : Point) (ts us : List Turn) → TurnsLead slots setup p ts q → TurnsLead slots setup q us r → TurnsLead slots setup p (ts ++ us) r
leads_then slots setup p q r [] us first second = subst (λ (x : Point). TurnsLead slots setup x us r) first second
leads_then slots setup p q r (t ∷ ts) us first second = (first.0, first.1, leads_then slots setup first.0 q r ts us first.2 second)

events_then : (ts us : List Turn) → turn_events (ts ++ us) ≡ turn_events ts ++ turn_events us
events_then [] us = refl
events_then (t ∷ ts) us = ap (λ (l : List Event). t.event ∷ l) (events_then ts us)

calls_then : (ts us : List Turn) → turn_calls (ts ++ us) ≡ turn_calls ts ++ turn_calls us
calls_then [] us = refl
calls_then (t ∷ ts) us = ap (λ (l : List Call). t.calls ++ l) (calls_then ts us) ∙ sym (append_assoc t.calls (turn_calls ts) (turn_calls us))

line_leads : (slots : ℕ) (setup : Setup) (wait : ℕ) (p : Point) (k : Stock) (event : Event) (ts : List Turn) (text : List ℕ) (q : Point) (j : Stock) → AnswersLine slots setup wait p k event ts text q j → TurnsLead slots setup p ts q
line_leads slots setup wait p k event ts text q j (alone t end none is went) = (end, went, refl)
line_leads slots setup wait p k event ts text q j (spared d s t mid end due is first same second) = (mid, first, (end, second, refl))

same_trail : (o : Option Trail) (a b : Trail) → o ≡ Some a → o ≡ Some b → a ≡ b
same_trail o a b e f = some_same a b (sym e ∙ f)
  where
    some_same : (a b : Trail) → Some a ≡ Some b → a ≡ b
    some_same a b e = cc

-- ---- lines

-- so many lines were answered, the array stands at the last point, and the pool keeps the stock
pub record Said (span : Span) (wait : ℕ) (p : Point) (k : Stock) (lines : List (List ℕ)) (text : List ℕ) (stood : Point → Type 0) (pool : Pool) : Type 0 where
  pub part : Spared span wait p k (events_in lines) text
  pub stands : stood part.all.end
  pub keeps : Keeps pool wait part.stock

pub record Sofar (seen seen_now : Shown) (slots : ℕ) (setup : Setup) (wait : ℕ) (k : Stock) (first : Point → Type 0) (left_before left written_before written : Option (List ℕ)) (start now : Option Trail) (stood : Point → Type 0) (pool : Pool) (reader : Reading) : Type 0 where
  pub bytes : List ℕ
  pub answered : List (List ℕ)
  pub text : List ℕ
  pub given : Gives left_before left bytes
  pub lines : (more : List ℕ) → (IsTrue reader.ended → more ≡ []) → lines_of (bytes ++ more) ≡ answered ++ lines_of (reader.rest ++ more)
  pub whole : reader.ended ≡ false → (more : List ℕ) → whole_lines (bytes ++ more) ≡ answered ++ whole_lines (reader.rest ++ more)
  pub at_end : IsTrue reader.ended → AtEnd left
  pub in_time : IsTrue reader.ended → reader.taken < stream_most
  pub fault : reader.fault ≡ None
  pub limit : reader.taken ≤ stream_most
  pub count : reader.taken ≡ length bytes
  pub grows : GrowsByBytes written_before written text
  pub causes : CausesLines wait seen k answered text seen_now pool
  pub tells : IsSome now → IsSome start
  pub said : IsSome now → (p : Point) → first p → Said (span_of slots setup start now) wait p k answered text stood pool

pub sofar_start : (seen : Shown) (slots : ℕ) (setup : Setup) (wait : ℕ) (k : Stock) (left written : Option (List ℕ)) (start : Option Trail) (stood : Point → Type 0) (pool : Pool) → Keeps pool wait k
    → Sofar seen seen slots setup wait k stood left left written written start start stood pool (fresh_reader 0)
sofar_start seen slots setup wait k left written start stood pool keeps = record {
  bytes = [];
  answered = [];
  text = [];
  given = Gives-none left;
  lines = λ more none. refl;
  whole = λ f more. refl;
  at_end = λ e. absurd (false≢true e);
  in_time = λ e. absurd (false≢true e);
  fault = refl;
  limit = omega arith;
  count = refl;
  grows = GrowsByBytes-none written;
  causes = causes_none wait seen k pool keeps;
  tells = λ t. t;
  said = λ t p at_p. record { part = record { put_in = []; all = stretch_none slots setup start p t; stock = k; answers = no_line; counts = λ one d low fresh. trace_counts slots setup wait p k [] [] [] p k no_line one d low fresh }; stands = at_p; keeps = keeps };
}

both_none : (x y : List ℕ) → x ≡ [] → y ≡ [] → x ++ y ≡ []
both_none x y e f = rw (e, f) refl

was_open : {a b : Bool} → (IsTrue a → IsTrue b) → b ≡ false → a ≡ false
was_open {a = true} {b} f e = absurd (false≢true (sym e ∙ f refl))
was_open {a = false} {b} f e = refl

-- the lines of all bytes, one line on
lines_more : (bytes got rest more : List ℕ) (lines ls : List (List ℕ)) (line : List ℕ) (f : List ℕ → List (List ℕ))
    → f (bytes ++ (got ++ more)) ≡ lines ++ f (rest ++ (got ++ more)) → f ((rest ++ got) ++ more) ≡ line ∷ ls → f ((bytes ++ got) ++ more) ≡ (lines ++ line ∷ []) ++ ls
lines_more bytes got rest more lines ls line f before cut =
    ap f (append_assoc bytes got more) ∙ before ∙ ap (λ x. lines ++ f x) (sym (append_assoc rest got more)) ∙ ap (λ x. lines ++ x) cut ∙ sym (append_assoc lines (line ∷ []) ls)

-- the calls of a line more
line_came : {span : Span} {wait : ℕ} {p : Point} {k : Stock} {lines : List (List ℕ)} {text : List ℕ} {stood : Point → Type 0} {pool : Pool} (s : Said span wait p k lines text stood pool)
    → (event : Event) (later : Option Trail) (told : List ℕ) (new_stood : Point → Type 0) (new_pool : Pool) (slots_now : ℕ) (setup_now : Setup) → slots_now ≡ span.slots → setup_now ≡ span.setup
    → ((q : Point) (w : ℕ) (j : Stock) → stood q → Keeps pool w j → Ran span.now later (ServesLine slots_now setup_now w q j event told new_stood new_pool)) → (tells : IsSome later)
    → Came span.now (some_told later tells).0 (ServesLine span.slots span.setup wait s.part.all.end s.part.stock event told new_stood new_pool)
line_came {span} {wait} {p} {k} {lines} {text} {stood} {pool} s event later told new_stood new_pool slots_now setup_now same_slots same_setup goes tells =
    let c = s.part.all in
    let t = some_told later tells in
    let ran = subst (λ (n : ℕ). Ran span.now later (ServesLine n span.setup wait c.end s.part.stock event told new_stood new_pool)) same_slots (subst (λ (u : Setup). Ran span.now later (ServesLine slots_now u wait c.end s.part.stock event told new_stood new_pool)) same_setup
    (goes c.end wait s.part.stock s.stands s.keeps)) in
    ran t.0 t.1

-- a line more is answered
said_more : {span : Span} {wait : ℕ} {p : Point} {k : Stock} {lines : List (List ℕ)} {text : List ℕ} {stood : Point → Type 0} {pool : Pool} (s : Said span wait p k lines text stood pool)
    → (line : List ℕ) (event : Event) (later : Option Trail) (told : List ℕ) (new_stood : Point → Type 0) (new_pool : Pool) (slots_now : ℕ) (setup_now : Setup) → slots_now ≡ span.slots → setup_now ≡ span.setup → event ≡ event_of line
    → ((q : Point) (w : ℕ) (j : Stock) → stood q → Keeps pool w j → Ran span.now later (ServesLine slots_now setup_now w q j event told new_stood new_pool)) → IsSome later
    → Said (record span { now = later }) wait p k (lines ++ line ∷ []) (text ++ told) new_stood new_pool
said_more {span} {wait} {p} {k} {lines} {text} {stood} {pool} s line event later told new_stood new_pool slots_now setup_now same_slots same_setup is goes tells =
    let c = s.part.all in
    let t = some_told later tells in
    let came = line_came s event later told new_stood new_pool slots_now setup_now same_slots same_setup goes tells in
    let l = came.holds in
    let answers = subst (λ (es : List Event). AnswersTrace span.slots span.setup wait p k es (c.turns ++ l.turns) (text ++ told) l.end l.stock) (ap (λ (e : Event). events_in lines ++ e ∷ []) is ∙ sym (events_in-push lines line))
    (one_more_line (events_in lines) c.turns text c.end s.part.stock s.part.answers event l.turns told l.end l.stock l.answers) in
    record {
      part = record {
        put_in = s.part.put_in ++ turn_events l.turns;
        all = record {
          turns = c.turns ++ l.turns;
          end = l.end;
          went = leads_then span.slots span.setup p c.end l.end c.turns l.turns c.went (line_leads span.slots span.setup wait c.end s.part.stock event l.turns told l.end l.stock l.answers);
          asked = events_then c.turns l.turns ∙ ap (λ (es : List Event). es ++ turn_events l.turns) c.asked;
          from = c.from;
          to = t.0;
          was = c.was;
          is = t.1;
          calls = came.is ∙ ap (λ (r : Trail). extend r came.calls) (same_trail span.now came.from c.to came.was c.is ∙ c.calls) ∙ extend-extend c.from (turn_calls c.turns) came.calls
              ∙ ap (λ (cs : List Call). extend c.from (turn_calls c.turns ++ cs)) l.made ∙ ap (λ (cs : List Call). extend c.from cs) (sym (calls_then c.turns l.turns));
        };
        stock = l.stock;
        answers = answers;
        counts = λ one d low fresh. trace_counts span.slots span.setup wait p k (events_in (lines ++ line ∷ [])) (c.turns ++ l.turns) (text ++ told) l.end l.stock answers one d low fresh;
      };
      stands = l.stood;
      keeps = l.keeps;
    }

-- what is told of that line is cut
said_cut : {span : Span} {wait : ℕ} {p : Point} {k : Stock} {lines : List (List ℕ)} {text : List ℕ} {stood : Point → Type 0} {pool : Pool} (s : Said span wait p k lines text stood pool)
    → (line : List ℕ) (event : Event) (later : Option Trail) (told : List ℕ) (new_stood : Point → Type 0) (new_pool : Pool) (slots_now : ℕ) (setup_now : Setup) → slots_now ≡ span.slots → setup_now ≡ span.setup → event ≡ event_of line
    → ((q : Point) (w : ℕ) (j : Stock) → stood q → Keeps pool w j → Ran span.now later (ServesLine slots_now setup_now w q j event told new_stood new_pool)) → IsSome later
    → (bytes : List ℕ) (more : List (List ℕ)) (n : ℕ) → lines_of bytes ≡ (lines ++ line ∷ []) ++ more → n < length told → CutsSpared (record span { now = later }) wait p k bytes (text ++ take n told)
unfolding said_more
said_cut {span} {wait} {p} {k} {lines} {text} {stood} {pool} s line event later told new_stood new_pool slots_now setup_now same_slots same_setup is goes tells bytes more n split short =
    let l = (line_came s event later told new_stood new_pool slots_now setup_now same_slots same_setup goes tells).holds in
    record {
      before = lines;
      line = line;
      more = more;
      split = split;
      front = text;
      told = told;
      all = (said_more s line event later told new_stood new_pool slots_now setup_now same_slots same_setup is goes tells).part;
      turns = s.part.all.turns;
      mid = s.part.all.end;
      j = s.part.stock;
      lines = s.part.answers;
      last_turns = l.turns;
      last = subst (λ (e : Event). AnswersLine span.slots span.setup wait s.part.all.end s.part.stock e l.turns told l.end l.stock) is l.answers;
      parts = refl;
      count = n;
      short = short;
      cut = refl;
    }

module _ {seen seen_now : Shown} {slots : ℕ} {setup : Setup} {wait : ℕ} {k : Stock} {first : Point → Type 0} {left_before left after written_before written : Option (List ℕ)} {start now : Option Trail} {stood : Point → Type 0} {pool : Pool} {old new : Reading} (s : Sofar seen seen_now slots setup wait k first left_before left written_before written start now stood pool old) where
  -- one line more
  module _ {event : Event} (h : HearsLine left after old new (Ok (Some event))) (later : Option Trail) (told : List ℕ) (new_stood : Point → Type 0) (new_pool : Pool) (slots_now : ℕ) (setup_now : Setup) (same_slots : slots_now ≡ slots) (same_setup : setup_now ≡ setup) (tells : IsSome later → IsSome now)
      (goes : (q : Point) (w : ℕ) (j : Stock) → stood q → Keeps pool w j → Ran now later (ServesLine slots_now setup_now w q j event told new_stood new_pool)) (seen_later : Shown) (caused : (w : ℕ) (j : Stock) → Keeps pool w j → CausesLine w seen_now j event told seen_later new_pool) where
    caused_more : CausesLines wait seen k (s.answered ++ h.says.0 ∷ []) (s.text ++ told) seen_later new_pool
    caused_more = causes_push wait seen seen_now seen_later k s.answered s.text pool event h.says.0 told new_pool h.says.1 s.causes caused

    says : IsSome later → (p : Point) → first p → Said (span_of slots setup start later) wait p k (s.answered ++ h.says.0 ∷ []) (s.text ++ told) new_stood new_pool
    says t p f = said_more (s.said (tells t) p f) h.says.0 event later told new_stood new_pool slots_now setup_now same_slots same_setup h.says.1 goes t

    pub sofar_more : new.fault ≡ None → (wrote : Option (List ℕ)) → GrowsByBytes written wrote told → Sofar seen seen_later slots setup wait k first left_before after written_before wrote start later new_stood new_pool new
    sofar_more fault wrote grew =
        let line : List ℕ = h.says.0 in
        let n : IsNextLine (old.rest ++ h.got) line new = h.says.2 in
        record {
          bytes = s.bytes ++ h.got;
          answered = s.answered ++ line ∷ [];
          text = s.text ++ told;
          given = Gives-then left_before left after s.bytes h.got s.given h.given;
          lines = λ more none. lines_more s.bytes h.got old.rest more s.answered (lines_of (new.rest ++ more)) line lines_of (s.lines (h.got ++ more) (λ e. both_none h.got more (h.ended_before e) (none (h.stays_ended e)))) (n.lines more none);
          whole = λ f more. lines_more s.bytes h.got old.rest more s.answered (whole_lines (new.rest ++ more)) line whole_lines (s.whole (was_open h.stays_ended f) (h.got ++ more)) (n.whole f more);
          at_end = λ e. heard_end h s.at_end e;
          in_time = λ e. heard_in_time h s.in_time e;
          fault = fault;
          limit = h.limit;
          count = omega (arith, s.count, h.taken, length-append s.bytes h.got);
          grows = GrowsByBytes-then written_before written wrote s.text told s.grows grew;
          causes = caused_more;
          tells = λ t. s.tells (tells t);
          said = says;
        }

    -- the answer could not be written
    pub ends_at_sink : {a b m i : ℕ} (wrote : Option (List ℕ)) (n : ℕ) → n < length told → GrowsByBytes written wrote (take n told) → ServesSpared seen seen_later (span_of slots setup start later) wait k first (streams_of (source_from left_before after a b) (sink_from written_before wrote m i)) new_pool (Err Sink)
    ends_at_sink {a} {b} {m} {i} wrote n short grew =
        let line : List ℕ = h.says.0 in
        let next_line : IsNextLine (old.rest ++ h.got) line new = h.says.2 in
        let cut : lines_of (s.bytes ++ h.got) ≡ (s.answered ++ line ∷ []) ++ lines_of new.rest = s.lines h.got h.ended_before ∙ ap (λ x. s.answered ++ lines_of x) (sym (append-nil (old.rest ++ h.got))) ∙ ap (λ x. s.answered ++ x) (next_line.lines [] (λ e. refl)) ∙ ap (λ x. s.answered ++ line ∷ lines_of x) (append-nil new.rest) ∙ sym (append_assoc s.answered (line ∷ []) (lines_of new.rest)) in
        record {
          bytes = s.bytes ++ h.got;
          text = s.text ++ take n told;
          given = Gives-then left_before left after s.bytes h.got s.given h.given;
          grows = GrowsByBytes-then written_before written wrote s.text (take n told) s.grows grew;
          full = tt;
          causes = causes_cut wait seen seen_now seen_later k (s.bytes ++ h.got) s.answered (lines_of new.rest) s.text pool event line told n new_pool short cut h.says.1 s.causes caused;
          answered = λ t p f. said_cut (s.said (tells t) p f) line event later told new_stood new_pool slots_now setup_now same_slots same_setup h.says.1 goes t (s.bytes ++ h.got) (lines_of new.rest) n cut short;
        }

  -- the input has ended, and all lines are answered
  all_lines : (h : HearsLine left after old new (Ok None)) → s.answered ≡ lines_of (s.bytes ++ h.got)
  all_lines h = sym (s.lines h.got h.ended_before ∙ ap (λ x. s.answered ++ lines_of x) h.says.0 ∙ append-nil s.answered)

  all_taken : (h : HearsLine left after old new (Ok None)) → (length (s.bytes ++ h.got) < stream_most) × AtEnd after
  all_taken h = (
    omega (arith, s.count, h.taken, length-append s.bytes h.got, heard_in_time h s.in_time h.says.2),
    heard_end h s.at_end h.says.2,
  )

  module _ (h : HearsLine left after old new (Ok None)) (later : Option Trail) (new_stood : Point → Type 0) (slots_now : ℕ) (setup_now : Setup) (same_slots : slots_now ≡ slots) (same_setup : setup_now ≡ setup) (tells : IsSome later → IsSome now) where
    flushed : (answer : Answer) → spun_by answer ≡ None → ((q : Point) → stood q → Ran now later (GoesOn slots_now setup_now q Flush answer new_stood)) → IsSome later → (p : Point) → first p
        → (e : EndsSpared (span_of slots setup start later) wait p k (events_in (lines_of (s.bytes ++ h.got))) s.text answer) × Keeps pool wait e.lines.stock
    flushed answer quiet goes t p f =
        let said = s.said (tells t) p f in
        let more : More said.part.all later Flush answer new_stood = stretch_more said.part.all later Flush answer stood new_stood said.stands
        (λ q is. subst (λ (n : ℕ). Ran now later (GoesOn n setup q Flush answer new_stood)) same_slots (subst (λ (u : Setup). Ran now later (GoesOn slots_now u q Flush answer new_stood)) same_setup (goes q is))) t in
        subst (λ (ls : List (List ℕ)). (e : EndsSpared (span_of slots setup start later) wait p k (events_in ls) s.text answer) × Keeps pool wait e.lines.stock) (all_lines h) (
          record {
            middle = now;
            lines = said.part;
            all = more.all;
            calls = more.calls;
            turns = more.turns;
            counts = λ one d low fresh. ends_count slots setup wait p k (events_in s.answered) said.part.all.turns s.text said.part.all.end said.part.stock said.part.answers answer more.calls more.all.turns more.all.end more.all.went more.turns quiet one d low fresh;
          },
          said.keeps,
        )

    flush_caused : (answer : Answer) (seen_later : Shown) → HasCause seen_now Flush answer seen_later → CausesFlush wait seen k (lines_of (s.bytes ++ h.got)) s.text answer seen_later pool
    flush_caused answer seen_later cause = record { mid = seen_now; before = subst (λ (ls : List (List ℕ)). CausesLines wait seen k ls s.text seen_now pool) (all_lines h) s.causes; cause = cause }

    pub ends_well : {a b m n : ℕ} (writes : ℕ) → (seen_later : Shown) → HasCause seen_now Flush (Flushed writes) seen_later → ((q : Point) → stood q → Ran now later (GoesOn slots_now setup_now q Flush (Flushed writes) new_stood)) → ServesSpared seen seen_later (span_of slots setup start later) wait k first (streams_of (source_from left_before after a b) (sink_from written_before written m n)) pool (Ok writes)
    ends_well {a} {b} {m} {n} writes seen_later cause goes = record {
      bytes = s.bytes ++ h.got;
      text = s.text;
      given = Gives-then left_before left after s.bytes h.got s.given h.given;
      grows = s.grows;
      full = all_taken h;
      causes = flush_caused (Flushed writes) seen_later cause;
      answered = flushed (Flushed writes) refl goes;
    }

    pub ends_halted : {a b m n : ℕ} (halt : Halt) → (seen_later : Shown) → HasCause seen_now Flush (Halted halt) seen_later → ((q : Point) → stood q → Ran now later (GoesOn slots_now setup_now q Flush (Halted halt) new_stood)) → ServesSpared seen seen_later (span_of slots setup start later) wait k first (streams_of (source_from left_before after a b) (sink_from written_before written m n)) pool (Err (Halts halt))
    ends_halted {a} {b} {m} {n} halt seen_later cause goes = record {
      bytes = s.bytes ++ h.got;
      text = s.text;
      given = Gives-then left_before left after s.bytes h.got s.given h.given;
      grows = s.grows;
      full = all_taken h;
      causes = flush_caused (Halted halt) seen_later cause;
      answered = flushed (Halted halt) refl goes;
    }

  fault_lines : {fault : LineFault} (h : HearsLine left after old new (Err fault)) → s.answered ≡ whole_lines (s.bytes ++ h.got)
  fault_lines {fault} h = sym (s.whole (was_open h.stays_ended h.says.1) h.got ∙ ap (λ x. s.answered ++ x) h.says.0 ∙ append-nil s.answered)

  faulted : {fault : LineFault} (h : HearsLine left after old new (Err fault)) → IsSome now → (p : Point) → first p → Spared (span_of slots setup start now) wait p k (events_in (whole_lines (s.bytes ++ h.got))) s.text
  faulted {fault} h t p f = subst (λ (ls : List (List ℕ)). Spared (span_of slots setup start now) wait p k (events_in ls) s.text) (fault_lines h) (s.said t p f).part

  pub ends_at_source : {a b m n : ℕ} {fault : LineFault} (h : HearsLine left after old new (Err fault)) → ServesSpared seen seen_now (span_of slots setup start now) wait k first (streams_of (source_from left_before after a b) (sink_from written_before written m n)) pool (Err Source)
  ends_at_source {a} {b} {m} {n} {fault} h = record {
    bytes = s.bytes ++ h.got;
    text = s.text;
    given = Gives-then left_before left after s.bytes h.got s.given h.given;
    grows = s.grows;
    full = tt;
    causes = subst (λ (ls : List (List ℕ)). CausesLines wait seen k ls s.text seen_now pool) (fault_lines h) s.causes;
    answered = faulted h;
  }

  pub ends_too_long : {a b m n : ℕ} {fault : LineFault} (h : HearsLine left after old new (Err fault)) → new.taken ≡ stream_most → ServesSpared seen seen_now (span_of slots setup start now) wait k first (streams_of (source_from left_before after a b) (sink_from written_before written m n)) pool (Err TooLong)
  ends_too_long {a} {b} {m} {n} {fault} h full = record {
    bytes = s.bytes ++ h.got;
    text = s.text;
    given = Gives-then left_before left after s.bytes h.got s.given h.given;
    grows = s.grows;
    full = omega (arith, s.count, h.taken, length-append s.bytes h.got, full);
    causes = subst (λ (ls : List (List ℕ)). CausesLines wait seen k ls s.text seen_now pool) (fault_lines h) s.causes;
    answered = faulted h;
  }
