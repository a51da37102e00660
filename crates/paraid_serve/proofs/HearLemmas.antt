-- From the lines of a reader to events.
use Rattle.std.proofs.Common.{◌≡◌, ◌≢◌, ℕ, ◌+◌, ◌-◌, ◌^◌, ◌<◌, List, [], ◌∷◌, ◌++◌, length, Option, None, Some, Result, Ok, Err, refl, sym, ap, ◌∙◌, inl, inr, arith, length-append}
use Rattle.std.proofs.lemmas.List.{append_assoc, append-nil}
use Rattle.std.proofs.lemmas.Bool.{false≢true}
use Rattle.paraid_io.specs.Lines.{lines_of, whole_lines, NoNewline}
use Rattle.paraid_io.specs.Reading.{CutsOff, HasCause, IsNextLine, ReaderStep, Reading}
use Rattle.paraid_io.specs.declared.line.Line.{Line}
use Rattle.paraid_io.specs.declared.line.Line.TheVariants.{End, Whole, Long}
use Rattle.paraid_io.specs.declared.line.LineFault.{LineFault}
use Rattle.paraid_io.specs.declared.line.LineFault.TheVariants.{Source, TooLong}
use Rattle.paraid_io.proofs.LineLemmas.{lines_of-cut, lines_of-last, whole_lines-cut, whole_lines-rest}
use Rattle.paraid_trace.specs.LineEvents.{event_of}
use Rattle.paraid_trace.proofs.LineLemmas.{event_of-long}
use Rattle.paraid_base.specs.Told.{HasRisen, stream_most}
use Rattle.paraid_base.specs.declared.event.Event.{Event}
use Rattle.paraid_base.specs.declared.event.Event.TheVariants.{Bad}
use Rattle.paraid_serve.specs.Heard.{HearsLine, IsHeardEvent}

cut_lines : (line rest more : List ℕ) → NoNewline line → lines_of ((line ++ 10 ∷ rest) ++ more) ≡ line ∷ lines_of (rest ++ more)
cut_lines line rest more plain = ap lines_of (append_assoc line (10 ∷ rest) more) ∙ lines_of-cut line (rest ++ more) plain

cut_whole : (line rest more : List ℕ) → NoNewline line → whole_lines ((line ++ 10 ∷ rest) ++ more) ≡ line ∷ whole_lines (rest ++ more)
cut_whole line rest more plain = ap whole_lines (append_assoc line (10 ∷ rest) more) ∙ whole_lines-cut line (rest ++ more) plain

last_lines : (line rest more : List ℕ) → NoNewline line → line ≢ [] → rest ≡ [] → more ≡ [] → lines_of (line ++ more) ≡ line ∷ lines_of (rest ++ more)
last_lines line rest more plain some none end = rw (end, none) (ap lines_of (append-nil line) ∙ lines_of-last line plain some)

some_length : (line : List ℕ) → line ≢ [] → 0 < length line
some_length [] p = absurd (p refl)
some_length (x ∷ line) p = omega arith

pub next_line : (input line : List ℕ) (new : Reading) → CutsOff input line new.rest new.ended → IsNextLine input line new
next_line input line new c = elim c.cut [
  | inl e ↦ record {
    lines = λ more none. ap (λ x. lines_of (x ++ more)) e ∙ cut_lines line new.rest more c.plain;
    whole = λ f more. ap (λ x. whole_lines (x ++ more)) e ∙ cut_whole line new.rest more c.plain;
    shorter = omega (arith, simp length-append at (ap length e));
  }
  | inr e ↦ record {
    lines = λ more none. ap (λ x. lines_of (x ++ more)) e.0 ∙ last_lines line new.rest more c.plain e.1 e.2 (none e.3);
    whole = λ f more. absurd (false≢true (sym f ∙ e.3));
    shorter = omega (arith, ap length e.0, ap length e.2, some_length line e.1);
  }
]

heard_from : {before after : Option (List ℕ)} {old new : Reading} {r : Result Line LineFault} → (s : ReaderStep before after old new r) (e : Result (Option Event) LineFault)
    → IsHeardEvent e (old.rest ++ s.got) new → HearsLine before after old new e
heard_from {before} {after} {old} {new} {r} s e says = record {
  got = s.got;
  given = s.given;
  taken = s.taken;
  limit = s.limit;
  held = s.held;
  says = says;
  ended_before = s.ended_before;
  stays_ended = s.stays_ended;
  ended_now = s.ended_now;
}

pub heard_whole : {before after : Option (List ℕ)} {old new : Reading} {n : ℕ} {event : Event} → ReaderStep before after old new (Ok (Whole n)) → event ≡ event_of new.line
    → HearsLine before after old new (Ok (Some event))
heard_whole {before} {after} {old} {new} {n} {event} s e = heard_from s (Ok (Some event)) (new.line, e, next_line (old.rest ++ s.got) new.line new s.answer.0)

pub heard_long : {before after : Option (List ℕ)} {old new : Reading} {n : ℕ} → ReaderStep before after old new (Ok (Long n)) → HearsLine before after old new (Ok (Some Bad))
heard_long {before} {after} {old} {new} {n} s =
    let a = s.answer in
    heard_from s (Ok (Some Bad)) (a.0, sym (event_of-long a.0 (omega (arith, a.2, a.3))), next_line (old.rest ++ s.got) a.0 new a.1)

pub heard_fault : {before after : Option (List ℕ)} {old new : Reading} {fault : LineFault} → ReaderStep before after old new (Err fault) → HearsLine before after old new (Err fault)
heard_fault {before} {after} {old} {new} {fault} s = heard_from s (Err fault) (whole_lines-rest (old.rest ++ s.got) s.answer.0, s.answer.2)

-- a line that is taken leaves less to take
pub less_to_take : {before after : Option (List ℕ)} {old new : Reading} {event : Event} → HearsLine before after old new (Ok (Some event))
    → (stream_most - new.taken) + length new.rest < (stream_most - old.taken) + length old.rest
less_to_take {before} {after} {old} {new} {event} h =
    let shorter = h.says.2.shorter in
    let size = length-append old.rest h.got in
    let taken = h.taken in
    let limit = h.limit in
    omega arith

pub heard_end : {before after : Option (List ℕ)} {old new : Reading} → ReaderStep before after old new (Ok End) → HearsLine before after old new (Ok None)
heard_end {before} {after} {old} {new} s = heard_from s (Ok None) s.answer

-- why a fault came
module _ {A : Type 0} where
  pub risen_by : (fault : LineFault) (new : Reading) (before now : ℕ) → HasCause (Err fault) new before now → ◌≡◌ {A = Result A LineFault} (Err fault) (Err Source) → HasRisen before now
  risen_by Source new before now cause is = cause.0
  risen_by (TooLong n) new before now cause is = cc

  pub taken_by : (fault : LineFault) (new : Reading) (before now n : ℕ) → HasCause (Err fault) new before now → ◌≡◌ {A = Result A LineFault} (Err fault) (Err (TooLong n)) → new.taken ≡ stream_most
  taken_by Source new before now n cause is = cc
  taken_by (TooLong m) new before now n cause is = cause.1
