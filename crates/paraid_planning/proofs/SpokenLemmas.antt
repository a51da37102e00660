-- From lines to numbers of a demand.
use Rattle.std.proofs.Common.{◌≡◌, ◌≢◌, ℕ, ◌^◌, ◌<◌, ◌≤◌, List, [], ◌∷◌, ◌++◌, length, decimal, Option, Some, None, Result, Ok, Err, refl, sym, ap, ◌∙◌, inl, inr, arith, length-append}
use Rattle.std.proofs.lemmas.Bool.{false≢true}
use Rattle.std.proofs.lemmas.Fmt.{length-decimal-le}
use Rattle.std.proofs.lemmas.List.{append_assoc, append-nil}
use Rattle.paraid_base.specs.Told.{HasRisen, stream_most}
use Rattle.paraid_io.specs.Lines.{lines_of, whole_lines, NoNewline}
use Rattle.paraid_io.specs.Reading.{CutsOff, HasCause, IsNextLine, ReaderStep, Reading}
use Rattle.paraid_io.specs.declared.line.Line.{Line}
use Rattle.paraid_io.specs.declared.line.Line.TheVariants.{End as NoLine, Whole, Long}
use Rattle.paraid_io.specs.declared.line.LineFault.{LineFault}
use Rattle.paraid_io.specs.declared.line.LineFault.TheVariants.{Source, TooLong}
use Rattle.paraid_io.proofs.LineLemmas.{lines_of-cut, lines_of-last, whole_lines-cut, whole_lines-rest}
use Rattle.paraid_trace.specs.LineEvents.{number_of}
use Rattle.paraid_trace.proofs.NumberLemmas.{IsNumber-number_of, number_of-IsNumber}
use Rattle.paraid_planning.specs.Demand.{IsNoNumber}
use Rattle.paraid_planning.specs.Heard.{HearsNumber, IsSpoken}
use Rattle.paraid_planning.specs.declared.hear.Spoken.{Spoken}
use Rattle.paraid_planning.specs.declared.hear.Spoken.TheVariants.{Number, Other, End}
use Rattle.paraid_schedule.specs.Schedule.{demand_most}

-- ---- numbers

pub printed : (line : List ℕ) (o : Option ℕ) (n : ℕ) → o ≡ number_of line → o ≡ Some n → line ≡ decimal n
printed line o n read is = (IsNumber-number_of line n (sym read ∙ is)).printed

read_back : (line : List ℕ) (k : ℕ) → k ≤ demand_most → line ≡ decimal k → number_of line ≡ Some k
read_back line k small is = number_of-IsNumber line k (record { below = omega (arith, small); printed = is })

same_number : (n k : ℕ) → Some n ≡ Some k → n ≡ k
same_number n k e = cc

no_number : (k : ℕ) → None ≡ Some k → ⊥
no_number k e = cc

pub too_large : (line : List ℕ) (o : Option ℕ) (n : ℕ) → o ≡ number_of line → o ≡ Some n → demand_most < n → IsNoNumber line
too_large line o n read is large k small e =
    let same = same_number n k (sym is ∙ read ∙ read_back line k small e) in
    omega (arith, same, large, small)

pub unread : (line : List ℕ) (o : Option ℕ) → o ≡ number_of line → o ≡ None → IsNoNumber line
unread line o read is k small e = no_number k (sym is ∙ read ∙ read_back line k small e)

pub too_long : (line : List ℕ) → 1100 < length line → IsNoNumber line
too_long line long k small e =
    let short = length-decimal-le 20 k (omega arith) (omega (arith, small)) (omega (arith, small)) in
    let same = ap length e in
    omega (arith, long, short, same)

-- ---- lines

cut_lines : (line rest more : List ℕ) → NoNewline line → lines_of ((line ++ 10 ∷ rest) ++ more) ≡ line ∷ lines_of (rest ++ more)
cut_lines line rest more plain = ap lines_of (append_assoc line (10 ∷ rest) more) ∙ lines_of-cut line (rest ++ more) plain

cut_whole : (line rest more : List ℕ) → NoNewline line → whole_lines ((line ++ 10 ∷ rest) ++ more) ≡ line ∷ whole_lines (rest ++ more)
cut_whole line rest more plain = ap whole_lines (append_assoc line (10 ∷ rest) more) ∙ whole_lines-cut line (rest ++ more) plain

last_lines : (line rest more : List ℕ) → NoNewline line → line ≢ [] → rest ≡ [] → more ≡ [] → lines_of (line ++ more) ≡ line ∷ lines_of (rest ++ more)
last_lines line rest more plain some none end = rw (end, none) (ap lines_of (append-nil line) ∙ lines_of-last line plain some)

some_length : (line : List ℕ) → line ≢ [] → 0 < length line
some_length [] p = absurd (p refl)
some_length (x ∷ line) p = omega arith

takes_line : (input line : List ℕ) (new : Reading) → CutsOff input line new.rest new.ended → IsNextLine input line new
takes_line input line new c = elim c.cut [
  | inl e ↦ record {
    lines = λ more none. ap (λ x. lines_of (x ++ more)) e ∙ cut_lines line new.rest more c.plain;
    whole = λ f more. ap (λ x. whole_lines (x ++ more)) e ∙ cut_whole line new.rest more c.plain;
    shorter = omega (arith, simp length-append at (ap length e));
  }
  | inr e ↦ record {
    lines = λ more none. ap (λ x. lines_of (x ++ more)) e.0 ∙ last_lines line new.rest more c.plain e.1 e.2 (none e.3);
    whole = λ f more. absurd (false≢true (sym f ∙ e.3));
    shorter = omega (arith, ap length e.0, ap length e.2, some_length line e.1);
  }
]

heard_from : {before left : Option (List ℕ)} {old new : Reading} {r : Result Line LineFault} → (s : ReaderStep before left old new r) (e : Result Spoken LineFault)
    → IsSpoken e (old.rest ++ s.got) new → HearsNumber before left old new e
heard_from {before} {left} {old} {new} {r} s e says = record {
  got = s.got;
  given = s.given;
  taken = s.taken;
  says = says;
  ended_before = s.ended_before;
  stays_ended = s.stays_ended;
  ended_now = λ now was. (s.ended_now now was).0;
  limit = s.limit;
}

module _ {before left : Option (List ℕ)} {old new : Reading} where
  pub heard_number : {n : ℕ} (k : ℕ) → ReaderStep before left old new (Ok (Whole n)) → k ≤ demand_most → new.line ≡ decimal k → HearsNumber before left old new (Ok (Number k))
  heard_number {n} k s small is = heard_from s (Ok (Number k)) (small, takes_line (old.rest ++ s.got) (decimal k) new (rw is at s.answer.0))

  pub heard_other : {n : ℕ} → ReaderStep before left old new (Ok (Whole n)) → IsNoNumber new.line → HearsNumber before left old new (Ok Other)
  heard_other {n} s none = heard_from s (Ok Other) (new.line, none, takes_line (old.rest ++ s.got) new.line new s.answer.0)

  pub heard_long : {n : ℕ} → ReaderStep before left old new (Ok (Long n)) → HearsNumber before left old new (Ok Other)
  heard_long {n} s =
      let a = s.answer in
      heard_from s (Ok Other) (a.0, too_long a.0 (omega (arith, a.2, a.3)), takes_line (old.rest ++ s.got) a.0 new a.1)

  pub heard_end : ReaderStep before left old new (Ok NoLine) → HearsNumber before left old new (Ok End)
  heard_end s = heard_from s (Ok End) s.answer

  pub heard_fault : {fault : LineFault} → ReaderStep before left old new (Err fault) → HearsNumber before left old new (Err fault)
  heard_fault {fault} s = heard_from s (Err fault) (whole_lines-rest (old.rest ++ s.got) s.answer.0, s.answer.2)

-- why a fault came
module _ {A : Type 0} where
  pub risen_by : (fault : LineFault) (new : Reading) (before now : ℕ) → HasCause (Err fault) new before now → ◌≡◌ {A = Result A LineFault} (Err fault) (Err Source) → HasRisen before now
  risen_by Source new before now cause is = cause.0
  risen_by (TooLong n) new before now cause is = cc

  pub taken_by : (fault : LineFault) (new : Reading) (before now n : ℕ) → HasCause (Err fault) new before now → ◌≡◌ {A = Result A LineFault} (Err fault) (Err (TooLong n)) → new.taken ≡ stream_most
  taken_by Source new before now n cause is = cc
  taken_by (TooLong m) new before now n cause is = cause.1
