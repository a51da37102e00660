-- What a reader keeps while it looks for the end of a line.
use Rattle.std.proofs.Common.{◌≡◌, ℕ, ◌+◌, ◌^◌, ◌<◌, ◌≤◌, Bool, true, false, List, [], ◌∷◌, ◌++◌, length, take, IsTrue, Option, Some, None, Ok, Err, refl, sym, ap, ◌∙◌, subst, inl, inr, arith, length-append, ◌==◌}
use Rattle.std.proofs.Math.Seq.{take-append_seam}
use Rattle.std.proofs.lemmas.List.{append_assoc, append-nil, nil_from_length}
use Rattle.std.proofs.lemmas.Bool.Decides.{nat_tests}
use Rattle.std.proofs.lemmas.Bool.{cases_lt, cases_eq, false≢true}
use Rattle.paraid_base.specs.Told.{Gives, AtEnd, stream_most}
use Rattle.paraid_io.specs.declared.line.Line.{Line}
use Rattle.paraid_io.specs.declared.line.Line.TheVariants.{Whole, Long, End}
use Rattle.paraid_io.specs.declared.line.LineFault.{LineFault}
use Rattle.paraid_io.specs.Lines.{NoNewline}
use Rattle.paraid_io.specs.Reading.{Reading, CutsOff, IsAnswer, ReaderStep, ReaderTakes, NeedsNoCall}
use Rattle.paraid_io.proofs.LineLemmas.{NoNewline-append, NoNewline-front, whole_lines-rest}
use Rattle.paraid_base.proofs.ToldLemmas.{Gives-none, Gives-then}

-- These bytes were taken, and those are gone from the buffer.
pub record Midway (before now : Option (List ℕ)) (old at : Reading) (dropped : ℕ) : Type 0 where
  pub got : List ℕ
  pub gone : List ℕ
  pub given : Gives before now got
  pub input : old.rest ++ got ≡ gone ++ at.rest
  pub plain : NoNewline gone
  pub many : length gone ≡ dropped
  pub long : 0 < dropped → 1100 < dropped
  pub taken : at.taken ≡ old.taken + length got
  pub limit : at.taken ≤ stream_most
  pub held : length gone + length at.rest ≤ at.taken
  pub fault : at.fault ≡ None
  pub ended_before : IsTrue old.ended → got ≡ []
  pub stays_ended : IsTrue old.ended → IsTrue at.ended
  pub ended_now : IsTrue at.ended → old.ended ≡ false → AtEnd now × (at.taken < stream_most)

pub midway_start : (before : Option (List ℕ)) (old : Reading) → old.fault ≡ None → length old.rest ≤ old.taken → old.taken ≤ stream_most → Midway before before old old 0
midway_start before old none held limit = record {
  got = [];
  gone = [];
  given = Gives-none before;
  input = append-nil old.rest;
  plain = tt;
  many = refl;
  long = λ h. absurd (omega (arith, h));
  taken = omega arith;
  limit = limit;
  held = omega (arith, held);
  fault = none;
  ended_before = λ e. refl;
  stays_ended = λ e. e;
  ended_now = λ e f. absurd (false≢true (sym f ∙ e));
}

-- the bytes that are held are let go
pub midway_drop : {before now : Option (List ℕ)} {old at : Reading} {dropped : ℕ} → Midway before now old at dropped → NoNewline at.rest → 1100 < length at.rest
    → Midway before now old (record at { line = at.rest; rest = [] }) (dropped + length at.rest)
midway_drop {before} {now} {old} {at} {dropped} m plain long = record {
  got = m.got;
  gone = m.gone ++ at.rest;
  given = m.given;
  input = m.input ∙ sym (append-nil (m.gone ++ at.rest));
  plain = NoNewline-append m.gone at.rest m.plain plain;
  many = length-append m.gone at.rest ∙ ap (λ n. n + length at.rest) m.many;
  long = λ h. omega (arith, long);
  taken = m.taken;
  limit = m.limit;
  held = simp length-append (omega (arith, m.held));
  fault = m.fault;
  ended_before = m.ended_before;
  stays_ended = m.stays_ended;
  ended_now = m.ended_now;
}

was_not_ended : {before now : Option (List ℕ)} {old at : Reading} {dropped : ℕ} → Midway before now old at dropped → at.ended ≡ false → old.ended ≡ false
was_not_ended {before} {now} {old} {at} {dropped} m e =
    let P : Bool → Type 0 = λ b. (IsTrue b → IsTrue at.ended) → b ≡ false in
    let both : (b : Bool) → P b = λ b. elim b as P [ true ↦ λ f. absurd (false≢true (sym e ∙ f refl)) | false ↦ λ f. refl ] in
    both old.ended m.stays_ended

-- more bytes came, or the end
pub midway_more : {before now after : Option (List ℕ)} {old at new : Reading} {dropped n : ℕ} → Midway before now old at dropped → at.ended ≡ false → at.taken < stream_most
    → ReaderTakes now after at new n → new.ended ≡ (n == 0) → new.fault ≡ at.fault → Midway before after old new dropped
midway_more {before} {now} {after} {old} {at} {new} {dropped} {n} m unended short t ended fault = record {
  got = m.got ++ t.got;
  gone = m.gone;
  given = Gives-then before now after m.got t.got m.given t.given;
  input = sym (append_assoc old.rest m.got t.got) ∙ ap (λ x. x ++ t.got) m.input ∙ append_assoc m.gone at.rest t.got ∙ ap (λ x. m.gone ++ x) (sym t.held);
  plain = m.plain;
  many = m.many;
  long = m.long;
  taken = rw (length-append m.got t.got) (omega (arith, t.taken, m.taken, t.many));
  limit = t.limit;
  held = rw (t.held, length-append at.rest t.got) (omega (arith, m.held, t.taken, t.many));
  fault = fault ∙ m.fault;
  ended_before = λ e. absurd (false≢true (sym (was_not_ended m unended) ∙ e));
  stays_ended = λ e. absurd (false≢true (sym (was_not_ended m unended) ∙ e));
  ended_now = λ e f. let none : n ≡ 0 = grind (arith, nat_tests, ended, e) in (t.end none, omega (arith, t.taken, short));
}

small_is_none : (d : ℕ) → (0 < d → 1100 < d) → d ≤ 1100 → d ≡ 0
small_is_none d big le = elim (cases_lt 0 d) [ inl lt ↦ absurd (omega (arith, big lt, le)) | inr zero ↦ omega arith ]

-- a line of which some bytes are gone
line_answer : (r : Line) (d n : ℕ) (input gone : List ℕ) (new : Reading) → (d + n ≤ 1100 → r ≡ Whole n) → (1100 < d + n → r ≡ Long (d + n)) → (0 < d → 1100 < d)
    → CutsOff input (gone ++ new.line) new.rest new.ended → length gone ≡ d → length new.line ≡ n → IsAnswer (Ok r) input new
line_answer r d n input gone new whole long big cut many held = elim (cases_lt 1100 (d + n)) [
  | inl lt ↦ subst (λ x. IsAnswer (Ok x) input new) (sym (long lt)) (gone ++ new.line, cut, length-append gone new.line ∙ omega (arith, many, held), lt)
  | inr le ↦
      let zero_gone : length gone ≡ 0 = many ∙ small_is_none d big (omega (arith, le)) in
      let none_gone : gone ≡ [] = nil_from_length gone zero_gone in
      subst (λ x. IsAnswer (Ok x) input new) (sym (whole le)) (subst (λ g. CutsOff input (g ++ new.line) new.rest new.ended) none_gone cut, held, omega (arith, le))
]

-- the newline is held
pub step_cut : {before now : Option (List ℕ)} {old at : Reading} {d : ℕ} → Midway before now old at d → (r : Line) (n : ℕ) (new : Reading)
    → (d + n ≤ 1100 → r ≡ Whole n) → (1100 < d + n → r ≡ Long (d + n))
    → (length new.line ≡ n) × NoNewline new.line × (at.rest ≡ new.line ++ 10 ∷ new.rest)
    → new.taken ≡ at.taken → new.ended ≡ at.ended → ReaderStep before now old new (Ok r)
step_cut {before} {now} {old} {at} {d} m r n new whole long found taken ended = record {
  got = m.got;
  given = m.given;
  taken = taken ∙ m.taken;
  limit = omega (arith, taken, m.limit);
  held = omega (arith, taken, m.held, simp length-append at (ap length found.2));
  answer = line_answer r d n (old.rest ++ m.got) m.gone new whole long m.long
      record { plain = NoNewline-append m.gone new.line m.plain found.1; cut = inl (m.input ∙ ap (λ x. m.gone ++ x) found.2 ∙ sym (append_assoc m.gone new.line (10 ∷ new.rest))) }
      m.many found.0;
  ended_before = m.ended_before;
  stays_ended = λ e. ended ∙ m.stays_ended e;
  ended_now = λ e f. let p = m.ended_now (sym ended ∙ e) f in (p.0, omega (arith, p.1, taken));
}

append_nil_right : (x y : List ℕ) → x ++ y ≡ [] → y ≡ []
append_nil_right [] y e = e
append_nil_right (a ∷ x) y e = cc

-- at the end what is left is the last line, or there is none
pub step_last : {before now : Option (List ℕ)} {old at : Reading} {d : ℕ} → Midway before now old at d → (r : Line) (n : ℕ) (new : Reading)
    → (d + n ≡ 0 → r ≡ End) → (0 < d + n → d + n ≤ 1100 → r ≡ Whole n) → (1100 < d + n → r ≡ Long (d + n))
    → NoNewline at.rest → IsTrue at.ended → n ≡ length at.rest → new ≡ record at { line = at.rest; rest = [] } → ReaderStep before now old new (Ok r)
step_last {before} {now} {old} {at} {d} m r n new end whole long plain ended many is = record {
  got = m.got;
  given = m.given;
  taken = ap (λ x. x.taken) is ∙ m.taken;
  limit = omega (arith, ap (λ x. x.taken) is, m.limit);
  held = simp is (omega arith);
  answer = elim (cases_eq (d + n) 0) [
    | inl e ↦
        let none_gone : m.gone ≡ [] = nil_from_length m.gone (omega (arith, m.many)) in
        let none_left : at.rest ≡ [] = nil_from_length at.rest (omega (arith, many)) in
        subst (λ x. IsAnswer (Ok x) (old.rest ++ m.got) new) (sym (end e)) (m.input ∙ ap (λ x. x ++ at.rest) none_gone ∙ none_left, ap (λ x. x.rest) is, ap (λ x. x.ended) is ∙ ended)
    | inr e ↦
        let some : 0 < d + n = omega arith in
        line_answer r d n (old.rest ++ m.got) m.gone new (whole some) long m.long
        record {
          plain = NoNewline-append m.gone new.line m.plain (subst NoNewline (sym (ap (λ x. x.line) is)) plain);
          cut = inr (
            m.input ∙ ap (λ x. m.gone ++ x) (sym (ap (λ x. x.line) is)),
            λ none. omega (arith, some, simp length-append at (ap length none), m.many, many, ap length (ap (λ x. x.line) is)),
            ap (λ x. x.rest) is,
            ap (λ x. x.ended) is ∙ ended,
          );
        }
        m.many (ap length (ap (λ x. x.line) is) ∙ sym many)
  ];
  ended_before = m.ended_before;
  stays_ended = λ e. ap (λ x. x.ended) is ∙ m.stays_ended e;
  ended_now = λ e f. let p = m.ended_now (sym (ap (λ x. x.ended) is) ∙ e) f in (p.0, omega (arith, p.1, ap (λ x. x.taken) is));
}

-- a fault ends it
pub step_fault : {before now after : Option (List ℕ)} {old at : Reading} {d : ℕ} → Midway before now old at d → (fault : LineFault) (new : Reading)
    → Gives now after [] → NoNewline at.rest → new.rest ≡ at.rest → new.taken ≡ at.taken → new.ended ≡ at.ended → at.ended ≡ false → new.fault ≡ Some fault
    → ReaderStep before after old new (Err fault)
step_fault {before} {now} {after} {old} {at} {d} m fault new keeps plain rest taken ended unended kept = record {
  got = m.got;
  given = subst (λ p. Gives before after p) (append-nil m.got) (Gives-then before now after m.got [] m.given keeps);
  taken = taken ∙ m.taken;
  limit = omega (arith, taken, m.limit);
  held = omega (arith, taken, m.held, ap length rest);
  answer = (subst NoNewline (sym m.input) (NoNewline-append m.gone at.rest m.plain plain), kept, ended ∙ unended);
  ended_before = m.ended_before;
  stays_ended = λ e. ended ∙ m.stays_ended e;
  ended_now = λ e f. absurd (false≢true (sym unended ∙ sym ended ∙ e));
}

pub held_dropped : {before now : Option (List ℕ)} {old at after : Reading} {d e : ℕ} → Midway before now old at d → NoNewline at.rest → 1100 < length at.rest
    → after ≡ record at { line = at.rest; rest = [] } → e ≡ d + length at.rest → Midway before now old after e × NoNewline after.rest × (after.ended ≡ at.ended)
held_dropped {before} {now} {old} {at} {after} {d} {e} m plain long is sum = (
  subst (λ x. Midway before now old after x) (sym sum) (subst (λ r. Midway before now old r (d + length at.rest)) (sym is) (midway_drop m plain long)),
  subst NoNewline (sym (ap (λ x. x.rest) is)) tt,
  ap (λ x. x.ended) is,
)

pub held_same : {before now : Option (List ℕ)} {old at after : Reading} {d e : ℕ} → Midway before now old at d → NoNewline at.rest
    → after ≡ at → e ≡ d → Midway before now old after e × NoNewline after.rest × (after.ended ≡ at.ended)
held_same {before} {now} {old} {at} {after} {d} {e} m plain is sum = (
  subst (λ x. Midway before now old after x) (sym sum) (subst (λ r. Midway before now old r d) (sym is) m),
  subst NoNewline (sym (ap (λ x. x.rest) is)) plain,
  ap (λ x. x.ended) is,
)

-- What was held before is the first part of what is held after more was taken.
pub scanned_within : {before after : Option (List ℕ)} {old new : Reading} {n : ℕ} → ReaderTakes before after old new n → length old.rest ≤ length new.rest
scanned_within {before} {after} {old} {new} {n} t = rw (t.held, length-append old.rest t.got) (omega arith)

pub scanned_plain : {before after : Option (List ℕ)} {old new : Reading} {n : ℕ} → ReaderTakes before after old new n → NoNewline old.rest → NoNewline (take (length old.rest) new.rest)
scanned_plain {before} {after} {old} {new} {n} t plain = rw t.held (subst NoNewline (sym (take-append_seam old.rest t.got)) plain)

-- the source is called only where the answer was not known without it
pub needs_a_call : {before now : Option (List ℕ)} {old at : Reading} {d : ℕ} → Midway before now old at d → at.ended ≡ false → NoNewline at.rest → at.taken < stream_most
    → NeedsNoCall old → ⊥
needs_a_call {before} {now} {old} {at} {d} m unended plain short none =
    let input : NoNewline (old.rest ++ m.got) = subst NoNewline (sym m.input) (NoNewline-append m.gone at.rest m.plain plain) in
    elim none [
      | inl ended ↦ false≢true (sym unended ∙ m.stays_ended ended)
      | inr other ↦ elim other [
        | inl whole ↦ whole (whole_lines-rest old.rest (NoNewline-front old.rest m.got input))
        | inr full ↦ absurd (omega (arith, m.taken))
      ]
    ]
