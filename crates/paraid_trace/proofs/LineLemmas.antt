-- The function from lines to events meets the grammar
use Rattle.std.proofs.Common.{◌≡◌, ◌≢◌, ℕ, ◌+◌, ◌<◌, ◌≤◌, List, [], ◌∷◌, ◌++◌, length, take, drop, Option, Some, None, Bool, true, false, inl, inr, refl, subst, sym, ap, ◌∙◌, arith, length-append}
use Rattle.std.specs.Prelude.{codes, if◌then◌else◌}
use Rattle.std.specs.List.{list_any, position}
use Rattle.std.specs.Str.{bytes_eq}
use Rattle.std.proofs.lemmas.Bool.{cases_lt, cond-false, cond-true, le-ltb, lt-ltb}
use Rattle.std.proofs.lemmas.List.{append_assoc, take_at}
use Rattle.std.proofs.lemmas.Slice.Eq.{bytes_eq-Decides}
use Rattle.std.proofs.lemmas.Fmt.{length-decimal-le}
use Rattle.paraid_base.specs.declared.event.Event.{Event}
use Rattle.paraid_base.specs.declared.event.Event.TheVariants.{Read, Write, Flush, Tick, Up, Down, Fail, Replace, State, Energy, Bad}
use Rattle.paraid_base.specs.History.{Entry}
use Rattle.paraid_base.proofs.PairsLemmas.{pairs_of-with, pairs_with-pairs_of}
use Rattle.paraid_trace.specs.Grammar.{AreGroups, IsLineOf, IsNumber, IsNumberedWord}
use Rattle.paraid_trace.specs.LineEvents.{entry_of, event_at, event_of, fail_of, is_space, named_event, number_of, read_of, replace_of, word_event, write_of}
use Rattle.paraid_trace.proofs.SpaceLemmas.{cut, drop-front, space-at}
use Rattle.paraid_trace.proofs.GroupLemmas.{AreGroups-entry_of, entry_of-pairs}
use Rattle.paraid_trace.proofs.NumberLemmas.{IsNumber-number_of, number_of-IsNumber}

-- ---- lines with a name

pub within-event : (line : List ℕ) → length line ≤ 1100 → event_of line ≡ event_at (position is_space line) line
unfolding event_of
within-event line short = cond-false _ _ _ (le-ltb _ _ short)

event_at-named : (word rest : List ℕ) → list_any is_space word ≡ false → event_at (position is_space (word ++ 32 ∷ rest)) (word ++ 32 ∷ rest) ≡ named_event word rest
event_at-named word rest h = rw (space-at word rest h, take_at word (32 ∷ rest) (length word) refl, drop-front word rest) refl

number_short : (digits : List ℕ) (n : ℕ) → IsNumber digits n → length digits ≤ 10
number_short digits n h = rw h.printed (length-decimal-le 10 n (omega arith) (omega (arith, h.below)) (omega (arith, h.below)))

-- a name and a number are a short line
event_of-numbered : (word line : List ℕ) (n : ℕ) → length word ≤ 7 → list_any is_space word ≡ false → (h : IsNumberedWord word line n) → event_of line ≡ named_event word h.digits
event_of-numbered word line n few spaces h =
    let named : line ≡ word ++ 32 ∷ h.digits = h.printed ∙ append_assoc word (32 ∷ []) h.digits in
    let short : length line ≤ 1100 = rw h.printed (simp (length-append) (let some = number_short h.digits n h.number in omega (arith, few))) in
    within-event line short ∙ ap (λ (l : List ℕ). event_at (position is_space l) l) named ∙ event_at-named word h.digits spaces

-- ---- from the grammar to the function

pub event_of-IsLineOf : (line : List ℕ) (e : Event) → IsLineOf line e → event_of line ≡ e
unfolding event_of
event_of-IsLineOf line (Read block) h = event_of-numbered (codes "r") line block (omega arith) refl h ∙ ap read_of (number_of-IsNumber h.digits block h.number)
event_of-IsLineOf line (Write pairs) h =
    let asked = entry_of-pairs pairs h.groups h.each in
    let named = h.printed ∙ ap (λ more. 119 ∷ more) asked.1 in
    within-event line h.short ∙ ap (λ (l : List ℕ). event_at (position is_space l) l) named ∙ event_at-named (codes "w") asked.0 refl
    ∙ ap write_of asked.2 ∙ ap Write (pairs_with-pairs_of pairs)
event_of-IsLineOf line Flush h = rw h refl
event_of-IsLineOf line Tick h = rw h refl
event_of-IsLineOf line Up h = rw h refl
event_of-IsLineOf line Down h = rw h refl
event_of-IsLineOf line (Fail disk) h = event_of-numbered (codes "fail") line disk (omega arith) refl h ∙ ap fail_of (number_of-IsNumber h.digits disk h.number)
event_of-IsLineOf line (Replace disk) h = event_of-numbered (codes "replace") line disk (omega arith) refl h ∙ ap replace_of (number_of-IsNumber h.digits disk h.number)
event_of-IsLineOf line State h = rw h refl
event_of-IsLineOf line Energy h = rw h refl
event_of-IsLineOf line Bad h = absurd h

-- ---- from the function to the grammar

-- the line asks for the event, unless it is `Bad`
abbrev Asks : List ℕ → Event → Type 0
Asks line e = e ≢ Bad → IsLineOf line e

-- the first rule that fits, or the others
asks_if : (b : Bool) (line : List ℕ) (e others : Event) → (b ≡ true → Asks line e) → Asks line others → Asks line (if b then e else others)
asks_if true line e others first rest = first refl
asks_if false line e others first rest = rest

bad_asks : (line : List ℕ) → Asks line Bad
bad_asks line h = absurd (h refl)

is : (word name : List ℕ) → bytes_eq word name ≡ true → word ≡ name
is word name = (bytes_eq-Decides word name).0

word_asks : (line : List ℕ) → Asks line (word_event line)
word_asks line =
    asks_if _ line Flush _ (λ b _. is line _ b)
    (asks_if _ line Tick _ (λ b _. is line _ b)
    (asks_if _ line Up _ (λ b _. is line _ b)
    (asks_if _ line Down _ (λ b _. is line _ b)
    (asks_if _ line State _ (λ b _. is line _ b)
    (asks_if _ line Energy _ (λ b _. is line _ b)
    (bad_asks line))))))

numbered : (word line rest : List ℕ) (n : ℕ) → line ≡ word ++ 32 ∷ rest → number_of rest ≡ Some n → IsNumberedWord word line n
numbered word line rest n e h = record { digits = rest; number = IsNumber-number_of rest n h; printed = e ∙ sym (append_assoc word (32 ∷ []) rest) }

read_asks : (line rest : List ℕ) (o : Option ℕ) → line ≡ codes "r" ++ 32 ∷ rest → number_of rest ≡ o → Asks line (read_of o)
read_asks line rest (Some n) e h = λ _. numbered (codes "r") line rest n e h
read_asks line rest None e h = bad_asks line

fail_asks : (line rest : List ℕ) (o : Option ℕ) → line ≡ codes "fail" ++ 32 ∷ rest → number_of rest ≡ o → Asks line (fail_of o)
fail_asks line rest (Some n) e h = λ _. numbered (codes "fail") line rest n e h
fail_asks line rest None e h = bad_asks line

replace_asks : (line rest : List ℕ) (o : Option ℕ) → line ≡ codes "replace" ++ 32 ∷ rest → number_of rest ≡ o → Asks line (replace_of o)
replace_asks line rest (Some n) e h = λ _. numbered (codes "replace") line rest n e h
replace_asks line rest None e h = bad_asks line

write_asks : (line rest : List ℕ) (o : Option Entry) → length line ≤ 1100 → line ≡ codes "w" ++ 32 ∷ rest → entry_of 8 rest ≡ o → Asks line (write_of o)
write_asks line rest (Some entry) short e h =
    let groups = AreGroups-entry_of 8 rest entry h in
    λ _. record {
      groups = 32 ∷ rest;
      printed = e;
      each = subst (λ (x : Entry). AreGroups x (32 ∷ rest)) (sym (pairs_of-with entry groups.1 groups.2)) groups.0;
      short = short;
    }
write_asks line rest None short e h = bad_asks line

named_asks : (line word rest : List ℕ) → length line ≤ 1100 → line ≡ word ++ 32 ∷ rest → Asks line (named_event word rest)
named_asks line word rest short e =
    asks_if _ line (read_of (number_of rest)) _ (λ b. read_asks line rest _ (e ∙ under _ b) refl)
    (asks_if _ line (write_of (entry_of 8 rest)) _ (λ b. write_asks line rest _ short (e ∙ under _ b) refl)
    (asks_if _ line (fail_of (number_of rest)) _ (λ b. fail_asks line rest _ (e ∙ under _ b) refl)
    (asks_if _ line (replace_of (number_of rest)) Bad (λ b. replace_asks line rest _ (e ∙ under _ b) refl) (bad_asks line))))
  where
    under : (name : List ℕ) → bytes_eq word name ≡ true → word ++ 32 ∷ rest ≡ name ++ 32 ∷ rest
    under name b = ap (λ w. w ++ 32 ∷ rest) (is word name b)

event_at_asks : (line : List ℕ) (o : Option ℕ) → length line ≤ 1100 → position is_space line ≡ o → Asks line (event_at o line)
event_at_asks line (Some at) short h = named_asks line (take at line) (drop (at + 1) line) short (cut line at h)
event_at_asks line None short h = word_asks line

pub IsLineOf-event_of : (line : List ℕ) → event_of line ≢ Bad → IsLineOf line (event_of line)
unfolding event_of
IsLineOf-event_of line = elim (cases_lt 1100 (length line)) [
  | inl long ↦ λ some. absurd (some (cond-true _ _ _ (lt-ltb _ _ long)))
  | inr short ↦ λ some. subst (IsLineOf line) (sym (within-event line short)) (event_at_asks line (position is_space line) short refl (λ e. some (within-event line short ∙ e)))
]

-- ---- what an answer to a line says, where it is that of the function

pub asked : (line : List ℕ) (answer : Event) → answer ≡ event_of line → answer ≢ Bad → IsLineOf line answer
asked line answer e some = rw e (IsLineOf-event_of line (rw e at some))

pub asked_only : (line : List ℕ) (answer : Event) → answer ≡ event_of line → (e : Event) → IsLineOf line e → answer ≡ e
asked_only line answer is e h = is ∙ event_of-IsLineOf line e h

pub asked_nothing : (line : List ℕ) (answer : Event) → answer ≡ event_of line → answer ≡ Bad → (e : Event) → IsLineOf line e → ⊥
asked_nothing line answer is bad e h =
    let same : e ≡ Bad = sym (asked_only line answer is e h) ∙ bad in
    rw same at h

-- ---- long lines

pub event_of-long : (line : List ℕ) → 1100 < length line → event_of line ≡ Bad
unfolding event_of
event_of-long line long = cond-true _ _ _ (lt-ltb _ _ long)
