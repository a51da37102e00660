-- What a line asks for, by the grammar and by the function.
use Rattle.std.proofs.Common.{◌≡◌, ◌≢◌, ℕ, ◌+◌, ◌<◌, ◌≤◌, ◌∙◌, List, [], ◌∷◌, ◌++◌, length, take, drop, Option, Some, None, Bool, true, false, refl, sym, ap, arith, length-append}
use Rattle.std.specs.Prelude.{codes, if◌then◌else◌, slice_index, slice_index_or}
use Rattle.paraid_volume.specs.declared.name.Name.{Name}
use Rattle.paraid_volume_lines.specs.NameWords.{word_of}
use Rattle.std.specs.List.{list_any, position, position_or_len, AllPass}
use Rattle.std.specs.Str.{bytes_eq}
use Rattle.std.proofs.lemmas.Bool.{cond-false, cond-true, le-ltb, ne_eqb, or_from}
use Rattle.std.proofs.lemmas.Option.{same_Some}
use Rattle.std.proofs.lemmas.List.{append-nil, take_at}
use Rattle.std.proofs.lemmas.Slice.Eq.{bytes_eq-Decides}
use Rattle.std.proofs.lemmas.Fmt.{length-decimal-le}
use Rattle.paraid_base.specs.declared.block.Block.{Block}
use Rattle.paraid_trace.specs.Grammar.{IsHexOf, IsNumber}
use Rattle.paraid_trace.specs.LineEvents.{is_space, number_of}
use Rattle.paraid_trace.proofs.HexLemmas.{IsHexOf-block_of, block_from_digits-IsHexOf}
use Rattle.paraid_trace.proofs.NumberLemmas.{IsNumber-number_of, number_of-IsNumber}
use Rattle.paraid_trace.proofs.SpaceLemmas.{cut, drop-front, number_no_space, position-none, space-at}
use Rattle.paraid_volume.specs.Names.{IsName, is_letter}
use Rattle.paraid_volume_lines.specs.Grammar.AsksVolumes.{asks, no_task}
use Rattle.paraid_volume_lines.specs.Grammar.{AsksVolumes, IsNamedLine, IsNumberedLine, IsVolLine, VolLine, bad, create, delete, flush, init, list, read, write}
use Rattle.paraid_volume_lines.specs.LineValues.{asked_of, bare_line, create_with, delete_of, deletes, is_name, line_at, line_of, named_at, named_line, pair_at, pair_with, read_with, write_with}
use Rattle.paraid_volume_lines.proofs.NameWordLemmas.{IsName-is_name, is_name-IsName, no_name, word_is}
use Rattle.std.proofs.lemmas.List.Elements.{All-head, All-tail, All-from_get_or}

-- ---- names have no space

letter_not_space : (c : ℕ) → is_letter c ≡ true → is_space c ≡ false
letter_not_space c h = ne_eqb c 32 (λ e. let no = sym (ap is_letter e) ∙ h in cc)

letters_no_space : (bytes : List ℕ) → AllPass is_letter bytes → list_any is_space bytes ≡ false
letters_no_space [] h = refl
letters_no_space (c ∷ bytes) h = or_from _ _ (letter_not_space c (All-head (λ x. is_letter x ≡ true) c bytes h)) (letters_no_space bytes (All-tail (λ x. is_letter x ≡ true) c bytes h))

pub name_no_space : (bytes : List ℕ) → IsName bytes → list_any is_space bytes ≡ false
name_no_space bytes h = letters_no_space bytes (All-from_get_or (λ c. is_letter c ≡ true) bytes 0 h.letters)

-- ---- from the grammar to the function

-- a line is cut behind its word
line_at-word : (word rest : List ℕ) → list_any is_space word ≡ false → line_of (word ++ 32 ∷ rest) ≡ named_at word (position is_space rest) rest
unfolding line_of
line_at-word word rest h = rw (space-at word rest h, take_at word (32 ∷ rest) (length word) refl, drop-front word rest) refl

-- and behind its name
named_at-name : (word name rest : List ℕ) → IsName name → named_at word (position is_space (name ++ 32 ∷ rest)) (name ++ 32 ∷ rest) ≡ asked_of word name rest
named_at-name word name rest h = rw (space-at name rest (name_no_space name h), take_at name (32 ∷ rest) (length name) refl, drop-front name rest) (cond-true _ _ _ (IsName-is_name name h))

-- a word, a name, and more
line_of-named : (word line name rest : List ℕ) → list_any is_space word ≡ false → IsNamedLine word line name (codes " " ++ rest) → line_of line ≡ asked_of word name rest
line_of-named word line name rest h n =
    let cut_word : line ≡ word ++ 32 ∷ (name ++ 32 ∷ rest) = n.printed in
    ap line_of cut_word ∙ line_at-word word (name ++ 32 ∷ rest) h ∙ named_at-name word name rest n.is_name

-- a name to the end
no_place : (name : List ℕ) → list_any is_space name ≡ false → position is_space name ≡ None
no_place name h = cond-false _ (Some (position_or_len is_space name)) None (le-ltb (position_or_len is_space name) (length name) (let end = position-none name h in omega (arith, end)))

pair_of : (digits hex : List ℕ) (n : ℕ) (bytes : Block) → IsNumber digits n → IsHexOf hex bytes → pair_at (position is_space (digits ++ 32 ∷ hex)) (digits ++ 32 ∷ hex) ≡ Some (n, bytes)
pair_of digits hex n bytes number is =
    rw (space-at digits hex (number_no_space digits n number), take_at digits (32 ∷ hex) (length digits) refl, drop-front digits hex, number_of-IsNumber digits n number, block_from_digits-IsHexOf hex bytes is) refl

pub line_of-IsVolLine : (line : List ℕ) (asked : VolLine) → IsVolLine line asked → line_of line ≡ asked
unfolding line_of
line_of-IsVolLine line init h = rw h refl
line_of-IsVolLine line (create name extents) h = line_of-named (codes "create") line name h.digits refl h.named ∙ ap (create_with name) (number_of-IsNumber h.digits extents h.number)
line_of-IsVolLine line (delete name) h =
    let cut_word : line ≡ codes "delete" ++ 32 ∷ name = h.printed ∙ ap (λ (x : List ℕ). codes "delete" ++ 32 ∷ x) (append-nil name) in
    ap line_of cut_word ∙ line_at-word (codes "delete") name refl ∙ ap (λ (o : Option ℕ). named_at (codes "delete") o name) (no_place name (name_no_space name h.is_name)) ∙ cond-true _ _ _ (IsName-is_name name h.is_name)
line_of-IsVolLine line (read name block) h = line_of-named (codes "r") line name h.digits refl h.named ∙ ap (read_with name) (number_of-IsNumber h.digits block h.number)
line_of-IsVolLine line (write name block bytes) h = line_of-named (codes "w") line name (h.digits ++ 32 ∷ h.hex) refl h.named ∙ ap (write_with name) (pair_of h.digits h.hex block bytes h.number h.is_hex)
line_of-IsVolLine line flush h = rw h refl
line_of-IsVolLine line list h = rw h refl
line_of-IsVolLine line bad h = absurd h

-- ---- from the function to the grammar

-- the line asks for this, unless it is `bad`
abbrev Asks : List ℕ → VolLine → Type 0
Asks line asked = asked ≢ bad → IsVolLine line asked

asks_if : (b : Bool) (line : List ℕ) (asked others : VolLine) → (b ≡ true → Asks line asked) → Asks line others → Asks line (if b then asked else others)
asks_if true line asked others first rest = first refl
asks_if false line asked others first rest = rest

bad_asks : (line : List ℕ) → Asks line bad
bad_asks line h = absurd (h refl)

is : (word name : List ℕ) → bytes_eq word name ≡ true → word ≡ name
is word name = (bytes_eq-Decides word name).0

bare_asks : (line : List ℕ) → Asks line (bare_line line)
bare_asks line =
    asks_if _ line init _ (λ b _. is line _ b)
    (asks_if _ line flush _ (λ b _. is line _ b)
    (asks_if _ line list _ (λ b _. is line _ b)
    (bad_asks line)))

numbered : (word line name rest : List ℕ) (n : ℕ) → IsName name → line ≡ word ++ 32 ∷ (name ++ 32 ∷ rest) → number_of rest ≡ Some n → IsNumberedLine word line name n
numbered word line name rest n named e h = record { digits = rest; number = IsNumber-number_of rest n h; named = record { is_name = named; printed = e } }

create_asks : (line name rest : List ℕ) (o : Option ℕ) → IsName name → line ≡ codes "create" ++ 32 ∷ (name ++ 32 ∷ rest) → number_of rest ≡ o → Asks line (create_with name o)
create_asks line name rest (Some n) named e h = λ _. numbered (codes "create") line name rest n named e h
create_asks line name rest None named e h = bad_asks line

read_asks : (line name rest : List ℕ) (o : Option ℕ) → IsName name → line ≡ codes "r" ++ 32 ∷ (name ++ 32 ∷ rest) → number_of rest ≡ o → Asks line (read_with name o)
read_asks line name rest (Some n) named e h = λ _. numbered (codes "r") line name rest n named e h
read_asks line name rest None named e h = bad_asks line

-- a pair that was read
pair_parts : (a : Option ℕ) (b : Option Block) (pair : ℕ × Block) → pair_with a b ≡ Some pair → (a ≡ Some pair.0) × (b ≡ Some pair.1)
pair_parts (Some n) (Some bytes) pair e = let same = same_Some _ _ e in (ap (λ (p : ℕ × Block). Some p.0) same, ap (λ (p : ℕ × Block). Some p.1) same)
pair_parts (Some n) None pair e = cc
pair_parts None b pair e = cc

write_asks : (line name rest : List ℕ) (at : Option ℕ) (o : Option (ℕ × Block)) → IsName name → line ≡ codes "w" ++ 32 ∷ (name ++ 32 ∷ rest) → position is_space rest ≡ at → pair_at at rest ≡ o → Asks line (write_with name o)
write_asks line name rest (Some at) (Some pair) named e found h =
    let parts = pair_parts _ _ pair h in
    let behind : rest ≡ take at rest ++ 32 ∷ drop (at + 1) rest = cut rest at found in
    λ _. record {
      digits = take at rest;
      hex = drop (at + 1) rest;
      number = IsNumber-number_of _ _ parts.0;
      is_hex = IsHexOf-block_of _ _ parts.1;
      named = record { is_name = named; printed = e ∙ ap (λ (x : List ℕ). codes "w" ++ 32 ∷ (name ++ 32 ∷ x)) behind };
    }
write_asks line name rest None (Some pair) named e found h = cc
write_asks line name rest at None named e found h = bad_asks line

asked_asks : (line word name rest : List ℕ) → IsName name → line ≡ word ++ 32 ∷ (name ++ 32 ∷ rest) → Asks line (asked_of word name rest)
asked_asks line word name rest named e =
    asks_if _ line (read_with name (number_of rest)) _ (λ b. read_asks line name rest _ named (e ∙ under _ b) refl)
    (asks_if _ line (write_with name (pair_at (position is_space rest) rest)) _ (λ b. write_asks line name rest _ _ named (e ∙ under _ b) refl refl)
    (asks_if _ line (create_with name (number_of rest)) bad (λ b. create_asks line name rest _ named (e ∙ under _ b) refl) (bad_asks line)))
  where
    under : (name_of : List ℕ) → bytes_eq word name_of ≡ true → word ++ 32 ∷ (name ++ 32 ∷ rest) ≡ name_of ++ 32 ∷ (name ++ 32 ∷ rest)
    under name_of b = ap (λ w. w ++ 32 ∷ (name ++ 32 ∷ rest)) (is word name_of b)

delete_asks : (line word name : List ℕ) → line ≡ word ++ 32 ∷ name → Asks line (delete_of word name)
delete_asks line word name e =
    asks_if _ line (if is_name name then delete name else bad) bad (λ b. asks_if _ line (delete name) bad (λ n _. record {
      is_name = is_name-IsName name n;
      printed = e ∙ ap (λ w. w ++ 32 ∷ name) (is word _ b) ∙ ap (λ (x : List ℕ). codes "delete" ++ 32 ∷ x) (sym (append-nil name));
    }) (bad_asks line)) (bad_asks line)

named_asks : (line word rest : List ℕ) (o : Option ℕ) → line ≡ word ++ 32 ∷ rest → position is_space rest ≡ o → Asks line (named_at word o rest)
named_asks line word rest (Some at) e h =
    let behind = ap (λ (x : List ℕ). word ++ 32 ∷ x) (cut rest at h) in
    asks_if _ line (asked_of word (take at rest) (drop (at + 1) rest)) bad (λ n. asked_asks line word (take at rest) (drop (at + 1) rest) (is_name-IsName _ n) (e ∙ behind)) (bad_asks line)
named_asks line word rest None e h = delete_asks line word rest e

line_at_asks : (line : List ℕ) (o : Option ℕ) → position is_space line ≡ o → Asks line (line_at o line)
line_at_asks line (Some at) h = named_asks line (take at line) (drop (at + 1) line) _ (cut line at h) refl
line_at_asks line None h = bare_asks line

pub IsVolLine-line_of : (line : List ℕ) → line_of line ≢ bad → IsVolLine line (line_of line)
unfolding line_of
IsVolLine-line_of line = line_at_asks line (position is_space line) refl

-- ---- what is said of an answer that is that of the function

pub asked_task : (line : List ℕ) (answer : VolLine) → answer ≡ line_of line → answer ≢ bad → IsVolLine line answer
asked_task line answer e some = rw e (IsVolLine-line_of line (rw e at some))

pub asked_only : (line : List ℕ) (answer : VolLine) → answer ≡ line_of line → (asked : VolLine) → IsVolLine line asked → answer ≡ asked
asked_only line answer is asked h = is ∙ line_of-IsVolLine line asked h

pub asked_nothing : (line : List ℕ) (answer : VolLine) → answer ≡ line_of line → answer ≡ bad → (asked : VolLine) → IsVolLine line asked → ⊥
asked_nothing line answer is none asked h =
    let same : asked ≡ bad = sym (asked_only line answer is asked h) ∙ none in
    rw same at h

-- ---- long lines

number_short : (digits : List ℕ) (n : ℕ) → IsNumber digits n → length digits ≤ 10
number_short digits n h = rw h.printed (length-decimal-le 10 n (omega arith) (omega (arith, h.below)) (omega (arith, h.below)))

length_named : (word line name rest : List ℕ) → IsNamedLine word line name rest → length line ≤ length word + 17 + length rest
length_named word line name rest h = rw h.printed (simp (length-append) (let few = h.is_name.few in omega (arith, few)))

pub line_short : (line : List ℕ) (asked : VolLine) → IsVolLine line asked → length line ≤ 1100
line_short line init h = rw h (omega arith)
line_short line (create name extents) h = let all = length_named _ line name _ h.named in let few = number_short h.digits extents h.number in omega (arith, all, few)
line_short line (delete name) h = let all = length_named _ line name _ h in omega (arith, all)
line_short line (read name block) h = let all = length_named _ line name _ h.named in let few = number_short h.digits block h.number in omega (arith, all, few)
line_short line (write name block bytes) h =
    let all = length_named _ line name _ h.named in
    let few = number_short h.digits block h.number in
    let high = h.is_hex.high in
    let both = length-append h.digits (32 ∷ h.hex) in omega (arith, all, few, high, both)
line_short line flush h = rw h (omega arith)
line_short line list h = rw h (omega arith)
line_short line bad h = absurd h

bad_unless : (asked : VolLine) → (asked ≢ bad → ⊥) → asked ≡ bad
bad_unless init not = absurd (not (λ e. cc))
bad_unless (create name extents) not = absurd (not (λ e. cc))
bad_unless (delete name) not = absurd (not (λ e. cc))
bad_unless (read name block) not = absurd (not (λ e. cc))
bad_unless (write name block bytes) not = absurd (not (λ e. cc))
bad_unless flush not = absurd (not (λ e. cc))
bad_unless list not = absurd (not (λ e. cc))
bad_unless bad not = refl

pub line_of-long : (line : List ℕ) → 1100 < length line → line_of line ≡ bad
line_of-long line long = bad_unless (line_of line) (λ some. let short = line_short line (line_of line) (IsVolLine-line_of line some) in omega (arith, long, short))

-- ---- names that were made of bytes

-- a name was made of these bytes
abbrev pub HasMade : List ℕ → Name → Type 0
HasMade bytes name = IsName bytes × ((k : ℕ) → k < 16 → slice_index name.text k ≡ slice_index_or bytes k 0)

pub about_named : (word bytes rest : List ℕ) (name : Name) → HasMade bytes name → named_line word bytes rest ≡ asked_of word (word_of name) rest
about_named word bytes rest name made = cond-true _ _ _ (IsName-is_name bytes made.0) ∙ ap (λ (w : List ℕ). asked_of word w rest) (sym (word_is name bytes made.0 made.1))

pub about_other : (word bytes rest : List ℕ) → (IsName bytes → ⊥) → named_line word bytes rest ≡ bad
about_other word bytes rest not = cond-false _ _ _ (no_name bytes not)

pub deletes_named : (bytes : List ℕ) (name : Name) → HasMade bytes name → delete (word_of name) ≡ deletes bytes
deletes_named bytes name made = ap delete (word_is name bytes made.0 made.1) ∙ sym (cond-true _ _ _ (IsName-is_name bytes made.0))

pub deletes_none : (bytes : List ℕ) → (IsName bytes → ⊥) → bad ≡ deletes bytes
deletes_none bytes not = sym (cond-false _ _ _ (no_name bytes not))

-- ---- each line asks for something or for nothing

pub asks_by : (line : List ℕ) (answer : VolLine) → answer ≡ line_of line → AsksVolumes line answer
asks_by line init e = asks init (asked_task line init e (λ no. cc))
asks_by line (create name extents) e = asks (create name extents) (asked_task line (create name extents) e (λ no. cc))
asks_by line (delete name) e = asks (delete name) (asked_task line (delete name) e (λ no. cc))
asks_by line (read name block) e = asks (read name block) (asked_task line (read name block) e (λ no. cc))
asks_by line (write name block bytes) e = asks (write name block bytes) (asked_task line (write name block bytes) e (λ no. cc))
asks_by line flush e = asks flush (asked_task line flush e (λ no. cc))
asks_by line list e = asks list (asked_task line list e (λ no. cc))
asks_by line bad e = no_task (asked_nothing line bad e refl)

pub asks_long : (line : List ℕ) → 1100 < length line → AsksVolumes line bad
asks_long line long = no_task (λ asked h. let short = line_short line asked h in omega (arith, short, long))
