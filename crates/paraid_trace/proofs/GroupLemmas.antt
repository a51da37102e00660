-- The groups of the line of a write
use Rattle.std.proofs.Common.{◌≡◌, ℕ, zero, suc, ◌+◌, ◌<◌, ◌≤◌, List, [], ◌∷◌, ◌++◌, length, take, drop, Option, Some, None, inl, inr, refl, subst, sym, ap, ◌∙◌, arith, length-append}
use Rattle.std.specs.List.{position, position_or_len}
use Rattle.std.proofs.lemmas.Bool.{cases_lt, cond-false, cond-true, eqb-true, le-ltb, lt-ltb, ltb-true}
use Rattle.std.proofs.lemmas.List.{append-nil, drop_all, drop-drop, length-take-le, take-append-drop, take_at}
use Rattle.std.proofs.lemmas.List.Sums.{passes_at_first}
use Rattle.std.proofs.lemmas.Option.{cond_some, same_Some}
use Rattle.std.proofs.Math.Seq.{drop-cons}
use Rattle.paraid_base.specs.declared.block.Block.{Block}
use Rattle.paraid_base.specs.declared.pairs.Pairs.{Pairs}
use Rattle.paraid_base.specs.History.{Entry}
use Rattle.paraid_base.specs.Pairs.{pairs_of}
use Rattle.paraid_base.proofs.PairsLemmas.{length-pairs_of}
use Rattle.paraid_trace.specs.Grammar.{AreGroups, IsHexOf, IsNumber}
use Rattle.paraid_trace.specs.LineEvents.{Group, block_from_digits, entry_from, entry_of, group_at, group_of, group_with, is_space, number_of, onto}
use Rattle.paraid_trace.proofs.HexLemmas.{IsHexOf-block_of, block_from_digits-IsHexOf}
use Rattle.paraid_trace.proofs.NumberLemmas.{IsNumber-number_of, number_of-IsNumber}
use Rattle.paraid_trace.proofs.SpaceLemmas.{cut, drop-front, hex_no_space, number_no_space, position-at, position-none, space-at}

-- ---- from the grammar to the function

-- the first group of a text, whose digits end where they are to
group-cut : (digits hex more : List ℕ) (n : ℕ) (bytes : Block) → IsNumber digits n → IsHexOf hex bytes → position_or_len is_space (hex ++ more) ≡ length hex
    → group_of (digits ++ 32 ∷ (hex ++ more)) ≡ Some (record { block = n; bytes = bytes; end = length digits + 1 + length hex })
unfolding group_of
group-cut digits hex more n bytes number is ends =
    rw (space-at digits (hex ++ more) (number_no_space digits n number), take_at digits (32 ∷ (hex ++ more)) (length digits) refl, drop-front digits (hex ++ more), ends, take_at hex more (length hex) refl, number_of-IsNumber digits n number, block_from_digits-IsHexOf hex bytes is) refl

-- the last group
entry-last : (room : ℕ) (text : List ℕ) (g : Group) → group_of text ≡ Some g → length text ≤ g.end → entry_of (suc room) text ≡ Some ((g.block, g.bytes) ∷ [])
unfolding entry_of
entry-last room text g is past = ap (entry_from (entry_of room) text) is ∙ ap (onto (g.block, g.bytes)) (cond-false _ _ _ (le-ltb _ _ past))

-- a group before others
entry-more : (room : ℕ) (text : List ℕ) (g : Group) → group_of text ≡ Some g → g.end < length text → entry_of (suc room) text ≡ onto (g.block, g.bytes) (entry_of room (drop (g.end + 1) text))
unfolding entry_of
entry-more room text g is before = ap (entry_from (entry_of room) text) is ∙ ap (onto (g.block, g.bytes)) (cond-true _ _ _ (lt-ltb _ _ before))

length-group : (digits hex more : List ℕ) → length (digits ++ 32 ∷ (hex ++ more)) ≡ length digits + 1 + length hex + length more
length-group digits hex more = length-append digits (32 ∷ (hex ++ more)) ∙ (let e = length-append hex more in omega (arith, e))

-- what stands behind a group and its space
drop-group : (digits hex text : List ℕ) → drop (length digits + 1 + length hex + 1) (digits ++ 32 ∷ (hex ++ 32 ∷ text)) ≡ text
drop-group digits hex text =
    ap (λ n. drop n (digits ++ 32 ∷ (hex ++ 32 ∷ text))) (omega arith)
    ∙ sym (drop-drop (length hex + 1) (length digits + 1) (digits ++ 32 ∷ (hex ++ 32 ∷ text)))
    ∙ ap (drop (length hex + 1)) (drop-front digits (hex ++ 32 ∷ text)) ∙ drop-front hex text

-- Groups that the grammar asks for begin with a space, and behind it they are read as their pairs.
pub entry_of-AreGroups : (pair : ℕ × Block) (pairs : Entry) (room : ℕ) (groups : List ℕ) → length pairs < room → AreGroups (pair ∷ pairs) groups
    → (text : List ℕ) × (groups ≡ 32 ∷ text) × (entry_of room text ≡ Some (pair ∷ pairs))
entry_of-AreGroups pair pairs zero groups few h = let no : ⊥ = omega (arith, few) in absurd no
entry_of-AreGroups pair [] (suc room) groups few h =
    let ends : position_or_len is_space (h.hex ++ h.rest) ≡ length h.hex =
    ap (λ (x : List ℕ). position_or_len is_space (h.hex ++ x)) h.others ∙ ap (position_or_len is_space) (append-nil h.hex) ∙ position-none h.hex (hex_no_space h.hex pair.1 h.bytes) in
    let long = length-group h.digits h.hex h.rest ∙ ap (λ (x : List ℕ). length h.digits + 1 + length h.hex + length x) h.others in (
      h.digits ++ 32 ∷ (h.hex ++ h.rest),
      h.printed,
      entry-last room _ _ (group-cut h.digits h.hex h.rest pair.0 pair.1 h.number h.bytes ends) (omega (arith, long)),
    )
entry_of-AreGroups pair (next ∷ pairs) (suc room) groups few h =
    let more = entry_of-AreGroups next pairs room h.rest (omega (arith, few)) h.others in
    let text = more.0 in
    let behind : h.rest ≡ 32 ∷ text = more.1 in
    let ends : position_or_len is_space (h.hex ++ 32 ∷ text) ≡ length h.hex = position-at h.hex text (hex_no_space h.hex pair.1 h.bytes) in
    let long = length-group h.digits h.hex (32 ∷ text) in (
      h.digits ++ 32 ∷ (h.hex ++ 32 ∷ text),
      h.printed ∙ ap (λ (x : List ℕ). 32 ∷ (h.digits ++ 32 ∷ (h.hex ++ x))) behind,
      entry-more room _ _ (group-cut h.digits h.hex (32 ∷ text) pair.0 pair.1 h.number h.bytes ends) (omega (arith, long))
          ∙ ap (λ (x : List ℕ). onto pair (entry_of room x)) (drop-group h.digits h.hex text) ∙ ap (onto pair) more.2,
    )

entry-pairs : (e : Entry) (groups : List ℕ) → 1 ≤ length e → length e ≤ 8 → AreGroups e groups → (text : List ℕ) × (groups ≡ 32 ∷ text) × (entry_of 8 text ≡ Some e)
entry-pairs [] groups some few h = let no : ⊥ = omega (arith, some) in absurd no
entry-pairs (pair ∷ pairs) groups some few h = entry_of-AreGroups pair pairs 8 groups (omega (arith, few)) h

-- the groups of a value
pub entry_of-pairs : (p : Pairs) (groups : List ℕ) → AreGroups (pairs_of p) groups → (text : List ℕ) × (groups ≡ 32 ∷ text) × (entry_of 8 text ≡ Some (pairs_of p))
entry_of-pairs p groups h =
    let n = length-pairs_of p in
    let some = p.some in
    let few = p.few in
    entry-pairs (pairs_of p) groups (omega (arith, n, some)) (omega (arith, n, few)) h

-- ---- from the function to the grammar

-- a text begins with this group
record BeginsWith (text : List ℕ) (g : Group) : Type 0 where
  digits : List ℕ
  hex : List ℕ
  rest : List ℕ
  number : IsNumber digits g.block
  bytes : IsHexOf hex g.bytes
  printed : text ≡ digits ++ 32 ∷ (hex ++ rest)
  last : length text ≤ g.end → rest ≡ []
  more : g.end < length text → rest ≡ 32 ∷ drop (g.end + 1) text

-- what stands from the first space on
from_space : (text : List ℕ) → position_or_len is_space text < length text → drop (position_or_len is_space text) text ≡ 32 ∷ drop (position_or_len is_space text + 1) text
from_space text within =
    let p = position_or_len is_space text in
    let next : suc p ≡ p + 1 = omega arith in
    drop-cons text p 0 within ∙ ap (λ c. c ∷ drop (suc p) text) (eqb-true _ _ (passes_at_first is_space text 0 within)) ∙ ap (λ n. 32 ∷ drop n text) next

take_before : (text : List ℕ) (at : ℕ) → position is_space text ≡ Some at → length (take at text) ≡ at
take_before text at e =
    let found = cond_some _ _ _ e in
    let within = ltb-true _ _ found.0 in
    length-take-le at text (let same = found.1 in omega (arith, within, same))

begins : (text : List ℕ) (at : ℕ) (o : Option ℕ) (b : Option Block) (g : Group) → position is_space text ≡ Some at
    → number_of (take at text) ≡ o → block_from_digits (take (position_or_len is_space (drop (at + 1) text)) (drop (at + 1) text)) ≡ b
    → group_with o b (at + 1 + position_or_len is_space (drop (at + 1) text)) ≡ Some g → BeginsWith text g
begins text at None b g is number bytes h = cc
begins text at (Some n) None g is number bytes h = cc
begins text at (Some n) (Some x) g is number bytes h =
    let rest = drop (at + 1) text in
    let p = position_or_len is_space rest in
    let whole = cut text at is in
    let size : length text ≡ length (take at text) + 1 + length rest = ap (λ (l : List ℕ). length l) whole ∙ length-append (take at text) (32 ∷ rest) ∙ omega arith in
    let front : length (take at text) ≡ at = take_before text at is in
    let same = same_Some _ _ h in
    subst (BeginsWith text) same (record {
      digits = take at text;
      hex = take p rest;
      rest = drop p rest;
      number = IsNumber-number_of (take at text) n number;
      bytes = IsHexOf-block_of (take p rest) x bytes;
      printed = whole ∙ ap (λ (l : List ℕ). take at text ++ 32 ∷ l) (sym (take-append-drop p rest));
      last = λ past. drop_all p rest (omega (arith, past, size, front));
      more = λ before. from_space rest (omega (arith, before, size, front)) ∙ ap (λ (l : List ℕ). 32 ∷ l) (drop-drop (p + 1) (at + 1) text ∙ ap (λ k. drop k text) (omega arith));
    })

group-begins : (text : List ℕ) (o : Option ℕ) (g : Group) → position is_space text ≡ o → group_at o text ≡ Some g → BeginsWith text g
group-begins text None g is h = cc
group-begins text (Some at) g is h = begins text at _ _ g is refl refl h

group_of-begins : (text : List ℕ) (g : Group) → group_of text ≡ Some g → BeginsWith text g
unfolding group_of
group_of-begins text g h = group-begins text (position is_space text) g refl h

-- the pairs that are read are those of the groups behind a space
abbrev Reads : ℕ → List ℕ → Entry → Type 0
Reads room text e = AreGroups e (32 ∷ text) × (1 ≤ length e) × (length e ≤ room)

one_more : (room : ℕ) (text : List ℕ) (g : Group) (others : Option Entry) (e : Entry) → BeginsWith text g → g.end < length text
    → ((x : Entry) → others ≡ Some x → Reads room (drop (g.end + 1) text) x) → onto (g.block, g.bytes) others ≡ Some e → Reads (suc room) text e
one_more room text g None e b before reads h = cc
one_more room text g (Some others) e b before reads h =
    let r = reads others refl in
    let same = same_Some _ _ h in
    subst (Reads (suc room) text) same (
      record {
        digits = b.digits;
        hex = b.hex;
        rest = b.rest;
        number = b.number;
        bytes = b.bytes;
        printed = ap (λ (l : List ℕ). 32 ∷ l) b.printed;
        others = subst (AreGroups others) (sym (b.more before)) r.0;
      },
      omega arith,
      (let few = r.2 in omega (arith, few)),
    )

one_last : (room : ℕ) (text : List ℕ) (g : Group) (e : Entry) → BeginsWith text g → length text ≤ g.end → Some ((g.block, g.bytes) ∷ []) ≡ Some e → Reads (suc room) text e
one_last room text g e b past h =
    let same = same_Some _ _ h in
    subst (Reads (suc room) text) same (
      record {
        digits = b.digits;
        hex = b.hex;
        rest = b.rest;
        number = b.number;
        bytes = b.bytes;
        printed = ap (λ (l : List ℕ). 32 ∷ l) b.printed;
        others = b.last past;
      },
      omega arith,
      omega arith,
    )

by_group : (room : ℕ) (text : List ℕ) (o : Option Group) (e : Entry) → group_of text ≡ o → ((t : List ℕ) (x : Entry) → entry_of room t ≡ Some x → Reads room t x)
    → entry_of (suc room) text ≡ Some e → Reads (suc room) text e
unfolding entry_of
by_group room text None e is reads h = let no = sym (ap (entry_from (entry_of room) text) is) ∙ h in cc
by_group room text (Some g) e is reads h = elim (cases_lt g.end (length text)) [
  | inl before ↦ one_more room text g _ e (group_of-begins text g is) before (λ x. reads _ x) (sym (entry-more room text g is before) ∙ h)
  | inr past ↦ one_last room text g e (group_of-begins text g is) past (sym (entry-last room text g is past) ∙ h)
]

-- What is read as pairs are their groups.
pub AreGroups-entry_of : (room : ℕ) (text : List ℕ) (e : Entry) → entry_of room text ≡ Some e → Reads room text e
unfolding entry_of
AreGroups-entry_of zero text e h = cc
AreGroups-entry_of (suc room) text e h = by_group room text (group_of text) e refl (AreGroups-entry_of room) h
