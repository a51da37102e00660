-- The groups of a write, one after another
use Rattle.std.proofs.Common.{◌≡◌, ℕ, suc, ◌+◌, ◌-◌, ◌<◌, ◌≤◌, List, [], ◌∷◌, ◌++◌, length, drop, take, Option, Some, None, inl, inr, refl, sym, ap, ◌∙◌, arith}
use Rattle.std.proofs.lemmas.Bool.{cases_lt, cond-false, cond-true, le-ltb, lt-ltb}
use Rattle.std.proofs.lemmas.List.{append-nil, append_assoc, drop-drop, length-drop, take_all}
use Rattle.paraid_base.specs.declared.block.Block.{Block}
use Rattle.paraid_base.specs.declared.event.Event.TheVariants.{Write}
use Rattle.paraid_base.specs.declared.pairs.Pairs.{Pairs}
use Rattle.paraid_base.specs.History.{Entry}
use Rattle.paraid_base.specs.Pairs.{pairs_of}
use Rattle.paraid_base.proofs.PairsLemmas.{pairs_with-pairs_of}
use Rattle.std.specs.List.{position, position_or_len}
use Rattle.paraid_trace.specs.LineEvents.{Group, block_from_digits, entry_from, entry_of, group_of, is_space, number_of, onto, rest_at, write_of}

-- pairs before those that are still to be read
abbrev pub put_on : Entry → Option Entry → Option Entry
put_on front (Some pairs) = Some (front ++ pairs)
put_on front None = None

-- what was read of a text to a place, and what is left of it
abbrev pub Midway : List ℕ → Pairs → ℕ → Type 0
Midway text p end = entry_of 8 text ≡ put_on (pairs_of p) (rest_at (entry_of (8 - p.count)) text end)

put_on-one : (pair : ℕ × Block) (o : Option Entry) → onto pair o ≡ put_on (pair ∷ []) o
put_on-one pair None = refl
put_on-one pair (Some pairs) = refl

put_on-onto : (front : Entry) (pair : ℕ × Block) (o : Option Entry) → put_on front (onto pair o) ≡ put_on (front ++ pair ∷ []) o
put_on-onto front pair None = refl
put_on-onto front pair (Some pairs) = ap Some (sym (append_assoc front (pair ∷ []) pairs))

entry-some : (room : ℕ) (text : List ℕ) (g : Group) → group_of text ≡ Some g → entry_of (suc room) text ≡ onto (g.block, g.bytes) (rest_at (entry_of room) text g.end)
unfolding entry_of
entry-some room text g is = ap (entry_from (entry_of room) text) is

entry-none : (room : ℕ) (text : List ℕ) → group_of text ≡ None → entry_of (suc room) text ≡ None
unfolding entry_of
entry-none room text is = ap (entry_from (entry_of room) text) is

pub first_none : (text : List ℕ) → group_of text ≡ None → entry_of 8 text ≡ None
first_none text is = entry-none 7 text is

pub midway_first : (text : List ℕ) (g : Group) (p : Pairs) → group_of text ≡ Some g → pairs_of p ≡ (g.block, g.bytes) ∷ [] → p.count ≡ 1 → Midway text p g.end
midway_first text g p is pairs count =
    let room : 8 - p.count ≡ 7 = omega (arith, count) in
    entry-some 7 text g is ∙ put_on-one (g.block, g.bytes) _
    ∙ ap (λ (e : Entry). put_on e (rest_at (entry_of 7) text g.end)) (sym pairs)
    ∙ ap (λ (n : ℕ). put_on (pairs_of p) (rest_at (entry_of n) text g.end)) (sym room)

-- a space and more of the text are left
further : (text : List ℕ) (p : Pairs) (end room : ℕ) → Midway text p end → end < length text → 8 - p.count ≡ room
    → entry_of 8 text ≡ put_on (pairs_of p) (entry_of room (drop (end + 1) text))
further text p end room midway before is =
    midway ∙ ap (put_on (pairs_of p)) (cond-true _ _ _ (lt-ltb _ _ before) ∙ ap (λ (n : ℕ). entry_of n (drop (end + 1) text)) is)

-- a place in what is left, as one of the text
rest_at-drop : (others : List ℕ → Option Entry) (text : List ℕ) (end n : ℕ) → end < length text → rest_at others (drop (end + 1) text) n ≡ rest_at others text (end + 1 + n)
rest_at-drop others text end n before =
    let long = length-drop (end + 1) text in
    elim (cases_lt n (length (drop (end + 1) text))) [
      | inl within ↦
          cond-true _ _ _ (lt-ltb _ _ within)
          ∙ ap others (drop-drop (n + 1) (end + 1) text ∙ (let same : end + 1 + (n + 1) ≡ end + 1 + n + 1 = omega arith in ap (λ k. drop k text) same))
          ∙ sym (cond-true _ _ _ (lt-ltb (end + 1 + n) (length text) (omega (arith, within, long, before))))
      | inr past ↦ cond-false _ _ _ (le-ltb _ _ past) ∙ sym (cond-false _ _ _ (le-ltb (end + 1 + n) (length text) (omega (arith, past, long, before))))
    ]

pub midway_more : (text : List ℕ) (p q : Pairs) (end next : ℕ) (g : Group) → Midway text p end → end < length text → p.count < 8 → group_of (drop (end + 1) text) ≡ Some g
    → pairs_of q ≡ pairs_of p ++ (g.block, g.bytes) ∷ [] → q.count ≡ p.count + 1 → next ≡ end + 1 + g.end → Midway text q next
midway_more text p q end next g midway before room is pairs count place =
    let left : 8 - p.count ≡ suc (8 - q.count) = omega (arith, room, count) in
    further text p end _ midway before left ∙ ap (put_on (pairs_of p)) (entry-some (8 - q.count) _ g is) ∙ put_on-onto (pairs_of p) (g.block, g.bytes) _
    ∙ ap (λ (e : Entry). put_on e (rest_at (entry_of (8 - q.count)) (drop (end + 1) text) g.end)) (sym pairs)
    ∙ ap (put_on (pairs_of q)) (rest_at-drop (entry_of (8 - q.count)) text end g.end before ∙ ap (rest_at (entry_of (8 - q.count)) text) (sym place))

pub midway_full : (text : List ℕ) (p : Pairs) (end : ℕ) → Midway text p end → end < length text → p.count ≡ 8 → entry_of 8 text ≡ None
unfolding entry_of
midway_full text p end midway before full = further text p end 0 midway before (omega (arith, full))

pub midway_none : (text : List ℕ) (p : Pairs) (end : ℕ) → Midway text p end → end < length text → p.count < 8 → group_of (drop (end + 1) text) ≡ None → entry_of 8 text ≡ None
midway_none text p end midway before room is =
    let left : 8 - p.count ≡ suc (7 - p.count) = omega (arith, room) in
    further text p end _ midway before left ∙ ap (put_on (pairs_of p)) (entry-none (7 - p.count) _ is)

pub midway_end : (text : List ℕ) (p : Pairs) (end : ℕ) → Midway text p end → length text ≤ end → write_of (entry_of 8 text) ≡ Write p
midway_end text p end midway past =
    let whole : entry_of 8 text ≡ Some (pairs_of p) = midway ∙ ap (put_on (pairs_of p)) (cond-false _ _ _ (le-ltb _ _ past)) ∙ ap Some (append-nil (pairs_of p)) in
    ap write_of whole ∙ ap Write (pairs_with-pairs_of p)

pub room_left : (n : ℕ) → n ≤ 8 → (n ≡ 8 → ⊥) → n < 8
room_left n few other = elim (cases_lt n 8) [
  | inl below ↦ below
  | inr above ↦ let no = other (omega (arith, few, above)) in absurd no
]

-- what a slice to the end holds
pub to_end : (n : ℕ) (text : List ℕ) → take (length text - n) (drop n text) ≡ drop n text
to_end n text = let long = length-drop n text in take_all (length text - n) (drop n text) (omega (arith, long))

-- a number, a space and digits up to the next space are the first group
pub group_found : (text : List ℕ) (at n long : ℕ) (bytes : Block) → position is_space text ≡ Some at → number_of (take at text) ≡ Some n
    → long ≡ position_or_len is_space (drop (at + 1) text) → block_from_digits (take long (drop (at + 1) text)) ≡ Some bytes
    → group_of text ≡ Some (record { block = n; bytes = bytes; end = at + 1 + long })
unfolding group_of
group_found text at n long bytes is number ends read = rw (is, number, ← ends, read) refl
