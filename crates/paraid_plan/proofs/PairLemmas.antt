-- Which blocks and rows the pairs of a write name, and how many of them.
use Rattle.std.specs.Prelude.{◌≡◌, ◌≢◌, ℕ, ◌+◌, ◌==◌, ◌<◌, ◌≤◌, ◌&&◌, ◌||◌, Bool, true, false, not, List, [], ◌∷◌, ◌++◌, length, get_or, take, Option, Some, None, if◌then◌else◌}
use Rattle.std.proofs.Common.{refl, sym, ◌∙◌, ap, subst, arith, inl, inr, zero, suc}
use Rattle.std.proofs.lemmas.List.{get_or-take, take-take}
use Rattle.std.proofs.lemmas.Bool.{cases_Bool, cases_eq, true≢false}
use Rattle.std.proofs.lemmas.Bool.Decides.{nat_tests}
use Rattle.paraid_base.specs.declared.block.Block.{Block}
use Rattle.paraid_base.specs.declared.pairs.Pairs.{Pairs}
use Rattle.paraid_base.specs.Cells.{cell_block, home_disk, home_row, parity_disk}
use Rattle.paraid_base.specs.History.{Entry, last_of}
use Rattle.paraid_base.specs.Pairs.{numbered_blocks, pairs_of}
use Rattle.paraid_base.specs.Xor.{zero_block}
use Rattle.paraid_base.proofs.CellsLemmas.{home_disk-block_of, home_row-block_of}
use Rattle.paraid_base.proofs.HistoryLemmas.{last_of-append}
use Rattle.paraid_base.proofs.PairsLemmas.{get_or-zipped, length-pairs_of, take-zipped}
use Rattle.paraid_plan.specs.RowWrites.{AreGivenBy, IsGivenBy, IsLastPair, count_in_row, count_of_new_row, is_changed, is_given, names_block, names_row, one_in_row, pairs_before, row_change}
use Rattle.paraid_plan.proofs.DeskLemmas.{first_of_or, second_of_or}

-- Bools

or_assoc : (a b c : Bool) → ((a || b) || c) ≡ (a || (b || c))
or_assoc true b c = refl
or_assoc false b c = refl

or_false : (a : Bool) → (a || false) ≡ a
or_false true = refl
or_false false = refl

or_true : (a : Bool) → (a || true) ≡ true
or_true true = refl
or_true false = refl

-- the pairs before the next one

pub before_more : (p : Pairs) (at : ℕ) → at < p.count → pairs_before p (at + 1) ≡ pairs_before p at ++ (get_or p.blocks at 0, get_or p.bytes at zero_block) ∷ []
unfolding pairs_before
before_more p at l =
    let few = p.few in
    let whole = p.blocks_whole in
    take-zipped p.blocks p.bytes at 0 zero_block (p.blocks_whole ∙ sym p.bytes_whole) (omega (arith, few, whole, l))

pub before_all : (p : Pairs) → pairs_before p p.count ≡ pairs_of p
unfolding pairs_before pairs_of
before_all p = refl

pub before_none : (p : Pairs) → pairs_before p 0 ≡ []
unfolding pairs_before
before_none p = refl

-- names

pub names_none : (b : ℕ) (x : Block) (ws : Entry) → names_block ws b ≡ false → last_of b x ws ≡ x
unfolding names_block
names_none b x [] h = refl
names_none b x (w ∷ ws) h =
    let off : (w.0 == b) ≡ false = first_of_or (w.0 == b) (names_block ws b) h in
    ap (λ (z : Bool). last_of b (if z then w.1 else x) ws) off ∙ names_none b x ws (second_of_or (w.0 == b) (names_block ws b) h)

pub named_any : (b : ℕ) (x y : Block) (ws : Entry) → names_block ws b ≡ true → last_of b x ws ≡ last_of b y ws
unfolding names_block
named_any b x y [] h = absurd (true≢false (sym h))
named_any b x y (w ∷ ws) h = elim (cases_Bool (w.0 == b)) [
  | inl is ↦ rw is refl
  | inr off ↦ rw off (named_any b x y ws (ap (λ (z : Bool). z || names_block ws b) (sym off) ∙ h))
]

names_append : (ws : Entry) (w : ℕ × Block) (b : ℕ) → names_block (ws ++ w ∷ []) b ≡ (names_block ws b || w.0 == b)
unfolding names_block
names_append [] w b = or_false (w.0 == b)
names_append (x ∷ ws) w b = ap (λ (z : Bool). (x.0 == b) || z) (names_append ws w b) ∙ sym (or_assoc (x.0 == b) (names_block ws b) (w.0 == b))

pub rows_append : (n : ℕ) (ws : Entry) (w : ℕ × Block) (r : ℕ) → names_row n (ws ++ w ∷ []) r ≡ (names_row n ws r || home_row n w.0 == r)
unfolding names_row
rows_append n [] w r = or_false (home_row n w.0 == r)
rows_append n (x ∷ ws) w r = ap (λ (z : Bool). (home_row n x.0 == r) || z) (rows_append n ws w r) ∙ sym (or_assoc (home_row n x.0 == r) (names_row n ws r) (home_row n w.0 == r))

-- a block in a row that none names is not named
unnamed : (n : ℕ) (ws : Entry) (c : ℕ) → names_row n ws (home_row n c) ≡ false → names_block ws c ≡ false
unfolding names_row names_block
unnamed n [] c h = refl
unnamed n (w ∷ ws) c h =
    let row_off : (home_row n w.0 == home_row n c) ≡ false = first_of_or _ (names_row n ws (home_row n c)) h in
    let rest : names_block ws c ≡ false = unnamed n ws c (second_of_or (home_row n w.0 == home_row n c) (names_row n ws (home_row n c)) h) in
    let apart : w.0 ≢ c = (λ i. let same : home_row n w.0 ≡ home_row n c = ap (home_row n) i in let on : (home_row n w.0 == home_row n c) ≡ true = grind (arith, nat_tests) in true≢false (sym on ∙ row_off)) in
    let off : (w.0 == c) ≡ false = grind (arith, nat_tests) in
    rw off rest

-- each pair names its block
pub named_at : (ws : Entry) (at : ℕ) (d : ℕ × Block) → at < length ws → names_block ws (get_or ws at d).0 ≡ true
unfolding names_block
named_at [] at d l = let no : ⊥ = omega (arith, l) in absurd no
named_at (w ∷ ws) zero d l = let here : (w.0 == w.0) ≡ true = grind (arith, nat_tests) in rw here refl
named_at (w ∷ ws) (suc at) d l = ap (λ (z : Bool). (w.0 == (get_or ws at d).0) || z) (named_at ws at d (omega (arith, l))) ∙ or_true (w.0 == (get_or ws at d).0)

-- the last pair

pub later_named : (bytes : List Block) (b : ℕ) (ws : Entry) (at c : ℕ) (y : Block) → at < 8 → c ≡ b → y ≡ get_or bytes at zero_block
    → IsLastPair bytes b (ws ++ (c, y) ∷ []) (Some at)
later_named bytes b ws at c y l is is_y =
    let here : (c == b) ≡ true = grind (arith, nat_tests) in
    (l, names_append ws (c, y) b ∙ ap (λ (z : Bool). names_block ws b || z) here ∙ or_true (names_block ws b), λ x. last_of-append b x ws ((c, y) ∷ []) ∙ ap (λ (z : Bool). if z then y else last_of b x ws) here ∙ is_y)

pub later_other : (bytes : List Block) (b : ℕ) (ws : Entry) (c : ℕ) (y : Block) (found : Option ℕ) → c ≢ b → IsLastPair bytes b ws found → IsLastPair bytes b (ws ++ (c, y) ∷ []) found
later_other bytes b ws c y None apart was =
    let off : (c == b) ≡ false = grind (arith, nat_tests) in
    names_append ws (c, y) b ∙ ap (λ (z : Bool). z || c == b) was ∙ off
later_other bytes b ws c y (Some at) apart was =
    let off : (c == b) ≡ false = grind (arith, nat_tests) in
    (was.0, names_append ws (c, y) b ∙ ap (λ (z : Bool). z || c == b) was.1, λ x. last_of-append b x ws ((c, y) ∷ []) ∙ ap (λ (z : Bool). if z then y else last_of b x ws) off ∙ was.2 x)

-- cells

pub given_parity : (n : ℕ) (ws : Entry) (r d : ℕ) → d ≡ parity_disk n r → is_given n ws r d ≡ false
unfolding is_given
given_parity n ws r d is = let here : (d == parity_disk n r) ≡ true = grind (arith, nat_tests) in rw here refl

pub given_data : (n : ℕ) (ws : Entry) (r d : ℕ) → d ≢ parity_disk n r → is_given n ws r d ≡ names_block ws (cell_block n r d)
unfolding is_given
given_data n ws r d is = let off : (d == parity_disk n r) ≡ false = grind (arith, nat_tests) in rw off refl

pub changed_parity : (n : ℕ) (ws : Entry) (r d : ℕ) → d ≡ parity_disk n r → is_changed n ws r d ≡ true
unfolding is_changed
changed_parity n ws r d is = let here : (d == parity_disk n r) ≡ true = grind (arith, nat_tests) in rw here refl

pub changed_data : (n : ℕ) (ws : Entry) (r d : ℕ) → d ≢ parity_disk n r → is_changed n ws r d ≡ is_given n ws r d
unfolding is_changed
changed_data n ws r d is = let off : (d == parity_disk n r) ≡ false = grind (arith, nat_tests) in rw off refl

pub given_by : (bytes : List Block) (n : ℕ) (ws : Entry) (r d b : ℕ) (found : Option ℕ) → d ≢ parity_disk n r → b ≡ cell_block n r d → IsLastPair bytes b ws found → IsGivenBy bytes n ws r d found
given_by bytes n ws r d b None apart is last = given_data n ws r d apart ∙ ap (names_block ws) (sym is) ∙ last
given_by bytes n ws r d b (Some at) apart is last =
    (last.0, given_data n ws r d apart ∙ ap (names_block ws) (sym is) ∙ last.1, λ x. ap (λ (z : ℕ). last_of z x ws) (sym is) ∙ last.2 x)

-- counts

pub count_append : (n : ℕ) (ws : Entry) (w : ℕ × Block) (r : ℕ) → count_in_row n (ws ++ w ∷ []) r ≡ count_in_row n ws r + one_in_row n w.0 r
unfolding count_in_row
count_append n [] w r = omega arith
count_append n (x ∷ ws) w r = let more = count_append n ws w r in omega (arith, more)

pub count_take : (n : ℕ) (ws : Entry) (k r : ℕ) → count_in_row n (take k ws) r ≤ count_in_row n ws r
unfolding count_in_row
count_take n [] zero r = omega arith
count_take n (w ∷ ws) zero r = omega arith
count_take n [] (suc k) r = omega arith
count_take n (w ∷ ws) (suc k) r = let less = count_take n ws k r in omega (arith, less)

pub count_some : (n : ℕ) (ws : Entry) (at : ℕ) (d : ℕ × Block) → at < length ws → 1 ≤ count_in_row n ws (home_row n (get_or ws at d).0)
unfolding count_in_row one_in_row
count_some n [] at d l = let no : ⊥ = omega (arith, l) in absurd no
count_some n (w ∷ ws) zero d l = let here : (home_row n w.0 == home_row n w.0) ≡ true = grind (arith, nat_tests) in rw here (omega arith)
count_some n (w ∷ ws) (suc at) d l = let more = count_some n ws at d (omega (arith, l)) in omega (arith, more)

-- how many pairs name blocks of the rows of these others
abbrev pub counted : ℕ → Entry → Entry → ℕ
counted n seen [] = 0
counted n seen (w ∷ ws) = (if names_row n seen (home_row n w.0) then 1 else 0) + counted n seen ws

one_at_most : (b : Bool) → (if b then 1 else 0) ≤ 1
one_at_most true = omega arith
one_at_most false = omega arith

pub counted_few : (n : ℕ) (seen ws : Entry) → counted n seen ws ≤ length ws
counted_few n seen [] = omega arith
counted_few n seen (w ∷ ws) = let one = one_at_most (names_row n seen (home_row n w.0)) in let rest = counted_few n seen ws in omega (arith, one, rest)

counted_new : (n : ℕ) (seen : Entry) (v : ℕ × Block) (ws : Entry) → names_row n seen (home_row n v.0) ≡ false
    → counted n (seen ++ v ∷ []) ws ≡ counted n seen ws + count_in_row n ws (home_row n v.0)
unfolding count_in_row one_in_row
counted_new n seen v [] h = refl
counted_new n seen v (w ∷ ws) h =
    let rest = counted_new n seen v ws h in
    let q : ℕ = home_row n w.0 in
    let one : (if names_row n (seen ++ v ∷ []) q then 1 else 0) ≡ (if names_row n seen q then 1 else 0) + (if q == home_row n v.0 then 1 else 0) = (elim (cases_eq q (home_row n v.0)) [
      | inl i ↦
          let on : (home_row n v.0 == q) ≡ true = grind (arith, nat_tests) in
          let no : (q == home_row n v.0) ≡ true = grind (arith, nat_tests) in
          let new : names_row n seen q ≡ false = ap (names_row n seen) i ∙ h in
          rw (rows_append n seen v q, on, no, new) refl
      | inr i ↦
          let on : (home_row n v.0 == q) ≡ false = grind (arith, nat_tests) in
          let no : (q == home_row n v.0) ≡ false = grind (arith, nat_tests) in
          rw (rows_append n seen v q, on, no, or_false (names_row n seen q)) (omega arith)
    ]) in
    omega (arith, rest, one)

counted_old : (n : ℕ) (seen : Entry) (v : ℕ × Block) (ws : Entry) → names_row n seen (home_row n v.0) ≡ true → counted n (seen ++ v ∷ []) ws ≡ counted n seen ws
counted_old n seen v [] h = refl
counted_old n seen v (w ∷ ws) h =
    let q : ℕ = home_row n w.0 in
    let same : names_row n (seen ++ v ∷ []) q ≡ names_row n seen q = (rows_append n seen v q ∙ elim (cases_eq (home_row n v.0) q) [
      | inl i ↦ (let old : names_row n seen q ≡ true = ap (names_row n seen) (sym i) ∙ h in rw old refl)
      | inr i ↦ (let off : (home_row n v.0 == q) ≡ false = grind (arith, nat_tests) in rw off (or_false (names_row n seen q)))
    ]) in
    ap (λ (z : Bool). (if z then 1 else 0) + counted n (seen ++ v ∷ []) ws) same ∙ ap (λ (z : ℕ). (if names_row n seen q then 1 else 0) + z) (counted_old n seen v ws h)

-- one pair more, whose row was named before or not
pub counted_next : (n : ℕ) (p : Pairs) (at : ℕ) → at < p.count → counted n (pairs_before p (at + 1)) (pairs_of p) ≡ counted n (pairs_before p at) (pairs_of p) + count_of_new_row n p at
unfolding count_of_new_row
counted_next n p at l =
    let v : ℕ × Block = (get_or p.blocks at 0, get_or p.bytes at zero_block) in
    let seen : Entry = pairs_before p at in
    ap (λ (z : Entry). counted n z (pairs_of p)) (before_more p at l)
    ∙ elim (cases_Bool (names_row n (pairs_before p at) (home_row n (get_or p.blocks at 0)))) [
      | inl h ↦ (counted_old n seen v (pairs_of p) h ∙ rw h (omega arith))
      | inr h ↦ (counted_new n seen v (pairs_of p) h ∙ rw h refl)
    ]

-- what the rows named so far make of a block
abbrev pub rows_change : ℕ → Entry → Entry → ℕ → Block → Block
rows_change n seen ws c x = if names_row n seen (home_row n c) then last_of c x ws else x

pub change_none : (n : ℕ) (ws : Entry) (c : ℕ) (x : Block) → rows_change n [] ws c x ≡ x
unfolding names_row
change_none n ws c x = refl

change_by : (r q : ℕ) (new here : Bool) (c : ℕ) (x : Block) (ws : Entry) → (q ≡ r → here ≡ new)
    → (if not new && q == r then last_of c (if here then last_of c x ws else x) ws else (if here then last_of c x ws else x)) ≡ (if here || r == q then last_of c x ws else x)
change_by r q true true c x ws same = refl
change_by r q true false c x ws same =
    let off : (r == q) ≡ false = (elim (cases_eq q r) [ inl i ↦ absurd (true≢false (sym (same i))) | inr i ↦ grind (arith, nat_tests) ]) in
    rw off refl
change_by r q false true c x ws same =
    let off : (q == r) ≡ false = (elim (cases_eq q r) [ inl i ↦ absurd (true≢false (same i)) | inr i ↦ grind (arith, nat_tests) ]) in
    rw off refl
change_by r q false false c x ws same = elim (cases_eq q r) [
  | inl i ↦ (let on : (q == r) ≡ true = grind (arith, nat_tests) in let no : (r == q) ≡ true = grind (arith, nat_tests) in rw (on, no) refl)
  | inr i ↦ (let on : (q == r) ≡ false = grind (arith, nat_tests) in let no : (r == q) ≡ false = grind (arith, nat_tests) in rw (on, no) refl)
]

pub change_next : (n : ℕ) (p : Pairs) (at c : ℕ) (x : Block) → at < p.count
    → rows_change n (pairs_before p (at + 1)) (pairs_of p) c x ≡ row_change n p at c (rows_change n (pairs_before p at) (pairs_of p) c x)
unfolding row_change
change_next n p at c x l =
    let r : ℕ = home_row n (get_or p.blocks at 0) in
    let q : ℕ = home_row n c in
    let seen : Entry = pairs_before p at in
    ap (λ (z : Entry). rows_change n z (pairs_of p) c x) (before_more p at l)
    ∙ ap (λ (z : Bool). if z then last_of c x (pairs_of p) else x) (rows_append n seen (get_or p.blocks at 0, get_or p.bytes at zero_block) q)
    ∙ sym (change_by r q (names_row n seen r) (names_row n seen q) c x (pairs_of p) (λ i. ap (names_row n seen) i))

pub change_all : (n : ℕ) (p : Pairs) (c : ℕ) (x : Block) → last_of c x (pairs_of p) ≡ rows_change n (pairs_before p p.count) (pairs_of p) c x
change_all n p c x =
    ap (λ (z : Block). z) (by (names_row n (pairs_of p) (home_row n c)) refl) ∙ ap (λ (z : Entry). rows_change n z (pairs_of p) c x) (sym (before_all p))
  where
    by : (b : Bool) → names_row n (pairs_of p) (home_row n c) ≡ b → last_of c x (pairs_of p) ≡ rows_change n (pairs_of p) (pairs_of p) c x
    by true h = rw h refl
    by false h = rw h (names_none c x (pairs_of p) (unnamed n (pairs_of p) c h))

-- a pair, by its place
pub pair_at : (p : Pairs) (at : ℕ) → at < p.count → get_or (pairs_of p) at (0, zero_block) ≡ (get_or p.blocks at 0, get_or p.bytes at zero_block)
unfolding pairs_of
pair_at p at l = get_or-take p.count (numbered_blocks p.blocks p.bytes) at (0, zero_block) l ∙ get_or-zipped p.blocks p.bytes at 0 zero_block (p.blocks_whole ∙ sym p.bytes_whole)

pub pair_named : (p : Pairs) (at : ℕ) → at < p.count → names_block (pairs_of p) (get_or p.blocks at 0) ≡ true
pair_named p at l =
    let long = length-pairs_of p in
    subst (λ (w : ℕ × Block). names_block (pairs_of p) w.0 ≡ true) (pair_at p at l) (named_at (pairs_of p) at (0, zero_block) (omega (arith, long, l)))

pub pair_counted : (n : ℕ) (p : Pairs) (at : ℕ) → at < p.count → 1 ≤ count_in_row n (pairs_of p) (home_row n (get_or p.blocks at 0))
pair_counted n p at l =
    let long = length-pairs_of p in
    subst (λ (w : ℕ × Block). 1 ≤ count_in_row n (pairs_of p) (home_row n w.0)) (pair_at p at l) (count_some n (pairs_of p) at (0, zero_block) (omega (arith, long, l)))

before_take : (p : Pairs) (k : ℕ) → k ≤ p.count → take k (pairs_of p) ≡ pairs_before p k
unfolding pairs_of pairs_before
before_take p k l = take-take k p.count (numbered_blocks p.blocks p.bytes) l

-- the pairs before one more lie in a row no more often than all
pub count_before : (n : ℕ) (p : Pairs) (at r : ℕ) → at < p.count → count_in_row n (pairs_before p at) r + one_in_row n (get_or p.blocks at 0) r ≤ count_in_row n (pairs_of p) r
count_before n p at r l =
    let more : count_in_row n (pairs_before p (at + 1)) r ≡ count_in_row n (pairs_before p at) r + one_in_row n (get_or p.blocks at 0) r =
    ap (λ (z : Entry). count_in_row n z r) (before_more p at l) ∙ count_append n (pairs_before p at) (get_or p.blocks at 0, get_or p.bytes at zero_block) r in
    let less : count_in_row n (pairs_before p (at + 1)) r ≤ count_in_row n (pairs_of p) r =
    subst (λ (z : Entry). count_in_row n z r ≤ count_in_row n (pairs_of p) r) (before_take p (at + 1) (omega (arith, l))) (count_take n (pairs_of p) (at + 1) r) in
    omega (arith, more, less)

-- before any pair none was found
pub last_none : (bytes : List Block) (b : ℕ) (p : Pairs) → IsLastPair bytes b (pairs_before p 0) None
unfolding names_block pairs_before
last_none bytes b p = refl

pub rows_none : (n : ℕ) (p : Pairs) (r : ℕ) → names_row n (pairs_before p 0) r ≡ false
unfolding names_row pairs_before
rows_none n p r = refl

pub rows_next : (n : ℕ) (p : Pairs) (at r q : ℕ) (found : Bool) → at < p.count → q ≡ home_row n (get_or p.blocks at 0) → names_row n (pairs_before p at) r ≡ found
    → names_row n (pairs_before p (at + 1)) r ≡ (found || q == r)
rows_next n p at r q found l is was =
    ap (λ (z : Entry). names_row n z r) (before_more p at l) ∙ rows_append n (pairs_before p at) (get_or p.blocks at 0, get_or p.bytes at zero_block) r
    ∙ ap (λ (z : Bool). z || home_row n (get_or p.blocks at 0) == r) was ∙ ap (λ (z : ℕ). found || z == r) (sym is)

pub count_none : (n : ℕ) (p : Pairs) (r : ℕ) → count_in_row n (pairs_before p 0) r ≡ 0
unfolding count_in_row pairs_before
count_none n p r = refl

pub count_more : (n : ℕ) (p : Pairs) (at r : ℕ) → at < p.count → count_in_row n (pairs_before p (at + 1)) r ≡ count_in_row n (pairs_before p at) r + one_in_row n (get_or p.blocks at 0) r
count_more n p at r l =
    ap (λ (z : Entry). count_in_row n z r) (before_more p at l) ∙ count_append n (pairs_before p at) (get_or p.blocks at 0, get_or p.bytes at zero_block) r

pub one_here_is : (n b r q : ℕ) → q ≡ home_row n b → q ≡ r → one_in_row n b r ≡ 1
unfolding one_in_row
one_here_is n b r q is here = let on : (home_row n b == r) ≡ true = grind (arith, nat_tests) in rw on refl

pub one_away_is : (n b r q : ℕ) → q ≡ home_row n b → q ≢ r → one_in_row n b r ≡ 0
unfolding one_in_row
one_away_is n b r q is away = let off : (home_row n b == r) ≡ false = grind (arith, nat_tests) in rw off refl

-- a row that a pair before named is written already
pub new_row_none : (n : ℕ) (p : Pairs) (at : ℕ) → names_row n (pairs_before p at) (home_row n (get_or p.blocks at 0)) ≡ true → count_of_new_row n p at ≡ 0
unfolding count_of_new_row
new_row_none n p at h = rw h refl

pub new_row_some : (n : ℕ) (p : Pairs) (at : ℕ) → names_row n (pairs_before p at) (home_row n (get_or p.blocks at 0)) ≡ false
    → count_of_new_row n p at ≡ count_in_row n (pairs_of p) (home_row n (get_or p.blocks at 0))
unfolding count_of_new_row
new_row_some n p at h = rw h refl

pub old_row_change : (n : ℕ) (p : Pairs) (at : ℕ) → names_row n (pairs_before p at) (home_row n (get_or p.blocks at 0)) ≡ true → (c : ℕ) (x : Block) → row_change n p at c x ≡ x
unfolding row_change
old_row_change n p at h c x = rw h refl

pub new_row_change : (n : ℕ) (p : Pairs) (at : ℕ) → names_row n (pairs_before p at) (home_row n (get_or p.blocks at 0)) ≡ false → (c : ℕ) (x : Block)
    → row_change n p at c x ≡ (if home_row n c == home_row n (get_or p.blocks at 0) then last_of c x (pairs_of p) else x)
unfolding row_change
new_row_change n p at h c x = rw h refl

-- the last pairs that give a row's cells new bytes

given_last : (bytes : List Block) (n : ℕ) (ws : Entry) (r d : ℕ) (found : Option ℕ) → d ≢ parity_disk n r → IsGivenBy bytes n ws r d found → IsLastPair bytes (cell_block n r d) ws found
given_last bytes n ws r d None apart was = sym (given_data n ws r d apart) ∙ was
given_last bytes n ws r d (Some at) apart was = (was.0, sym (given_data n ws r d apart) ∙ was.1, was.2)

parity_given : (bytes : List Block) (n : ℕ) (ws more : Entry) (r d : ℕ) (found : Option ℕ) → d ≡ parity_disk n r → IsGivenBy bytes n ws r d found → IsGivenBy bytes n more r d found
parity_given bytes n ws more r d None is was = given_parity n more r d is
parity_given bytes n ws more r d (Some at) is was = absurd (true≢false (sym was.1 ∙ given_parity n ws r d is))

given_other : (bytes : List Block) (n : ℕ) (ws : Entry) (r d c : ℕ) (y : Block) (found : Option ℕ) → (d ≢ parity_disk n r → c ≢ cell_block n r d) → IsGivenBy bytes n ws r d found
    → IsGivenBy bytes n (ws ++ (c, y) ∷ []) r d found
given_other bytes n ws r d c y found off was = elim (cases_eq d (parity_disk n r)) [
  | inl is ↦ parity_given bytes n ws (ws ++ (c, y) ∷ []) r d found is was
  | inr apart ↦ given_by bytes n (ws ++ (c, y) ∷ []) r d (cell_block n r d) found apart refl (later_other bytes (cell_block n r d) ws c y found (off apart) (given_last bytes n ws r d found apart was))
]

pub gives_none : (p : Pairs) (n r : ℕ) (given : List (Option ℕ)) → ((d : ℕ) → d < n → get_or given d None ≡ None) → AreGivenBy p.bytes n (pairs_before p 0) r given
gives_none p n r given none d ld =
    subst (λ (z : Option ℕ). IsGivenBy p.bytes n (pairs_before p 0) r d z) (sym (none d ld)) (elim (cases_eq d (parity_disk n r)) [
      | inl is ↦ given_parity n (pairs_before p 0) r d is
      | inr apart ↦ given_data n (pairs_before p 0) r d apart ∙ last_none p.bytes (cell_block n r d) p
    ])

-- one pair more, whose block lies in another row
pub gives_away : (p : Pairs) (n at r q : ℕ) (given : List (Option ℕ)) → 2 ≤ n → at < p.count → q ≡ home_row n (get_or p.blocks at 0) → q ≢ r
    → AreGivenBy p.bytes n (pairs_before p at) r given → AreGivenBy p.bytes n (pairs_before p (at + 1)) r given
gives_away p n at r q given two l home away was d ld =
    subst (λ (z : Entry). IsGivenBy p.bytes n z r d (get_or given d None)) (sym (before_more p at l))
    (given_other p.bytes n (pairs_before p at) r d (get_or p.blocks at 0) (get_or p.bytes at zero_block) (get_or given d None)
    (λ apart is. away (home ∙ ap (home_row n) is ∙ home_row-block_of n r d two ld apart)) (was d ld))

-- one pair more, whose block lies in this row
pub gives_here : (p : Pairs) (n at r e : ℕ) (given given_then : List (Option ℕ)) → 2 ≤ n → at < p.count → e < n → e ≢ parity_disk n r → cell_block n r e ≡ get_or p.blocks at 0
    → get_or given_then e None ≡ Some at → ((x : ℕ) → x ≢ e → get_or given_then x None ≡ get_or given x None)
    → AreGivenBy p.bytes n (pairs_before p at) r given → AreGivenBy p.bytes n (pairs_before p (at + 1)) r given_then
gives_here p n at r e given given_then two l le apart is here others was d ld =
    let b : ℕ = get_or p.blocks at 0 in
    let y : Block = get_or p.bytes at zero_block in
    let few = p.few in
    subst (λ (z : Entry). IsGivenBy p.bytes n z r d (get_or given_then d None)) (sym (before_more p at l)) (elim (cases_eq d e) [
      | inl same ↦
          subst (λ (z : Option ℕ). IsGivenBy p.bytes n (pairs_before p at ++ (b, y) ∷ []) r d z) (sym (ap (λ (z : ℕ). get_or given_then z None) same ∙ here))
          (given_by p.bytes n (pairs_before p at ++ (b, y) ∷ []) r d b (Some at) (λ i. apart (sym same ∙ i)) (sym is ∙ ap (cell_block n r) (sym same))
          (later_named p.bytes b (pairs_before p at) at b y (omega (arith, few, l)) refl refl))
      | inr off ↦
          subst (λ (z : Option ℕ). IsGivenBy p.bytes n (pairs_before p at ++ (b, y) ∷ []) r d z) (sym (others d off))
          (given_other p.bytes n (pairs_before p at) r d b y (get_or given d None)
          (λ apart_d i. off (sym (home_disk-block_of n r d two ld apart_d) ∙ ap (home_disk n) (sym i ∙ sym is) ∙ home_disk-block_of n r e two le apart)) (was d ld))
    ])

-- what is known of one cell of them

few_by : (bytes : List Block) (n : ℕ) (ws : Entry) (r d at : ℕ) (found : Option ℕ) → found ≡ Some at → IsGivenBy bytes n ws r d found → at < 8
few_by bytes n ws r d at found is was = (subst (λ (z : Option ℕ). IsGivenBy bytes n ws r d z) is was).0

pub gives_few : (bytes : List Block) (n : ℕ) (ws : Entry) (r d at : ℕ) (given : List (Option ℕ)) → d < n → AreGivenBy bytes n ws r given → get_or given d None ≡ Some at → at < 8
gives_few bytes n ws r d at given ld was is = few_by bytes n ws r d at (get_or given d None) is (was d ld)

pub gives_this : (bytes : List Block) (n : ℕ) (ws : Entry) (r d at : ℕ) (given : List (Option ℕ)) → d < n → AreGivenBy bytes n ws r given → get_or given d None ≡ Some at
    → IsGivenBy bytes n ws r d (Some at)
gives_this bytes n ws r d at given ld was is = subst (λ (z : Option ℕ). IsGivenBy bytes n ws r d z) is (was d ld)

not_by : (bytes : List Block) (n : ℕ) (ws : Entry) (r d : ℕ) (found : Option ℕ) → ((at : ℕ) → found ≡ Some at → ⊥) → IsGivenBy bytes n ws r d found → is_given n ws r d ≡ false
not_by bytes n ws r d None none was = was
not_by bytes n ws r d (Some at) none was = absurd (none at refl)

pub gives_not : (bytes : List Block) (n : ℕ) (ws : Entry) (r d : ℕ) (given : List (Option ℕ)) → d < n → AreGivenBy bytes n ws r given → ((at : ℕ) → get_or given d None ≡ Some at → ⊥)
    → is_given n ws r d ≡ false
gives_not bytes n ws r d given ld was none = not_by bytes n ws r d (get_or given d None) none (was d ld)
